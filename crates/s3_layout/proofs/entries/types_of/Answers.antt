use Rattle.std.proofs.Common.{refl, arith}
use Rattle.std.specs.Prelude.{None}
use Rattle.s3_layout.specs.Inner.Entries.{begun, behind, first, types_from}
use Rattle.s3_layout.proofs.WalkLemmas.{walk_next, walk_ended}
use Rattle.s3_layout.proofs.entries.types_of.Goals as goal

pub loop-line-preserved : goal.loop-line-preserved
loop-line-preserved c =
    walk_next begun (behind c.args.file None) (types_from c.args.file) (λ at line lines. refl) (types_from c.args.file first c.args.lines.now)
    c.loop-line.types.items c.push_begun.new.types.items c.loop-line.place c.behind-place.result c.args.lines.now c.loop-line.line-index _ c.loop-line-test.true c.behind-place.ensures
    c.in_ok-push_begun.ensures c.loop-line.invariant

pub returns : goal.returns
returns c =
    walk_ended (types_from c.args.file) (λ at. refl) (types_from c.args.file first c.args.lines.now) c.loop-line.types.items c.loop-line.place c.args.lines.now
    c.loop-line.line-index (omega (arith, c.loop-line-test.false, c.loop-line.auto.line-index-end)) c.loop-line.invariant
