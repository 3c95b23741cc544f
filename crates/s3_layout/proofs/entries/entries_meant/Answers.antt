use Rattle.std.proofs.Common.{refl, arith}
use Rattle.s3_layout.specs.Inner.Entries.{behind, entries_from, first, taken}
use Rattle.s3_layout.proofs.WalkLemmas.{walk_next, walk_ended}
use Rattle.s3_layout.proofs.entries.entries_meant.Goals as goal

pub loop-line-preserved : goal.loop-line-preserved
loop-line-preserved c =
    walk_next (taken c.args.record_type) (behind c.args.file c.args.record_type) (entries_from c.args.file c.args.record_type) (λ at line lines. refl)
    (entries_from c.args.file c.args.record_type first c.args.lines.now) c.loop-line.entries.items c.push_taken.new.entries.items c.loop-line.place c.behind-place.result c.args.lines.now
    c.loop-line.line-index _ c.loop-line-test.true c.behind-place.ensures c.in_ok-push_taken.ensures c.loop-line.invariant

pub returns : goal.returns
returns c =
    walk_ended (entries_from c.args.file c.args.record_type) (λ at. refl) (entries_from c.args.file c.args.record_type first c.args.lines.now) c.loop-line.entries.items c.loop-line.place
    c.args.lines.now c.loop-line.line-index (omega (arith, c.loop-line-test.false, c.loop-line.auto.line-index-end)) c.loop-line.invariant
