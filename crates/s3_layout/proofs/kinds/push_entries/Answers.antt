use Rattle.std.proofs.Common.{ℕ, ◌++◌, refl, arith}
use Rattle.s3_meaning.specs.Names.{entries}
use Rattle.s3_layout.proofs.KindLemmas.{picked_next}
use Rattle.s3_layout.proofs.WalkLemmas.{walk_ended}
use Rattle.s3_layout.proofs.kinds.push_entries.Goals as goal

pub loop-code-preserved : goal.loop-code-preserved
loop-code-preserved c =
    picked_next (λ x. x) (c.args.codes.now.items ++ entries c.args.line.now) c.loop-code.codes.items c.push_entry.new.codes.items c.args.line.now c.loop-code.code-index _ c.loop-code-test.true c.in_ok-push_entry.ensures c.loop-code.invariant

pub returns : goal.returns
returns c =
    walk_ended {A = ℕ} (λ _. entries) (λ at. refl) (c.args.codes.now.items ++ entries c.args.line.now) c.loop-code.codes.items 0 c.args.line.now c.loop-code.code-index
    (omega (arith, c.loop-code-test.false, c.loop-code.auto.code-index-end)) c.loop-code.invariant
