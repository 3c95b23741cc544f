use Rattle.std.proofs.Common.{ℕ, refl, arith}
use Rattle.std.specs.Prelude.{filter_map}
use Rattle.s3_meaning.specs.Source.{input_line}
use Rattle.s3_layout.proofs.KindLemmas.{picked_next}
use Rattle.s3_layout.proofs.WalkLemmas.{walk_ended}
use Rattle.s3_layout.proofs.kinds.input_lines.Goals as goal

pub loop-line-preserved : goal.loop-line-preserved
loop-line-preserved c =
    picked_next input_line (filter_map input_line c.args.lines.now) c.loop-line.inputs.items c.push_input.new.inputs.items c.args.lines.now c.loop-line.line-index _ c.loop-line-test.true c.in_ok-push_input.ensures c.loop-line.invariant

pub returns : goal.returns
returns c =
    walk_ended {A = ℕ} (λ _. filter_map input_line) (λ at. refl) (filter_map input_line c.args.lines.now) c.loop-line.inputs.items 0 c.args.lines.now c.loop-line.line-index
    (omega (arith, c.loop-line-test.false, c.loop-line.auto.line-index-end)) c.loop-line.invariant
