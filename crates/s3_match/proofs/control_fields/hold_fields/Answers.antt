use Rattle.std.proofs.Common.{arith}
use Rattle.s3_match.proofs.HoldingLemmas.{all_held, held_at_first, held_more}
use Rattle.s3_match.proofs.control_fields.hold_fields.Goals as goal

pub loop-step-init : goal.loop-step-init
loop-step-init c = held_at_first c.args.fields.now.fields c.args.bytes.now c.args.held.now

pub loop-step-preserved : goal.loop-step-preserved
loop-step-preserved c =
    held_more c.args.fields.now.fields c.args.bytes.now c.loop-step.step c.args.held.now c.loop-step.held c.hold_level-breaks.new.held c.loop-step.broken c.greatest-broken.result c.hold_level-breaks.result c.loop-step-test.true
    c.hold_level-breaks.ensures.held c.hold_level-breaks.ensures.breaks c.greatest-broken.ensures c.loop-step.invariant

pub returns : goal.returns
returns c = all_held c.args.fields.now.fields c.args.bytes.now c.loop-step.step c.args.held.now c.loop-step.held c.loop-step.broken (omega arith) c.loop-step.invariant
