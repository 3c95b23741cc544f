use Rattle.std.proofs.Common.{◌∙◌, ◌&&◌, ◌+◌, drop, sym, ap, Bool}
use Rattle.s3_match.specs.Inner.Types.{further_hold}
use Rattle.s3_match.proofs.CodeLemmas.{further_at, no_more_codes}
use Rattle.s3_match.proofs.types.and_lines_hold.Goals as goal

pub returns-in_default : goal.returns-in_default
returns-in_default c =
    sym (further_at c.args.bytes.now c.args.inputs.now _ _ _ _ _ c.loop-place-test.true c.loop-place.invariant c.further_codes_hold.ensures c.in_default.is)

pub returns-then-not-holds : goal.returns-then-not-holds
returns-then-not-holds c =
    sym (further_at c.args.bytes.now c.args.inputs.now _ _ _ _ _ c.loop-place-test.true c.loop-place.invariant c.further_codes_hold.ensures c.in-Some.is
    ∙ ap (λ (b : Bool). b && further_hold c.args.bytes.now (drop (c.loop-place.place + 1) c.args.inputs.now)) c.if-not-holds.true)

pub loop-place-preserved : goal.loop-place-preserved
loop-place-preserved c =
    further_at c.args.bytes.now c.args.inputs.now _ _ _ _ _ c.loop-place-test.true c.loop-place.invariant c.further_codes_hold.ensures c.in-Some.is
    ∙ ap (λ (b : Bool). b && further_hold c.args.bytes.now (drop (c.loop-place.place + 1) c.args.inputs.now)) c.if-not-holds.false

pub returns : goal.returns
returns c = sym (no_more_codes c.args.bytes.now c.args.inputs.now _ _ c.loop-place-test.false c.loop-place.invariant)
