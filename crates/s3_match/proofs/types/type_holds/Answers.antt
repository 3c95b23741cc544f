use Rattle.std.proofs.Common.{◌∙◌, ◌&&◌, ◌+◌, drop, sym, ap, Bool}
use Rattle.s3_match.specs.Inner.Types.{further_hold}
use Rattle.s3_match.proofs.CodeLemmas.{type_past, type_here}
use Rattle.s3_match.proofs.types.type_holds.Goals as goal

pub returns-then-place-inputs : goal.returns-then-place-inputs
returns-then-place-inputs c = type_past c.args.bytes.now c.args.inputs.now _ c.if-place-inputs.true

pub returns-then-first_codes_hold : goal.returns-then-first_codes_hold
returns-then-first_codes_hold c =
    c.further_hold.ensures
    ∙ ap (λ (b : Bool). b && further_hold c.args.bytes.now (drop (c.args.place + 1) c.args.inputs.now)) (sym c.if-first_codes_hold.true)
    ∙ type_here c.args.bytes.now c.args.inputs.now _ _ _ c.if-place-inputs.false c.first_codes_hold.ensures

pub returns-else-first_codes_hold : goal.returns-else-first_codes_hold
returns-else-first_codes_hold c =
    c.if-first_codes_hold.false
    ∙ ap (λ (b : Bool). b && further_hold c.args.bytes.now (drop (c.args.place + 1) c.args.inputs.now)) (sym c.if-first_codes_hold.false)
    ∙ type_here c.args.bytes.now c.args.inputs.now _ _ _ c.if-place-inputs.false c.first_codes_hold.ensures
