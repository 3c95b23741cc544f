use Rattle.std.proofs.Common.{◌≡◌, ◌<◌, List, ap, arith, length, refl, sym, ◌∙◌}
use Rattle.std.specs.Prelude.{Some, slice_get}
use Rattle.std.proofs.lemmas.Bool.Decides.{nat_tests}
use Rattle.std.proofs.lemmas.Option.{slice_get_past, slice_get_read}
use Rattle.s3_instructions.specs.declared.calculation.instruction.CalculationInstruction.{CalculationInstruction}
use Rattle.s3_cycle.proofs.StandingLemmas.{chain_found, none_found}
use Rattle.s3_cycle.proofs.stepper.Stepper.chain_at.Goals as goal

pub returns-in-Some : goal.returns-in-Some
returns-in-Some c =
    let cards = c.args.self.now.calculations.items in
    let card = c.in-Some.card.now in
    let within : c.args.place < length c.deref.result.now = grind (arith, nat_tests, c.in-Some.ensures.lookup.0) in
    let there : slice_get cards c.args.place ≡ Some card =
    ap (λ (all : List CalculationInstruction). slice_get all c.args.place) (sym c.deref.ensures.value)
    ∙ slice_get_read c.deref.result.now (length c.deref.result.now) c.args.place card refl within c.in-Some.ensures.lookup.1 in
    chain_found c.args.self.now.program cards c.args.place card _ c.requires.calculations there c.chained.ensures

pub returns-in-None : goal.returns-in-None
returns-in-None c =
    let cards = c.args.self.now.calculations.items in
    none_found c.args.self.now.program cards c.args.place c.requires.calculations
    (ap (λ (all : List CalculationInstruction). slice_get all c.args.place) (sym c.deref.ensures.value) ∙ slice_get_past c.deref.result.now c.args.place c.in-None.ensures.lookup.3)
