-- The CHAIN at which a job halts, and the key or record number that it seeks.
use Rattle.std.proofs.Common.{◌≡◌, ℕ, ◌<◌, List, true, false, arith, inl, inr, length, refl, ap, sym, subst, ◌∙◌, true≢false}
use Rattle.std.specs.Prelude.{Option, Some, None, is_some, option_map, slice_get, unwrap_or}
use Rattle.std.specs.Option.{option_and_then}
use Rattle.std.proofs.lemmas.Option.{slice_get_cases, slice_get_within}
use Rattle.s3_lines.specs.declared.sheet.CalculationLine.{CalculationLine}
use Rattle.s3_lines.specs.declared.sheet.FileLine.{FileLine}
use Rattle.s3_lines.specs.declared.sheet.Operation.{Operation}
use Rattle.s3_lines.specs.declared.sheet.Operation.TheVariants as op
use Rattle.s3_meaning.specs.Calculating.{sought_in}
use Rattle.s3_meaning.specs.Requests as Meant
use Rattle.s3_program.specs.declared.program.Program.{Program}
use Rattle.s3_program.specs.declared.program.Reference.{Reference}
use Rattle.s3_operations.specs.Inner.Chaining.{file_sought}
use Rattle.s3_operations.specs.Inner.Fits.{IsLineOf, named_line}
use Rattle.s3_instructions.specs.declared.calculation.chained.Chained.{Chained}
use Rattle.s3_instructions.specs.declared.calculation.instruction.CalculationInstruction.{CalculationInstruction}
use Rattle.s3_instructions.specs.declared.calculation.work.Asked.{Asked}
use Rattle.s3_instructions.specs.declared.calculation.work.Asked.TheVariants as asked
use Rattle.s3_instructions.specs.declared.calculation.work.Work.{Work}
use Rattle.s3_instructions.specs.Inner.Calculations.{AreCalculations, IsDoing, IsInstruction}
use Rattle.s3_instructions.specs.Inner.Chains.{IsChained}
use Rattle.s3_instructions.specs.Inner.Works.{asks}
use Rattle.s3_instructions.proofs.ChainLemmas.{file_is_sought}
use Rattle.s3_match.specs.Inner.Heads.{file_at, no_file}
use Rattle.s3_cycle.specs.declared.request.Sought.{Sought}
use Rattle.s3_cycle.specs.declared.stepper.Stepper.{Stepper}
use Rattle.s3_cycle.specs.Inner.Chaining.{ChainsAt, Seeks}
use Rattle.s3_cycle.specs.Inner.Going.{own, held_by}
use Rattle.s3_cycle.specs.Inner.Requests.{sought_of}
use Rattle.s3_cycle.specs.Inner.Standing.{FindsChain, IsChainAt, chain_at, chained_in, is_chain, slot_named, sought_by}

-- ---- the line at a place
is_chain_at : (p : Program) (place : ℕ) (line : CalculationLine Reference) → slice_get p.calculations.items place ≡ Some line → is_chain line.operation ≡ true → chain_at p place ≡ Some line
is_chain_at p place line there is = rw there (rw is refl)

no_chain_at : (p : Program) (place : ℕ) (line : CalculationLine Reference) → slice_get p.calculations.items place ≡ Some line → is_chain line.operation ≡ false → chain_at p place ≡ None
no_chain_at p place line there is = rw there (rw is refl)

quiet_no_chain : (o : Operation) → asks o ≡ false → is_chain (Some o) ≡ false
quiet_no_chain op.Chain quiet = absurd (true≢false quiet)
quiet_no_chain _ quiet = refl

found_in : (p : Program) (place : ℕ) (line : CalculationLine Reference) (o : Option Operation) (work : Work) (request : Asked) → slice_get p.calculations.items place ≡ Some line → line.operation ≡ o → IsDoing p line o work request
    → FindsChain p place (chained_in request)
found_in p place line None work request there bears does =
    subst (λ (a : Asked). FindsChain p place (chained_in a)) (sym does.1) (no_chain_at p place line there (ap is_chain bears))
found_in p place line (Some o) work (asked.Chain chain) there bears does = record {
  line = line;
  there = is_chain_at p place line there (ap is_chain bears ∙ ap (λ (x : Operation). is_chain (Some x)) does.1.0);
  of_program = record { place = place; there = there; bears = bears ∙ ap (λ (x : Operation). Some x) does.1.0 };
  is = does.1.1;
}
found_in p place line (Some o) work (asked.GoTo tag) there bears does = no_chain_at p place line there (ap is_chain bears ∙ ap (λ (x : Operation). is_chain (Some x)) does.1.0)
found_in p place line (Some o) work (asked.ExecuteSubroutine begsr) there bears does = no_chain_at p place line there (ap is_chain bears ∙ ap (λ (x : Operation). is_chain (Some x)) does.1.0)
found_in p place line (Some o) work asked.Except there bears does = no_chain_at p place line there (ap is_chain bears ∙ ap (λ (x : Operation). is_chain (Some x)) does.1)
found_in p place line (Some o) work asked.Halt there bears does = no_chain_at p place line there (ap is_chain bears ∙ quiet_no_chain o does.1)

pub chain_found : (p : Program) (cards : List CalculationInstruction) (place : ℕ) (card : CalculationInstruction) (o : Option Chained) → AreCalculations p cards → slice_get cards place ≡ Some card → o ≡ chained_in card.asked → FindsChain p place o
chain_found p cards place card o are there is =
    let own : IsInstruction p place card = are.decoded.each place card there in
    subst (λ (x : Option Chained). FindsChain p place x) (sym is) (found_in p place own.card own.card.operation card.work card.asked own.there refl own.does)

pub none_found : (p : Program) (cards : List CalculationInstruction) (place : ℕ) → AreCalculations p cards → slice_get cards place ≡ None → chain_at p place ≡ None
none_found p cards place are none = step (slice_get p.calculations.items place) refl
  where
    past : (xs : List CalculationInstruction) (k : ℕ) → k < length xs → slice_get xs k ≡ None → ⊥
    past xs k within nothing = elim (slice_get_cases xs k).1 [ inl found ↦ true≢false (ap is_some (sym found.2 ∙ nothing)) | inr over ↦ absurd (omega (arith, within, over.0)) ]

    step : (o : Option (CalculationLine Reference)) → slice_get p.calculations.items place ≡ o → chain_at p place ≡ None
    step None there = rw there refl
    step (Some line) there = absurd (past cards place (omega (arith, are.decoded.all, slice_get_within p.calculations.items place line there)) none)

-- ---- what the CHAIN seeks
pub chains : (c : Stepper) (place : ℕ) (chain : Chained) → IsChainAt c.program place chain → ChainsAt c chain
chains c place chain is = record { line = is.line; of_program = is.of_program; is = is.is }

pub seeks_there : (c : Stepper) (place : ℕ) (chain : Chained) (sought : Sought) → IsChainAt c.program place chain
    → ((line : CalculationLine Reference) → IsLineOf c.program line op.Chain → IsChained c.program line chain → Seeks c line chain.file sought)
    → Some (sought_of sought) ≡ option_and_then (sought_by c) (chain_at c.program place)
unfolding sought_by
seeks_there c place chain sought is seeks =
    let s : Seeks c is.line chain.file sought = seeks is.line is.of_program is.is in
    let file : file_at c.program chain.file ≡ is.is.file = ap (λ (o : Option FileLine). unwrap_or o no_file) is.is.there in
    let found : file_sought c.program is.line ≡ Some (file_at c.program chain.file) = (file_is_sought c.program is.line chain.file is.of_program is.is.names).file ∙ (is.is.there ∙ ap (λ (f : FileLine). Some f) (sym file)) in
    ap (λ (x : Meant.Sought). Some x) s.value
    ∙ (sym (ap (λ (of : Option FileLine). option_map (sought_in (own c) (held_by c) (named_line c.program is.line)) of) found)
    ∙ sym (ap (option_and_then (sought_by c)) is.there))

-- ---- the file of the CHAIN
pub file_there : (p : Program) (place : ℕ) (chain : Chained) → IsChainAt p place chain → Some chain.file ≡ option_and_then (λ (line : CalculationLine Reference). slot_named line.factor2) (chain_at p place)
file_there p place chain is = sym (ap (option_and_then (λ (line : CalculationLine Reference). slot_named line.factor2)) is.there ∙ ap slot_named is.is.names)
