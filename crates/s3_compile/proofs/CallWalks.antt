-- The calls of calculation lines, found by a walk over the lines.
use Rattle.std.proofs.Common.{◌≡◌, ℕ, suc, ◌+◌, ◌<◌, ◌++◌, length, drop, get_or, List, [], ◌∷◌, refl, sym, ◌∙◌, ap, arith, drop-cons, append_assoc, subst}
use Rattle.std.specs.Prelude.{Option, Some, None}
use Rattle.s3_lines.specs.declared.sheet.CalculationLine.{CalculationLine}
use Rattle.s3_program.specs.declared.call.Call.{Call}
use Rattle.s3_program.specs.declared.program.Meaning.{Meaning}
use Rattle.s3_program.specs.declared.standing.CalculationStanding.{CalculationStanding}
use Rattle.s3_program.specs.Jumps.{calls_from, with_call, caller_of, callee_of}
use Rattle.s3_program.specs.Standings.{behind_calculation}
use Rattle.s3_diagnose.specs.Inner.Early.{IsWithin}
use Rattle.s3_diagnose.proofs.Walks.{calculation_within}

first_call : (caller callee : Option ℕ) (calls : List Call) → with_call caller callee [] ++ calls ≡ with_call caller callee calls
first_call caller None calls = refl
first_call caller (Some callee) calls = refl

-- one more line
pub calls_next : (old new : List Call) (at next : CalculationStanding) (lines : List (CalculationLine Meaning)) (i : ℕ) (d : CalculationLine Meaning) (all : List Call) → i < length lines
    → next ≡ behind_calculation at (get_or lines i d) → new ≡ old ++ with_call (caller_of at (get_or lines i d)) (callee_of (get_or lines i d)) []
    → old ++ calls_from at (drop i lines) ≡ all → new ++ calls_from next (drop (i + 1) lines) ≡ all
calls_next old new at next lines i d all within is more so_far =
    let here : CalculationLine Meaning = get_or lines i d in
    let rest : List (CalculationLine Meaning) = drop (i + 1) lines in
    let call : List Call = with_call (caller_of at here) (callee_of here) [] in
    let further : suc i ≡ i + 1 = omega arith in
    let split : drop i lines ≡ here ∷ rest = drop-cons lines i d within ∙ ap (λ n. here ∷ drop n lines) further in
    let parted : call ++ calls_from next rest ≡ calls_from at (drop i lines) =
    ap (λ (s : CalculationStanding). call ++ calls_from s rest) is
    ∙ (first_call (caller_of at here) (callee_of here) (calls_from (behind_calculation at here) rest) ∙ ap (calls_from at) (sym split)) in
    ap (λ calls. calls ++ calls_from next rest) more ∙ (append_assoc old call (calls_from next rest) ∙ (ap (λ calls. old ++ calls) parted ∙ so_far))

-- no place exceeds the number of lines
pub next_line_within : (at next : CalculationStanding) (lines : List (CalculationLine Meaning)) (i : ℕ) (d : CalculationLine Meaning) → next ≡ behind_calculation at (get_or lines i d)
    → IsWithin i at → IsWithin (i + 1) next
next_line_within at next lines i d is h = subst (IsWithin (i + 1)) (sym is) (calculation_within i at (get_or lines i d) h)
