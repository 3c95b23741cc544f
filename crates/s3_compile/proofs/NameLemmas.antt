-- Tables of first definitions, filled by a walk over lines.
use Rattle.std.proofs.Common.{◌≡◌, ℕ, suc, ◌+◌, ◌<◌, ◌≤◌, ◌++◌, length, drop, get_or, List, [], ◌∷◌, refl, sym, ◌∙◌, ap, arith, drop-cons, subst}
use Rattle.std.specs.Prelude.{Option, Some, None, filter_map}
use Rattle.std.specs.List.{cons_option}
use Rattle.std.specs.Option.{option_to_list}
use Rattle.s3_cards.specs.declared.name.Name.{Name}
use Rattle.s3_lines.specs.declared.sheet.CalculationLine.{CalculationLine}
use Rattle.s3_lines.specs.declared.sheet.FileLine.{FileLine}
use Rattle.s3_lines.specs.declared.sheet.InputLine.{InputLine}
use Rattle.s3_lines.specs.declared.sheet.Shape.{Shape}
use Rattle.s3_lines.specs.declared.sheet.Line.{Line}
use Rattle.s3_program.specs.Conditions.{file_places}
use Rattle.s3_meaning.specs.Source.{file_line, input_line, calculation_line}
use Rattle.s3_program.specs.declared.standing.CalculationStanding.{CalculationStanding}
use Rattle.s3_program.specs.Inner.Given.{all_noted, firsts}
use Rattle.s3_program.specs.Standings.{behind_calculation}
use Rattle.s3_program.proofs.GivenLemmas.{noted_behind}
use Rattle.s3_diagnose.specs.Inner.Early.{IsWithin}
use Rattle.s3_diagnose.specs.Lookups.{input_given, result_given, tag_given, subroutine_given, with_entry, tags_from, subroutines_from}
use Rattle.s3_compile.specs.Inner.Noted.{fields_of, field_on, results_of, result_on, places_of, place_on, place_after, place_behind, tags_of, tag_on, subroutines_of, subroutine_on, behind_given, calculation_behind}
use Rattle.s3_diagnose.proofs.Walks.{calculation_within, calculations_more}

-- three lists noted one after another
pub noted_in_turn : {X : Type 0} (none one two three xs ys zs : List (Name × X)) → none ≡ [] → one ≡ all_noted none xs → two ≡ all_noted one ys → three ≡ all_noted two zs
    → three ≡ firsts (xs ++ (ys ++ zs))
noted_in_turn {X} none one two three xs ys zs empty first second third =
    third
    ∙ (ap (λ (table : List (Name × X)). all_noted table zs) second
    ∙ (sym (noted_behind one ys zs)
    ∙ (ap (λ (table : List (Name × X)). all_noted table (ys ++ zs)) (first ∙ ap (λ (table : List (Name × X)). all_noted table xs) empty) ∙ sym (noted_behind [] xs (ys ++ zs)))))

-- one more line of a walk, which gives the entries of its first line, then those of the others
pub noted_next : {X A L : Type 0} (on : A → L → List (Name × X)) (behind : A → L → A) (walk : A → List L → List (Name × X))
    → ((at : A) (line : L) (lines : List L) → walk at (line ∷ lines) ≡ on at line ++ walk (behind at line) lines)
    → (old new : List (Name × X)) (at next : A) (lines : List L) (i : ℕ) (d : L) (all : List (Name × X)) → i < length lines → next ≡ behind at (get_or lines i d)
    → new ≡ all_noted old (on at (get_or lines i d)) → all_noted old (walk at (drop i lines)) ≡ all → all_noted new (walk next (drop (i + 1) lines)) ≡ all
noted_next on behind walk step old new at next lines i d all within is more so_far =
    let here = get_or lines i d in
    let rest = drop (i + 1) lines in
    let further : suc i ≡ i + 1 = omega arith in
    let split : drop i lines ≡ here ∷ rest = drop-cons lines i d within ∙ ap (λ n. here ∷ drop n lines) further in
    let parted : walk at (drop i lines) ≡ on at here ++ walk next rest =
    ap (walk at) split ∙ (step at here rest ∙ ap (λ a. on at here ++ walk a rest) (sym is)) in
    ap (λ table. all_noted table (walk next rest)) more ∙ (sym (noted_behind old (on at here) (walk next rest)) ∙ (ap (all_noted old) (sym parted) ∙ so_far))

with_given : {X : Type 0} (o : Option X) (xs : List X) → with_entry o xs ≡ option_to_list o ++ xs
with_given None xs = refl
with_given (Some x) xs = refl

pub tags_step : (at : CalculationStanding) (line : Line) (lines : List Line)
    → tags_from at (filter_map calculation_line (line ∷ lines)) ≡ tag_on at line ++ tags_from (calculation_behind at line) (filter_map calculation_line lines)
tags_step at line lines = step (calculation_line line) (filter_map calculation_line lines)
  where
    step : (o : Option (CalculationLine Name)) (rest : List (CalculationLine Name)) → tags_from at (cons_option o rest) ≡ tags_of at o ++ tags_from (behind_given at o) rest
    step None rest = refl
    step (Some c) rest = with_given (tag_given at c) (tags_from (behind_calculation at c) rest)

pub subroutines_step : (at : CalculationStanding) (line : Line) (lines : List Line)
    → subroutines_from at (filter_map calculation_line (line ∷ lines)) ≡ subroutine_on at line ++ subroutines_from (calculation_behind at line) (filter_map calculation_line lines)
subroutines_step at line lines = step (calculation_line line) (filter_map calculation_line lines)
  where
    step : (o : Option (CalculationLine Name)) (rest : List (CalculationLine Name)) → subroutines_from at (cons_option o rest) ≡ subroutines_of at o ++ subroutines_from (behind_given at o) rest
    step None rest = refl
    step (Some c) rest = with_given (subroutine_given at c) (subroutines_from (behind_calculation at c) rest)

-- no place exceeds the number of lines
pub next_within : (at next : CalculationStanding) (lines : List Line) (i : ℕ) (d : Line) → next ≡ calculation_behind at (get_or lines i d) → IsWithin i at → IsWithin (i + 1) next
next_within at next lines i d is h = subst (IsWithin (i + 1)) (sym is) (step (calculation_line (get_or lines i d)))
  where
    step : (o : Option (CalculationLine Name)) → IsWithin (i + 1) (behind_given at o)
    step None = calculations_more i at h
    step (Some c) = calculation_within i at c h

-- ---- the places of files
pub places_step : (place : ℕ) (line : Line) (lines : List Line)
    → file_places place (filter_map file_line (line ∷ lines)) ≡ place_on place line ++ file_places (place_behind place line) (filter_map file_line lines)
places_step place line lines = step (file_line line) (filter_map file_line lines)
  where
    step : (o : Option FileLine) (rest : List FileLine) → file_places place (cons_option o rest) ≡ places_of place o ++ file_places (place_after place o) rest
    step None rest = refl
    step (Some file) rest = refl

pub place_within : (place next : ℕ) (lines : List Line) (i : ℕ) (d : Line) → next ≡ place_behind place (get_or lines i d) → place ≤ i → next ≤ i + 1
place_within place next lines i d is h = step (file_line (get_or lines i d)) is
  where
    step : (o : Option FileLine) → next ≡ place_after place o → next ≤ i + 1
    step None is = omega arith
    step (Some file) is = omega arith

-- ---- results
pub results_step : (line : Line) (lines : List Line)
    → filter_map result_given (filter_map calculation_line (line ∷ lines)) ≡ result_on line ++ filter_map result_given (filter_map calculation_line lines)
results_step line lines = step (calculation_line line) (filter_map calculation_line lines)
  where
    joined : (o : Option (Name × Shape)) (rest : List (Name × Shape)) → cons_option o rest ≡ option_to_list o ++ rest
    joined None rest = refl
    joined (Some x) rest = refl

    step : (o : Option (CalculationLine Name)) (rest : List (CalculationLine Name)) → filter_map result_given (cons_option o rest) ≡ results_of o ++ filter_map result_given rest
    step None rest = refl
    step (Some c) rest = joined (result_given c) (filter_map result_given rest)

-- ---- fields
pub fields_step : (line : Line) (lines : List Line)
    → filter_map input_given (filter_map input_line (line ∷ lines)) ≡ field_on line ++ filter_map input_given (filter_map input_line lines)
fields_step line lines = step (input_line line) (filter_map input_line lines)
  where
    joined : (o : Option (Name × Shape)) (rest : List (Name × Shape)) → cons_option o rest ≡ option_to_list o ++ rest
    joined None rest = refl
    joined (Some x) rest = refl

    step : (o : Option (InputLine Name)) (rest : List (InputLine Name)) → filter_map input_given (cons_option o rest) ≡ fields_of o ++ filter_map input_given rest
    step None rest = refl
    step (Some c) rest = joined (input_given c) (filter_map input_given rest)
