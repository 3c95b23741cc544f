-- The place that the walk computes for a line, from the lines before it.
use Rattle.std.proofs.Common.{◌≡◌, ℕ, ◌+◌, List, [], ◌∷◌, ◌++◌, Bool, true, false, cond, refl, ◌∙◌, ap, arith, length}
use Rattle.std.specs.Prelude.{◌==◌, Option, Some, None, is_some, unwrap_or, map, filter, filter_map}
use Rattle.s3_cards.specs.declared.name.Name.{Name}
use Rattle.s3_lines.specs.declared.diagnostic.Diagnostic.{Diagnostic}
use Rattle.s3_lines.specs.declared.sheet.InputLine.{InputLine}
use Rattle.s3_lines.specs.declared.sheet.Operation.{Operation}
use Rattle.s3_lines.specs.declared.sheet.Operation.TheVariants.{BeginSubroutine, EndSubroutine}
use Rattle.s3_lines.specs.declared.sheet.CalculationTime.{CalculationTime}
use Rattle.s3_lines.specs.declared.sheet.CalculationTime.TheVariants.{Detail, Total, Subroutine, And, Or}
use Rattle.s3_lines.specs.declared.sheet.CalculationLine.{CalculationLine}
use Rattle.s3_lines.specs.declared.sheet.OutputLine.{OutputLine}
use Rattle.s3_lines.specs.declared.sheet.SheetLine.{SheetLine}
use Rattle.s3_lines.specs.declared.sheet.SheetLine.TheVariants as sheet
use Rattle.s3_lines.specs.declared.sheet.Line.{Line}
use Rattle.s3_meaning.specs.Source.{input_line, calculation_line, output_line}
use Rattle.s3_program.specs.declared.standing.InputStanding.{InputStanding}
use Rattle.s3_program.specs.declared.standing.CalculationStanding.{CalculationStanding}
use Rattle.s3_program.specs.declared.standing.OutputStanding.{OutputStanding}
use Rattle.s3_program.specs.Standings.{goes_on, time_on, section_on, begins_subroutine, subroutine_behind, group_behind, first_input, behind_input, first_calculation, behind_calculation, first_output, behind_output}
use Rattle.s3_program.specs.Places.{is_begin, is_finish}
use Rattle.s3_program.specs.Conditions.{numbers}
use Rattle.s3_diagnose.specs.declared.standing.Standing.{Standing}
use Rattle.s3_diagnose.specs.Known.{Meanings, meant_line, meant_input, meant_output, first_standing, behind}
use Rattle.s3_diagnose.specs.Lookups.{Known}
use Rattle.s3_diagnose.specs.Diagnostics.{found_on, diagnostics_from}
use Rattle.s3_diagnose.specs.Inner.Whole.{Spot, spots_from, those_of, level_above, level_of, open_subroutine, section_at_level, section_of_last}

-- ---- places by the lines before, nearest first
abbrev pub standing_below : Meanings → List Line → Standing
standing_below meanings [] = first_standing
standing_below meanings (line ∷ above) = behind (standing_below meanings above) (meant_line meanings line.sheet)

abbrev pub input_below : Meanings → List (InputLine Name) → InputStanding
input_below meanings [] = first_input
input_below meanings (line ∷ above) = behind_input (input_below meanings above) (meant_input meanings line)

abbrev pub calculation_below : List (CalculationLine Name) → CalculationStanding
calculation_below [] = first_calculation
calculation_below (line ∷ above) = behind_calculation (calculation_below above) line

abbrev pub output_below : Meanings → List (OutputLine Name) → OutputStanding
output_below meanings [] = first_output
output_below meanings (line ∷ above) = behind_output (output_below meanings above) (meant_output meanings line)

inputs_step : (meanings : Meanings) (above : List Line) (card : ℕ) (line : SheetLine)
    → (standing_below meanings above).inputs ≡ input_below meanings (filter_map input_line above)
    → (standing_below meanings (record { card = card; sheet = line } ∷ above)).inputs
    ≡ input_below meanings (filter_map input_line (record { card = card; sheet = line } ∷ above))
inputs_step meanings above card (sheet.Header name) h = h
inputs_step meanings above card (sheet.File file) h = h
inputs_step meanings above card (sheet.Input line) h = ap (λ at. behind_input at (meant_input meanings line)) h
inputs_step meanings above card (sheet.Calculation line) h = h
inputs_step meanings above card (sheet.Output line) h = h

pub inputs_below : (meanings : Meanings) (above : List Line) → (standing_below meanings above).inputs ≡ input_below meanings (filter_map input_line above)
inputs_below meanings [] = refl
inputs_below meanings (line ∷ above) = inputs_step meanings above line.card line.sheet (inputs_below meanings above)

calculations_step : (meanings : Meanings) (above : List Line) (card : ℕ) (line : SheetLine)
    → (standing_below meanings above).calculations ≡ calculation_below (filter_map calculation_line above)
    → (standing_below meanings (record { card = card; sheet = line } ∷ above)).calculations
    ≡ calculation_below (filter_map calculation_line (record { card = card; sheet = line } ∷ above))
calculations_step meanings above card (sheet.Header name) h = h
calculations_step meanings above card (sheet.File file) h = h
calculations_step meanings above card (sheet.Input line) h = h
calculations_step meanings above card (sheet.Calculation line) h = ap (λ at. behind_calculation at line) h
calculations_step meanings above card (sheet.Output line) h = h

pub calculations_below : (meanings : Meanings) (above : List Line)
    → (standing_below meanings above).calculations ≡ calculation_below (filter_map calculation_line above)
calculations_below meanings [] = refl
calculations_below meanings (line ∷ above) = calculations_step meanings above line.card line.sheet (calculations_below meanings above)

outputs_step : (meanings : Meanings) (above : List Line) (card : ℕ) (line : SheetLine)
    → (standing_below meanings above).outputs ≡ output_below meanings (filter_map output_line above)
    → (standing_below meanings (record { card = card; sheet = line } ∷ above)).outputs
    ≡ output_below meanings (filter_map output_line (record { card = card; sheet = line } ∷ above))
outputs_step meanings above card (sheet.Header name) h = h
outputs_step meanings above card (sheet.File file) h = h
outputs_step meanings above card (sheet.Input line) h = h
outputs_step meanings above card (sheet.Calculation line) h = h
outputs_step meanings above card (sheet.Output line) h = ap (λ at. behind_output at (meant_output meanings line)) h

pub outputs_below : (meanings : Meanings) (above : List Line) → (standing_below meanings above).outputs ≡ output_below meanings (filter_map output_line above)
outputs_below meanings [] = refl
outputs_below meanings (line ∷ above) = outputs_step meanings above line.card line.sheet (outputs_below meanings above)

-- ---- the place of a calculation line by the lines before it
time_by_group : (group : Option CalculationTime) (time above : CalculationTime) → unwrap_or group And ≡ above → time_on group time ≡ cond (goes_on time) above time
time_by_group group Detail above h = refl
time_by_group group (Total indicator) above h = refl
time_by_group group Subroutine above h = refl
time_by_group group And above h = h
time_by_group group Or above h = h

group_step : (group : Option CalculationTime) (time above : CalculationTime) (operation : Option Operation) → unwrap_or group And ≡ above
    → unwrap_or (group_behind (time_on group time) operation) And ≡ cond (is_some operation) And (cond (goes_on time) above time)
group_step group time above None h = time_by_group group time above h
group_step group time above (Some operation) h = refl

group_below : (above : List (CalculationLine Name)) → unwrap_or (calculation_below above).group And ≡ level_above above
group_below [] = refl
group_below (line ∷ above) = group_step (calculation_below above).group line.time (level_above above) line.operation (group_below above)

pub level_below : (above : List (CalculationLine Name)) (line : CalculationLine Name) → time_on (calculation_below above).group line.time ≡ level_of above line
level_below above line = time_by_group (calculation_below above).group line.time (level_above above) (group_below above)

pub place_below : (above : List (CalculationLine Name)) → (calculation_below above).place ≡ length above
place_below [] = refl
place_below (line ∷ above) = let h : (calculation_below above).place ≡ length above = place_below above in omega (arith, h)

subroutine_step : (at : CalculationStanding) (place : ℕ) (time : CalculationTime) (operation : Option Operation) (begun : Option ℕ)
    → at.place ≡ place → at.subroutine ≡ begun
    → subroutine_behind at time operation ≡ cond (is_begin time operation) (Some place) (cond (is_finish time operation) None begun)
subroutine_step at place Detail operation begun p h = h
subroutine_step at place (Total indicator) operation begun p h = h
subroutine_step at place And operation begun p h = h
subroutine_step at place Or operation begun p h = h
subroutine_step at place Subroutine None begun p h = h
subroutine_step at place Subroutine (Some BeginSubroutine) begun p h = ap (λ n. Some n) p
subroutine_step at place Subroutine (Some EndSubroutine) begun p h = refl
subroutine_step at place Subroutine (Some _) begun p h = h

pub subroutine_below : (above : List (CalculationLine Name)) → (calculation_below above).subroutine ≡ open_subroutine above
subroutine_below [] = refl
subroutine_below (line ∷ above) =
    ap (λ time. subroutine_behind (calculation_below above) time line.operation) (level_below above line)
    ∙ subroutine_step (calculation_below above) (length above) (level_of above line) line.operation (open_subroutine above) (place_below above) (subroutine_below above)

own_step : (b : Bool) (place other : ℕ) (begun subroutine : Option ℕ) → place ≡ other → begun ≡ subroutine
    → cond b (Some place) begun ≡ cond b (Some other) subroutine
own_step true place other begun subroutine p h = ap (λ n. Some n) p
own_step false place other begun subroutine p h = h

section_step : (at : CalculationStanding) (place section : ℕ) (begun : Option ℕ) (time : CalculationTime) (operation : Option Operation)
    → at.place ≡ place → at.subroutine ≡ begun → at.section ≡ section → section_on at time operation ≡ section_at_level place begun section time operation
section_step at place section begun Detail operation p h s = refl
section_step at place section begun (Total indicator) operation p h s = refl
section_step at place section begun Subroutine operation p h s =
    ap section_of (own_step (begins_subroutine operation) at.place place at.subroutine begun p h)
  where
    section_of : Option ℕ → ℕ
    section_of None = 2
    section_of (Some n) = n + 3
section_step at place section begun And operation p h s = s
section_step at place section begun Or operation p h s = s

pub section_below : (above : List (CalculationLine Name)) → (calculation_below above).section ≡ section_of_last above
section_below [] = refl
section_below (line ∷ above) =
    ap (λ time. section_on (calculation_below above) time line.operation) (level_below above line)
    ∙ section_step (calculation_below above) (length above) (section_of_last above) (open_subroutine above) (level_of above line) line.operation
    (place_below above) (subroutine_below above) (section_below above)

-- ---- the diagnostics with a number, of a line and of all lines
abbrev on_card : ℕ → ℕ → Diagnostic
on_card card number = record { card = card; number = number }

appended : (p : Diagnostic → Bool) (xs ys : List Diagnostic) → filter p (xs ++ ys) ≡ filter p xs ++ filter p ys
appended p [] ys = refl
appended p (x ∷ xs) ys = ap (λ l. cond (p x) (x ∷ l) l) (appended p xs ys) ∙ kept (p x) x (filter p xs) (filter p ys)
  where
    kept : (b : Bool) (x : Diagnostic) (us vs : List Diagnostic) → cond b (x ∷ us ++ vs) (us ++ vs) ≡ cond b (x ∷ us) us ++ vs
    kept true x us vs = refl
    kept false x us vs = refl

pub passed : (number card n : ℕ) (b : Bool) (ns : List ℕ) → (n == number) ≡ false
    → those_of number (map (on_card card) (cond b (n ∷ ns) ns)) ≡ those_of number (map (on_card card) ns)
passed number card n true ns h = ap (λ b. cond b (on_card card n ∷ those_of number (map (on_card card) ns)) (those_of number (map (on_card card) ns))) h
passed number card n false ns h = refl

pub met : (number card : ℕ) (b : Bool) (ns : List ℕ) → (number == number) ≡ true → those_of number (map (on_card card) ns) ≡ []
    → those_of number (map (on_card card) (cond b (number ∷ ns) ns)) ≡ cond b (on_card card number ∷ []) []
met number card true ns h none =
    ap (λ b. cond b (on_card card number ∷ those_of number (map (on_card card) ns)) (those_of number (map (on_card card) ns))) h
    ∙ ap (λ l. on_card card number ∷ l) none
met number card false ns h none = none

shown : (number : ℕ) (b : Bool) (spot : Spot) (some : List Spot)
    → cond b (on_card spot.line.card number ∷ []) [] ++ map (λ (s : Spot). on_card s.line.card number) some
    ≡ map (λ (s : Spot). on_card s.line.card number) (cond b (spot ∷ some) some)
shown number true spot some = refl
shown number false spot some = refl

abbrev pub spot_of : List Line → Line → List Line → Spot
spot_of above line below = record { above = above; line = line; below = below }

-- if each line gets a number exactly when the condition holds, so do all lines together
pub whole : (number : ℕ) (known : Known) (holds : Spot → Bool)
    → ((above : List Line) (line : Line) (below : List Line)
    → those_of number (found_on known (standing_below known.meanings above) below line.card (meant_line known.meanings line.sheet) numbers)
    ≡ cond (holds (spot_of above line below)) (on_card line.card number ∷ []) [])
    → (above lines : List Line)
    → those_of number (diagnostics_from known (standing_below known.meanings above) lines)
    ≡ map (λ (s : Spot). on_card s.line.card number) (filter holds (spots_from above lines))
whole number known holds each above [] = refl
whole number known holds each above (line ∷ below) =
    let here : List Diagnostic = found_on known (standing_below known.meanings above) below line.card (meant_line known.meanings line.sheet) numbers in
    let rest : List Diagnostic = diagnostics_from known (standing_below known.meanings (line ∷ above)) below in
    let spot : Spot = spot_of above line below in
    appended (λ (d : Diagnostic). d.number == number) here rest
    ∙ (ap (λ l. l ++ those_of number rest) (each above line below)
    ∙ (ap (λ l. cond (holds spot) (on_card line.card number ∷ []) [] ++ l) (whole number known holds each (line ∷ above) below)
    ∙ shown number (holds spot) spot (filter holds (spots_from (line ∷ above) below))))
