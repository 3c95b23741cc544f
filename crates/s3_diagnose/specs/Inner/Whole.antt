-- Conditions on a whole source, without state from line to line: each line is checked by the lines before it, nearest first, and the lines
-- after it.
use Rattle.std.specs.Prelude.{◌≡◌, ℕ, ◌+◌, ◌==◌, Bool, ◌&&◌, List, [], ◌∷◌, Option, Some, None, is_some, length, map, filter, if◌then◌else◌}
use Rattle.std.specs.List.{list_any}
use Rattle.s3_cards.specs.declared.name.Name.{Name}
use Rattle.s3_lines.specs.declared.diagnostic.Diagnostic.{Diagnostic}
use Rattle.s3_lines.specs.declared.sheet.Operation.{Operation}
use Rattle.s3_lines.specs.declared.sheet.CalculationTime.{CalculationTime}
use Rattle.s3_lines.specs.declared.sheet.CalculationTime.TheVariants.{Detail, Total, Subroutine, And, Or}
use Rattle.s3_lines.specs.declared.sheet.CalculationLine.{CalculationLine}
use Rattle.s3_lines.specs.declared.sheet.Line.{Line}
use Rattle.s3_program.specs.Standings.{goes_on, begins_subroutine}
use Rattle.s3_program.specs.Places.{is_begin, is_finish}
use Rattle.s3_diagnose.specs.Known.{first_standing}
use Rattle.s3_diagnose.specs.Lookups.{known_of}
use Rattle.s3_diagnose.specs.Diagnostics.{diagnostic_of, diagnostics_from, compile_diagnostics}

-- ---- each line with the lines before it, nearest first, and the lines after it
pub record Spot : Type 0 where
  pub above : List Line
  pub line : Line
  pub below : List Line

abbrev pub spots_from : (above lines : List Line) → List Spot
spots_from above [] = []
spots_from above (line ∷ below) = record { above = above; line = line; below = below } ∷ spots_from (line ∷ above) below

abbrev pub spots : List Line → List Spot
spots lines = spots_from [] lines

-- the number on the card of each line for which a condition holds
abbrev pub on_those : ℕ → (Spot → Bool) → List Line → List Diagnostic
on_those number holds lines = map (λ (spot : Spot). diagnostic_of spot.line.card number) (filter holds (spots lines))

-- the diagnostics with this number
abbrev pub those_of : ℕ → List Diagnostic → List Diagnostic
those_of number found = filter (λ (diagnostic : Diagnostic). diagnostic.number == number) found

-- whether a card has a diagnostic with this number
abbrev pub has_number : (card number : ℕ) → List Diagnostic → Bool
has_number card number found = list_any (λ (diagnostic : Diagnostic). diagnostic.card == card) (those_of number found)

-- whether a line for which a condition holds is on this card
abbrev pub is_card_of : (card : ℕ) → (Spot → Bool) → List Line → Bool
is_card_of card holds lines = list_any (λ (spot : Spot). (spot.line.card == card) && holds spot) (spots lines)

-- The walk over the lines gives a number to exactly the lines for which the condition holds, in order.
-- So a card gets the number in `compile_diagnostics` exactly if it is the card of such a line.
pub record StandsOnThose (number : ℕ) (holds : List Line → Spot → Bool) : Type 0 where
  pub walked : (lines : List Line) → those_of number (diagnostics_from (known_of lines) first_standing lines) ≡ on_those number (holds lines) lines
  pub told : (run_card card : ℕ) (lines : List Line)
      → has_number card number (compile_diagnostics run_card lines) ≡ is_card_of card (holds lines) lines

-- ---- Calculation specifications
-- the level entry that a next AN or OR line gets: the level of the previous line if that has no operation, else AN
abbrev pub level_above : List (CalculationLine Name) → CalculationTime
level_above [] = And
level_above (line ∷ above) =
    if is_some line.operation then And
    else if goes_on line.time then level_above above
    else line.time

-- the level entry of a line's group
abbrev pub level_of : List (CalculationLine Name) → CalculationLine Name → CalculationTime
level_of above line = if goes_on line.time then level_above above else line.time

-- whether a line is the BEGSR of a subroutine; below, whether it is an ENDSR
abbrev pub begins : List (CalculationLine Name) → CalculationLine Name → Bool
begins above line = is_begin (level_of above line) line.operation

abbrev pub finishes : List (CalculationLine Name) → CalculationLine Name → Bool
finishes above line = is_finish (level_of above line) line.operation

-- the subroutine still open after these lines, by the place of its BEGSR; none if the last BEGSR or ENDSR is an ENDSR
abbrev pub open_subroutine : List (CalculationLine Name) → Option ℕ
open_subroutine [] = None
open_subroutine (line ∷ above) =
    if begins above line then Some (length above)
    else if finishes above line then None
    else open_subroutine above

-- The section of the last of these lines: 0 detail, 1 total, 2 outside subroutines, in a subroutine 3 plus the place of its BEGSR.
-- A group without a first line is in the section of the line before it.
abbrev pub section_of_subroutine : Option ℕ → ℕ
section_of_subroutine None = 2
section_of_subroutine (Some place) = place + 3

abbrev pub section_at_level : (place : ℕ) → (subroutine : Option ℕ) → (section_above : ℕ) → CalculationTime → Option Operation → ℕ
section_at_level place subroutine section_above Detail operation = 0
section_at_level place subroutine section_above (Total indicator) operation = 1
section_at_level place subroutine section_above Subroutine operation =
    section_of_subroutine (if begins_subroutine operation then Some place else subroutine)
section_at_level place subroutine section_above And operation = section_above
section_at_level place subroutine section_above Or operation = section_above

abbrev pub section_of_last : List (CalculationLine Name) → ℕ
section_of_last [] = 0
section_of_last (line ∷ above) =
    section_at_level (length above) (open_subroutine above) (section_of_last above) (level_of above line) line.operation
