-- Diagnostic 9 as a condition on a whole source: a line out of place. It lacks the line that it continues, or calculation parts are out of
-- order. An MVR may not directly follow its DIV, BEGSR and ENDSR may not pair, or the calculations may end within a group.
use Rattle.std.specs.Prelude.{ℕ, ◌==◌, Bool, true, false, not, ◌&&◌, ◌||◌, List, [], ◌∷◌, Option, Some, None, is_some, is_none, map, find, filter_map, if◌then◌else◌}
use Rattle.std.specs.List.{list_any}
use Rattle.s3_cards.specs.declared.name.Name.{Name}
use Rattle.s3_lines.specs.declared.sheet.InputLine.{InputLine}
use Rattle.s3_lines.specs.declared.sheet.InputLine.TheVariants.{Record, And as AndCodes, Or as OrCodes, Field as FieldOfRecord}
use Rattle.s3_lines.specs.declared.sheet.Operation.{Operation}
use Rattle.s3_lines.specs.declared.sheet.Operation.TheVariants.{Divide, MoveRemainder, BeginSubroutine, EndSubroutine}
use Rattle.s3_lines.specs.declared.sheet.CalculationTime.{CalculationTime}
use Rattle.s3_lines.specs.declared.sheet.CalculationTime.TheVariants.{Detail, Total, Subroutine, And, Or}
use Rattle.s3_lines.specs.declared.sheet.CalculationLine.{CalculationLine}
use Rattle.s3_lines.specs.declared.sheet.OutputLine.{OutputLine}
use Rattle.s3_lines.specs.declared.sheet.OutputLine.TheVariants.{Line as LineCard, And as AndCard, Or as OrCard, Field as FieldCard}
use Rattle.s3_lines.specs.declared.sheet.SheetLine.{SheetLine}
use Rattle.s3_lines.specs.declared.sheet.SheetLine.TheVariants as sheet
use Rattle.s3_meaning.specs.Source.{input_line, calculation_line, output_line}
use Rattle.s3_program.specs.Standings.{goes_on, is_subroutine_time}
use Rattle.s3_program.specs.Places.{is_unknown, ends_group, is_left_open}
use Rattle.s3_program.specs.Conditions.{verb_of}
use Rattle.s3_diagnose.specs.Inner.Whole.{Spot, StandsOnThose, level_of, begins, finishes, open_subroutine, section_of_last}

-- ---- Input specifications
abbrev pub is_record : InputLine Name → Bool
is_record (Record file indicator codes) = true
is_record _ = false

abbrev pub is_more_codes : InputLine Name → Bool
is_more_codes (AndCodes codes) = true
is_more_codes (OrCodes indicator codes) = true
is_more_codes _ = false

abbrev pub is_some_record : Option (InputLine Name) → Bool
is_some_record None = false
is_some_record (Some line) = is_record line

-- the nearest earlier line other than AND and OR lines is a record line
abbrev pub follows_record : List (InputLine Name) → Bool
follows_record above = is_some_record (find (λ line. not (is_more_codes line)) above)

-- AND and OR lines must continue a record line; a field line must follow some record line
abbrev pub input_has_no_place : List (InputLine Name) → InputLine Name → Bool
input_has_no_place above (Record file indicator codes) = false
input_has_no_place above (AndCodes codes) = not (follows_record above)
input_has_no_place above (OrCodes indicator codes) = not (follows_record above)
input_has_no_place above (FieldOfRecord field) = not (list_any is_record above)

-- ---- Output specifications
abbrev pub is_line_card : OutputLine Name → Bool
is_line_card (LineCard card) = true
is_line_card _ = false

abbrev pub is_more_conditions : OutputLine Name → Bool
is_more_conditions (AndCard conditions) = true
is_more_conditions (OrCard conditions) = true
is_more_conditions _ = false

abbrev pub is_some_line_card : Option (OutputLine Name) → Bool
is_some_line_card None = false
is_some_line_card (Some line) = is_line_card line

-- the nearest earlier card other than AND and OR cards is a line card
abbrev pub follows_line_card : List (OutputLine Name) → Bool
follows_line_card above = is_some_line_card (find (λ line. not (is_more_conditions line)) above)

-- AND and OR cards must continue a line card; a field card must follow some line card
abbrev pub output_has_no_place : List (OutputLine Name) → OutputLine Name → Bool
output_has_no_place above (LineCard card) = false
output_has_no_place above (AndCard conditions) = not (follows_line_card above)
output_has_no_place above (OrCard conditions) = not (follows_line_card above)
output_has_no_place above (FieldCard field) = not (list_any is_line_card above)

-- ---- Calculation specifications: the order of their parts
abbrev pub is_total_time : CalculationTime → Bool
is_total_time (Total indicator) = true
is_total_time _ = false

-- detail lines come before total lines, and both come before SR lines
abbrev pub may_not_precede : CalculationTime → CalculationTime → Bool
may_not_precede Detail above = is_total_time above || is_subroutine_time above
may_not_precede (Total indicator) above = is_subroutine_time above
may_not_precede Subroutine above = false
may_not_precede And above = false
may_not_precede Or above = false

abbrev pub is_out_of_order : List (CalculationLine Name) → CalculationLine Name → Bool
is_out_of_order above line = list_any (λ (other : CalculationLine Name). may_not_precede line.time other.time) above

-- ---- BEGSR and ENDSR
-- the next BEGSR or ENDSR is an ENDSR
abbrev pub is_finished_below : (above below : List (CalculationLine Name)) → Bool
is_finished_below above [] = false
is_finished_below above (line ∷ below) =
    if begins above line then false
    else if finishes above line then true
    else is_finished_below (line ∷ above) below

-- a BEGSR that isn't on an SR line or has no ENDSR; an ENDSR that isn't on an SR line or is outside subroutines; another SR line outside
-- subroutines
abbrev pub is_unpaired_at : CalculationTime → (is_in_subroutine is_finished : Bool) → Option Operation → Bool
is_unpaired_at time is_in_subroutine is_finished (Some BeginSubroutine) = not (is_subroutine_time time && is_finished)
is_unpaired_at time is_in_subroutine is_finished (Some EndSubroutine) = not is_in_subroutine || not (is_subroutine_time time)
is_unpaired_at time is_in_subroutine is_finished operation = is_subroutine_time time && not is_in_subroutine

abbrev pub is_unpaired : (above below : List (CalculationLine Name)) → CalculationLine Name → Bool
is_unpaired above below line =
    is_unpaired_at (level_of above line) (is_some (open_subroutine above)) (is_finished_below (line ∷ above) below) line.operation

-- ---- MVR
-- the lines before the group of a line with this level entry
abbrev pub above_group : CalculationTime → List (CalculationLine Name) → List (CalculationLine Name)
above_group time [] = []
above_group time (line ∷ above) = if goes_on time && is_none line.operation then above_group line.time above else line ∷ above

abbrev pub is_division : Option Operation → Bool
is_division (Some Divide) = true
is_division _ = false

abbrev pub ends_with_division : (section : ℕ) → List (CalculationLine Name) → Bool
ends_with_division section [] = false
ends_with_division section (line ∷ above) = (is_division line.operation && not line.half_adjust) && (section_of_last (line ∷ above) == section)

abbrev pub is_remainder : Option Operation → Bool
is_remainder (Some MoveRemainder) = true
is_remainder _ = false

-- an MVR whose group doesn't directly follow a DIV without H of its section
abbrev pub lacks_division : List (CalculationLine Name) → CalculationLine Name → Bool
lacks_division above line =
    is_remainder line.operation && not (ends_with_division (section_of_last (line ∷ above)) (above_group line.time above))

-- ---- the whole condition; an unknown operation isn't checked
abbrev pub calculation_has_no_place : (above below : List (CalculationLine Name)) → CalculationLine Name → Bool
calculation_has_no_place above below line =
    not (is_unknown line.operation)
    && (is_out_of_order above line
    || goes_on (level_of above line)
    || is_left_open (map verb_of below) line.operation
    || (ends_group (map verb_of below) line.operation && is_unpaired above below line)
    || lacks_division above line)

abbrev pub has_no_place : Spot → Bool
has_no_place spot = on spot.line.sheet
  where
    on : SheetLine → Bool
    on (sheet.Header name) = false
    on (sheet.File file) = false
    on (sheet.Input line) = input_has_no_place (filter_map input_line spot.above) line
    on (sheet.Calculation line) = calculation_has_no_place (filter_map calculation_line spot.above) (filter_map calculation_line spot.below) line
    on (sheet.Output line) = output_has_no_place (filter_map output_line spot.above) line

-- for any lines, exactly the lines of this condition get diagnostic 9
abbrev pub NineIsForLinesWithoutPlace : Type 0
NineIsForLinesWithoutPlace = StandsOnThose 9 (λ lines. has_no_place)
