-- Diagnostic 9: a line out of place. A line with AND, OR or AN lacks the line that it continues, or a field card lacks a record line or
-- line card. Calculation parts are out of order, or an MVR doesn't directly follow a DIV without H in its section. BEGSR and ENDSR don't
-- pair, or a group is left open at the end of the calculations.
use Rattle.std.specs.Prelude.{ℕ, ◌==◌, nat_lt, Bool, true, false, not, ◌&&◌, ◌||◌, List, [], ◌∷◌, Option, Some, None, is_none, if◌then◌else◌}
use Rattle.s3_lines.specs.declared.sheet.InputLine.{InputLine}
use Rattle.s3_lines.specs.declared.sheet.InputLine.TheVariants.{Record, And as AndCodes, Or as OrCodes, Field as FieldOfRecord}
use Rattle.s3_lines.specs.declared.sheet.Operation.{Operation}
use Rattle.s3_lines.specs.declared.sheet.Operation.TheVariants.{MoveRemainder, BeginSubroutine, EndSubroutine, Unknown}
use Rattle.s3_lines.specs.declared.sheet.CalculationTime.{CalculationTime}
use Rattle.s3_lines.specs.declared.sheet.CalculationTime.TheVariants.{Detail, Total, Subroutine, And, Or}
use Rattle.s3_lines.specs.declared.sheet.CalculationLine.{CalculationLine}
use Rattle.s3_lines.specs.declared.sheet.OutputLine.{OutputLine}
use Rattle.s3_lines.specs.declared.sheet.OutputLine.TheVariants.{Line as LineCard, And as AndCard, Or as OrCard, Field as FieldCard}
use Rattle.s3_program.specs.declared.standing.InputStanding.{InputStanding}
use Rattle.s3_program.specs.declared.standing.CalculationStanding.{CalculationStanding}
use Rattle.s3_program.specs.declared.standing.OutputStanding.{OutputStanding}
use Rattle.s3_program.specs.Standings.{goes_on, is_subroutine_time, time_on, begins_subroutine, ends_subroutine, section_on, division_on, group_behind}

-- ---- Input and Output specifications
abbrev pub input_misplaced : {N : Type 0} → InputStanding → InputLine N → Bool
input_misplaced at (Record file indicator codes) = false
input_misplaced at (AndCodes codes) = not at.is_open
input_misplaced at (OrCodes indicator codes) = not at.is_open
input_misplaced at (FieldOfRecord field) = is_none at.group

abbrev pub output_misplaced : {N : Type 0} → OutputStanding → OutputLine N → Bool
output_misplaced at (LineCard card) = false
output_misplaced at (AndCard conditions) = not at.is_open
output_misplaced at (OrCard conditions) = not at.is_open
output_misplaced at (FieldCard field) = not at.has_line

-- ---- Calculation specifications
-- the entries that decide whether a line is in place: its level entry and its operation
abbrev pub Verb : Type 0
Verb = CalculationTime × Option Operation

-- the level entry of the next line
abbrev pub next_time : List Verb → Option CalculationTime
next_time [] = None
next_time (verb ∷ later) = Some verb.0

abbrev pub is_other : Option CalculationTime → Bool
is_other None = false
is_other (Some time) = not (goes_on time)

-- lines follow, but no AN or OR line continues the lines before them
abbrev pub is_cut_by : List Verb → Bool
is_cut_by later = is_other (next_time later)

abbrev pub is_end : List Verb → Bool
is_end later = is_none (next_time later)

-- whether an SR line is BEGSR; below, whether it is ENDSR
abbrev pub is_begin : CalculationTime → Option Operation → Bool
is_begin time operation = is_subroutine_time time && begins_subroutine operation

abbrev pub is_finish : CalculationTime → Option Operation → Bool
is_finish time operation = is_subroutine_time time && ends_subroutine operation

-- the next BEGSR or ENDSR on SR lines is an ENDSR
abbrev pub is_closed_by : Option CalculationTime → List Verb → Bool
is_closed_by group [] = false
is_closed_by group (verb ∷ later) =
    let time : CalculationTime = time_on group verb.0 in
    if is_begin time verb.1 then false
    else if is_finish time verb.1 then true
    else is_closed_by (group_behind time verb.1) later

-- a detail line after a total or SR line, or a total line after an SR line
abbrev pub is_late : (part : ℕ) → CalculationTime → Bool
is_late part Detail = nat_lt 0 part
is_late part (Total indicator) = nat_lt 1 part
is_late part Subroutine = false
is_late part And = false
is_late part Or = false

-- the previous DIV is in this section
abbrev pub is_division_of : (section : ℕ) → Option ℕ → Bool
is_division_of section None = false
is_division_of section (Some division) = division == section

-- an unpaired BEGSR or ENDSR, or an SR line outside subroutines
abbrev pub is_astray : CalculationStanding → List Verb → CalculationTime → Option Operation → Bool
is_astray at later time (Some BeginSubroutine) = not (is_subroutine_time time && is_closed_by None later)
is_astray at later time (Some EndSubroutine) = is_none at.subroutine || not (is_subroutine_time time)
is_astray at later time operation = is_subroutine_time time && is_none at.subroutine

abbrev pub is_lost_remainder : CalculationStanding → CalculationTime → CalculationTime → Option Operation → Bool
is_lost_remainder at time own (Some MoveRemainder) =
    not (is_division_of (section_on at time (Some MoveRemainder)) (division_on at own))
is_lost_remainder at time own operation = false

-- the last line of its group: a line with an operation, or one that no line continues
abbrev pub ends_group : List Verb → Option Operation → Bool
ends_group later (Some operation) = true
ends_group later None = is_end later || is_cut_by later

-- the end of the calculations leaves this line's group open
abbrev pub is_left_open : List Verb → Option Operation → Bool
is_left_open later (Some operation) = false
is_left_open later None = is_end later

abbrev pub is_unknown : Option Operation → Bool
is_unknown (Some Unknown) = true
is_unknown _ = false

-- whether a line has diagnostic 9; `later` has the lines after it, and an unknown operation isn't checked
abbrev pub calculation_misplaced : {N : Type 0} → CalculationStanding → List Verb → CalculationLine N → Bool
calculation_misplaced at later line =
    let time : CalculationTime = time_on at.group line.time in
    not (is_unknown line.operation)
    && (is_late at.part line.time
    || goes_on time
    || is_left_open later line.operation
    || (ends_group later line.operation && is_astray at later time line.operation)
    || is_lost_remainder at time line.time line.operation)
