-- The place of a line: what the earlier lines of the same sheet determine about it.
use Rattle.std.specs.Prelude.{ℕ, ◌+◌, nat_le, Bool, true, false, not, ◌&&◌, ◌||◌, Option, Some, None, is_some, unwrap_or, if◌then◌else◌}
use Rattle.std.specs.Option.{option_or}
use Rattle.s3_lines.specs.declared.sheet.FileLine.{FileLine}
use Rattle.s3_lines.specs.declared.sheet.InputLine.{InputLine}
use Rattle.s3_lines.specs.declared.sheet.InputLine.TheVariants.{Record, And as AndCodes, Or as OrCodes, Field as FieldOfRecord}
use Rattle.s3_lines.specs.declared.sheet.Operation.{Operation}
use Rattle.s3_lines.specs.declared.sheet.Operation.TheVariants.{BeginSubroutine, EndSubroutine, Divide}
use Rattle.s3_lines.specs.declared.sheet.CalculationTime.{CalculationTime}
use Rattle.s3_lines.specs.declared.sheet.CalculationTime.TheVariants.{Detail, Total, Subroutine, And, Or}
use Rattle.s3_lines.specs.declared.sheet.CalculationLine.{CalculationLine}
use Rattle.s3_lines.specs.declared.sheet.OutputLine.{OutputLine}
use Rattle.s3_lines.specs.declared.sheet.OutputLine.TheVariants.{Line as LineCard, And as AndCard, Or as OrCard, Field as FieldCard}
use Rattle.s3_program.specs.declared.program.Meaning.{Meaning}
use Rattle.s3_program.specs.declared.program.Meaning.TheVariants.{Undefined}
use Rattle.s3_program.specs.declared.standing.FileStanding.{FileStanding}
use Rattle.s3_program.specs.declared.standing.InputStanding.{InputStanding}
use Rattle.s3_program.specs.declared.standing.CalculationStanding.{CalculationStanding}
use Rattle.s3_program.specs.declared.standing.OutputStanding.{OutputStanding}
use Rattle.s3_program.specs.FileTable.{is_card_file, is_print_file}

-- ---- File Description specifications
abbrev pub first_file : FileStanding
first_file = record { place = 0; has_card_file = false; has_print_file = false }

abbrev pub behind_file : FileStanding → FileLine → FileStanding
behind_file at file =
    record { place = at.place + 1; has_card_file = at.has_card_file || is_card_file file; has_print_file = at.has_print_file || is_print_file file }

-- ---- Input specifications: a group is a record line with its AND and OR lines and the fields after them
abbrev pub first_input : InputStanding
first_input = record { place = 0; group = None; file = Undefined; is_open = false }

abbrev pub behind_input : InputStanding → InputLine Meaning → InputStanding
behind_input at (Record file indicator codes) = record { place = at.place + 1; group = Some at.place; file = file; is_open = true }
behind_input at (AndCodes codes) = record { place = at.place + 1; group = at.group; file = at.file; is_open = at.is_open }
behind_input at (OrCodes indicator codes) = record { place = at.place + 1; group = at.group; file = at.file; is_open = at.is_open }
behind_input at (FieldOfRecord field) = record { place = at.place + 1; group = at.group; file = at.file; is_open = false }

-- ---- Calculation specifications
-- AN and OR lines
abbrev pub goes_on : CalculationTime → Bool
goes_on And = true
goes_on Or = true
goes_on Detail = false
goes_on (Total indicator) = false
goes_on Subroutine = false

abbrev pub is_subroutine_time : CalculationTime → Bool
is_subroutine_time Subroutine = true
is_subroutine_time _ = false

-- the level entry of a line's group: of its first line, or AN if the group has no first line
abbrev pub time_on : Option CalculationTime → CalculationTime → CalculationTime
time_on group And = unwrap_or group And
time_on group Or = unwrap_or group And
time_on group Detail = Detail
time_on group (Total indicator) = Total indicator
time_on group Subroutine = Subroutine

-- the part reached by a line: detail, total or subroutines
abbrev pub part_on : ℕ → CalculationTime → ℕ
part_on part Detail = part
part_on part (Total indicator) = if nat_le 1 part then part else 1
part_on part Subroutine = 2
part_on part And = part
part_on part Or = part

abbrev pub begins_subroutine : Option Operation → Bool
begins_subroutine (Some BeginSubroutine) = true
begins_subroutine _ = false

abbrev pub ends_subroutine : Option Operation → Bool
ends_subroutine (Some EndSubroutine) = true
ends_subroutine _ = false

-- the section of an SR line: 3 plus the place of its subroutine's BEGSR, or 2 outside subroutines
abbrev pub subroutine_section : Option ℕ → ℕ
subroutine_section (Some place) = place + 3
subroutine_section None = 2

-- the subroutine of an SR line; a BEGSR is in its own
abbrev pub own_subroutine : (place : ℕ) → Option ℕ → Option Operation → Option ℕ
own_subroutine place subroutine operation = if begins_subroutine operation then Some place else subroutine

-- the section of a line whose group has this level entry; a group without a first line is in the section before it
abbrev pub section_on : CalculationStanding → CalculationTime → Option Operation → ℕ
section_on at Detail operation = 0
section_on at (Total indicator) operation = 1
section_on at Subroutine operation = subroutine_section (own_subroutine at.place at.subroutine operation)
section_on at And operation = at.section
section_on at Or operation = at.section

abbrev pub subroutine_behind : CalculationStanding → CalculationTime → Option Operation → Option ℕ
subroutine_behind at Subroutine operation =
    if ends_subroutine operation then None else own_subroutine at.place at.subroutine operation
subroutine_behind at time operation = at.subroutine

-- the DIV that a line, or the group that it continues, directly follows
abbrev pub division_on : CalculationStanding → CalculationTime → Option ℕ
division_on at time = if is_some at.group && not (goes_on time) then None else at.division

abbrev pub division_behind : (before : Option ℕ) → (section : ℕ) → Option Operation → (half_adjust : Bool) → Option ℕ
division_behind before section None half_adjust = before
division_behind before section (Some Divide) half_adjust = if half_adjust then None else Some section
division_behind before section (Some operation) half_adjust = None

abbrev pub group_behind : CalculationTime → Option Operation → Option CalculationTime
group_behind time None = Some time
group_behind time (Some operation) = None

abbrev pub first_calculation : CalculationStanding
first_calculation = record { place = 0; part = 0; section = 0; subroutine = None; group = None; division = None }

abbrev pub behind_calculation : {N : Type 0} → CalculationStanding → CalculationLine N → CalculationStanding
behind_calculation at line =
    let time : CalculationTime = time_on at.group line.time in
    let section : ℕ = section_on at time line.operation in
    record {
      place = at.place + 1;
      part = part_on at.part line.time;
      section = section;
      subroutine = subroutine_behind at time line.operation;
      group = group_behind time line.operation;
      division = division_behind (division_on at line.time) section line.operation line.half_adjust;
    }

-- ---- Output specifications: a line card without a name has the file of the previous line
abbrev pub first_output : OutputStanding
first_output = record { file = None; has_line = false; is_open = false }

abbrev pub behind_output : OutputStanding → OutputLine Meaning → OutputStanding
behind_output at (LineCard card) = record { file = option_or card.file at.file; has_line = true; is_open = true }
behind_output at (AndCard conditions) = at
behind_output at (OrCard conditions) = at
behind_output at (FieldCard field) = record { file = at.file; has_line = at.has_line; is_open = false }
