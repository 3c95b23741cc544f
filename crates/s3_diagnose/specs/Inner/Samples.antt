-- Small sources with their diagnostics, worked by hand from the rules: some that a rule applies to, and near ones that it doesn't.
use Rattle.std.specs.Prelude.{ℕ, ◌+◌, true, false, pos, List, [], ◌∷◌, ◌++◌, Option, Some, None}
use Rattle.s3_edit.specs.declared.code.EditCode.TheVariants.{Date, Suppressed}
use Rattle.s3_cards.specs.declared.name.Name.{Name}
use Rattle.s3_cards.specs.Names.{name_of}
use Rattle.s3_lines.specs.Inner.Blanks.{none_of_three, no_spacing}
use Rattle.s3_lines.specs.Reserved.{page, udate}
use Rattle.s3_lines.specs.declared.diagnostic.Diagnostic.{Diagnostic}
use Rattle.s3_lines.specs.declared.indicator.Indicator.{Indicator}
use Rattle.s3_lines.specs.declared.indicator.Indicator.TheVariants.{General, Level, Overflow}
use Rattle.s3_lines.specs.declared.sheet.FileUse.{FileUse}
use Rattle.s3_lines.specs.declared.sheet.FileUse.TheVariants as usage
use Rattle.s3_lines.specs.declared.sheet.Designation.{Designation}
use Rattle.s3_lines.specs.declared.sheet.Designation.TheVariants as file
use Rattle.s3_lines.specs.declared.sheet.Device.{Device}
use Rattle.s3_lines.specs.declared.sheet.Device.TheVariants as device
use Rattle.s3_lines.specs.declared.sheet.FileLine.{FileLine}
use Rattle.s3_lines.specs.declared.sheet.FieldForm.{FieldForm}
use Rattle.s3_lines.specs.declared.sheet.FieldForm.TheVariants as form
use Rattle.s3_lines.specs.declared.sheet.FieldLine.{FieldLine}
use Rattle.s3_lines.specs.declared.sheet.InputLine.TheVariants as input
use Rattle.s3_lines.specs.declared.sheet.Shape.TheVariants.{Numeric}
use Rattle.s3_lines.specs.declared.sheet.Factor.{Factor}
use Rattle.s3_lines.specs.declared.sheet.Factor.TheVariants.{Named, Number}
use Rattle.s3_lines.specs.declared.sheet.Operation.{Operation}
use Rattle.s3_lines.specs.declared.sheet.Operation.TheVariants as op
use Rattle.s3_lines.specs.declared.sheet.CalculationTime.{CalculationTime}
use Rattle.s3_lines.specs.declared.sheet.CalculationTime.TheVariants as time
use Rattle.s3_lines.specs.declared.sheet.CalculationLine.{CalculationLine}
use Rattle.s3_lines.specs.declared.sheet.OutputKind.TheVariants as kind
use Rattle.s3_lines.specs.declared.sheet.OutputForm.{OutputForm}
use Rattle.s3_lines.specs.declared.sheet.OutputForm.TheVariants as put
use Rattle.s3_lines.specs.declared.sheet.OutputContent.TheVariants as content
use Rattle.s3_lines.specs.declared.sheet.OutputCard.{OutputCard}
use Rattle.s3_lines.specs.declared.sheet.OutputLine.TheVariants as output
use Rattle.s3_lines.specs.declared.sheet.SheetLine.{SheetLine}
use Rattle.s3_lines.specs.declared.sheet.SheetLine.TheVariants as sheet
use Rattle.s3_lines.specs.declared.sheet.Line.{Line}

-- ---- cards
-- these lines on consecutive cards, from a card number on
abbrev pub cards_from : ℕ → List SheetLine → List Line
cards_from card [] = []
cards_from card (line ∷ lines) = record { card = card; sheet = line } ∷ cards_from (card + 1) lines

-- a name of one letter
abbrev pub letter : ℕ → Name
letter code = name_of (code ∷ [])

-- names: A, a number of 3 digits; T, a text of 4; X and Y, not defined by the common cards; R, the card file; P, the print file
abbrev pub name_a : Name
name_a = letter 0xc1

abbrev pub name_t : Name
name_t = letter 0xe3

abbrev pub name_x : Name
name_x = letter 0xe7

abbrev pub name_y : Name
name_y = letter 0xe8

abbrev pub name_r : Name
name_r = letter 0xd9

abbrev pub name_p : Name
name_p = letter 0xd7

-- name D, a disk file
abbrev pub name_d : Name
name_d = letter 0xc4

abbrev pub plain_file : Name → FileUse → Option Designation → Device → FileLine
plain_file name usage designation device = record {
  name = name;
  usage = usage;
  designation = designation;
  ends_job = false;
  record_length = 80;
  is_random = false;
  is_keyed = false;
  is_indexed = false;
  key = None;
  overflow = None;
  device = device;
  has_additions = false;
  condition = None;
}

abbrev pub card_file : FileLine
card_file = plain_file name_r usage.Input (Some file.Primary) device.CardReader

abbrev pub print_file : FileLine
print_file = plain_file name_p usage.Output None device.Printer

-- a file chained by record number
abbrev pub chained_file : FileLine
chained_file = record (plain_file name_d usage.Input (Some file.Chained) device.Disk) { is_random = true }

abbrev pub record_of : Name → ℕ → SheetLine
record_of name indicator = sheet.Input (input.Record name (General indicator) none_of_three)

abbrev pub or_record : ℕ → SheetLine
or_record indicator = sheet.Input (input.Or (General indicator) none_of_three)

abbrev pub field_line : Name → ℕ → ℕ → FieldForm → FieldLine Name
field_line name from to form = record {
  name = name;
  from = from;
  to = to;
  form = form;
  control_level = None;
  match_level = None;
  relation = None;
  indicators = none_of_three;
}

abbrev pub field : Name → ℕ → ℕ → FieldForm → SheetLine
field name from to form = sheet.Input (input.Field (field_line name from to form))

-- a field with Mn or Ln, in the types with an indicator or in all types
abbrev pub match_field : Name → ℕ → ℕ → (number : ℕ) → Option Indicator → SheetLine
match_field name from to number relation =
    sheet.Input (input.Field (record (field_line name from to form.Alphanumeric) { match_level = Some number; relation = relation }))

abbrev pub control_field : Name → ℕ → ℕ → (number : ℕ) → SheetLine
control_field name from to number =
    sheet.Input (input.Field (record (field_line name from to form.Alphanumeric) { control_level = Some number }))

abbrev pub line : CalculationTime → Option (Factor Name) → Option Operation → Option (Factor Name) → Option Name → CalculationLine Name
line time factor1 operation factor2 result = record {
  time = time;
  conditions = none_of_three;
  factor1 = factor1;
  operation = operation;
  factor2 = factor2;
  result = result;
  definition = None;
  half_adjust = false;
  indicators = none_of_three;
}

abbrev pub c : CalculationLine Name → SheetLine
c line = sheet.Calculation line

abbrev pub named : Name → Option (Factor Name)
named name = Some (Named name)

abbrev pub marked : Indicator → List (Option Indicator)
marked indicator = Some indicator ∷ None ∷ None ∷ []

-- lines with an operation only, with factor 1, and with factor 2
abbrev pub bare : CalculationTime → Operation → CalculationLine Name
bare time operation = line time None (Some operation) None None

abbrev pub first : CalculationTime → Name → Operation → CalculationLine Name
first time name operation = line time (named name) (Some operation) None None

abbrev pub second : CalculationTime → Operation → Name → CalculationLine Name
second time operation name = line time None (Some operation) (named name) None

abbrev pub add : CalculationTime → Name → Name → Name → CalculationLine Name
add time factor1 factor2 result = line time (named factor1) (Some op.Add) (named factor2) (Some result)

abbrev pub set_on : CalculationTime → CalculationLine Name
set_on time = record (bare time op.SetOn) { indicators = marked (General 10) }

abbrev pub divide : CalculationLine Name
divide = line time.Detail (named name_a) (Some op.Divide) (named name_a) (Some name_a)

abbrev pub remainder : CalculationTime → CalculationLine Name
remainder time = line time None (Some op.MoveRemainder) None (Some name_a)

abbrev pub output_card : Option Name → OutputCard Name
output_card file = record { file = file; kind = kind.Detail; is_addition = false; spacing = no_spacing; conditions = none_of_three }

abbrev pub line_card : Option Name → SheetLine
line_card file = sheet.Output (output.Line (output_card file))

abbrev pub and_card : SheetLine
and_card = sheet.Output (output.And none_of_three)

abbrev pub put_field : Name → OutputForm → ℕ → SheetLine
put_field name form end = sheet.Output (output.Field (record {
  conditions = none_of_three;
  content = content.Field (record { name = name; form = form; blank_after = false });
  «end» = end;
}))

-- ---- sources, each with its diagnostics as card and number; 99 is the RUN card
abbrev pub Sample : Type 0
Sample = List SheetLine × List Diagnostic

abbrev pub on_card : ℕ → ℕ → Diagnostic
on_card card number = record { card = card; number = number }

-- cards 1 to 5; the cards of a sample begin at card 6
abbrev pub common : List SheetLine
common =
    sheet.File card_file
    ∷ sheet.File print_file
    ∷ record_of name_r 1
    ∷ field name_a 1 3 (form.Zoned 0)
    ∷ field name_t 4 7 form.Alphanumeric
    ∷ []

abbrev pub undefined : List Sample
undefined =
    -- the common cards only
    (common ++ [], [])
    ∷
    -- all names are defined
    (common ++ c (add time.Detail name_a name_a name_a) ∷ [], [])
    ∷
    -- an undefined factor
    (common ++ c (add time.Detail name_a name_x name_a) ∷ [], on_card 6 5 ∷ [])
    ∷
    -- an undefined result
    (common ++ c (add time.Detail name_a name_a name_x) ∷ [], on_card 6 5 ∷ [])
    ∷
    -- an undefined tag
    (common ++ c (second time.Detail op.GoTo name_x) ∷ [], on_card 6 5 ∷ [])
    ∷
    -- an undefined subroutine
    (common ++ c (second time.Detail op.ExecuteSubroutine name_x) ∷ [], on_card 6 5 ∷ [])
    ∷
    -- an undefined surplus factor gets 8 only
    (common ++ c (line time.Detail (named name_x) (Some op.GoTo) (named name_y) None) ∷ c (first time.Detail name_y op.Tag) ∷ [], on_card 6 8 ∷ [])
    ∷
    -- an undefined file, and a line card that takes it from the previous line
    (common ++ line_card (Some name_x) ∷ line_card None ∷ [], on_card 6 5 ∷ on_card 7 5 ∷ [])
    ∷
    -- an undefined output field
    (common ++ line_card (Some name_p) ∷ put_field name_x put.Plain 9 ∷ [], on_card 7 5 ∷ [])
    ∷ []

abbrev pub redefined : List Sample
redefined =
    -- a file defined twice counts twice
    (sheet.File card_file ∷ sheet.File print_file ∷ sheet.File card_file ∷ [], on_card 3 6 ∷ on_card 3 12 ∷ on_card 99 12 ∷ [])
    ∷
    -- a field defined again with another length
    (common ++ field name_t 4 8 form.Alphanumeric ∷ [], on_card 6 6 ∷ [])
    ∷
    -- a field defined again with the same length
    (common ++ field name_t 10 13 form.Alphanumeric ∷ [], [])
    ∷
    -- a field defined again with other digits
    (common ++ c (record (add time.Detail name_a name_a name_a) { definition = Some (Numeric 4 0) }) ∷ [], on_card 6 6 ∷ [])
    ∷
    -- a field defined again with the same digits
    (common ++ c (record (add time.Detail name_a name_a name_a) { definition = Some (Numeric 3 0) }) ∷ [], [])
    ∷
    -- a result of UDATE: the date can't be changed
    (common ++ c (add time.Detail name_a name_a udate) ∷ [], on_card 6 6 ∷ [])
    ∷
    -- a result of PAGE: it may be changed
    (common ++ c (record (add time.Detail name_a name_a page) { definition = Some (Numeric 4 0) }) ∷ [], [])
    ∷
    -- PAGE with 5 digits
    (common ++ c (record (add time.Detail name_a name_a page) { definition = Some (Numeric 5 0) }) ∷ [], on_card 6 6 ∷ [])
    ∷
    -- a tag defined twice
    (common ++ c (first time.Detail name_x op.Tag) ∷ c (first time.Detail name_x op.Tag) ∷ [], on_card 7 6 ∷ [])
    ∷
    -- a subroutine defined twice
    (common ++ c (first time.Subroutine name_x op.BeginSubroutine) ∷ c (bare time.Subroutine op.EndSubroutine) ∷ c (first time.Subroutine name_x op.BeginSubroutine) ∷ c (bare time.Subroutine op.EndSubroutine) ∷ [], on_card 8 6 ∷ [])
    ∷
    -- a tag and a subroutine of the same name
    (common ++ c (first time.Detail name_x op.Tag) ∷ c (first time.Subroutine name_x op.BeginSubroutine) ∷ c (bare time.Subroutine op.EndSubroutine) ∷ [], [])
    ∷
    -- an unknown operation gets 8 only
    (common ++ c (record (line time.Detail None (Some op.Unknown) None (Some name_a)) { definition = Some (Numeric 4 0) }) ∷ [], on_card 6 8 ∷ [])
    ∷ []

abbrev pub indicated : List Sample
indicated =
    -- SETON of OA
    (common ++ c (record (bare time.Detail op.SetOn) { indicators = marked (Overflow 1) }) ∷ [], [])
    ∷
    -- OA as a resulting indicator of ADD
    (common ++ c (record (add time.Detail name_a name_a name_a) { indicators = marked (Overflow 1) }) ∷ [], on_card 6 7 ∷ [])
    ∷
    -- a field record relation to an indicator of the group
    (common ++ sheet.Input (input.Field (record (field_line name_x 1 2 form.Alphanumeric) { relation = Some (General 1) })) ∷ [], [])
    ∷
    -- a field record relation to an indicator that no type of the group has
    (common ++ sheet.Input (input.Field (record (field_line name_x 1 2 form.Alphanumeric) { relation = Some (General 2) })) ∷ [], on_card 6 7 ∷ [])
    ∷
    -- a plus indicator for a text
    (common ++ sheet.Input (input.Field (record (field_line name_x 1 2 form.Alphanumeric) { indicators = marked (General 5) })) ∷ [], on_card 6 7 ∷ [])
    ∷
    -- a plus indicator for a number
    (common ++ sheet.Input (input.Field (record (field_line name_x 1 2 (form.Zoned 0)) { indicators = marked (General 5) })) ∷ [], [])
    ∷ []

abbrev pub unfit : List Sample
unfit =
    -- a text instead of a number
    (common ++ c (add time.Detail name_a name_t name_a) ∷ [], on_card 6 8 ∷ [])
    ∷
    -- factor 1 is missing
    (common ++ c (line time.Detail None (Some op.Add) (named name_a) (Some name_a)) ∷ [], on_card 6 8 ∷ [])
    ∷
    -- factor 1 is surplus
    (common ++ c (line time.Detail (named name_a) (Some op.ZeroAdd) (named name_a) (Some name_a)) ∷ [], on_card 6 8 ∷ [])
    ∷
    -- a number compared with a text
    (common ++ c (record (line time.Detail (named name_a) (Some op.Compare) (named name_t) None) { indicators = marked (General 10) }) ∷ [], on_card 6 8 ∷ [])
    ∷
    -- COMP without indicators
    (common ++ c (line time.Detail (named name_a) (Some op.Compare) (named name_a) None) ∷ [], on_card 6 8 ∷ [])
    ∷
    -- H with MOVE
    (common ++ c (record (line time.Detail None (Some op.Move) (named name_a) (Some name_t)) { half_adjust = true }) ∷ [], on_card 6 8 ∷ [])
    ∷
    -- MOVE of a number to a text
    (common ++ c (line time.Detail None (Some op.Move) (named name_a) (Some name_t)) ∷ [], [])
    ∷
    -- MOVEL of a number
    (common ++ c (line time.Detail None (Some op.MoveLeft) (named name_a) (Some name_t)) ∷ [], on_card 6 8 ∷ [])
    ∷
    -- SETON without indicators
    (common ++ c (bare time.Detail op.SetOn) ∷ [], on_card 6 8 ∷ [])
    ∷
    -- a length without a result
    (common ++ c (record (bare time.Detail op.Except) { definition = Some (Numeric 4 0) }) ∷ [], on_card 6 8 ∷ [])
    ∷
    -- CHAIN to a file that isn't chained
    (common ++ c (line time.Detail (named name_a) (Some op.Chain) (named name_r) None) ∷ [], on_card 6 8 ∷ [])
    ∷
    -- CHAIN by record number
    (sheet.File card_file ∷ sheet.File chained_file ∷ c (line time.Detail (Some (Number (record { value = pos 1; digits = 2; decimals = 0 }))) (Some op.Chain) (named name_d) None) ∷ [], [])
    ∷
    -- a record number with decimals
    (sheet.File card_file ∷ sheet.File chained_file ∷ c (line time.Detail (Some (Number (record { value = pos 15; digits = 2; decimals = 1 }))) (Some op.Chain) (named name_d) None) ∷ [], on_card 3 8 ∷ [])
    ∷
    -- an unknown operation
    (common ++ c (bare time.Detail op.Unknown) ∷ [], on_card 6 8 ∷ [])
    ∷
    -- a line without an operation that no line continues
    (common ++ c (line time.Detail None None None None) ∷ c (set_on time.Detail) ∷ [], on_card 6 8 ∷ [])
    ∷
    -- a field that begins at position 1
    (common ++ line_card (Some name_p) ∷ put_field name_a put.Plain 3 ∷ [], [])
    ∷
    -- a field that would begin before position 1
    (common ++ line_card (Some name_p) ∷ put_field name_a put.Plain 2 ∷ [], on_card 7 8 ∷ [])
    ∷
    -- an edit code for a text
    (common ++ line_card (Some name_p) ∷ put_field name_t (put.Edited Suppressed) 9 ∷ [], on_card 7 8 ∷ [])
    ∷
    -- edit code Y for 3 digits
    (common ++ line_card (Some name_p) ∷ put_field name_a (put.Edited Date) 9 ∷ [], on_card 7 8 ∷ [])
    ∷
    -- edit code Y for 6 digits
    (common ++ line_card (Some name_p) ∷ put_field udate (put.Edited Date) 8 ∷ [], [])
    ∷
    -- 8 characters that end at position 7
    (common ++ line_card (Some name_p) ∷ put_field udate (put.Edited Date) 7 ∷ [], on_card 7 8 ∷ [])
    ∷ []

abbrev pub misplaced : List Sample
misplaced =
    -- an OR line after a field line
    (common ++ or_record 2 ∷ [], on_card 6 9 ∷ [])
    ∷
    -- a field line without a record line
    (sheet.File card_file ∷ field name_a 1 3 (form.Zoned 0) ∷ [], on_card 2 9 ∷ [])
    ∷
    -- an AND card first in the Output specifications
    (common ++ and_card ∷ [], on_card 6 9 ∷ [])
    ∷
    -- an AND card after a field card
    (common ++ line_card (Some name_p) ∷ and_card ∷ put_field name_a put.Plain 3 ∷ and_card ∷ [], on_card 9 9 ∷ [])
    ∷
    -- a field card without a line card
    (common ++ put_field name_a put.Plain 3 ∷ [], on_card 6 9 ∷ [])
    ∷
    -- a detail line after a total line
    (common ++ c (set_on (time.Total (Level 1))) ∷ c (set_on time.Detail) ∷ [], on_card 7 9 ∷ [])
    ∷
    -- a line with an unknown operation counts for the order of sections
    (common ++ c (bare (time.Total (Level 1)) op.Unknown) ∷ c (set_on time.Detail) ∷ [], on_card 6 8 ∷ on_card 7 9 ∷ [])
    ∷
    -- an AN line first in the Calculation specifications
    (common ++ c (set_on time.And) ∷ [], on_card 6 9 ∷ [])
    ∷
    -- a group without a first line
    (common ++ c (line time.And None None None None) ∷ c (set_on time.And) ∷ [], on_card 6 9 ∷ on_card 7 9 ∷ [])
    ∷
    -- a group of two lines
    (common ++ c (line time.Detail None None None None) ∷ c (set_on time.And) ∷ [], [])
    ∷
    -- a group left open at the end of the Calculation specifications
    (common ++ c (line time.Detail None None None None) ∷ [], on_card 6 9 ∷ [])
    ∷
    -- a group left open before the end gets 8
    (common ++ c (line time.Detail None None None None) ∷ c (set_on time.Detail) ∷ [], on_card 6 8 ∷ [])
    ∷
    -- BEGSR with ENDSR
    (common ++ c (first time.Subroutine name_x op.BeginSubroutine) ∷ c (bare time.Subroutine op.EndSubroutine) ∷ [], [])
    ∷
    -- BEGSR without ENDSR
    (common ++ c (first time.Subroutine name_x op.BeginSubroutine) ∷ [], on_card 6 9 ∷ [])
    ∷
    -- BEGSR after BEGSR without ENDSR between
    (common ++ c (first time.Subroutine name_x op.BeginSubroutine) ∷ c (first time.Subroutine name_y op.BeginSubroutine) ∷ c (bare time.Subroutine op.EndSubroutine) ∷ [], on_card 6 9 ∷ [])
    ∷
    -- ENDSR without BEGSR
    (common ++ c (bare time.Subroutine op.EndSubroutine) ∷ [], on_card 6 9 ∷ [])
    ∷
    -- an SR line outside subroutines
    (common ++ c (set_on time.Subroutine) ∷ [], on_card 6 9 ∷ [])
    ∷
    -- BEGSR on a detail line
    (common ++ c (first time.Detail name_x op.BeginSubroutine) ∷ [], on_card 6 9 ∷ [])
    ∷
    -- MVR after DIV
    (common ++ c (divide) ∷ c (remainder time.Detail) ∷ [], [])
    ∷
    -- MVR after DIV with H
    (common ++ c (record divide { half_adjust = true }) ∷ c (remainder time.Detail) ∷ [], on_card 7 9 ∷ [])
    ∷
    -- MVR that doesn't directly follow DIV
    (common ++ c (divide) ∷ c (set_on time.Detail) ∷ c (remainder time.Detail) ∷ [], on_card 8 9 ∷ [])
    ∷
    -- MVR in another section than DIV
    (common ++ c (divide) ∷ c (remainder (time.Total (Level 1))) ∷ [], on_card 7 9 ∷ [])
    ∷
    -- MVR at the end of the group that directly follows DIV
    (common ++ c (divide) ∷ c (line time.Detail None None None None) ∷ c (remainder time.And) ∷ [], [])
    ∷ []

abbrev pub strayed : List Sample
strayed =
    -- GOTO to a tag of the same section
    (common ++ c (second time.Detail op.GoTo name_x) ∷ c (first time.Detail name_x op.Tag) ∷ [], [])
    ∷
    -- GOTO to a tag of another section
    (common ++ c (second time.Detail op.GoTo name_x) ∷ c (first (time.Total (Level 1)) name_x op.Tag) ∷ [], on_card 6 10 ∷ [])
    ∷
    -- GOTO to a tag of another subroutine
    (common ++ c (first time.Subroutine name_x op.BeginSubroutine) ∷ c (first time.Subroutine name_a op.Tag) ∷ c (bare time.Subroutine op.EndSubroutine) ∷ c (first time.Subroutine name_y op.BeginSubroutine) ∷ c (second time.Subroutine op.GoTo name_a) ∷ c (bare time.Subroutine op.EndSubroutine) ∷ [], on_card 10 10 ∷ [])
    ∷
    -- two subroutines that call each other; the call from outside isn't in the cycle
    (common ++ c (second time.Detail op.ExecuteSubroutine name_x) ∷ c (first time.Subroutine name_x op.BeginSubroutine) ∷ c (second time.Subroutine op.ExecuteSubroutine name_y) ∷ c (bare time.Subroutine op.EndSubroutine) ∷ c (first time.Subroutine name_y op.BeginSubroutine) ∷ c (second time.Subroutine op.ExecuteSubroutine name_x) ∷ c (bare time.Subroutine op.EndSubroutine) ∷ [], on_card 8 10 ∷ on_card 11 10 ∷ [])
    ∷
    -- a subroutine that calls itself
    (common ++ c (first time.Subroutine name_x op.BeginSubroutine) ∷ c (second time.Subroutine op.ExecuteSubroutine name_x) ∷ c (bare time.Subroutine op.EndSubroutine) ∷ [], on_card 7 10 ∷ [])
    ∷
    -- calls nested 8 deep
    (common ++ c (second time.Detail op.ExecuteSubroutine (letter 194)) ∷ c (first time.Subroutine (letter 194) op.BeginSubroutine) ∷ c (second time.Subroutine op.ExecuteSubroutine (letter 195)) ∷ c (bare time.Subroutine op.EndSubroutine) ∷ c (first time.Subroutine (letter 195) op.BeginSubroutine) ∷ c (second time.Subroutine op.ExecuteSubroutine (letter 196)) ∷ c (bare time.Subroutine op.EndSubroutine) ∷ c (first time.Subroutine (letter 196) op.BeginSubroutine) ∷ c (second time.Subroutine op.ExecuteSubroutine (letter 197)) ∷ c (bare time.Subroutine op.EndSubroutine) ∷ c (first time.Subroutine (letter 197) op.BeginSubroutine) ∷ c (second time.Subroutine op.ExecuteSubroutine (letter 198)) ∷ c (bare time.Subroutine op.EndSubroutine) ∷ c (first time.Subroutine (letter 198) op.BeginSubroutine) ∷ c (second time.Subroutine op.ExecuteSubroutine (letter 199)) ∷ c (bare time.Subroutine op.EndSubroutine) ∷ c (first time.Subroutine (letter 199) op.BeginSubroutine) ∷ c (second time.Subroutine op.ExecuteSubroutine (letter 200)) ∷ c (bare time.Subroutine op.EndSubroutine) ∷ c (first time.Subroutine (letter 200) op.BeginSubroutine) ∷ c (second time.Subroutine op.ExecuteSubroutine (letter 201)) ∷ c (bare time.Subroutine op.EndSubroutine) ∷ c (first time.Subroutine (letter 201) op.BeginSubroutine) ∷ c (bare time.Subroutine op.EndSubroutine) ∷ [], [])
    ∷
    -- the ninth call of nested calls
    (common ++ c (second time.Detail op.ExecuteSubroutine (letter 194)) ∷ c (first time.Subroutine (letter 194) op.BeginSubroutine) ∷ c (second time.Subroutine op.ExecuteSubroutine (letter 195)) ∷ c (bare time.Subroutine op.EndSubroutine) ∷ c (first time.Subroutine (letter 195) op.BeginSubroutine) ∷ c (second time.Subroutine op.ExecuteSubroutine (letter 196)) ∷ c (bare time.Subroutine op.EndSubroutine) ∷ c (first time.Subroutine (letter 196) op.BeginSubroutine) ∷ c (second time.Subroutine op.ExecuteSubroutine (letter 197)) ∷ c (bare time.Subroutine op.EndSubroutine) ∷ c (first time.Subroutine (letter 197) op.BeginSubroutine) ∷ c (second time.Subroutine op.ExecuteSubroutine (letter 198)) ∷ c (bare time.Subroutine op.EndSubroutine) ∷ c (first time.Subroutine (letter 198) op.BeginSubroutine) ∷ c (second time.Subroutine op.ExecuteSubroutine (letter 199)) ∷ c (bare time.Subroutine op.EndSubroutine) ∷ c (first time.Subroutine (letter 199) op.BeginSubroutine) ∷ c (second time.Subroutine op.ExecuteSubroutine (letter 200)) ∷ c (bare time.Subroutine op.EndSubroutine) ∷ c (first time.Subroutine (letter 200) op.BeginSubroutine) ∷ c (second time.Subroutine op.ExecuteSubroutine (letter 201)) ∷ c (bare time.Subroutine op.EndSubroutine) ∷ c (first time.Subroutine (letter 201) op.BeginSubroutine) ∷ c (second time.Subroutine op.ExecuteSubroutine (letter 209)) ∷ c (bare time.Subroutine op.EndSubroutine) ∷ c (first time.Subroutine (letter 209) op.BeginSubroutine) ∷ c (bare time.Subroutine op.EndSubroutine) ∷ [], on_card 29 10 ∷ [])
    ∷ []

abbrev pub mismatched : List Sample
mismatched =
    -- M1 twice in one type
    (common ++ match_field name_x 1 2 1 None ∷ match_field name_y 3 4 1 None ∷ [], on_card 7 11 ∷ [])
    ∷
    -- M1 and M2 in one type
    (common ++ match_field name_x 1 2 1 None ∷ match_field name_y 3 5 2 None ∷ [], [])
    ∷
    -- L1 twice in one type
    (common ++ control_field name_x 1 2 1 ∷ control_field name_y 3 4 1 ∷ [], on_card 7 11 ∷ [])
    ∷
    -- M1 once in each of two types
    (sheet.File card_file ∷ record_of name_r 1 ∷ or_record 2 ∷ match_field name_x 1 2 1 (Some (General 1)) ∷ match_field name_y 3 4 1 (Some (General 2)) ∷ [], [])
    ∷
    -- M1 in all types and again in one
    (sheet.File card_file ∷ record_of name_r 1 ∷ or_record 2 ∷ match_field name_x 1 2 1 None ∷ match_field name_y 3 4 1 (Some (General 2)) ∷ [], on_card 5 11 ∷ [])
    ∷
    -- M1 with another length
    (sheet.File card_file ∷ record_of name_r 1 ∷ match_field name_x 1 2 1 None ∷ record_of name_r 2 ∷ match_field name_y 3 5 1 None ∷ [], on_card 5 11 ∷ [])
    ∷
    -- a type with another set of match fields
    (sheet.File card_file ∷ record_of name_r 1 ∷ match_field name_x 1 2 1 None ∷ record_of name_r 2 ∷ match_field name_y 3 4 2 None ∷ [], on_card 4 11 ∷ [])
    ∷
    -- a type without match fields
    (sheet.File card_file ∷ record_of name_r 1 ∷ match_field name_x 1 2 1 None ∷ record_of name_r 2 ∷ field name_y 3 4 form.Alphanumeric ∷ [], [])
    ∷
    -- a match field of a chained file
    (sheet.File card_file ∷ sheet.File chained_file ∷ record_of name_d 1 ∷ match_field name_x 1 2 1 None ∷ [], on_card 4 11 ∷ [])
    ∷ []

abbrev pub misused : List Sample
misused =
    -- no primary file: the RUN card gets 12
    (sheet.File print_file ∷ [], on_card 99 12 ∷ [])
    ∷
    -- a second card file
    (sheet.File card_file ∷ sheet.File (plain_file name_x usage.Input (Some file.Secondary) device.CardReader) ∷ [], on_card 2 12 ∷ [])
    ∷
    -- two primary files: the RUN card gets 12
    (sheet.File card_file ∷ sheet.File (plain_file name_x usage.Input (Some file.Primary) device.Disk) ∷ [], on_card 99 12 ∷ [])
    ∷
    -- a second print file
    (sheet.File card_file ∷ sheet.File print_file ∷ sheet.File (plain_file name_x usage.Output None device.Printer) ∷ [], on_card 3 12 ∷ [])
    ∷
    -- A in 31 without I in 32
    (sheet.File card_file ∷ sheet.File (record (plain_file name_x usage.Input (Some file.Secondary) device.Disk) { is_keyed = true }) ∷ [], on_card 2 12 ∷ [])
    ∷
    -- C in 16 without R in 28
    (sheet.File card_file ∷ sheet.File (plain_file name_x usage.Input (Some file.Chained) device.Disk) ∷ [], on_card 2 12 ∷ [])
    ∷
    -- a file read in order and updated
    (sheet.File card_file ∷ sheet.File (plain_file name_x usage.Update (Some file.Secondary) device.Disk) ∷ [], [])
    ∷
    -- a record line of an output file
    (sheet.File card_file ∷ sheet.File print_file ∷ record_of name_p 1 ∷ [], on_card 3 12 ∷ [])
    ∷
    -- a record line of a direct load
    (sheet.File card_file ∷ sheet.File (record (plain_file name_d usage.Output (Some file.Chained) device.Disk) { is_random = true }) ∷ record_of name_d 1 ∷ [], [])
    ∷
    -- an output line for an input file
    (common ++ line_card (Some name_r) ∷ [], on_card 6 12 ∷ [])
    ∷
    -- ADD for a print file
    (common ++ sheet.Output (output.Line (record (output_card (Some name_p)) { is_addition = true })) ∷ [], on_card 6 12 ∷ [])
    ∷
    -- a line without ADD for a file with additions
    (sheet.File card_file ∷ sheet.File (record (plain_file name_d usage.Output None device.Disk) { has_additions = true }) ∷ line_card (Some name_d) ∷ [], on_card 3 12 ∷ [])
    ∷
    -- spacing for a disk file
    (sheet.File card_file ∷ sheet.File (plain_file name_d usage.Output None device.Disk) ∷ sheet.Output (output.Line (record (output_card (Some name_d)) { spacing = record no_spacing { space_after = Some 1 } })) ∷ [], on_card 3 12 ∷ [])
    ∷
    -- packed data on a card
    (common ++ field name_x 1 2 (form.Packed 0) ∷ [], on_card 6 12 ∷ [])
    ∷
    -- packed data on the print file
    (common ++ line_card (Some name_p) ∷ put_field name_a put.Packed 3 ∷ [], on_card 7 12 ∷ [])
    ∷ []
