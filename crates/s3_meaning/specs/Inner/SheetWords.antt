-- Abbreviations for worked examples: specification lines, cards, records and printed lines, and the check of their requests.
use Rattle.std.specs.Prelude.{◌≡◌, ℕ, Bool, pos, true, false, List, [], ◌∷◌, length, map, Option, Some, None, codes}
use Rattle.s3_cards.specs.declared.name.Name.{Name}
use Rattle.s3_cards.specs.Codes.{ebcdic}
use Rattle.s3_lines.specs.Inner.Blanks.{none_of_three, no_spacing}
use Rattle.s3_lines.specs.declared.indicator.Indicator.{Indicator}
use Rattle.s3_lines.specs.declared.indicator.Indicator.TheVariants.{General, Overflow}
use Rattle.s3_lines.specs.declared.indicator.Condition.{Condition}
use Rattle.s3_lines.specs.declared.sheet.FileUse.{FileUse}
use Rattle.s3_lines.specs.declared.sheet.FileUse.TheVariants.{Input as InputUse, Output as OutputUse}
use Rattle.s3_lines.specs.declared.sheet.Designation.{Designation}
use Rattle.s3_lines.specs.declared.sheet.Designation.TheVariants.{Primary, Chained}
use Rattle.s3_lines.specs.declared.sheet.Device.{Device}
use Rattle.s3_lines.specs.declared.sheet.Device.TheVariants.{CardReader, Printer, Disk}
use Rattle.s3_lines.specs.declared.sheet.FileLine.{FileLine}
use Rattle.s3_lines.specs.declared.sheet.CodePart.TheVariants.{Character}
use Rattle.s3_lines.specs.declared.sheet.RecordCode.{RecordCode}
use Rattle.s3_lines.specs.declared.sheet.FieldForm.{FieldForm}
use Rattle.s3_lines.specs.declared.sheet.FieldLine.{FieldLine}
use Rattle.s3_lines.specs.declared.sheet.InputLine.TheVariants.{Record, Field as InputField}
use Rattle.s3_lines.specs.declared.sheet.Factor.{Factor}
use Rattle.s3_lines.specs.declared.sheet.Factor.TheVariants.{Named, Number}
use Rattle.s3_lines.specs.declared.sheet.Operation.{Operation}
use Rattle.s3_lines.specs.declared.sheet.Operation.TheVariants.{SetOn}
use Rattle.s3_lines.specs.declared.sheet.CalculationTime.{CalculationTime}
use Rattle.s3_lines.specs.declared.sheet.CalculationTime.TheVariants.{Detail as DetailTime}
use Rattle.s3_lines.specs.declared.sheet.Shape.{Shape}
use Rattle.s3_lines.specs.declared.sheet.Spacing.{Spacing}
use Rattle.s3_lines.specs.declared.sheet.OutputKind.{OutputKind}
use Rattle.s3_lines.specs.declared.sheet.OutputForm.{OutputForm}
use Rattle.s3_lines.specs.declared.sheet.OutputContent.TheVariants.{Constant as ConstantContent, Field as FieldContent}
use Rattle.s3_lines.specs.declared.sheet.OutputLine.TheVariants.{Line as LineCard, Field as FieldCard}
use Rattle.s3_lines.specs.declared.sheet.SheetLine.{SheetLine}
use Rattle.s3_lines.specs.declared.sheet.SheetLine.TheVariants.{File, Input, Calculation, Output}
use Rattle.s3_meaning.specs.Requests.{Request, Read, Print, Answer, Found}
use Rattle.s3_meaning.specs.Runs.{Run}
use Rattle.s3_meaning.specs.Source.{source_of}
use Rattle.s3_meaning.specs.Cycle.{Req}
use Rattle.s3_meaning.specs.Inner.Samples.{padded_to, named, line_at, cards}

-- ---- runs
-- the requests of a run: the first, and the one after each answer
unfoldable pub asked : Run → List Answer → List Request
asked run [] = run [] ∷ []
asked run (answer ∷ answers) = run [] ∷ asked (λ later. run (answer ∷ later)) answers

-- a source, its answers and its requests
pub record Corner : Type 0 where
  pub sheets : List SheetLine
  pub answers : List Answer
  pub requests : List Request

-- the date is 15 June 1976, and only U1 is on
abbrev pub requests_of : Corner → List Request
requests_of corner = asked (Req (source_of (map (line_at 0) corner.sheets)) 0x80 (ebcdic (codes "061576"))) corner.answers

-- each source makes exactly the expected requests
abbrev pub ComeOut : List Corner → Type 0
ComeOut corners = map requests_of corners ≡ map (λ corner. corner.requests) corners

-- ---- names and indicators
abbrev pub name : List ℕ → Name
name text = named (ebcdic text)

abbrev pub on : Indicator → List (Option Condition)
on indicator = Some (record { negated = false; indicator = indicator }) ∷ None ∷ None ∷ []

abbrev pub unless : Indicator → List (Option Condition)
unless indicator = Some (record { negated = true; indicator = indicator }) ∷ None ∷ None ∷ []

abbrev pub resulting : Option Indicator → Option Indicator → Option Indicator → List (Option Indicator)
resulting first second third = first ∷ second ∷ third ∷ []

-- three resulting indicators by number
abbrev pub three_from : ℕ → ℕ → ℕ → List (Option Indicator)
three_from first second third = resulting (Some (General first)) (Some (General second)) (Some (General third))

-- only the third indicator
abbrev pub third_alone : ℕ → List (Option Indicator)
third_alone third = resulting None None (Some (General third))

-- ---- files
abbrev pub file : List ℕ → FileUse → Option Designation → Device → (record_length : ℕ) → FileLine
file text usage designation device record_length = record {
  name = name text;
  usage = usage;
  designation = designation;
  ends_job = false;
  record_length = record_length;
  is_random = false;
  is_keyed = false;
  is_indexed = false;
  key = None;
  overflow = None;
  device = device;
  has_additions = false;
  condition = None;
}

abbrev pub card_file : SheetLine
card_file = File (file (codes "CARDS") InputUse (Some Primary) CardReader 96)

abbrev pub print_file : SheetLine
print_file = File (file (codes "PRINT") OutputUse None Printer 132)

-- a print file with the overflow indicator OA
abbrev pub overflow_file : SheetLine
overflow_file = File (record (file (codes "PRINT") OutputUse None Printer 132) { overflow = Some (Overflow 1) })

-- records on disk have 4 bytes
abbrev pub disk_file : List ℕ → Designation → (ends_job : Bool) → SheetLine
disk_file text designation ends_job = File (record (file text InputUse (Some designation) Disk 4) { ends_job = ends_job })

-- a file chained by record number
abbrev pub chained_file : List ℕ → FileUse → SheetLine
chained_file text usage = File (record (file text usage (Some Chained) Disk 4) { is_random = true })

-- the key is the first 2 bytes
abbrev pub keyed_file : List ℕ → FileUse → SheetLine
keyed_file text usage =
    File (record (file text usage (Some Chained) Disk 4) { is_random = true; is_keyed = true; is_indexed = true; key = Some (record { length = 2; start = 1 }) })

-- a file that the job loads, or adds to
abbrev pub load_file : List ℕ → (has_additions : Bool) → SheetLine
load_file text has_additions = File (record (file text OutputUse None Disk 4) { has_additions = has_additions })

abbrev pub keyed_load_file : List ℕ → (has_additions : Bool) → SheetLine
keyed_load_file text has_additions =
    File (record (file text OutputUse None Disk 4) { is_keyed = true; is_indexed = true; key = Some (record { length = 2; start = 1 }); has_additions = has_additions })

-- ---- records and their fields
-- all cards are of type 01
abbrev pub one_type : SheetLine
one_type = Input (Record cards (General 1) none_of_three)

-- a record type without codes
abbrev pub type_of_all : List ℕ → ℕ → SheetLine
type_of_all text indicator = Input (Record (name text) (General indicator) none_of_three)

-- a code that compares one character at a position
abbrev pub character_at : ℕ → ℕ → List (Option RecordCode)
character_at position character = Some (record { position = position; negated = false; part = Character; character = character }) ∷ None ∷ None ∷ []

-- a record type that one character in position 1 identifies
abbrev pub type_by : List ℕ → ℕ → ℕ → SheetLine
type_by text indicator character = Input (Record (name text) (General indicator) (character_at 1 character))

abbrev pub plain_field : ℕ → ℕ → FieldForm → List ℕ → FieldLine Name
plain_field from to form text = record {
  name = name text;
  from = from;
  to = to;
  form = form;
  control_level = None;
  match_level = None;
  relation = None;
  indicators = none_of_three;
}

abbrev pub field_at : ℕ → ℕ → FieldForm → List ℕ → SheetLine
field_at from to form text = Input (InputField (plain_field from to form text))

abbrev pub control_field_at : ℕ → ℕ → FieldForm → List ℕ → ℕ → SheetLine
control_field_at from to form text level = Input (InputField (record (plain_field from to form text) { control_level = Some level }))

abbrev pub match_field_at : ℕ → ℕ → FieldForm → List ℕ → ℕ → SheetLine
match_field_at from to form text level = Input (InputField (record (plain_field from to form text) { match_level = Some level }))

abbrev pub related_field_at : ℕ → ℕ → FieldForm → List ℕ → Indicator → SheetLine
related_field_at from to form text relation = Input (InputField (record (plain_field from to form text) { relation = Some relation }))

abbrev pub marked_field_at : ℕ → ℕ → FieldForm → List ℕ → List (Option Indicator) → SheetLine
marked_field_at from to form text indicators = Input (InputField (record (plain_field from to form text) { indicators = indicators }))

-- ---- calculations
abbrev pub calculation : CalculationTime → List (Option Condition) → Option (Factor Name) → Operation → Option (Factor Name) → Option (List ℕ) → Option Shape → List (Option Indicator) → SheetLine
calculation time conditions factor1 operation factor2 result definition indicators = Calculation (record {
  time = time;
  conditions = conditions;
  factor1 = factor1;
  operation = Some operation;
  factor2 = factor2;
  result = named_result result;
  definition = definition;
  half_adjust = false;
  indicators = indicators;
})
  where
    named_result : Option (List ℕ) → Option Name
    named_result None = None
    named_result (Some text) = Some (name text)

-- a line without an operation, which the next line of its group continues
abbrev pub conditions_alone : CalculationTime → List (Option Condition) → SheetLine
conditions_alone time conditions = Calculation (record {
  time = time;
  conditions = conditions;
  factor1 = None;
  operation = None;
  factor2 = None;
  result = None;
  definition = None;
  half_adjust = false;
  indicators = none_of_three;
})

abbrev pub digit : ℕ → Option (Factor Name)
digit n = Some (Number (record { value = pos n; digits = 1; decimals = 0 }))

abbrev pub field_named : List ℕ → Option (Factor Name)
field_named text = Some (Named (name text))

-- SETON in detail calculations
abbrev pub set_on : List (Option Condition) → Indicator → Option Indicator → SheetLine
set_on conditions first second = calculation DetailTime conditions None SetOn None None None (resulting (Some first) second None)

-- ---- output lines
abbrev pub line_of : List ℕ → OutputKind → (is_addition : Bool) → Spacing → List (Option Condition) → SheetLine
line_of text kind is_addition spacing conditions =
    Output (LineCard (record { file = Some (name text); kind = kind; is_addition = is_addition; spacing = spacing; conditions = conditions }))

abbrev pub line_spaced : OutputKind → Spacing → List (Option Condition) → SheetLine
line_spaced kind spacing conditions = line_of (codes "PRINT") kind false spacing conditions

abbrev pub line : OutputKind → List (Option Condition) → SheetLine
line kind conditions = line_spaced kind no_spacing conditions

-- a record that is updated or loaded, and a record that is added
abbrev pub disk_line : List ℕ → OutputKind → List (Option Condition) → SheetLine
disk_line text kind conditions = line_of text kind false no_spacing conditions

abbrev pub addition : List ℕ → OutputKind → List (Option Condition) → SheetLine
addition text kind conditions = line_of text kind true no_spacing conditions

abbrev pub constant_on : List (Option Condition) → ℕ → List ℕ → SheetLine
constant_on conditions end text = Output (FieldCard (record {
  conditions = conditions;
  content = ConstantContent (record { codes = padded_to 24 (ebcdic text); length = length text });
  end = end;
}))

abbrev pub constant : ℕ → List ℕ → SheetLine
constant end text = constant_on none_of_three end text

abbrev pub value_of : (blank_after : Bool) → ℕ → List ℕ → OutputForm → SheetLine
value_of blank_after end text form = Output (FieldCard (record {
  conditions = none_of_three;
  content = FieldContent (record { name = name text; form = form; blank_after = blank_after });
  end = end;
}))

abbrev pub value : ℕ → List ℕ → OutputForm → SheetLine
value end text form = value_of false end text form

abbrev pub value_cleared : ℕ → List ℕ → OutputForm → SheetLine
value_cleared end text form = value_of true end text form

abbrev pub skip_to : ℕ → Option ℕ → Spacing
skip_to skip space = record { space_before = None; space_after = space; skip_before = Some skip; skip_after = None }

-- ---- answers and requests
abbrev pub card_of : List ℕ → Answer
card_of text = Found (padded_to 96 (ebcdic text))

abbrev pub record_of : List ℕ → Answer
record_of text = Found (padded_to 4 (ebcdic text))

abbrev pub read_from : List ℕ → Request
read_from text = Read (name text) 4

abbrev pub printed_at : ℕ → ℕ → List ℕ → Request
printed_at page line text = Print page line (padded_to 132 (ebcdic text))
