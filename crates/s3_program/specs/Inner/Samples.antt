-- Worked examples: a program with every specification and operation, and invalid variants of it.
use Rattle.std.specs.Prelude.{ℕ, pos, ◌-◌, ◌++◌, Bool, true, false, List, [], ◌∷◌, length, replicate, slice_set, Option, Some, None}
use Rattle.s3_edit.specs.declared.code.EditCode.TheVariants.{Edited as EditedAmount, Date as DateCode, Suppressed}
use Rattle.s3_edit.specs.declared.code.Sign.TheVariants.{Minus}
use Rattle.s3_cards.specs.declared.name.Name.{Name}
use Rattle.s3_lines.specs.Reserved.{page, udate, umonth, uday, uyear}
use Rattle.s3_lines.specs.Inner.Blanks.{none_of_three, no_spacing}
use Rattle.s3_lines.specs.declared.indicator.Indicator.{Indicator}
use Rattle.s3_lines.specs.declared.indicator.Indicator.TheVariants.{General, Level, FirstPage, Overflow}
use Rattle.s3_lines.specs.declared.indicator.Condition.{Condition}
use Rattle.s3_lines.specs.declared.sheet.FileUse.{FileUse}
use Rattle.s3_lines.specs.declared.sheet.FileUse.TheVariants.{Input as InputUse, Output as OutputUse, Update as UpdateUse}
use Rattle.s3_lines.specs.declared.sheet.Designation.{Designation}
use Rattle.s3_lines.specs.declared.sheet.Designation.TheVariants.{Primary, Secondary, Chained}
use Rattle.s3_lines.specs.declared.sheet.Device.{Device}
use Rattle.s3_lines.specs.declared.sheet.Device.TheVariants.{CardReader, Printer, Disk}
use Rattle.s3_lines.specs.declared.sheet.FileLine.{FileLine}
use Rattle.s3_lines.specs.declared.sheet.CodePart.TheVariants.{Character}
use Rattle.s3_lines.specs.declared.sheet.RecordCode.{RecordCode}
use Rattle.s3_lines.specs.declared.sheet.FieldForm.{FieldForm}
use Rattle.s3_lines.specs.declared.sheet.FieldForm.TheVariants.{Alphanumeric as Characters, Zoned, Packed}
use Rattle.s3_lines.specs.declared.sheet.FieldLine.{FieldLine}
use Rattle.s3_lines.specs.declared.sheet.InputLine.{InputLine}
use Rattle.s3_lines.specs.declared.sheet.InputLine.TheVariants.{Record, And as AndCodes, Or as OrCodes, Field as InputField}
use Rattle.s3_lines.specs.declared.sheet.Shape.{Shape}
use Rattle.s3_lines.specs.declared.sheet.Shape.TheVariants.{Alphanumeric, Numeric}
use Rattle.s3_lines.specs.declared.sheet.Factor.{Factor}
use Rattle.s3_lines.specs.declared.sheet.Factor.TheVariants.{Named, Number, Text}
use Rattle.s3_lines.specs.declared.sheet.Operation.{Operation}
use Rattle.s3_lines.specs.declared.sheet.Operation.TheVariants as op
use Rattle.s3_lines.specs.declared.sheet.CalculationTime.{CalculationTime}
use Rattle.s3_lines.specs.declared.sheet.CalculationTime.TheVariants as time
use Rattle.s3_lines.specs.declared.sheet.CalculationLine.{CalculationLine}
use Rattle.s3_lines.specs.declared.sheet.OutputKind.{OutputKind}
use Rattle.s3_lines.specs.declared.sheet.OutputKind.TheVariants as kind
use Rattle.s3_lines.specs.declared.sheet.OutputForm.{OutputForm}
use Rattle.s3_lines.specs.declared.sheet.OutputForm.TheVariants.{Plain, Packed as PackedForm, Edited}
use Rattle.s3_lines.specs.declared.sheet.OutputContent.TheVariants.{Constant as ConstantContent, Field as FieldContent}
use Rattle.s3_lines.specs.declared.sheet.OutputLine.{OutputLine}
use Rattle.s3_lines.specs.declared.sheet.OutputLine.TheVariants.{Line as LineCard, And as AndCard, Or as OrCard, Field as FieldCard}
use Rattle.s3_program.specs.declared.program.Reference.{Reference}
use Rattle.s3_program.specs.declared.program.Reference.TheVariants as slot
use Rattle.s3_program.specs.declared.program.Defined.{Defined}
use Rattle.s3_program.specs.Inner.Valid.{Parts}

-- ---- entries
abbrev pub word : List ℕ → Name
word codes = record { codes = codes ++ replicate (8 - length codes) 0x40 }

abbrev pub one_condition : Indicator → List (Option Condition)
one_condition indicator = Some (record { negated = false; indicator = indicator }) ∷ None ∷ None ∷ []

abbrev pub general : ℕ → Option Indicator
general n = Some (General n)

abbrev pub field_slot : ℕ → Option (Factor Reference)
field_slot k = Some (Named (slot.Field k))

abbrev pub into : ℕ → Option Reference
into k = Some (slot.Field k)

abbrev pub two : Option (Factor Reference)
two = Some (Number (record { value = pos 2; digits = 1; decimals = 0 }))

abbrev pub text_ab : Option (Factor Reference)
text_ab = Some (Text (record { codes = 0xc1 ∷ 0xc2 ∷ 0x40 ∷ 0x40 ∷ 0x40 ∷ 0x40 ∷ 0x40 ∷ 0x40 ∷ []; length = 2 }))

-- ---- File Description specifications: CARDS, PRINT, MASTER with keys of 5, STOCK to update, NEW to load
abbrev pub file : List ℕ → FileUse → Option Designation → Device → ℕ → FileLine
file name usage designation device record_length = record {
  name = word name;
  usage = usage;
  designation = designation;
  ends_job = false;
  record_length = record_length;
  is_random = false;
  is_keyed = false;
  is_indexed = false;
  key = None;
  overflow = None;
  device = device;
  has_additions = false;
  condition = None;
}

abbrev pub files : List FileLine
files =
    file (0xc3 ∷ 0xc1 ∷ 0xd9 ∷ []) InputUse (Some Primary) CardReader 96
    ∷ record (file (0xd7 ∷ 0xd9 ∷ 0xe3 ∷ []) OutputUse None Printer 132) { overflow = Some (Overflow 1) }
    ∷ record (file (0xd4 ∷ 0xc1 ∷ 0xe2 ∷ []) InputUse (Some Chained) Disk 64) { is_random = true; is_keyed = true; is_indexed = true; key = Some (record { length = 5; start = 1 }) }
    ∷ file (0xe2 ∷ 0xe3 ∷ 0xd6 ∷ []) UpdateUse (Some Secondary) Disk 40
    ∷ file (0xd5 ∷ 0xc5 ∷ 0xe6 ∷ []) OutputUse None Disk 30
    ∷ []

-- ---- fields by slot: the reserved fields, then KEY, QTY, NAME, TOT, REM, TEXT
abbrev pub defined : {T : Type 0} → Name → T → Defined T
defined name meaning = record { name = name; meaning = meaning }

abbrev pub fields : List (Defined Shape)
fields =
    defined page (Numeric 4 0)
    ∷ defined udate (Numeric 6 0)
    ∷ defined umonth (Numeric 2 0)
    ∷ defined uday (Numeric 2 0)
    ∷ defined uyear (Numeric 2 0)
    ∷ defined (word (0xd2 ∷ [])) (Alphanumeric 5)
    ∷ defined (word (0xd8 ∷ [])) (Numeric 5 2)
    ∷ defined (word (0xd5 ∷ [])) (Alphanumeric 10)
    ∷ defined (word (0xe3 ∷ [])) (Numeric 7 2)
    ∷ defined (word (0xd9 ∷ [])) (Numeric 5 0)
    ∷ defined (word (0xe7 ∷ [])) (Alphanumeric 8)
    ∷ []

-- ---- Input specifications
abbrev pub code : ℕ → ℕ → List (Option RecordCode)
code position character = Some (record { position = position; negated = false; part = Character; character = character }) ∷ None ∷ None ∷ []

abbrev pub field : ℕ → ℕ → ℕ → FieldForm → FieldLine Reference
field k from to form = record {
  name = slot.Field k;
  from = from;
  to = to;
  form = form;
  control_level = None;
  match_level = None;
  relation = None;
  indicators = none_of_three;
}

abbrev pub inputs : List (InputLine Reference)
inputs =
    Record (slot.File 0) (General 1) (code 96 0xc1)
    ∷ AndCodes (code 95 0xc2)
    ∷ OrCodes (General 2) none_of_three
    ∷ InputField (record (field 5 1 5 Characters) { control_level = Some 1; match_level = Some 1 })
    ∷ InputField (record (field 6 6 10 (Zoned 2)) { relation = general 2; indicators = general 11 ∷ general 12 ∷ general 13 ∷ [] })
    ∷ Record (slot.File 2) (General 3) none_of_three
    ∷ InputField (field 7 6 15 Characters)
    ∷ Record (slot.File 3) (General 4) none_of_three
    ∷ InputField (record (field 5 1 5 Characters) { match_level = Some 1 })
    ∷ InputField (field 8 6 9 (Packed 2))
    ∷ []

-- ---- Calculation specifications
abbrev pub line : CalculationTime → Option (Factor Reference) → Operation → Option (Factor Reference) → Option Reference → CalculationLine Reference
line when first operation second result = record {
  time = when;
  conditions = none_of_three;
  factor1 = first;
  operation = Some operation;
  factor2 = second;
  result = result;
  definition = None;
  half_adjust = false;
  indicators = none_of_three;
}

abbrev pub marked : ℕ → CalculationLine Reference → CalculationLine Reference
marked n line = record line { indicators = general n ∷ None ∷ None ∷ [] }

abbrev pub detail : Option (Factor Reference) → Operation → Option (Factor Reference) → Option Reference → CalculationLine Reference
detail first operation second result = line time.Detail first operation second result

abbrev pub subroutine : Option (Factor Reference) → Operation → Option (Factor Reference) → CalculationLine Reference
subroutine first operation second = line time.Subroutine first operation second None

-- places 0 to 19
abbrev pub details : List (CalculationLine Reference)
details =
    record (marked 21 (detail (field_slot 6) op.Add (field_slot 8) (into 8))) { definition = Some (Numeric 7 2); half_adjust = true }
    ∷ detail (field_slot 8) op.Subtract two (into 8)
    ∷ detail (field_slot 6) op.Multiply two (into 8)
    ∷ detail (field_slot 8) op.Divide (field_slot 6) (into 8)
    ∷ record (detail None op.MoveRemainder None (into 9)) { definition = Some (Numeric 5 0) }
    ∷ detail None op.ZeroAdd (field_slot 6) (into 8)
    ∷ detail None op.ZeroSubtract two (into 8)
    ∷ record (detail None op.Add None None) { operation = None; conditions = one_condition (General 1) }
    ∷ record (marked 22 (line time.And (field_slot 6) op.Compare two None)) { conditions = one_condition (General 11) }
    ∷ marked 23 (detail (field_slot 5) op.Compare text_ab None)
    ∷ record (detail None op.Move (field_slot 5) (into 10)) { definition = Some (Alphanumeric 8) }
    ∷ detail None op.MoveLeft text_ab (into 10)
    ∷ marked 24 (detail None op.SetOn None None)
    ∷ record (detail None op.SetOff None None) { indicators = None ∷ Some (Overflow 1) ∷ None ∷ [] }
    ∷ marked 25 (detail (field_slot 5) op.Chain (Some (Named (slot.File 2))) None)
    ∷ detail (Some (Named (slot.Tag 0))) op.Tag None None
    ∷ detail None op.GoTo (Some (Named (slot.Tag 0))) None
    ∷ detail None op.ExecuteSubroutine (Some (Named (slot.Subroutine 0))) None
    ∷ detail None op.Except None None
    ∷ detail None op.ExecuteSubroutine (Some (Named (slot.Subroutine 1))) None
    ∷ []

-- places 20 to 27
abbrev pub totals : List (CalculationLine Reference)
totals =
    line (time.Total (Level 1)) None op.ZeroAdd two (into 9)
    ∷ subroutine (Some (Named (slot.Subroutine 0))) op.BeginSubroutine None
    ∷ subroutine None op.ExecuteSubroutine (Some (Named (slot.Subroutine 1)))
    ∷ subroutine None op.EndSubroutine None
    ∷ subroutine (Some (Named (slot.Subroutine 1))) op.BeginSubroutine None
    ∷ subroutine None op.GoTo (Some (Named (slot.Tag 1)))
    ∷ subroutine (Some (Named (slot.Tag 1))) op.Tag None
    ∷ subroutine None op.EndSubroutine None
    ∷ []

-- ---- Output specifications
abbrev pub card : Option ℕ → OutputKind → OutputLine Reference
card None kind = LineCard (record { file = None; kind = kind; is_addition = false; spacing = no_spacing; conditions = none_of_three })
card (Some k) kind = LineCard (record { file = Some (slot.File k); kind = kind; is_addition = false; spacing = no_spacing; conditions = none_of_three })

abbrev pub put : ℕ → OutputForm → Bool → ℕ → OutputLine Reference
put k form blank_after end = FieldCard (record {
  conditions = none_of_three;
  content = FieldContent (record { name = slot.Field k; form = form; blank_after = blank_after });
  «end» = end;
})

abbrev pub constant : ℕ → OutputLine Reference
constant end = FieldCard (record {
  conditions = one_condition (General 1);
  content = ConstantContent (record { codes = 0xc8 ∷ 0xc5 ∷ 0xc1 ∷ 0xc4 ∷ replicate 20 0x40; length = 4 });
  «end» = end;
})

abbrev pub outputs : List (OutputLine Reference)
outputs =
    LineCard (record {
      file = Some (slot.File 1);
      kind = kind.Heading;
      is_addition = false;
      spacing = record { space_before = None; space_after = Some 2; skip_before = Some 1; skip_after = None };
      conditions = one_condition FirstPage;
    })
    ∷ OrCard (one_condition (Overflow 1))
    ∷ AndCard (one_condition (General 1))
    ∷ constant 4
    ∷ put 0 (Edited Suppressed) false 20
    ∷ put 1 (Edited DateCode) false 40
    ∷ card None kind.Detail
    ∷ put 5 Plain false 5
    ∷ put 6 (Edited (EditedAmount (record { commas = true; zero_printed = true; sign = Minus }))) true 20
    ∷ card (Some 1) kind.Total
    ∷ put 8 Plain true 7
    ∷ card (Some 1) kind.Exception
    ∷ put 10 Plain false 8
    ∷ card (Some 3) kind.Detail
    ∷ put 8 PackedForm false 9
    ∷ card (Some 4) kind.Total
    ∷ put 7 Plain false 30
    ∷ []

-- ---- the whole program
abbrev pub whole : Parts
whole = record {
  files = files;
  fields = fields;
  tags = defined (word (0xe3 ∷ 0xf1 ∷ [])) (record { place = 15; section = 0 }) ∷ defined (word (0xe3 ∷ 0xf2 ∷ [])) (record { place = 26; section = 27 }) ∷ [];
  subroutines = defined (word (0xe2 ∷ 0xf1 ∷ [])) (record { place = 21 }) ∷ defined (word (0xe2 ∷ 0xf2 ∷ [])) (record { place = 24 }) ∷ [];
  inputs = inputs;
  calculations = details ++ totals;
  outputs = outputs;
}

-- ---- invalid programs
-- the program with another line in one place
abbrev pub with_input : ℕ → InputLine Reference → Parts
with_input k line = record whole { inputs = slice_set inputs k line }

abbrev pub with_calculation : ℕ → CalculationLine Reference → Parts
with_calculation k line = record whole { calculations = slice_set (details ++ totals) k line }

abbrev pub with_output : ℕ → OutputLine Reference → Parts
with_output k line = record whole { outputs = slice_set outputs k line }

abbrev pub with_tag : ℕ → ℕ → Parts
with_tag place section = record whole { tags = slice_set whole.tags 0 (defined (word (0xe3 ∷ 0xf1 ∷ [])) (record { place = place; section = section })) }

abbrev pub with_subroutine : ℕ → Parts
with_subroutine place = record whole { subroutines = slice_set whole.subroutines 1 (defined (word (0xe2 ∷ 0xf2 ∷ [])) (record { place = place })) }

-- programs with wrong slots
abbrev pub wrong_slots : List Parts
wrong_slots =
    -- a field's slot off by one
    with_input 3 (InputField (field 6 1 5 Characters))
    -- a slot after the end of the table
    ∷ with_output 7 (put 11 Plain false 5)
    -- a tag in place of a field
    ∷ with_calculation 5 (detail None op.ZeroAdd (field_slot 6) (Some (slot.Tag 0)))
    -- a record line of the print file
    ∷ with_input 5 (Record (slot.File 1) (General 3) none_of_three)
    ∷ []

-- programs with wrong tables
abbrev pub wrong_tables : List Parts
wrong_tables =
    -- a tag one line before its own
    with_tag 14 0
    -- a tag in another section
    ∷ with_tag 15 1
    -- a subroutine one line after its own
    ∷ with_subroutine 25
    -- a field with another shape than its line gives
    ∷ record whole { fields = slice_set fields 6 (defined (word (0xd8 ∷ [])) (Numeric 5 1)) }
    -- two fields of the same name
    ∷ record whole { fields = fields ++ defined (word (0xd8 ∷ [])) (Numeric 5 2) ∷ [] }
    -- UDATE before PAGE
    ∷ record whole { fields = slice_set (slice_set fields 0 (defined udate (Numeric 6 0))) 1 (defined page (Numeric 4 0)) }
    -- two primary files
    ∷ record whole { files = slice_set files 3 (file (0xe2 ∷ 0xe3 ∷ 0xd6 ∷ []) UpdateUse (Some Primary) Disk 40) }
    -- a file without a name
    ∷ record whole { files = slice_set files 4 (file [] OutputUse None Disk 30) }
    ∷ []

-- programs with wrong lines
abbrev pub wrong_lines : List Parts
wrong_lines =
    -- a text used as a number
    with_calculation 1 (detail (field_slot 5) op.Subtract two (into 8))
    -- a subroutine that calls itself
    ∷ with_calculation 22 (subroutine None op.ExecuteSubroutine (Some (Named (slot.Subroutine 0))))
    -- a GOTO to a tag of another section
    ∷ with_calculation 16 (detail None op.GoTo (Some (Named (slot.Tag 1))) None)
    -- an MVR after a DIV with half adjust
    ∷ with_calculation 3 (record (detail (field_slot 8) op.Divide (field_slot 6) (into 8)) { half_adjust = true })
    -- a detail line after a total line
    ∷ with_calculation 21 (detail None op.Except None None)
    -- a subroutine without its end
    ∷ with_calculation 23 (subroutine None op.Except None)
    -- an unknown operation
    ∷ with_calculation 18 (detail None op.Unknown None None)
    -- a CHAIN with a key that is too long
    ∷ with_calculation 14 (detail (field_slot 10) op.Chain (Some (Named (slot.File 2))) None)
    -- match fields that differ from the first type's
    ∷ with_input 8 (InputField (record (field 5 1 5 Characters) { match_level = Some 2 }))
    -- a position after the end of the record
    ∷ with_output 14 (put 8 PackedForm false 41)
    -- a packed field on the print file
    ∷ with_output 10 (put 8 PackedForm true 7)
    -- an edited number that would begin before position 1
    ∷ with_output 8 (put 6 (Edited (EditedAmount (record { commas = true; zero_printed = true; sign = Minus }))) true 6)
    -- a literal of more than 8 characters
    ∷ with_calculation 11 (detail None op.MoveLeft (Some (Text (record { codes = replicate 8 0xc1; length = 9 }))) (into 10))
    ∷ []
