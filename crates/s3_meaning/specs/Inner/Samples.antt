-- Two sources for worked examples, as typed lines: the card lister, and totals by a control field.
use Rattle.std.specs.Prelude.{ℕ, ◌-◌, ◌++◌, true, false, List, [], ◌∷◌, length, replicate, Option, Some, None}
use Rattle.s3_edit.specs.declared.code.EditCode.TheVariants.{Suppressed}
use Rattle.s3_cards.specs.declared.name.Name.{Name}
use Rattle.s3_lines.specs.declared.indicator.Indicator.TheVariants.{General, Level}
use Rattle.s3_lines.specs.declared.indicator.Condition.{Condition}
use Rattle.s3_lines.specs.declared.sheet.FileUse.TheVariants.{Input as InputUse, Output as OutputUse}
use Rattle.s3_lines.specs.declared.sheet.Designation.TheVariants.{Primary}
use Rattle.s3_lines.specs.declared.sheet.Device.TheVariants.{CardReader, Printer}
use Rattle.s3_lines.specs.declared.sheet.FieldForm.TheVariants.{Alphanumeric, Zoned}
use Rattle.s3_lines.specs.declared.sheet.InputLine.TheVariants.{Record, Field}
use Rattle.s3_lines.specs.declared.sheet.Factor.TheVariants.{Named}
use Rattle.s3_lines.specs.declared.sheet.Operation.TheVariants.{Add}
use Rattle.s3_lines.specs.declared.sheet.CalculationTime.TheVariants.{Detail as DetailTime}
use Rattle.s3_lines.specs.declared.sheet.Shape.TheVariants.{Numeric}
use Rattle.s3_lines.specs.declared.sheet.OutputKind.TheVariants.{Detail, Total}
use Rattle.s3_lines.specs.declared.sheet.OutputForm.TheVariants.{Plain, Edited}
use Rattle.s3_lines.specs.declared.sheet.OutputContent.TheVariants.{Field as FieldContent}
use Rattle.s3_lines.specs.declared.sheet.OutputLine.TheVariants.{Line as LineCard, Field as FieldCard}
use Rattle.s3_lines.specs.declared.sheet.SheetLine.{SheetLine}
use Rattle.s3_lines.specs.declared.sheet.SheetLine.TheVariants.{File, Input, Calculation, Output}
use Rattle.s3_lines.specs.declared.sheet.Line.{Line}
use Rattle.s3_lines.specs.Inner.Blanks.{none_of_three, no_spacing}

abbrev pub padded_to : ℕ → List ℕ → List ℕ
padded_to n codes = codes ++ replicate (n - length codes) 0x40

abbrev pub named : List ℕ → Name
named codes = record { codes = padded_to 8 codes }

abbrev pub line_at : ℕ → SheetLine → Line
line_at card sheet = record { card = card; sheet = sheet }

abbrev pub on_general : ℕ → List (Option Condition)
on_general n = Some (record { negated = false; indicator = General n }) ∷ None ∷ None ∷ []

abbrev pub on_level : ℕ → List (Option Condition)
on_level n = Some (record { negated = false; indicator = Level n }) ∷ None ∷ None ∷ []

-- the names CARDS, PRINT, TEXT, KEY, QTY and TOT
abbrev pub cards : Name
cards = named (0xc3 ∷ 0xc1 ∷ 0xd9 ∷ 0xc4 ∷ 0xe2 ∷ [])

abbrev pub print : Name
print = named (0xd7 ∷ 0xd9 ∷ 0xc9 ∷ 0xd5 ∷ 0xe3 ∷ [])

abbrev pub text : Name
text = named (0xe3 ∷ 0xc5 ∷ 0xe7 ∷ 0xe3 ∷ [])

abbrev pub key : Name
key = named (0xd2 ∷ 0xc5 ∷ 0xe8 ∷ [])

abbrev pub quantity : Name
quantity = named (0xd8 ∷ 0xe3 ∷ 0xe8 ∷ [])

abbrev pub total : Name
total = named (0xe3 ∷ 0xd6 ∷ 0xe3 ∷ [])

abbrev pub file_lines : List Line
file_lines =
    line_at 4 (File (record { name = cards; usage = InputUse; designation = Some Primary; ends_job = false; record_length = 96; is_random = false; is_keyed = false; is_indexed = false; key = None; overflow = None; device = CardReader; has_additions = false; condition = None }))
    ∷ line_at 5 (File (record { name = print; usage = OutputUse; designation = None; ends_job = false; record_length = 132; is_random = false; is_keyed = false; is_indexed = false; key = None; overflow = None; device = Printer; has_additions = false; condition = None }))
    ∷ []

-- `6:I 7:CARDS 15:AA 19:01`, `6:I 47:1 51:3 53:TEXT`, `6:O 7:PRINT 15:D 24:01`, `6:O 32:TEXT 43:3`
abbrev pub card_lister : List Line
card_lister =
    file_lines ++
    line_at 6 (Input (Record cards (General 1) none_of_three))
    ∷ line_at 7 (Input (Field (record { name = text; from = 1; to = 3; form = Alphanumeric; control_level = None; match_level = None; relation = None; indicators = none_of_three })))
    ∷ line_at 8 (Output (LineCard (record { file = Some print; kind = Detail; is_addition = false; spacing = no_spacing; conditions = on_general 1 })))
    ∷ line_at 9 (Output (FieldCard (record { conditions = none_of_three; content = FieldContent (record { name = text; form = Plain; blank_after = false }); end = 3 })))
    ∷ []

-- KEY is L1 in column 1, QTY columns 2 to 3. TOT ADD QTY gives TOT, 4 digits. A T line at L1 prints TOT with edit code Z and blank after,
-- To 4.
abbrev pub level_totals : List Line
level_totals =
    file_lines ++
    line_at 6 (Input (Record cards (General 1) none_of_three))
    ∷ line_at 7 (Input (Field (record { name = key; from = 1; to = 1; form = Alphanumeric; control_level = Some 1; match_level = None; relation = None; indicators = none_of_three })))
    ∷ line_at 8 (Input (Field (record { name = quantity; from = 2; to = 3; form = Zoned 0; control_level = None; match_level = None; relation = None; indicators = none_of_three })))
    ∷ line_at 9 (Calculation (record { time = DetailTime; conditions = none_of_three; factor1 = Some (Named total); operation = Some Add; factor2 = Some (Named quantity); result = Some total; definition = Some (Numeric 4 0); half_adjust = false; indicators = none_of_three }))
    ∷ line_at 10 (Output (LineCard (record { file = Some print; kind = Total; is_addition = false; spacing = no_spacing; conditions = on_level 1 })))
    ∷ line_at 11 (Output (FieldCard (record { conditions = none_of_three; content = FieldContent (record { name = total; form = Edited Suppressed; blank_after = true }); end = 4 })))
    ∷ []

abbrev pub card : List ℕ → List ℕ
card codes = padded_to 96 codes

abbrev pub print_line : List ℕ → List ℕ
print_line codes = padded_to 132 codes

-- the date 000000
abbrev pub no_date : List ℕ
no_date = replicate 6 0xf0
