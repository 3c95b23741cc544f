-- Small sources with the warnings that they have, taken from the rules by hand: what is warned of, and what is near it and isn't.
use Rattle.std.specs.Prelude.{◌≡◌, ℕ, pos, true, false, List, [], ◌∷◌, ◌++◌, Option, Some, None, map}
use Rattle.s3_cards.specs.declared.name.Name.{Name}
use Rattle.s3_lines.specs.declared.indicator.Condition.{Condition}
use Rattle.s3_lines.specs.declared.indicator.Indicator.{Indicator}
use Rattle.s3_lines.specs.declared.indicator.Indicator.TheVariants.{General, Level, LastRecord, Matching, Halt, FirstPage, Overflow, Switch}
use Rattle.s3_lines.specs.declared.sheet.CalculationTime.{CalculationTime}
use Rattle.s3_lines.specs.declared.sheet.CalculationTime.TheVariants.{Detail, Total}
use Rattle.s3_lines.specs.declared.sheet.Designation.TheVariants.{Secondary, Chained}
use Rattle.s3_lines.specs.declared.sheet.Device.TheVariants.{Disk}
use Rattle.s3_lines.specs.declared.sheet.Factor.{Factor}
use Rattle.s3_lines.specs.declared.sheet.Factor.TheVariants.{Number}
use Rattle.s3_lines.specs.declared.sheet.FieldForm.TheVariants.{Zoned}
use Rattle.s3_lines.specs.declared.sheet.FileUse.TheVariants as usage
use Rattle.s3_lines.specs.declared.sheet.InputLine.TheVariants.{Field as FieldOfRecord}
use Rattle.s3_lines.specs.declared.sheet.Operation.{Operation}
use Rattle.s3_lines.specs.declared.sheet.Operation.TheVariants as op
use Rattle.s3_lines.specs.declared.sheet.OutputContent.TheVariants as content
use Rattle.s3_lines.specs.declared.sheet.OutputForm.TheVariants.{Plain, Packed}
use Rattle.s3_lines.specs.declared.sheet.OutputLine.TheVariants as output
use Rattle.s3_lines.specs.declared.sheet.Shape.TheVariants.{Numeric}
use Rattle.s3_lines.specs.declared.sheet.SheetLine.{SheetLine}
use Rattle.s3_lines.specs.declared.sheet.SheetLine.TheVariants as sheet
use Rattle.s3_diagnose.specs.Inner.Samples.{cards_from, name_a, name_d, name_r, name_p, card_file, print_file, plain_file, chained_file, record_of, field, field_line, match_field, line, bare, c, named, marked, line_card, name_x, put_field}
use Rattle.s3_warnings.specs.declared.kinds.Warning.{Warning}
use Rattle.s3_warnings.specs.declared.kinds.WarningKind.TheVariants.{NeverSet, NeverTested, Contradiction, NeverRead, NeverWritten, ShortResult, Overlap}
use Rattle.s3_warnings.specs.Inner.Marking.{warning}
use Rattle.s3_warnings.specs.Inner.Warnings.{warnings}

-- ---- cards
abbrev pub Sample : Type 0
Sample = List SheetLine × List Warning

abbrev pub on : Indicator → Condition
on indicator = record { negated = false; indicator = indicator }

abbrev pub off : Indicator → Condition
off indicator = record { negated = true; indicator = indicator }

abbrev pub two : Condition → Condition → List (Option Condition)
two first second = Some first ∷ Some second ∷ None ∷ []

-- EXCPT under these conditions
abbrev pub if_on : CalculationTime → List (Option Condition) → SheetLine
if_on time conditions = c (record (bare time op.Except) { conditions = conditions })

abbrev pub tests : Condition → SheetLine
tests condition = if_on Detail (Some condition ∷ None ∷ None ∷ [])

-- an operation that has a resulting indicator
abbrev pub turns : Operation → Indicator → SheetLine
turns operation indicator = c (record (bare Detail operation) { indicators = marked indicator })

-- these lines from card 5 on, after the four cards of a program that reads, and before the line that it prints
abbrev pub around : List SheetLine → List SheetLine
around lines =
    sheet.File card_file ∷ sheet.File print_file ∷ record_of name_r 1 ∷ field name_a 1 3 (Zoned 0) ∷ lines ++ line_card (Some name_p) ∷ []

-- cards 1 and 2 are these files, card 3 describes the records of the first one
abbrev pub of_files : SheetLine → List SheetLine → List SheetLine
of_files file lines = sheet.File card_file ∷ file ∷ record_of name_r 1 ∷ lines

abbrev pub disk_update : SheetLine
disk_update = sheet.File (plain_file name_d usage.Update (Some Secondary) Disk)

abbrev pub direct_load : SheetLine
direct_load = sheet.File (record (plain_file name_d usage.Output (Some Chained) Disk) { is_random = true })

abbrev pub chain : SheetLine
chain = c (record (line Detail (named name_a) (Some op.Chain) (named name_d) None) { indicators = marked (General 20) })

-- ---- sources
abbrev pub indicators : List Sample
indicators =
    (around [], [])
    ∷
    -- a record type's, the cycle's and a job's switch
    (around (tests (on (General 1)) ∷ tests (off (Level 3)) ∷ tests (on LastRecord) ∷ tests (on FirstPage) ∷ tests (on (Switch 1)) ∷ []), [])
    ∷
    -- 50, which nothing turns on
    (around (tests (on (General 50)) ∷ []), warning NeverSet 5 9 11 ∷ [])
    ∷
    (around (tests (off (General 50)) ∷ []), warning NeverSet 5 9 11 ∷ [])
    ∷
    -- .. which SETON turns on, or SETOF alone turns off
    (around (tests (on (General 50)) ∷ turns op.SetOn (General 50) ∷ []), [])
    ∷
    (around (tests (on (General 50)) ∷ turns op.SetOff (General 50) ∷ []), warning NeverSet 5 9 11 ∷ [])
    ∷
    -- MR with and without match fields, OA of no file
    (around (tests (on Matching) ∷ []), warning NeverSet 5 9 11 ∷ [])
    ∷
    (around (match_field name_a 1 3 1 None ∷ tests (on Matching) ∷ []), [])
    ∷
    (around (tests (on (Overflow 1)) ∷ []), warning NeverSet 5 9 11 ∷ [])
    ∷
    -- 50, which nothing tests; the cycle asks for H1 and LR
    (around (turns op.SetOn (General 50) ∷ []), warning NeverTested 5 54 55 ∷ [])
    ∷
    (around (turns op.SetOff (Level 1) ∷ []), warning NeverTested 5 54 55 ∷ [])
    ∷
    (around (turns op.SetOn (Halt 1) ∷ turns op.SetOn LastRecord ∷ []), [])
    ∷
    -- the indicator of a field
    (around (sheet.Input (FieldOfRecord (record (field_line name_a 1 3 (Zoned 0)) { indicators = marked (General 50) })) ∷ []), warning NeverTested 5 65 66 ∷ [])
    ∷ []

abbrev pub contradictions : List Sample
contradictions =
    (around (if_on Detail (two (on (General 1)) (on (General 1))) ∷ []), [])
    ∷
    (around (if_on Detail (two (off (General 1)) (off (General 1))) ∷ []), [])
    ∷
    (around (if_on Detail (two (on (General 1)) (off (General 1))) ∷ []), warning Contradiction 5 9 11 ∷ warning Contradiction 5 12 14 ∷ [])
    ∷
    -- on a total line the level counts as well
    (around (if_on (Total (Level 1)) (two (on (Level 2)) (off (Level 1))) ∷ []), warning Contradiction 5 7 8 ∷ warning Contradiction 5 12 14 ∷ [])
    ∷
    -- on two cards
    (around (sheet.Output (output.And (two (on (General 1)) (off (Level 1)))) ∷ sheet.Output (output.And (two (off (General 1)) (on (Level 1)))) ∷ []), [])
    ∷ []

abbrev pub files : List Sample
files =
    -- the print file without lines
    (of_files (sheet.File print_file) [], warning NeverWritten 2 7 14 ∷ [])
    ∷
    (of_files (sheet.File print_file) (line_card (Some name_r) ∷ []), warning NeverWritten 2 7 14 ∷ [])
    ∷
    (of_files (sheet.File print_file) (line_card (Some name_p) ∷ line_card None ∷ []), [])
    ∷
    -- a file for update whose records nothing describes and changes
    (of_files disk_update [], warning NeverRead 2 7 14 ∷ warning NeverWritten 2 7 14 ∷ [])
    ∷
    (of_files disk_update (record_of name_d 2 ∷ line_card (Some name_d) ∷ []), [])
    ∷
    -- a chained file without a CHAIN, and without a description
    (of_files (sheet.File chained_file) (record_of name_d 2 ∷ []), warning NeverRead 2 7 14 ∷ [])
    ∷
    (of_files (sheet.File chained_file) (chain ∷ []), warning NeverRead 2 7 14 ∷ [])
    ∷
    (of_files (sheet.File chained_file) (record_of name_d 2 ∷ chain ∷ []), [])
    ∷
    -- a direct load makes its records by itself
    (of_files direct_load [], [])
    ∷ []

-- a field of a length, and what is put into it
abbrev pub into : Operation → ℕ → ℕ → Option (Factor Name) → Option (Factor Name) → SheetLine
into operation digits decimals factor1 factor2 =
    c (record (line Detail factor1 (Some operation) factor2 (Some name_x)) { definition = Some (Numeric digits decimals) })

abbrev pub digits : ℕ → ℕ → Option (Factor Name)
digits count decimals = Some (Number (record { value = pos 1; digits = count; decimals = decimals }))

-- A has 3 digits
abbrev pub results : List Sample
results =
    (around (into op.Add 3 0 (named name_a) (named name_a) ∷ []), [])
    ∷
    (around (into op.Add 2 0 (named name_a) (named name_x) ∷ []), warning ShortResult 5 43 48 ∷ [])
    ∷
    (around (into op.Subtract 2 0 (named name_x) (named name_a) ∷ []), warning ShortResult 5 43 48 ∷ [])
    ∷
    -- 4 digits, of which 2 are decimals
    (around (into op.ZeroAdd 4 2 None (named name_a) ∷ []), warning ShortResult 5 43 48 ∷ [])
    ∷
    (around (into op.ZeroSubtract 1 0 None (digits 2 0) ∷ []), warning ShortResult 5 43 48 ∷ [])
    ∷
    (around (into op.ZeroSubtract 1 0 None (digits 2 1) ∷ []), [])
    ∷
    -- of a product and of a MOVE nothing is said
    (around (into op.Multiply 1 0 (named name_a) (named name_a) ∷ into op.Move 1 0 None (named name_a) ∷ []), [])
    ∷ []

-- A, 3 positions up to an end
abbrev pub put : (end : ℕ) → SheetLine
put end = put_field name_a Plain end

abbrev pub put_under : List (Option Condition) → (end : ℕ) → SheetLine
put_under conditions end = sheet.Output (output.Field (record {
  conditions = conditions;
  content = content.Field (record { name = name_a; form = Plain; blank_after = false });
  «end» = end;
}))

abbrev pub put_if : Condition → (end : ℕ) → SheetLine
put_if condition end = put_under (Some condition ∷ None ∷ None ∷ []) end

-- the print file's line is card 5
abbrev pub printed : List SheetLine → List SheetLine
printed fields =
    sheet.File card_file ∷ sheet.File print_file ∷ record_of name_r 1 ∷ field name_a 1 3 (Zoned 0) ∷ line_card (Some name_p) ∷ fields

abbrev pub overlapping : List Sample
overlapping =
    (printed (put 3 ∷ put 6 ∷ put 9 ∷ []), [])
    ∷
    (printed (put 6 ∷ put 4 ∷ []), warning Overlap 7 40 43 ∷ [])
    ∷
    (printed (put 6 ∷ put 8 ∷ put 9 ∷ []), warning Overlap 7 40 43 ∷ warning Overlap 8 40 43 ∷ [])
    ∷
    -- packed it takes 2
    (printed (put 6 ∷ put_field name_a Packed 8 ∷ []), [])
    ∷
    -- one with a condition may cover one without, and isn't covered by it without a warning
    (printed (put 6 ∷ put_if (on (General 1)) 6 ∷ []), [])
    ∷
    (printed (put_if (on (General 1)) 6 ∷ put 6 ∷ []), warning Overlap 7 40 43 ∷ [])
    ∷
    -- under the same condition it covers it each time, under another one it may do so on purpose
    (printed (put_if (on (General 1)) 6 ∷ put_if (on (General 1)) 8 ∷ put_if (on (General 1)) 11 ∷ []), warning Overlap 7 40 43 ∷ [])
    ∷
    (printed (put_if (on (General 1)) 6 ∷ put_if (on (Switch 1)) 6 ∷ put_if (off (General 1)) 6 ∷ []), [])
    ∷
    (printed (put_if (on (General 1)) 6 ∷ put_if (off (General 1)) 6 ∷ put_if (on (General 1)) 6 ∷ []), warning Overlap 8 40 43 ∷ [])
    ∷
    -- the conditions in another order, fewer, and more
    (printed (put_under (two (on (General 1)) (off (Switch 1))) 6 ∷ put_under (two (off (Switch 1)) (on (General 1))) 6 ∷ []), warning Overlap 7 40 43 ∷ [])
    ∷
    (printed (put_under (two (on (General 1)) (off (Switch 1))) 6 ∷ put_if (off (Switch 1)) 6 ∷ []), warning Overlap 7 40 43 ∷ [])
    ∷
    (printed (put_if (off (Switch 1)) 6 ∷ put_under (two (on (General 1)) (off (Switch 1))) 6 ∷ []), [])
    ∷
    -- another line
    (printed (put 6 ∷ line_card None ∷ put 6 ∷ []), [])
    ∷ []

-- each source has the warnings beside it and no other
abbrev pub HaveTheirs : List Sample → Type 0
HaveTheirs samples = map (λ sample. warnings (cards_from 1 sample.0)) samples ≡ map (λ sample. sample.1) samples
