-- Small sources with the cards that get a number, worked by hand, for the conditions on whole sources.
use Rattle.std.specs.Prelude.{◌≡◌, ℕ, ◌+◌, Bool, List, [], ◌∷◌, Some, None, map}
use Rattle.s3_cards.specs.declared.name.Name.{Name}
use Rattle.s3_lines.specs.Inner.Blanks.{none_of_three}
use Rattle.s3_lines.specs.declared.indicator.Indicator.TheVariants.{General, Level}
use Rattle.s3_lines.specs.declared.sheet.FieldForm.{FieldForm}
use Rattle.s3_lines.specs.declared.sheet.FieldForm.TheVariants as form
use Rattle.s3_lines.specs.declared.sheet.InputLine.TheVariants as input
use Rattle.s3_lines.specs.declared.sheet.Operation.TheVariants as op
use Rattle.s3_lines.specs.declared.sheet.CalculationTime.{CalculationTime}
use Rattle.s3_lines.specs.declared.sheet.CalculationTime.TheVariants as time
use Rattle.s3_lines.specs.declared.sheet.OutputForm.TheVariants as put
use Rattle.s3_lines.specs.declared.sheet.OutputLine.TheVariants as output
use Rattle.s3_lines.specs.declared.sheet.SheetLine.{SheetLine}
use Rattle.s3_lines.specs.declared.sheet.SheetLine.TheVariants as sheet
use Rattle.s3_lines.specs.declared.sheet.Line.{Line}
use Rattle.s3_diagnose.specs.Diagnostics.{diagnostic_of}
use Rattle.s3_diagnose.specs.Inner.Samples.{cards_from, name_a, name_x, name_y, name_r, name_p, record_of, or_record, field, line, c, bare, first, second, set_on, divide, remainder, line_card, and_card, put_field, card_file, chained_file, name_d, field_line, match_field, control_field, strayed, mismatched}
use Rattle.s3_diagnose.specs.Inner.Whole.{Spot, on_those}
use Rattle.s3_diagnose.specs.Inner.Mismatched.{is_mismatched_in}
use Rattle.s3_diagnose.specs.Inner.Misplaced.{has_no_place}
use Rattle.s3_diagnose.specs.Inner.Strayed.{strays_in}

-- ---- lines
abbrev pub and_record : SheetLine
and_record = sheet.Input (input.And none_of_three)

abbrev pub or_card : SheetLine
or_card = sheet.Output (output.Or none_of_three)

abbrev pub number_field : SheetLine
number_field = field name_a 1 3 (form.Zoned 0)

abbrev pub put_number : SheetLine
put_number = put_field name_a put.Plain 3

-- lines with a level entry: without operation, with one, BEGSR, ENDSR, DIV and MVR
abbrev pub conditions : CalculationTime → SheetLine
conditions time = c (line time None None None None)

abbrev pub acts : CalculationTime → SheetLine
acts time = c (set_on time)

abbrev pub total : CalculationTime
total = time.Total (Level 1)

abbrev pub begin : SheetLine
begin = c (first time.Subroutine name_x op.BeginSubroutine)

abbrev pub finish : SheetLine
finish = c (bare time.Subroutine op.EndSubroutine)

abbrev pub divides : CalculationTime → SheetLine
divides time = c (record divide { time = time })

abbrev pub remains : CalculationTime → SheetLine
remains time = c (remainder time)

-- ---- 9: sources with cards numbered from 1, with the cards of the misplaced lines
abbrev pub displaced : List (List SheetLine × List ℕ)
displaced =
    -- AND and OR lines continue a record line, also through other AND and OR lines, but not through a field line
    (record_of name_r 1 ∷ and_record ∷ or_record 2 ∷ number_field ∷ and_record ∷ or_record 3 ∷ number_field ∷ record_of name_r 4 ∷ or_record 5 ∷ [], 5 ∷ 6 ∷ [])
    ∷
    -- AND, OR and field lines without a record line before them
    (and_record ∷ or_record 1 ∷ number_field ∷ record_of name_r 2 ∷ number_field ∷ [], 1 ∷ 2 ∷ 3 ∷ [])
    ∷
    -- AND and OR cards continue a line card, also through other AND and OR cards, but not through a field card
    (line_card (Some name_p) ∷ and_card ∷ or_card ∷ put_number ∷ and_card ∷ put_number ∷ [], 5 ∷ [])
    ∷
    (put_number ∷ and_card ∷ line_card (Some name_p) ∷ put_number ∷ [], 1 ∷ 2 ∷ [])
    ∷
    -- detail, total, detail, then a subroutine with a total and a detail line in it
    (acts time.Detail ∷ acts total ∷ acts time.Detail ∷ begin ∷ acts total ∷ acts time.Detail ∷ finish ∷ [], 3 ∷ 5 ∷ 6 ∷ [])
    ∷
    -- a group of three lines, and an AN line after its operation
    (conditions time.Detail ∷ conditions time.And ∷ acts time.Or ∷ acts time.And ∷ [], 4 ∷ [])
    ∷
    -- a group left open at the end of the Calculation specifications
    (conditions total ∷ conditions time.And ∷ [], 2 ∷ [])
    ∷
    -- BEGSR and ENDSR at the ends of groups, and a line after them
    (conditions time.Subroutine ∷ c (first time.And name_x op.BeginSubroutine) ∷ acts time.Subroutine ∷ conditions time.Subroutine ∷ c (bare time.And op.EndSubroutine) ∷ acts time.Subroutine ∷ [], 6 ∷ [])
    ∷
    -- a BEGSR in a group without a first line begins no subroutine
    (c (first time.And name_x op.BeginSubroutine) ∷ acts time.Subroutine ∷ finish ∷ [], 1 ∷ 2 ∷ 3 ∷ [])
    ∷
    -- BEGSR after BEGSR: the first has no ENDSR, and the line between is in its subroutine
    (begin ∷ acts time.Subroutine ∷ begin ∷ finish ∷ [], 1 ∷ [])
    ∷
    -- an ENDSR on a detail line doesn't end the subroutine
    (begin ∷ c (bare time.Detail op.EndSubroutine) ∷ acts time.Subroutine ∷ finish ∷ [], 2 ∷ [])
    ∷
    -- MVR directly after its DIV, and MVR after an MVR
    (divides total ∷ remains total ∷ remains total ∷ [], 3 ∷ [])
    ∷
    -- MVR at the end of a group of its own, and MVR after a line that it doesn't continue
    (divides time.Detail ∷ conditions time.Detail ∷ conditions time.And ∷ remains time.Or ∷ divides time.Detail ∷ conditions time.Detail ∷ remains time.Detail ∷ [], 7 ∷ [])
    ∷
    -- MVR at the end of a group without a first line
    (divides time.Detail ∷ conditions time.And ∷ remains time.And ∷ [], 2 ∷ 3 ∷ [])
    ∷
    -- DIV in detail, MVR in total; DIV and MVR in a subroutine
    (divides time.Detail ∷ remains total ∷ begin ∷ divides time.Subroutine ∷ remains time.Subroutine ∷ finish ∷ [], 2 ∷ [])
    ∷
    -- DIV in one subroutine, MVR in another
    (begin ∷ divides time.Subroutine ∷ finish ∷ begin ∷ remains time.Subroutine ∷ finish ∷ [], 5 ∷ [])
    ∷
    -- an unknown operation never gets 9; on a total line it puts the next detail line out of order
    (c (bare time.And op.Unknown) ∷ c (bare total op.Unknown) ∷ acts time.Detail ∷ [], 3 ∷ [])
    ∷
    -- AND and OR lines after an AND line that follows a field line
    (record_of name_r 1 ∷ number_field ∷ and_record ∷ and_record ∷ or_record 2 ∷ record_of name_r 3 ∷ and_record ∷ [], 3 ∷ 4 ∷ 5 ∷ [])
    ∷
    -- each card of a group without a first line
    (acts time.Detail ∷ conditions time.And ∷ acts time.Or ∷ acts time.Detail ∷ [], 2 ∷ 3 ∷ [])
    ∷
    -- a group out of order gets 9 on its first card only
    (acts total ∷ conditions time.Detail ∷ acts time.And ∷ acts total ∷ [], 2 ∷ [])
    ∷
    -- MVR after a line that isn't a DIV
    (divides time.Detail ∷ acts time.Detail ∷ remains time.Detail ∷ [], 3 ∷ [])
    ∷ []

-- the condition holds for exactly these cards of each source
abbrev pub HoldOnTheirs : ℕ → (List Line → Spot → Bool) → List (List SheetLine × List ℕ) → Type 0
HoldOnTheirs number holds samples =
    map (λ sample. on_those number (holds (cards_from 1 sample.0)) (cards_from 1 sample.0)) samples
    ≡ map (λ sample. map (λ card. diagnostic_of card number) sample.1) samples

abbrev pub LinesWithoutPlaceAreAsWorked : Type 0
LinesWithoutPlaceAreAsWorked = HoldOnTheirs 9 (λ lines. has_no_place) displaced

-- ---- 10
abbrev pub jumps : CalculationTime → SheetLine
jumps time = c (second time op.GoTo name_a)

abbrev pub tags : CalculationTime → SheetLine
tags time = c (first time name_a op.Tag)

abbrev pub calls : CalculationTime → Name → SheetLine
calls time name = c (second time op.ExecuteSubroutine name)

abbrev pub begins : Name → SheetLine
begins name = c (first time.Subroutine name op.BeginSubroutine)

abbrev pub straying : List (List SheetLine × List ℕ)
straying =
    -- a tag before and after the GOTO
    (jumps time.Detail ∷ tags time.Detail ∷ jumps time.Detail ∷ [], [])
    ∷
    -- a tag at the end of a total group
    (jumps time.Detail ∷ conditions total ∷ tags time.And ∷ jumps total ∷ [], 1 ∷ [])
    ∷
    -- the first tag of a name counts
    (tags time.Detail ∷ jumps total ∷ tags total ∷ [], 2 ∷ [])
    ∷
    -- a group without a first line is in the section before it
    (jumps total ∷ tags time.And ∷ [], [])
    ∷
    -- GOTO within a subroutine, then out of one and into one
    (begins name_x ∷ jumps time.Subroutine ∷ tags time.Subroutine ∷ finish ∷ begins name_y ∷ jumps time.Subroutine ∷ finish ∷ [], 6 ∷ [])
    ∷
    (begins name_x ∷ jumps time.Subroutine ∷ finish ∷ tags time.Subroutine ∷ [], 2 ∷ [])
    ∷
    (jumps time.Detail ∷ begins name_x ∷ tags time.Subroutine ∷ finish ∷ [], 1 ∷ [])
    ∷
    -- SR lines outside subroutines are one section
    (jumps time.Subroutine ∷ begins name_x ∷ finish ∷ tags time.Subroutine ∷ [], [])
    ∷
    -- a missing tag gets 5 instead
    (jumps time.Detail ∷ [], [])
    ∷
    -- a cycle of three subroutines, with calls into it and out of it
    (calls time.Detail name_x ∷ begins name_x ∷ calls time.Subroutine name_y ∷ finish ∷ begins name_y ∷ calls time.Subroutine name_a ∷ finish ∷ begins name_a ∷ calls time.Subroutine name_x ∷ calls time.Subroutine name_r ∷ finish ∷ begins name_r ∷ finish ∷ [], 3 ∷ 6 ∷ 9 ∷ [])
    ∷
    -- a second subroutine of the same name calls the first
    (begins name_x ∷ finish ∷ begins name_x ∷ calls time.Subroutine name_x ∷ finish ∷ [], [])
    ∷
    -- a call after ENDSR is outside subroutines
    (begins name_x ∷ finish ∷ calls time.Subroutine name_x ∷ [], [])
    ∷
    -- an EXSR on a detail line starts no cycle; nor does a call of an earlier subroutine
    (calls time.Detail name_x ∷ begins name_x ∷ finish ∷ begins name_y ∷ calls time.Subroutine name_x ∷ finish ∷ [], [])
    ∷
    -- a subroutine that calls itself
    (calls time.Detail name_x ∷ begins name_x ∷ calls time.Subroutine name_x ∷ finish ∷ [], 3 ∷ [])
    ∷
    -- GOTO from total to a tag in detail, also after a detail line out of order, which gets no 10
    (tags time.Detail ∷ jumps total ∷ jumps time.Detail ∷ jumps total ∷ [], 2 ∷ 4 ∷ [])
    ∷ []

abbrev pub LinesThatStrayAreAsWorked : Type 0
LinesThatStrayAreAsWorked =
    HoldOnTheirs 10 strays_in straying
    × (map (λ sample. on_those 10 (strays_in (cards_from 1 sample.0)) (cards_from 1 sample.0)) strayed ≡ map (λ sample. sample.1) strayed)

-- ---- 11
-- a field of two positions with M1
abbrev pub key_of : Name → ℕ → FieldForm → SheetLine
key_of name from form = sheet.Input (input.Field (record (field_line name from (from + 1) form) { match_level = Some 1 }))

-- a field with L1 and M1
abbrev pub both_levels : Name → ℕ → SheetLine
both_levels name from =
    sheet.Input (input.Field (record (field_line name from (from + 1) form.Alphanumeric) { control_level = Some 1; match_level = Some 1 }))

-- a field with M1 in one type only
abbrev pub match_of : (indicator : ℕ) → Name → ℕ → SheetLine
match_of indicator name from = match_field name from (from + 1) 1 (Some (General indicator))

abbrev pub disagreeing : List (List SheetLine × List ℕ)
disagreeing =
    -- M1 once in each of two groups
    (sheet.File card_file ∷ record_of name_r 1 ∷ match_field name_x 1 2 1 None ∷ record_of name_r 2 ∷ match_field name_y 3 4 1 None ∷ [], [])
    ∷
    -- a match field in one of two types: the other type has another set
    (sheet.File card_file ∷ record_of name_r 1 ∷ or_record 2 ∷ match_field name_x 1 2 1 None ∷ match_field name_y 3 4 2 (Some (General 2)) ∷ [], 3 ∷ [])
    ∷
    -- a relation to an indicator that isn't in the group: the field counts in no type
    (sheet.File card_file ∷ record_of name_r 1 ∷ match_field name_x 1 2 1 None ∷ match_field name_y 3 4 1 (Some (General 5)) ∷ [], [])
    ∷
    -- M1 in one type, then in all
    (sheet.File card_file ∷ record_of name_r 1 ∷ or_record 2 ∷ match_field name_x 1 2 1 (Some (General 1)) ∷ match_field name_y 3 4 1 None ∷ [], 5 ∷ [])
    ∷
    -- M1 in all types twice, after an AND line
    (sheet.File card_file ∷ record_of name_r 1 ∷ and_record ∷ match_field name_x 1 2 1 None ∷ match_field name_y 3 4 1 None ∷ [], 5 ∷ [])
    ∷
    -- a number and a text of the same length
    (sheet.File card_file ∷ record_of name_r 1 ∷ match_field name_x 1 2 1 None ∷ record_of name_r 2 ∷ key_of name_y 3 (form.Zoned 0) ∷ [], 5 ∷ [])
    ∷
    -- L1 and M1 are different levels
    (sheet.File card_file ∷ record_of name_r 1 ∷ control_field name_x 1 2 1 ∷ match_field name_y 3 5 1 None ∷ [], [])
    ∷
    -- an OR line after a field line is no type
    (sheet.File card_file ∷ record_of name_r 1 ∷ match_field name_x 1 2 1 None ∷ or_record 2 ∷ match_field name_y 3 4 1 (Some (General 2)) ∷ [], [])
    ∷
    -- both levels on a chained file, and a field of another file after them
    (sheet.File card_file ∷ sheet.File chained_file ∷ record_of name_d 1 ∷ or_record 2 ∷ match_field name_x 1 2 1 None ∷ control_field name_y 3 4 1 ∷ record_of name_r 3 ∷ match_field name_a 5 6 1 None ∷ [], 5 ∷ 6 ∷ [])
    ∷
    -- the first type with match fields gives the set
    (sheet.File card_file ∷ record_of name_r 1 ∷ number_field ∷ record_of name_r 2 ∷ match_field name_x 1 2 1 None ∷ record_of name_r 3 ∷ match_field name_y 3 4 1 None ∷ match_field name_p 5 6 2 None ∷ [], 6 ∷ [])
    ∷
    -- a field without a record line gives its level a length, but is in no type
    (sheet.File card_file ∷ match_field name_x 1 2 1 None ∷ record_of name_r 1 ∷ match_field name_y 3 5 1 None ∷ match_field name_p 6 7 2 None ∷ [], 4 ∷ [])
    ∷
    -- M1 twice in one of two types
    (sheet.File card_file ∷ record_of name_r 1 ∷ or_record 2 ∷ match_of 1 name_x 1 ∷ match_of 1 name_y 3 ∷ [], 5 ∷ [])
    ∷
    -- M1 once in each of two types, then in all
    (sheet.File card_file ∷ record_of name_r 1 ∷ or_record 2 ∷ match_of 2 name_x 1 ∷ match_of 1 name_y 3 ∷ match_field name_a 5 6 1 None ∷ [], 6 ∷ [])
    ∷
    -- two groups with the same indicator
    (sheet.File card_file ∷ record_of name_r 1 ∷ match_of 1 name_x 1 ∷ record_of name_r 1 ∷ match_of 1 name_y 3 ∷ [], [])
    ∷
    -- a relation to an indicator of another group: the field counts in no type
    (sheet.File card_file ∷ record_of name_r 1 ∷ match_field name_x 1 2 1 None ∷ record_of name_r 2 ∷ match_field name_y 3 4 2 (Some (General 1)) ∷ [], [])
    ∷
    -- the first type with match fields comes from an OR line
    (sheet.File card_file ∷ record_of name_r 1 ∷ or_record 2 ∷ match_of 2 name_x 1 ∷ record_of name_r 3 ∷ match_field name_y 3 4 2 None ∷ [], 5 ∷ [])
    ∷
    -- an OR line after an AND line is a type, with another set here
    (sheet.File card_file ∷ record_of name_r 1 ∷ and_record ∷ or_record 2 ∷ match_field name_x 1 2 1 None ∷ match_field name_y 3 4 2 (Some (General 2)) ∷ [], 4 ∷ [])
    ∷
    -- decimals don't matter
    (sheet.File card_file ∷ record_of name_r 1 ∷ key_of name_x 1 (form.Packed 0) ∷ record_of name_r 2 ∷ key_of name_y 3 (form.Packed 2) ∷ [], [])
    ∷
    -- a key of two digits and a key of three
    (sheet.File card_file ∷ record_of name_r 1 ∷ key_of name_x 1 (form.Zoned 0) ∷ record_of name_r 2 ∷ key_of name_y 3 (form.Packed 0) ∷ [], 5 ∷ [])
    ∷
    -- the first field gives the length, not the previous one
    (sheet.File card_file ∷ record_of name_r 1 ∷ match_field name_x 1 2 1 None ∷ record_of name_r 2 ∷ match_field name_y 3 5 1 None ∷ record_of name_r 3 ∷ match_field name_a 6 7 1 None ∷ [], 5 ∷ [])
    ∷
    -- a field with two levels, the second of which is repeated
    (sheet.File card_file ∷ record_of name_r 1 ∷ both_levels name_x 1 ∷ match_field name_y 3 4 1 None ∷ [], 4 ∷ [])
    ∷ []

abbrev pub MismatchedLinesAreAsWorked : Type 0
MismatchedLinesAreAsWorked =
    HoldOnTheirs 11 is_mismatched_in disagreeing
    × (map (λ sample. on_those 11 (is_mismatched_in (cards_from 1 sample.0)) (cards_from 1 sample.0)) mismatched ≡ map (λ sample. sample.1) mismatched)
