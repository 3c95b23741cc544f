-- Worked examples: control levels, the first step, and the end of a job.
use Rattle.std.specs.Prelude.{false, List, [], ◌∷◌, Some, None, codes}
use Rattle.s3_lines.specs.Inner.Blanks.{none_of_three}
use Rattle.s3_lines.specs.declared.indicator.Indicator.TheVariants.{General, Level, LastRecord, FirstPage}
use Rattle.s3_lines.specs.declared.sheet.FieldForm.TheVariants.{Alphanumeric, Zoned}
use Rattle.s3_lines.specs.declared.sheet.InputLine.TheVariants.{Or as InputOr, Field as InputField}
use Rattle.s3_lines.specs.declared.sheet.SheetLine.TheVariants.{Input}
use Rattle.s3_lines.specs.declared.sheet.Operation.TheVariants.{Add, ZeroAdd, SetOn, SetOff}
use Rattle.s3_lines.specs.declared.sheet.CalculationTime.TheVariants.{Detail as DetailTime, Total as TotalTime}
use Rattle.s3_lines.specs.declared.sheet.Shape.TheVariants.{Numeric}
use Rattle.s3_lines.specs.declared.sheet.OutputKind.TheVariants.{Heading, Detail, Total}
use Rattle.s3_lines.specs.declared.sheet.OutputForm.TheVariants.{Plain}
use Rattle.s3_meaning.specs.Requests.{Card, End, Nothing, Done}
use Rattle.s3_meaning.specs.Inner.SheetWords.{Corner, on, unless, resulting, card_file, print_file, one_type, type_by, plain_field, field_at, control_field_at, calculation, digit, field_named, set_on, line, constant, value, card_of, printed_at}

-- ---- control levels
-- A break sets its level and all lower levels; T lines print in the order of their cards. The first record breaks at its highest level, but
-- total time is skipped. LR sets L1 to L9.
abbrev pub two_levels : Corner
two_levels = record {
  sheets =
      card_file ∷ print_file ∷ one_type
      ∷ control_field_at 1 1 Alphanumeric (codes "A") 1 ∷ control_field_at 2 2 Alphanumeric (codes "B") 2
      ∷ line Total (on (Level 3)) ∷ constant 5 (codes "THREE")
      ∷ line Total (on (Level 1)) ∷ constant 3 (codes "ONE")
      ∷ line Total (on (Level 2)) ∷ constant 3 (codes "TWO") ∷ [];
  answers = card_of (codes "XP") ∷ card_of (codes "YP") ∷ Done ∷ card_of (codes "YQ") ∷ Done ∷ Done ∷ Nothing ∷ Done ∷ Done ∷ Done ∷ [];
  requests =
      Card ∷ Card ∷ printed_at 1 1 (codes "ONE")
      ∷ Card ∷ printed_at 1 2 (codes "ONE") ∷ printed_at 1 3 (codes "TWO")
      ∷ Card ∷ printed_at 1 4 (codes "THREE") ∷ printed_at 1 5 (codes "ONE") ∷ printed_at 1 6 (codes "TWO") ∷ End false ∷ [];
}

-- total calculations run if their level is on, L0 always: T sums the groups of A, and of A and B; C counts
abbrev pub totals_by_level : Corner
totals_by_level = record {
  sheets =
      card_file ∷ print_file ∷ one_type
      ∷ control_field_at 1 1 Alphanumeric (codes "K") 1 ∷ field_at 2 2 (Zoned 0) (codes "N")
      ∷ calculation DetailTime none_of_three (field_named (codes "S")) Add (field_named (codes "N")) (Some (codes "S")) (Some (Numeric 2 0)) none_of_three
      ∷ calculation (TotalTime (Level 1)) none_of_three (field_named (codes "T")) Add (field_named (codes "S")) (Some (codes "T")) (Some (Numeric 2 0)) none_of_three
      ∷ calculation (TotalTime (Level 1)) none_of_three None ZeroAdd (digit 0) (Some (codes "S")) None none_of_three
      ∷ calculation (TotalTime (Level 0)) none_of_three (field_named (codes "C")) Add (digit 1) (Some (codes "C")) (Some (Numeric 2 0)) none_of_three
      ∷ line Total (on (Level 1)) ∷ value 2 (codes "T") Plain ∷ value 4 (codes "C") Plain ∷ [];
  answers = card_of (codes "A1") ∷ card_of (codes "A2") ∷ card_of (codes "B5") ∷ Done ∷ Nothing ∷ Done ∷ [];
  requests = Card ∷ Card ∷ Card ∷ printed_at 1 1 (codes "0302") ∷ Card ∷ printed_at 1 2 (codes "0803") ∷ End false ∷ [];
}

-- In a program with control fields, total time is skipped until an earlier cycle has processed a record with control fields.
-- Cards with * have none.
abbrev pub totals_passed_over : Corner
totals_passed_over = record {
  sheets =
      card_file ∷ print_file
      ∷ type_by (codes "CARDS") 2 0x5c
      ∷ one_type ∷ control_field_at 1 1 Alphanumeric (codes "K") 1
      ∷ line Total none_of_three ∷ constant 1 (codes "T") ∷ [];
  answers = card_of (codes "*") ∷ card_of (codes "*") ∷ card_of (codes "A") ∷ card_of (codes "A") ∷ Done ∷ Nothing ∷ Done ∷ [];
  requests = Card ∷ Card ∷ Card ∷ Card ∷ printed_at 1 1 (codes "T") ∷ Card ∷ printed_at 1 2 (codes "T") ∷ End false ∷ [];
}

-- a record type breaks only the levels that it names: a card of type 2 leaves the saved L2 field unchanged
abbrev pub levels_of_types : Corner
levels_of_types = record {
  sheets =
      card_file ∷ print_file
      ∷ type_by (codes "CARDS") 2 0xf2 ∷ control_field_at 2 2 Alphanumeric (codes "A") 1
      ∷ one_type ∷ control_field_at 2 2 Alphanumeric (codes "A") 1 ∷ control_field_at 3 3 Alphanumeric (codes "B") 2
      ∷ line Total (on (Level 1)) ∷ constant 3 (codes "ONE")
      ∷ line Total (on (Level 2)) ∷ constant 3 (codes "TWO") ∷ [];
  answers = card_of (codes "1AX") ∷ card_of (codes "2AY") ∷ card_of (codes "1AX") ∷ card_of (codes "1AY") ∷ Done ∷ Done ∷ [];
  requests = Card ∷ Card ∷ Card ∷ Card ∷ printed_at 1 1 (codes "ONE") ∷ printed_at 1 2 (codes "TWO") ∷ Card ∷ [];
}

-- a numeric control field compares by its digits without sign: K is -2
abbrev pub levels_by_digits : Corner
levels_by_digits = record {
  sheets =
      card_file ∷ print_file ∷ one_type
      ∷ control_field_at 1 2 (Zoned 0) (codes "N") 1
      ∷ line Total (on (Level 1)) ∷ constant 3 (codes "ONE") ∷ [];
  answers = card_of (codes "12") ∷ card_of (codes "1K") ∷ card_of (codes "13") ∷ Done ∷ [];
  requests = Card ∷ Card ∷ Card ∷ printed_at 1 1 (codes "ONE") ∷ Card ∷ [];
}

-- a control field with a field record relation belongs only to the type with that indicator: column 2 after A, column 3 after B
abbrev pub levels_by_relation : Corner
levels_by_relation = record {
  sheets =
      card_file ∷ print_file
      ∷ type_by (codes "CARDS") 1 0xc1 ∷ Input (InputOr (General 2) none_of_three)
      ∷ Input (InputField (record (plain_field 2 2 Alphanumeric (codes "X")) { control_level = Some 1; relation = Some (General 1) }))
      ∷ Input (InputField (record (plain_field 3 3 Alphanumeric (codes "Y")) { control_level = Some 1; relation = Some (General 2) }))
      ∷ line Total (on (Level 1)) ∷ constant 3 (codes "ONE") ∷ [];
  answers = card_of (codes "AXY") ∷ card_of (codes "BYX") ∷ card_of (codes "BXY") ∷ Done ∷ [];
  requests = Card ∷ Card ∷ Card ∷ printed_at 1 1 (codes "ONE") ∷ Card ∷ [];
}

-- L1 to L9 stay on through the detail lines of the record that broke, and go off before the next record is read
abbrev pub levels_at_detail : Corner
levels_at_detail = record {
  sheets =
      card_file ∷ print_file ∷ one_type
      ∷ control_field_at 1 1 Alphanumeric (codes "K") 1
      ∷ line Detail (on (Level 1)) ∷ value 1 (codes "K") Plain ∷ [];
  answers = card_of (codes "A") ∷ Done ∷ card_of (codes "A") ∷ card_of (codes "B") ∷ Done ∷ [];
  requests = Card ∷ printed_at 1 1 (codes "A") ∷ Card ∷ Card ∷ printed_at 1 2 (codes "B") ∷ Card ∷ [];
}

-- ---- the first step
-- H and D lines print in the order of their cards before any record is read; 1P and L0 are on, then 1P goes off for good
abbrev pub first_step : Corner
first_step = record {
  sheets =
      card_file ∷ print_file ∷ one_type
      ∷ line Detail (on (Level 0)) ∷ constant 1 (codes "D")
      ∷ line Heading (on FirstPage) ∷ constant 1 (codes "H")
      ∷ line Total (on FirstPage) ∷ constant 1 (codes "T") ∷ [];
  answers = Done ∷ Done ∷ card_of (codes "A") ∷ Done ∷ Nothing ∷ [];
  requests = printed_at 1 1 (codes "D") ∷ printed_at 1 2 (codes "H") ∷ Card ∷ printed_at 1 3 (codes "D") ∷ Card ∷ End false ∷ [];
}

-- ---- the end
-- an empty deck: LR goes on at once and sets L1 to L9
abbrev pub no_card : Corner
no_card = record {
  sheets = card_file ∷ print_file ∷ one_type ∷ line Total (on (Level 3)) ∷ constant 3 (codes "SUM") ∷ line Total (on LastRecord) ∷ constant 3 (codes "END") ∷ [];
  answers = Nothing ∷ Done ∷ Done ∷ [];
  requests = Card ∷ printed_at 1 1 (codes "SUM") ∷ printed_at 1 2 (codes "END") ∷ End false ∷ [];
}

-- SETON LR: the next cycle reads no card, and L1 to L9 go on with LR
abbrev pub last_set_on : Corner
last_set_on = record {
  sheets = card_file ∷ print_file ∷ one_type ∷ set_on none_of_three LastRecord None ∷ line Total (on (Level 9)) ∷ constant 3 (codes "SUM") ∷ [];
  answers = card_of (codes "A") ∷ Done ∷ [];
  requests = Card ∷ printed_at 1 1 (codes "SUM") ∷ End false ∷ [];
}

-- a program without control fields skips total time in its first cycle only
abbrev pub first_totals : Corner
first_totals = record {
  sheets = card_file ∷ print_file ∷ one_type ∷ line Total none_of_three ∷ constant 1 (codes "T") ∷ [];
  answers = card_of (codes "A") ∷ card_of (codes "B") ∷ Done ∷ Nothing ∷ Done ∷ [];
  requests = Card ∷ Card ∷ printed_at 1 1 (codes "T") ∷ Card ∷ printed_at 1 2 (codes "T") ∷ End false ∷ [];
}

-- if total calculations set LR, the job ends after the total lines
abbrev pub last_in_totals : Corner
last_in_totals = record {
  sheets =
      card_file ∷ print_file ∷ one_type
      ∷ calculation (TotalTime (Level 0)) none_of_three None SetOn None None None (resulting (Some LastRecord) None None)
      ∷ line Total (on LastRecord) ∷ constant 1 (codes "T") ∷ [];
  answers = card_of (codes "A") ∷ card_of (codes "B") ∷ Done ∷ [];
  requests = Card ∷ Card ∷ printed_at 1 1 (codes "T") ∷ End false ∷ [];
}

-- if LR was on before the totals, the job ends after them, even if they turn LR off
abbrev pub last_set_off : Corner
last_set_off = record {
  sheets =
      card_file ∷ print_file ∷ one_type
      ∷ set_on none_of_three LastRecord None
      ∷ calculation (TotalTime LastRecord) none_of_three None SetOff None None None (resulting (Some LastRecord) None None)
      ∷ line Total (unless LastRecord) ∷ constant 1 (codes "T") ∷ [];
  answers = card_of (codes "A") ∷ Done ∷ [];
  requests = Card ∷ printed_at 1 1 (codes "T") ∷ End false ∷ [];
}

unfoldable pub level_corners : List Corner
level_corners =
    two_levels ∷ totals_by_level ∷ totals_passed_over ∷ levels_of_types ∷ levels_by_digits ∷ levels_by_relation ∷ levels_at_detail ∷ first_step
    ∷ no_card ∷ last_set_on ∷ first_totals ∷ last_in_totals ∷ last_set_off ∷ []
