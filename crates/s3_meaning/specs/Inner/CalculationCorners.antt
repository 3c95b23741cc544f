-- Worked examples: calculations, their conditions, jumps and subroutines.
use Rattle.std.specs.Prelude.{ℕ, pos, negsuc, List, [], ◌∷◌, Option, Some, None, length, codes}
use Rattle.s3_cards.specs.declared.name.Name.{Name}
use Rattle.s3_cards.specs.Codes.{ebcdic}
use Rattle.s3_lines.specs.Inner.Blanks.{none_of_three}
use Rattle.s3_lines.specs.declared.indicator.Indicator.TheVariants.{General, FirstPage}
use Rattle.s3_lines.specs.declared.sheet.FieldForm.TheVariants.{Alphanumeric}
use Rattle.s3_lines.specs.declared.sheet.InputLine.TheVariants.{Or as InputOr}
use Rattle.s3_lines.specs.declared.sheet.Factor.{Factor}
use Rattle.s3_lines.specs.declared.sheet.Factor.TheVariants.{Number, Text}
use Rattle.s3_lines.specs.declared.sheet.Operation.TheVariants.{Add, Subtract, Multiply, Divide, ZeroAdd, MoveRemainder, ZeroSubtract, Compare, Move, MoveLeft, SetOff, GoTo, Tag, Except, ExecuteSubroutine, BeginSubroutine, EndSubroutine}
use Rattle.s3_lines.specs.declared.sheet.CalculationTime.TheVariants.{Detail as DetailTime, Subroutine, And, Or}
use Rattle.s3_lines.specs.declared.sheet.Shape.TheVariants.{Numeric}
use Rattle.s3_lines.specs.declared.sheet.OutputKind.TheVariants.{Detail, Exception}
use Rattle.s3_lines.specs.declared.sheet.OutputForm.TheVariants.{Plain}
use Rattle.s3_lines.specs.declared.sheet.SheetLine.TheVariants.{Input}
use Rattle.s3_operator.specs.declared.halt_code.HaltCode.TheVariants.{ZeroDivisor}
use Rattle.s3_meaning.specs.Requests.{Card, Jump, Ask, Done, Reply}
use Rattle.s3_meaning.specs.Inner.Samples.{padded_to}
use Rattle.s3_meaning.specs.Inner.SheetWords.{Corner, on, unless, resulting, three_from, third_alone, card_file, print_file, one_type, type_by, field_at, marked_field_at, calculation, conditions_alone, digit, field_named, set_on, line, constant, value, card_of, printed_at}

abbrev pub text : List ℕ → Option (Factor Name)
text characters = Some (Text (record { codes = padded_to 8 (ebcdic characters); length = length characters }))

-- 3 - 5, 3 x 5, and the negative of 4: a negative number ends with zone D
abbrev pub arithmetic : Corner
arithmetic = record {
  sheets =
      card_file ∷ print_file ∷ one_type
      ∷ calculation DetailTime none_of_three (digit 3) Subtract (digit 5) (Some (codes "A")) (Some (Numeric 1 0)) none_of_three
      ∷ calculation DetailTime none_of_three (digit 3) Multiply (digit 5) (Some (codes "B")) (Some (Numeric 2 0)) none_of_three
      ∷ calculation DetailTime none_of_three None ZeroSubtract (digit 4) (Some (codes "C")) (Some (Numeric 1 0)) none_of_three
      ∷ line Detail (on (General 1)) ∷ value 1 (codes "A") Plain ∷ value 3 (codes "B") Plain ∷ value 4 (codes "C") Plain ∷ [];
  answers = card_of (codes "X") ∷ Done ∷ [];
  requests = Card ∷ printed_at 1 1 (codes "K15M") ∷ Card ∷ [];
}

-- 7 divided by 2 leaves 1 for MVR; a DIV that isn't performed leaves 0
abbrev pub remainders : Corner
remainders = record {
  sheets =
      card_file ∷ print_file ∷ one_type
      ∷ calculation DetailTime none_of_three (digit 7) Divide (digit 2) (Some (codes "Q")) (Some (Numeric 1 0)) none_of_three
      ∷ calculation DetailTime none_of_three None MoveRemainder None (Some (codes "R")) (Some (Numeric 1 0)) none_of_three
      ∷ calculation DetailTime (unless (General 1)) (digit 7) Divide (digit 2) (Some (codes "Q")) None none_of_three
      ∷ calculation DetailTime none_of_three None MoveRemainder None (Some (codes "S")) (Some (Numeric 1 0)) none_of_three
      ∷ line Detail (on (General 1)) ∷ value 1 (codes "Q") Plain ∷ value 2 (codes "R") Plain ∷ value 3 (codes "S") Plain ∷ [];
  answers = card_of (codes "A") ∷ Done ∷ [];
  requests = Card ∷ printed_at 1 1 (codes "310") ∷ Card ∷ [];
}

-- after a division by zero and reply 0, both the result and the remainder are 0
abbrev pub zero_divisor : Corner
zero_divisor = record {
  sheets =
      card_file ∷ print_file ∷ one_type
      ∷ calculation DetailTime none_of_three None ZeroAdd (digit 5) (Some (codes "Q")) (Some (Numeric 1 0)) none_of_three
      ∷ calculation DetailTime none_of_three (digit 7) Divide (digit 0) (Some (codes "Q")) None none_of_three
      ∷ calculation DetailTime none_of_three None MoveRemainder None (Some (codes "R")) (Some (Numeric 1 0)) (third_alone 9)
      ∷ line Detail (on (General 9)) ∷ value 1 (codes "Q") Plain ∷ value 2 (codes "R") Plain ∷ [];
  answers = card_of (codes "A") ∷ Reply 0 ∷ Done ∷ [];
  requests = Card ∷ Ask ZeroDivisor ∷ printed_at 1 1 (codes "00") ∷ Card ∷ [];
}

-- -0.4 truncated to no decimals is plus zero: the zero indicator comes on, the minus indicator doesn't
abbrev pub minus_zero : Corner
minus_zero = record {
  sheets =
      card_file ∷ print_file ∷ one_type
      ∷ calculation DetailTime none_of_three None ZeroAdd (Some (Number (record { value = negsuc 3; digits = 1; decimals = 1 }))) (Some (codes "N")) (Some (Numeric 1 0))
      (three_from 11 12 13)
      ∷ line Detail (on (General 13)) ∷ value 1 (codes "N") Plain
      ∷ line Detail (on (General 12)) ∷ constant 1 (codes "M") ∷ [];
  answers = card_of (codes "A") ∷ Done ∷ [];
  requests = Card ∷ printed_at 1 1 (codes "0") ∷ Card ∷ [];
}

-- Numbers compare by value: 2.0 equals 2, and 5 is less than 7. Texts compare by their codes, the shorter padded with blanks: A is less
-- than AB. A field read from a blank card equals a text of one blank.
abbrev pub comparisons : Corner
comparisons = record {
  sheets =
      card_file ∷ print_file ∷ one_type ∷ field_at 2 4 Alphanumeric (codes "X")
      ∷ calculation DetailTime none_of_three (Some (Number (record { value = pos 20; digits = 2; decimals = 1 }))) Compare (digit 2) None None (three_from 11 12 13)
      ∷ calculation DetailTime none_of_three (digit 5) Compare (digit 7) None None (three_from 21 22 23)
      ∷ calculation DetailTime none_of_three (text (codes "AB")) Compare (text (codes "A")) None None (three_from 31 32 33)
      ∷ calculation DetailTime none_of_three (field_named (codes "X")) Compare (text (codes " ")) None None (three_from 41 42 43)
      ∷ line Detail (on (General 13)) ∷ constant 1 (codes "1")
      ∷ line Detail (on (General 22)) ∷ constant 1 (codes "2")
      ∷ line Detail (on (General 31)) ∷ constant 1 (codes "3")
      ∷ line Detail (on (General 43)) ∷ constant 1 (codes "4") ∷ [];
  answers = card_of (codes "A") ∷ Done ∷ Done ∷ Done ∷ Done ∷ [];
  requests =
      Card ∷ printed_at 1 1 (codes "1") ∷ printed_at 1 2 (codes "2") ∷ printed_at 1 3 (codes "3") ∷ printed_at 1 4 (codes "4") ∷ Card ∷ [];
}

-- MOVE moves from the right and MOVEL from the left; other bytes stay. Into a number, each byte gives its digit and the last byte the sign:
-- AP over 500 gives -517.
abbrev pub moves : Corner
moves = record {
  sheets =
      card_file ∷ print_file ∷ one_type ∷ field_at 1 4 Alphanumeric (codes "X") ∷ field_at 1 4 Alphanumeric (codes "Y")
      ∷ calculation DetailTime none_of_three None Move (text (codes "XY")) (Some (codes "X")) None none_of_three
      ∷ calculation DetailTime none_of_three None MoveLeft (text (codes "XY")) (Some (codes "Y")) None none_of_three
      ∷ calculation DetailTime none_of_three None ZeroAdd (Some (Number (record { value = pos 500; digits = 3; decimals = 0 }))) (Some (codes "N")) (Some (Numeric 3 0)) none_of_three
      ∷ calculation DetailTime none_of_three None Move (text (codes "AP")) (Some (codes "N")) None none_of_three
      ∷ line Detail (on (General 1)) ∷ value 4 (codes "X") Plain ∷ value 8 (codes "Y") Plain ∷ value 11 (codes "N") Plain ∷ [];
  answers = card_of (codes "ABCD") ∷ Done ∷ [];
  requests = Card ∷ printed_at 1 1 (codes "ABXYXYCD51P") ∷ Card ∷ [];
}

-- (01 and not 05) or 02; 05 is on if position 2 is blank
abbrev pub groups_of_a_calculation : Corner
groups_of_a_calculation = record {
  sheets =
      card_file ∷ print_file
      ∷ type_by (codes "CARDS") 1 0xc1 ∷ Input (InputOr (General 2) none_of_three)
      ∷ marked_field_at 2 2 Alphanumeric (codes "X") (third_alone 5)
      ∷ conditions_alone DetailTime (on (General 1)) ∷ conditions_alone And (unless (General 5))
      ∷ calculation Or (on (General 2)) (field_named (codes "N")) Add (digit 1) (Some (codes "N")) (Some (Numeric 1 0)) none_of_three
      ∷ line Detail (unless FirstPage) ∷ value 1 (codes "N") Plain ∷ [];
  answers = card_of (codes "A") ∷ Done ∷ card_of (codes "AX") ∷ Done ∷ card_of (codes "B") ∷ Done ∷ [];
  requests = Card ∷ printed_at 1 1 (codes "0") ∷ Card ∷ printed_at 1 2 (codes "1") ∷ Card ∷ printed_at 1 3 (codes "2") ∷ Card ∷ [];
}

-- SETON, then SETOF
abbrev pub set_off_again : Corner
set_off_again = record {
  sheets =
      card_file ∷ print_file ∷ one_type
      ∷ set_on none_of_three (General 11) (Some (General 12))
      ∷ calculation DetailTime none_of_three None SetOff None None None (resulting None (Some (General 11)) None)
      ∷ line Detail (on (General 11)) ∷ constant 1 (codes "1")
      ∷ line Detail (on (General 12)) ∷ constant 1 (codes "2") ∷ [];
  answers = card_of (codes "A") ∷ Done ∷ [];
  requests = Card ∷ printed_at 1 1 (codes "2") ∷ Card ∷ [];
}

-- a GOTO to a later tag skips the lines between and makes no request; EXSR is a jump, and its section continues after it
abbrev pub subroutines : Corner
subroutines = record {
  sheets =
      card_file ∷ print_file ∷ one_type
      ∷ calculation DetailTime none_of_three None GoTo (field_named (codes "BELOW")) None None none_of_three
      ∷ calculation DetailTime none_of_three None ZeroAdd (digit 9) (Some (codes "N")) (Some (Numeric 1 0)) none_of_three
      ∷ calculation DetailTime none_of_three (field_named (codes "BELOW")) Tag None None None none_of_three
      ∷ calculation DetailTime none_of_three None ExecuteSubroutine (field_named (codes "TWO")) None None none_of_three
      ∷ calculation DetailTime none_of_three (field_named (codes "N")) Add (digit 1) (Some (codes "N")) None none_of_three
      ∷ calculation Subroutine none_of_three (field_named (codes "TWO")) BeginSubroutine None None None none_of_three
      ∷ calculation Subroutine none_of_three (field_named (codes "N")) Add (digit 2) (Some (codes "N")) None none_of_three
      ∷ calculation Subroutine none_of_three None EndSubroutine None None None none_of_three
      ∷ line Detail (on (General 1)) ∷ value 1 (codes "N") Plain ∷ [];
  answers = card_of (codes "A") ∷ Done ∷ Done ∷ [];
  requests = Card ∷ Jump ∷ printed_at 1 1 (codes "3") ∷ Card ∷ [];
}

-- EXCPT is a jump, followed by its lines; a GOTO to an earlier tag is a jump too
abbrev pub jumps : Corner
jumps = record {
  sheets =
      card_file ∷ print_file ∷ one_type
      ∷ calculation DetailTime none_of_three (field_named (codes "AGAIN")) Tag None None None none_of_three
      ∷ calculation DetailTime none_of_three None Except None None None none_of_three
      ∷ calculation DetailTime none_of_three (field_named (codes "N")) Add (digit 1) (Some (codes "N")) (Some (Numeric 1 0)) none_of_three
      ∷ calculation DetailTime (unless (General 5)) None GoTo (field_named (codes "AGAIN")) None None none_of_three
      ∷ line Exception none_of_three ∷ value 1 (codes "N") Plain ∷ [];
  answers = card_of (codes "A") ∷ Done ∷ Done ∷ Done ∷ Done ∷ Done ∷ [];
  requests = Card ∷ Jump ∷ printed_at 1 1 (codes "0") ∷ Jump ∷ Jump ∷ printed_at 1 2 (codes "1") ∷ Jump ∷ [];
}

unfoldable pub calculation_corners : List Corner
calculation_corners =
    arithmetic ∷ remainders ∷ zero_divisor ∷ minus_zero ∷ comparisons ∷ moves ∷ groups_of_a_calculation ∷ set_off_again ∷ subroutines
    ∷ jumps ∷ []
