-- Worked examples: records and their fields, output lines, and the carriage.
use Rattle.std.specs.Prelude.{ℕ, pos, true, false, List, [], ◌∷◌, Some, None, codes}
use Rattle.s3_edit.specs.declared.code.EditCode.TheVariants.{Date}
use Rattle.s3_lines.specs.Inner.Blanks.{none_of_three}
use Rattle.s3_lines.specs.declared.indicator.Indicator.TheVariants.{General, FirstPage, Overflow, Switch}
use Rattle.s3_lines.specs.declared.sheet.CodePart.TheVariants.{Character, Zone, Digit}
use Rattle.s3_lines.specs.declared.sheet.FieldForm.TheVariants.{Alphanumeric, Zoned}
use Rattle.s3_lines.specs.declared.sheet.FileUse.TheVariants.{Output as OutputUse}
use Rattle.s3_lines.specs.declared.sheet.Device.TheVariants.{Printer}
use Rattle.s3_lines.specs.declared.sheet.InputLine.TheVariants.{Record, And as InputAnd, Or as InputOr}
use Rattle.s3_lines.specs.declared.sheet.Factor.TheVariants.{Number}
use Rattle.s3_lines.specs.declared.sheet.Operation.TheVariants.{Add, ZeroAdd, Except}
use Rattle.s3_lines.specs.declared.sheet.CalculationTime.TheVariants.{Detail as DetailTime}
use Rattle.s3_lines.specs.declared.sheet.Shape.TheVariants.{Numeric}
use Rattle.s3_lines.specs.declared.sheet.OutputKind.TheVariants.{Heading, Detail, Total, Exception}
use Rattle.s3_lines.specs.declared.sheet.OutputForm.TheVariants.{Plain, Edited}
use Rattle.s3_lines.specs.declared.sheet.OutputLine.TheVariants.{And, Or}
use Rattle.s3_lines.specs.declared.sheet.SheetLine.TheVariants.{File, Input, Output}
use Rattle.s3_operator.specs.declared.halt_code.HaltCode.TheVariants.{UnidentifiedRecord, BadDigit}
use Rattle.s3_meaning.specs.Requests.{Request, Card, Jump, Ask, End, Answer, Found, Nothing, Done, Reply}
use Rattle.s3_meaning.specs.Inner.Samples.{cards, padded_to}
use Rattle.s3_meaning.specs.Inner.SheetWords.{Corner, on, unless, three_from, third_alone, field_named, file, card_file, print_file, overflow_file, one_type, type_by, field_at, related_field_at, marked_field_at, calculation, set_on, line, line_spaced, constant, constant_on, value, value_cleared, skip_to, card_of, printed_at}

-- ---- records
-- The first type whose codes hold applies. Its codes: zone D in position 1, which - also has; digit 1 there and no blank in position 2.
abbrev pub record_codes : Corner
record_codes = record {
  sheets =
      card_file ∷ print_file
      ∷ Input (Record cards (General 1) (Some (record { position = 1; negated = false; part = Zone; character = 0x60 }) ∷ None ∷ None ∷ []))
      ∷ Input (Record cards (General 2) (Some (record { position = 1; negated = false; part = Digit; character = 0xf1 }) ∷ None ∷ None ∷ []))
      ∷ Input (InputAnd (Some (record { position = 2; negated = true; part = Character; character = 0x40 }) ∷ None ∷ None ∷ []))
      ∷ line Detail (on (General 1)) ∷ constant 1 (codes "1")
      ∷ line Detail (on (General 2)) ∷ constant 1 (codes "2") ∷ [];
  answers = card_of (codes "-") ∷ Done ∷ card_of (codes "J") ∷ Done ∷ card_of (codes "A1") ∷ Done ∷ card_of (codes "A") ∷ [];
  requests =
      Card ∷ printed_at 1 1 (codes "1") ∷ Card ∷ printed_at 1 2 (codes "1") ∷ Card ∷ printed_at 1 3 (codes "2") ∷ Card
      ∷ Ask UnidentifiedRecord ∷ [];
}

-- a card of no type halts the job; reply 0 reads the next card
abbrev pub unknown_card : Corner
unknown_card = record {
  sheets =
      card_file ∷ print_file ∷ type_by (codes "CARDS") 1 0xc1
      ∷ field_at 1 1 Alphanumeric (codes "X") ∷ line Detail (on (General 1)) ∷ value 1 (codes "X") Plain ∷ [];
  answers = card_of (codes "B") ∷ Reply 0 ∷ card_of (codes "A") ∷ Done ∷ [];
  requests = Card ∷ Ask UnidentifiedRecord ∷ Card ∷ printed_at 1 1 (codes "A") ∷ Card ∷ [];
}

-- a field with bad digits halts the job once; after reply 0 these digits are 0
abbrev pub bad_digits : Corner
bad_digits = record {
  sheets = card_file ∷ print_file ∷ one_type ∷ field_at 1 3 (Zoned 0) (codes "N") ∷ line Detail (on (General 1)) ∷ value 3 (codes "N") Plain ∷ [];
  answers = Found (padded_to 96 (0xff ∷ 0xf5 ∷ 0xff ∷ [])) ∷ Reply 0 ∷ Done ∷ [];
  requests = Card ∷ Ask BadDigit ∷ printed_at 1 1 (codes "050") ∷ Card ∷ [];
}

-- a number sets plus, minus or zero; minus zero and blanks count as zero; a text sets blank
abbrev pub field_indicators : Corner
field_indicators = record {
  sheets =
      card_file ∷ print_file ∷ one_type
      ∷ marked_field_at 1 1 (Zoned 0) (codes "N") (three_from 11 12 13)
      ∷ marked_field_at 2 2 Alphanumeric (codes "X") (third_alone 14)
      ∷ line Detail (on (General 11)) ∷ constant 1 (codes "P")
      ∷ line Detail (on (General 12)) ∷ constant 1 (codes "M")
      ∷ line Detail (on (General 13)) ∷ constant 1 (codes "Z")
      ∷ line Detail (on (General 14)) ∷ constant 1 (codes "B") ∷ [];
  answers =
      card_of (codes "5A") ∷ Done ∷ card_of (codes "N ") ∷ Done ∷ Done ∷ card_of (codes "}A") ∷ Done ∷ card_of (codes " A") ∷ Done ∷ [];
  requests =
      Card ∷ printed_at 1 1 (codes "P")
      ∷ Card ∷ printed_at 1 2 (codes "M") ∷ printed_at 1 3 (codes "B")
      ∷ Card ∷ printed_at 1 4 (codes "Z")
      ∷ Card ∷ printed_at 1 5 (codes "Z") ∷ Card ∷ [];
}

-- a field with a field record relation is moved only if that indicator is on: X from cards with A, Y from all others
abbrev pub field_relations : Corner
field_relations = record {
  sheets =
      card_file ∷ print_file
      ∷ type_by (codes "CARDS") 1 0xc1 ∷ Input (InputOr (General 2) none_of_three)
      ∷ related_field_at 2 2 Alphanumeric (codes "X") (General 1)
      ∷ related_field_at 2 2 Alphanumeric (codes "Y") (General 2)
      ∷ field_at 3 3 Alphanumeric (codes "Z")
      ∷ line Detail (unless FirstPage) ∷ value 1 (codes "X") Plain ∷ value 2 (codes "Y") Plain ∷ value 3 (codes "Z") Plain ∷ [];
  answers = card_of (codes "AB1") ∷ Done ∷ card_of (codes "CD2") ∷ Done ∷ [];
  requests = Card ∷ printed_at 1 1 (codes "B 1") ∷ Card ∷ printed_at 1 2 (codes "BD2") ∷ Card ∷ [];
}

-- ---- when lines are printed
-- (01 and not 05) or 02; 05 is on if position 2 is blank
abbrev pub groups_of_a_line : Corner
groups_of_a_line = record {
  sheets =
      card_file ∷ print_file
      ∷ type_by (codes "CARDS") 1 0xc1 ∷ Input (InputOr (General 2) none_of_three)
      ∷ marked_field_at 2 2 Alphanumeric (codes "X") (third_alone 5)
      ∷ line Detail (on (General 1)) ∷ Output (And (unless (General 5))) ∷ Output (Or (on (General 2))) ∷ constant 1 (codes "D") ∷ [];
  answers = card_of (codes "A") ∷ card_of (codes "AX") ∷ Done ∷ card_of (codes "B") ∷ Done ∷ [];
  requests = Card ∷ Card ∷ printed_at 1 1 (codes "D") ∷ Card ∷ printed_at 1 2 (codes "D") ∷ Card ∷ [];
}

-- only EXCPT writes E lines, those whose conditions hold
abbrev pub exceptions : Corner
exceptions = record {
  sheets =
      card_file ∷ print_file ∷ one_type
      ∷ set_on none_of_three (General 7) None
      ∷ calculation DetailTime none_of_three None Except None None None none_of_three
      ∷ line Exception (on (General 7)) ∷ constant 1 (codes "A")
      ∷ line Exception (unless (General 7)) ∷ constant 1 (codes "B")
      ∷ line Exception none_of_three ∷ constant 1 (codes "C")
      ∷ line Detail (on (General 1)) ∷ constant 1 (codes "D") ∷ [];
  answers = card_of (codes "A") ∷ Done ∷ Done ∷ Done ∷ Done ∷ [];
  requests = Card ∷ Jump ∷ printed_at 1 1 (codes "A") ∷ printed_at 1 2 (codes "C") ∷ printed_at 1 3 (codes "D") ∷ Card ∷ [];
}

-- U1 is on and U2 is off
abbrev pub switches : Corner
switches = record {
  sheets =
      card_file ∷ print_file ∷ one_type
      ∷ line Detail (on (Switch 1)) ∷ constant 1 (codes "1")
      ∷ line Detail (on (Switch 2)) ∷ constant 1 (codes "2")
      ∷ line Detail (unless (Switch 2)) ∷ constant 1 (codes "N") ∷ [];
  answers = Done ∷ Done ∷ [];
  requests = printed_at 1 1 (codes "1") ∷ printed_at 1 2 (codes "N") ∷ Card ∷ [];
}

-- output to a file whose condition is off is skipped
abbrev pub print_switched_off : Corner
print_switched_off = record {
  sheets =
      card_file ∷ File (record (file (codes "PRINT") OutputUse None Printer 132) { condition = Some (Switch 2) }) ∷ one_type
      ∷ line Detail (on (General 1)) ∷ constant 1 (codes "D") ∷ [];
  answers = card_of (codes "A") ∷ card_of (codes "B") ∷ [];
  requests = Card ∷ Card ∷ Card ∷ [];
}

-- ---- what lines write
-- a later field replaces an earlier one; a field whose conditions don't hold writes nothing
abbrev pub laid_over : Corner
laid_over = record {
  sheets =
      card_file ∷ print_file ∷ one_type
      ∷ line Detail (on (General 1)) ∷ constant 3 (codes "ABC") ∷ constant 2 (codes "X") ∷ constant_on (on (General 7)) 3 (codes "Z") ∷ [];
  answers = card_of (codes "A") ∷ Done ∷ [];
  requests = Card ∷ printed_at 1 1 (codes "AXC") ∷ Card ∷ [];
}

-- blank after a number: the field is written, then it becomes 0
abbrev pub blank_after : Corner
blank_after = record {
  sheets =
      card_file ∷ print_file ∷ one_type
      ∷ field_at 1 1 (Zoned 0) (codes "N")
      ∷ calculation DetailTime none_of_three (field_named (codes "S")) Add (field_named (codes "N")) (Some (codes "S")) (Some (Numeric 2 0)) none_of_three
      ∷ line Detail (on (General 1)) ∷ value_cleared 2 (codes "S") Plain ∷ value 4 (codes "S") Plain ∷ [];
  answers = card_of (codes "7") ∷ Done ∷ card_of (codes "2") ∷ Done ∷ [];
  requests = Card ∷ printed_at 1 1 (codes "0700") ∷ Card ∷ printed_at 1 2 (codes "0200") ∷ Card ∷ [];
}

-- blank after a text: it becomes blanks for later fields of the line and for the next line
abbrev pub text_blank_after : Corner
text_blank_after = record {
  sheets =
      card_file ∷ print_file ∷ one_type ∷ field_at 1 2 Alphanumeric (codes "X")
      ∷ line Detail (on (General 1)) ∷ value_cleared 2 (codes "X") Plain ∷ value 4 (codes "X") Plain ∷ constant 5 (codes "1")
      ∷ line Detail (on (General 1)) ∷ value 2 (codes "X") Plain ∷ constant 5 (codes "2") ∷ [];
  answers = card_of (codes "AB") ∷ Done ∷ Done ∷ [];
  requests = Card ∷ printed_at 1 1 (codes "AB  1") ∷ printed_at 1 2 (codes "    2") ∷ Card ∷ [];
}

-- PAGE adds 1 each time before it is written, with leading zeros as blanks
abbrev pub pages : Corner
pages = record {
  sheets = card_file ∷ print_file ∷ one_type ∷ line Detail (on (General 1)) ∷ value 4 (codes "PAGE") Plain ∷ value 9 (codes "PAGE") Plain ∷ [];
  answers = card_of (codes "A") ∷ Done ∷ card_of (codes "B") ∷ Done ∷ [];
  requests = Card ∷ printed_at 1 1 (codes "   1    2") ∷ Card ∷ printed_at 1 2 (codes "   3    4") ∷ Card ∷ [];
}

-- PAGE wraps to 0 after 9999, which prints blank; with blank after, PAGE is 1 each time
abbrev pub page_after_9999 : Corner
page_after_9999 = record {
  sheets =
      card_file ∷ print_file ∷ one_type
      ∷ calculation DetailTime none_of_three None ZeroAdd (Some (Number (record { value = pos 9998; digits = 4; decimals = 0 }))) (Some (codes "PAGE")) None none_of_three
      ∷ line Detail (on (General 1)) ∷ value 4 (codes "PAGE") Plain ∷ value 9 (codes "PAGE") Plain ∷ value_cleared 14 (codes "PAGE") Plain
      ∷ value 19 (codes "PAGE") Plain ∷ [];
  answers = card_of (codes "A") ∷ Done ∷ [];
  requests = Card ∷ printed_at 1 1 (codes "9999         1    1") ∷ Card ∷ [];
}

-- UDATE, UMONTH, UDAY and UYEAR
abbrev pub dates : Corner
dates = record {
  sheets =
      card_file ∷ print_file ∷ one_type
      ∷ line Detail (on (General 1)) ∷ value 8 (codes "UDATE") (Edited Date) ∷ value 11 (codes "UMONTH") Plain ∷ value 14 (codes "UDAY") Plain
      ∷ value 17 (codes "UYEAR") Plain ∷ value 24 (codes "UDATE") Plain ∷ [];
  answers = card_of (codes "A") ∷ Done ∷ [];
  requests = Card ∷ printed_at 1 1 (codes " 6/15/76 06 15 76 061576") ∷ Card ∷ [];
}

unfoldable pub line_corners : List Corner
line_corners =
    record_codes ∷ unknown_card ∷ bad_digits ∷ field_indicators ∷ field_relations ∷ groups_of_a_line ∷ exceptions ∷ switches ∷ print_switched_off ∷ laid_over
    ∷ blank_after ∷ text_blank_after ∷ pages ∷ page_after_9999 ∷ dates ∷ []

-- ---- the carriage
-- skip before, space before, print, skip after, space after: the line prints at 12, then the carriage skips to 20 and spaces to 21.
-- The second card's skip to 10 goes to the next page.
abbrev pub order_of_movements : Corner
order_of_movements = record {
  sheets =
      card_file ∷ print_file ∷ one_type
      ∷ line_spaced Detail (record { space_before = Some 2; space_after = Some 1; skip_before = Some 10; skip_after = Some 20 }) (on (General 1))
      ∷ constant 1 (codes "A")
      ∷ line_spaced Detail (record { space_before = Some 3; space_after = Some 0; skip_before = None; skip_after = None }) (on (General 1))
      ∷ constant 1 (codes "B") ∷ [];
  answers = card_of (codes "A") ∷ Done ∷ Done ∷ card_of (codes "B") ∷ Done ∷ Done ∷ [];
  requests =
      Card ∷ printed_at 1 12 (codes "A") ∷ printed_at 1 24 (codes "B") ∷ Card ∷ printed_at 2 12 (codes "A") ∷ printed_at 2 24 (codes "B") ∷ Card ∷ [];
}

-- line 1 of the next page follows line 66; a skip to the current line moves nothing
abbrev pub end_of_a_page : Corner
end_of_a_page = record {
  sheets =
      card_file ∷ print_file ∷ one_type
      ∷ line_spaced Detail (skip_to 66 (Some 0)) (on (General 1)) ∷ constant 1 (codes "A")
      ∷ line_spaced Detail (skip_to 66 (Some 2)) (on (General 1)) ∷ constant 1 (codes "B")
      ∷ line Detail (on (General 1)) ∷ constant 1 (codes "C") ∷ [];
  answers = card_of (codes "A") ∷ Done ∷ Done ∷ Done ∷ [];
  requests = Card ∷ printed_at 1 66 (codes "A") ∷ printed_at 1 66 (codes "B") ∷ printed_at 2 2 (codes "C") ∷ Card ∷ [];
}

-- ---- overflow
-- A line that names the overflow indicator prints at overflow time only. OA is on in the first step of the second cycle, and the line
-- prints once, after the second card.
abbrev pub overflow_set_on : Corner
overflow_set_on = record {
  sheets =
      card_file ∷ overflow_file ∷ one_type
      ∷ set_on (unless (General 5)) (Overflow 1) (Some (General 5))
      ∷ line Heading (on (Overflow 1)) ∷ constant 1 (codes "H") ∷ [];
  answers = card_of (codes "A") ∷ card_of (codes "B") ∷ Done ∷ card_of (codes "C") ∷ Nothing ∷ [];
  requests = Card ∷ Card ∷ printed_at 1 1 (codes "H") ∷ Card ∷ Card ∷ End false ∷ [];
}

-- each card prints a line at this line of a page, with one space after it; a heading prints at overflow
abbrev pub overflow_at : ℕ → List Answer → List Request → Corner
overflow_at place answers requests = record {
  sheets =
      card_file ∷ overflow_file ∷ one_type
      ∷ line_spaced Detail (skip_to place (Some 1)) (on (General 1)) ∷ constant 1 (codes "D")
      ∷ line_spaced Heading (skip_to 1 (Some 1)) (on (Overflow 1)) ∷ constant 1 (codes "H") ∷ [];
  answers = answers;
  requests = requests;
}

-- one space from 59 sets no overflow, printing at line 60 does, and a skip to 61 passes 60
abbrev pub overflow_at_59 : Corner
overflow_at_59 =
    overflow_at 59 (card_of (codes "A") ∷ Done ∷ card_of (codes "B") ∷ Done ∷ [])
    (Card ∷ printed_at 1 59 (codes "D") ∷ Card ∷ printed_at 2 59 (codes "D") ∷ Card ∷ [])

abbrev pub overflow_at_60 : Corner
overflow_at_60 =
    overflow_at 60 (card_of (codes "A") ∷ Done ∷ card_of (codes "B") ∷ Done ∷ [])
    (Card ∷ printed_at 1 60 (codes "D") ∷ Card ∷ printed_at 2 1 (codes "H") ∷ printed_at 2 60 (codes "D") ∷ [])

abbrev pub overflow_at_61 : Corner
overflow_at_61 =
    overflow_at 61 (card_of (codes "A") ∷ Done ∷ card_of (codes "B") ∷ Done ∷ [])
    (Card ∷ printed_at 1 61 (codes "D") ∷ Card ∷ printed_at 2 1 (codes "H") ∷ printed_at 2 61 (codes "D") ∷ [])

-- a skip to an earlier line goes to the next page and sets no overflow
abbrev pub skipped_over : Corner
skipped_over = record {
  sheets =
      card_file ∷ overflow_file ∷ one_type
      ∷ line_spaced Detail (skip_to 59 (Some 0)) (on (General 1)) ∷ constant 1 (codes "D")
      ∷ line_spaced Detail (skip_to 3 (Some 0)) (on (General 1)) ∷ constant 1 (codes "E")
      ∷ line_spaced Heading (skip_to 1 (Some 1)) (on (Overflow 1)) ∷ constant 1 (codes "H") ∷ [];
  answers = card_of (codes "A") ∷ Done ∷ Done ∷ card_of (codes "B") ∷ Done ∷ [];
  requests =
      Card ∷ printed_at 1 59 (codes "D") ∷ printed_at 2 3 (codes "E") ∷ Card ∷ printed_at 2 59 (codes "D") ∷ printed_at 3 3 (codes "E") ∷ [];
}

-- a space from 59 to 61 passes 60, before or after printing; a space to line 60 doesn't
abbrev pub spaces_past_60 : Corner
spaces_past_60 = record {
  sheets =
      card_file ∷ overflow_file ∷ one_type
      ∷ line_spaced Detail (skip_to 59 (Some 2)) (on (General 1)) ∷ constant 1 (codes "D")
      ∷ line_spaced Heading (skip_to 1 (Some 1)) (on (Overflow 1)) ∷ constant 1 (codes "H") ∷ [];
  answers = card_of (codes "A") ∷ Done ∷ card_of (codes "B") ∷ Done ∷ Done ∷ [];
  requests = Card ∷ printed_at 1 59 (codes "D") ∷ Card ∷ printed_at 2 1 (codes "H") ∷ printed_at 2 59 (codes "D") ∷ Card ∷ [];
}

-- a skip after printing within the page passes 60 too; from a line after 60, no movement sets overflow
abbrev pub skips_past_60 : Corner
skips_past_60 = record {
  sheets =
      card_file ∷ overflow_file ∷ one_type
      ∷ line_spaced Detail (record { space_before = None; space_after = None; skip_before = None; skip_after = Some 61 }) (on (General 1))
      ∷ constant 1 (codes "D")
      ∷ line Total (on (Overflow 1)) ∷ constant 1 (codes "T") ∷ [];
  answers = card_of (codes "A") ∷ Done ∷ card_of (codes "B") ∷ Done ∷ Done ∷ card_of (codes "C") ∷ [];
  requests =
      Card ∷ printed_at 1 1 (codes "D") ∷ Card ∷ printed_at 1 61 (codes "T") ∷ printed_at 1 62 (codes "D") ∷ Card
      ∷ printed_at 2 61 (codes "D") ∷ [];
}

-- NOA is an ordinary condition. T lines print at overflow too: OA is on from the first card's calculations to the second card's overflow
-- time. E lines never print at overflow.
abbrev pub without_overflow : Corner
without_overflow = record {
  sheets =
      card_file ∷ overflow_file ∷ one_type
      ∷ set_on (unless (General 5)) (Overflow 1) (Some (General 5))
      ∷ calculation DetailTime none_of_three None Except None None None none_of_three
      ∷ line Detail (unless (Overflow 1)) ∷ constant 1 (codes "D")
      ∷ line Total (on (Overflow 1)) ∷ constant 1 (codes "T")
      ∷ line Exception (on (Overflow 1)) ∷ constant 1 (codes "E") ∷ [];
  answers = Done ∷ card_of (codes "A") ∷ Done ∷ card_of (codes "B") ∷ Done ∷ Done ∷ Done ∷ [];
  requests =
      printed_at 1 1 (codes "D") ∷ Card ∷ Jump ∷ Card ∷ printed_at 1 2 (codes "T") ∷ Jump ∷ printed_at 1 3 (codes "D") ∷ Card ∷ [];
}

unfoldable pub carriage_corners : List Corner
carriage_corners =
    order_of_movements ∷ end_of_a_page ∷ overflow_set_on ∷ overflow_at_59 ∷ overflow_at_60 ∷ overflow_at_61 ∷ skipped_over ∷ spaces_past_60 ∷ skips_past_60 ∷ without_overflow ∷ []
