-- Worked examples: replies 0, 2 and 3 to each halt of a job, at each place it can occur.
use Rattle.std.specs.Prelude.{pos, true, false, ◌++◌, List, [], ◌∷◌, Some, None, codes}
use Rattle.s3_cards.specs.Codes.{ebcdic}
use Rattle.s3_lines.specs.Inner.Blanks.{none_of_three}
use Rattle.s3_lines.specs.declared.indicator.Indicator.TheVariants.{General, Level, LastRecord, Halt}
use Rattle.s3_lines.specs.declared.sheet.FileUse.TheVariants.{Input as InputUse, Update}
use Rattle.s3_lines.specs.declared.sheet.Designation.TheVariants.{Primary}
use Rattle.s3_lines.specs.declared.sheet.FieldForm.TheVariants.{Alphanumeric, Zoned}
use Rattle.s3_lines.specs.declared.sheet.Operation.TheVariants.{Add, ZeroAdd, Divide, Except, Chain}
use Rattle.s3_lines.specs.declared.sheet.CalculationTime.TheVariants.{Detail as DetailTime, Total as TotalTime}
use Rattle.s3_lines.specs.declared.sheet.Shape.TheVariants.{Numeric}
use Rattle.s3_lines.specs.declared.sheet.OutputKind.TheVariants.{Detail, Total, Exception}
use Rattle.s3_lines.specs.declared.sheet.OutputForm.TheVariants.{Plain}
use Rattle.s3_lines.specs.declared.sheet.SheetLine.{SheetLine}
use Rattle.s3_operator.specs.declared.halt_code.HaltCode.TheVariants.{HaltIndicator, UnidentifiedRecord, ZeroDivisor, BadDigit, NoRecordFound, DuplicateKey, OutOfSequence, KeyChanged, NothingToUpdate, FileFull, KeyNotAscending}
use Rattle.s3_meaning.specs.Requests.{Request, Card, Chain as ChainRequest, Append, Add as AddRequest, Update as UpdateRequest, Key, RecordNumber, Jump, Ask, End, Answer, Found, Nothing, Done, Refused, Reply}
use Rattle.s3_meaning.specs.declared.current.Current.TheVariants.{LastChained}
use Rattle.s3_meaning.specs.Inner.Samples.{padded_to}
use Rattle.s3_meaning.specs.Inner.SheetWords.{Corner, name, unless, on, card_file, print_file, disk_file, chained_file, keyed_file, load_file, keyed_load_file, one_type, type_of_all, type_by, field_at, match_field_at, calculation, digit, field_named, set_on, line, disk_line, addition, constant, value, card_of, record_of, read_from, printed_at}

-- ---- the effect of each reply
-- a source, the answers before a halt, and the requests up to the halt
pub record Halting : Type 0 where
  pub sheets : List SheetLine
  pub answers : List Answer
  pub requests : List Request

-- the same run with further answers and further requests
abbrev pub answered : Halting → List Answer → List Request → Corner
answered halting answers requests =
    record { sheets = halting.sheets; answers = halting.answers ++ answers; requests = halting.requests ++ requests }

-- the last line of each source shows that L1 to L9 are on
abbrev pub totals : List SheetLine
totals = line Total (on (Level 5)) ∷ constant 1 (codes "T") ∷ []

-- reply 2 sets LR and L1 to L9 and goes to the totals; reply 3 ends the job at once
abbrev pub ending : Halting → List Corner
ending halting =
    answered halting (Reply 2 ∷ Done ∷ []) (printed_at 1 1 (codes "T") ∷ End false ∷ [])
    ∷ answered halting (Reply 3 ∷ []) (End true ∷ []) ∷ []

-- reply 0 continues with this request
abbrev pub going_on : Request → Halting → List Corner
going_on next halting = answered halting (Reply 0 ∷ []) (next ∷ []) ∷ ending halting

-- if LR is on, reply 2 acts like reply 3
abbrev pub going_on_at_last : Request → Halting → List Corner
going_on_at_last next halting =
    answered halting (Reply 0 ∷ []) (next ∷ [])
    ∷ answered halting (Reply 2 ∷ []) (End true ∷ [])
    ∷ answered halting (Reply 3 ∷ []) (End true ∷ []) ∷ []

-- ---- in the cycle
-- H1 to H9 halt the job in the first step
abbrev pub indicator_on : Halting
indicator_on = record {
  sheets = card_file ∷ print_file ∷ one_type ∷ set_on none_of_three (Halt 3) None ∷ totals;
  answers = card_of (codes "A") ∷ [];
  requests = Card ∷ Ask (HaltIndicator 3) ∷ [];
}

-- a card of no type: reply 0 reads the next card
abbrev pub of_no_type : Halting
of_no_type = record {
  sheets = card_file ∷ print_file ∷ type_by (codes "CARDS") 1 0xc1 ∷ totals;
  answers = card_of (codes "B") ∷ [];
  requests = Card ∷ Ask UnidentifiedRecord ∷ [];
}

-- a record out of sequence: reply 0 skips it and reads the next record
abbrev pub out_of_sequence : Halting
out_of_sequence = record {
  sheets =
      disk_file (codes "P") Primary false ∷ print_file ∷ type_of_all (codes "P") 1 ∷ match_field_at 1 2 Alphanumeric (codes "K") 1 ∷ totals;
  answers = record_of (codes "20") ∷ record_of (codes "10") ∷ [];
  requests = read_from (codes "P") ∷ read_from (codes "P") ∷ Ask OutOfSequence ∷ [];
}

-- a field with a bad digit
abbrev pub bad_digit : Halting
bad_digit = record {
  sheets = card_file ∷ print_file ∷ one_type ∷ field_at 1 1 (Zoned 0) (codes "N") ∷ totals;
  answers = Found (padded_to 96 (0xff ∷ [])) ∷ [];
  requests = Card ∷ Ask BadDigit ∷ [];
}

-- ---- in calculations
abbrev pub divided_in_detail : Halting
divided_in_detail = record {
  sheets =
      card_file ∷ print_file ∷ one_type
      ∷ calculation DetailTime none_of_three (digit 7) Divide (digit 0) (Some (codes "Q")) (Some (Numeric 1 0)) none_of_three ∷ totals;
  answers = card_of (codes "A") ∷ [];
  requests = Card ∷ Ask ZeroDivisor ∷ [];
}

abbrev pub divided_in_totals : Halting
divided_in_totals = record {
  sheets =
      card_file ∷ print_file ∷ one_type
      ∷ calculation (TotalTime (Level 0)) (unless LastRecord) (digit 7) Divide (digit 0) (Some (codes "Q")) (Some (Numeric 1 0)) none_of_three
      ∷ totals;
  answers = card_of (codes "A") ∷ card_of (codes "B") ∷ [];
  requests = Card ∷ Card ∷ Ask ZeroDivisor ∷ [];
}

-- detail calculations set LR: the halts are in the totals, and in the first step before them
abbrev pub divided_at_last : Halting
divided_at_last = record {
  sheets =
      card_file ∷ print_file ∷ one_type
      ∷ set_on none_of_three LastRecord None
      ∷ calculation (TotalTime LastRecord) none_of_three (digit 7) Divide (digit 0) (Some (codes "Q")) (Some (Numeric 1 0)) none_of_three
      ∷ totals;
  answers = card_of (codes "A") ∷ [];
  requests = Card ∷ Ask ZeroDivisor ∷ [];
}

abbrev pub indicator_on_at_last : Halting
indicator_on_at_last = record {
  sheets = card_file ∷ print_file ∷ one_type ∷ set_on none_of_three LastRecord (Some (Halt 3)) ∷ totals;
  answers = card_of (codes "A") ∷ [];
  requests = Card ∷ Ask (HaltIndicator 3) ∷ [];
}

-- those of H1 to H9 that are on halt the job in order, and reply 0 turns each off
abbrev pub halts_in_order : Corner
halts_in_order = record {
  sheets = card_file ∷ print_file ∷ one_type ∷ set_on none_of_three (Halt 7) (Some (Halt 2)) ∷ [];
  answers = card_of (codes "A") ∷ Reply 0 ∷ Reply 0 ∷ Nothing ∷ [];
  requests = Card ∷ Ask (HaltIndicator 2) ∷ Ask (HaltIndicator 7) ∷ Card ∷ End false ∷ [];
}

-- if LR is on, reply 2 ends the job like reply 3: here at a division in the totals after an earlier reply 2
abbrev pub reply_two_twice : Corner
reply_two_twice = record {
  sheets =
      card_file ∷ print_file ∷ one_type
      ∷ set_on none_of_three (Halt 1) None
      ∷ calculation (TotalTime LastRecord) none_of_three (digit 7) Divide (digit 0) (Some (codes "Q")) (Some (Numeric 1 0)) none_of_three
      ∷ line Total none_of_three ∷ constant 1 (codes "T") ∷ [];
  answers = card_of (codes "A") ∷ Reply 2 ∷ Reply 2 ∷ [];
  requests = Card ∷ Ask (HaltIndicator 1) ∷ Ask ZeroDivisor ∷ End true ∷ [];
}

-- reply 2 in the totals restarts them at their first line: 1 is added twice
abbrev pub totals_begin_again : Corner
totals_begin_again = record {
  sheets =
      card_file ∷ print_file ∷ one_type
      ∷ calculation (TotalTime (Level 0)) none_of_three (field_named (codes "C")) Add (digit 1) (Some (codes "C")) (Some (Numeric 1 0)) none_of_three
      ∷ calculation (TotalTime (Level 0)) (unless LastRecord) (digit 7) Divide (digit 0) (Some (codes "Q")) (Some (Numeric 1 0)) none_of_three
      ∷ line Total (on LastRecord) ∷ value 1 (codes "C") Plain ∷ [];
  answers = card_of (codes "A") ∷ card_of (codes "B") ∷ Reply 2 ∷ Done ∷ [];
  requests = Card ∷ Card ∷ Ask ZeroDivisor ∷ printed_at 1 1 (codes "2") ∷ End false ∷ [];
}

-- only reply 0 sets the result of a division by zero to 0; after reply 2 it is unchanged
abbrev pub result_stays : Corner
result_stays = record {
  sheets =
      card_file ∷ print_file ∷ one_type
      ∷ calculation DetailTime none_of_three None ZeroAdd (digit 5) (Some (codes "Q")) (Some (Numeric 1 0)) none_of_three
      ∷ calculation DetailTime none_of_three (digit 7) Divide (digit 0) (Some (codes "Q")) None none_of_three
      ∷ line Total (on LastRecord) ∷ value 1 (codes "Q") Plain ∷ [];
  answers = card_of (codes "A") ∷ Reply 2 ∷ Done ∷ [];
  requests = Card ∷ Ask ZeroDivisor ∷ printed_at 1 1 (codes "5") ∷ End false ∷ [];
}

unfoldable pub reply_corners : List Corner
reply_corners =
    going_on Card indicator_on
    ++ going_on Card of_no_type
    ++ going_on (read_from (codes "P")) out_of_sequence
    ++ going_on Card bad_digit
    ++ going_on Card divided_in_detail
    ++ going_on Card divided_in_totals
    ++ going_on_at_last (printed_at 1 1 (codes "T")) divided_at_last
    ++ going_on_at_last (printed_at 1 1 (codes "T")) indicator_on_at_last
    ++ halts_in_order ∷ reply_two_twice ∷ totals_begin_again ∷ result_stays ∷ []

-- ---- at files
-- CHAIN to record number 5 without an indicator in 54-55
abbrev pub chain_five : SheetLine
chain_five = calculation DetailTime none_of_three (digit 5) Chain (field_named (codes "C")) None None none_of_three

abbrev pub asks_five : Request
asks_five = ChainRequest (name (codes "C")) 4 (RecordNumber (pos 5))

abbrev pub not_found : Halting
not_found = record {
  sheets = card_file ∷ chained_file (codes "C") InputUse ∷ print_file ∷ one_type ∷ type_of_all (codes "C") 2 ∷ chain_five ∷ totals;
  answers = card_of (codes "A") ∷ Nothing ∷ [];
  requests = Card ∷ asks_five ∷ Ask NoRecordFound ∷ [];
}

abbrev pub chained_of_no_type : Halting
chained_of_no_type = record {
  sheets = card_file ∷ chained_file (codes "C") InputUse ∷ print_file ∷ one_type ∷ type_by (codes "C") 2 0xc1 ∷ chain_five ∷ totals;
  answers = card_of (codes "A") ∷ record_of (codes "B") ∷ [];
  requests = Card ∷ asks_five ∷ Ask UnidentifiedRecord ∷ [];
}

abbrev pub chained_bad_digit : Halting
chained_bad_digit = record {
  sheets =
      card_file ∷ chained_file (codes "C") InputUse ∷ print_file ∷ one_type ∷ type_of_all (codes "C") 2 ∷ field_at 1 1 (Zoned 0) (codes "N")
      ∷ chain_five ∷ totals;
  answers = card_of (codes "A") ∷ Found (padded_to 4 (0xff ∷ [])) ∷ [];
  requests = Card ∷ asks_five ∷ Ask BadDigit ∷ [];
}

-- a file in which no CHAIN has found a record
abbrev pub nothing_to_update : Halting
nothing_to_update = record {
  sheets =
      card_file ∷ chained_file (codes "C") Update ∷ print_file ∷ one_type ∷ type_of_all (codes "C") 2
      ∷ disk_line (codes "C") Detail (on (General 1)) ∷ constant 1 (codes "X") ∷ totals;
  answers = card_of (codes "A") ∷ Refused NothingToUpdate ∷ [];
  requests = Card ∷ UpdateRequest (name (codes "C")) None (Some 0xe7 ∷ None ∷ None ∷ None ∷ []) ∷ Ask NothingToUpdate ∷ [];
}

-- an update that changes the record's key from AB to XB
abbrev pub key_changed : Halting
key_changed = record {
  sheets =
      card_file ∷ keyed_file (codes "C") Update ∷ print_file ∷ one_type ∷ field_at 1 2 Alphanumeric (codes "K") ∷ type_of_all (codes "C") 2
      ∷ calculation DetailTime none_of_three (field_named (codes "K")) Chain (field_named (codes "C")) None None none_of_three
      ∷ disk_line (codes "C") Detail (on (General 1)) ∷ constant 1 (codes "X") ∷ totals;
  answers = card_of (codes "AB") ∷ record_of (codes "AB") ∷ Refused KeyChanged ∷ [];
  requests =
      Card ∷ ChainRequest (name (codes "C")) 4 (Key (ebcdic (codes "AB")))
      ∷ UpdateRequest (name (codes "C")) (Some LastChained) (Some 0xe7 ∷ None ∷ None ∷ None ∷ []) ∷ Ask KeyChanged ∷ [];
}

-- adds a record with the key AB
abbrev pub added : Answer → Request → Halting
added refused asked = record {
  sheets =
      card_file ∷ keyed_load_file (codes "L") true ∷ print_file ∷ one_type
      ∷ addition (codes "L") Detail (on (General 1)) ∷ constant 2 (codes "AB") ∷ totals;
  answers = card_of (codes "A") ∷ refused ∷ [];
  requests = Card ∷ AddRequest (name (codes "L")) (ebcdic (codes "AB  ")) ∷ asked ∷ [];
}

-- loads AB into a file
abbrev pub loaded : SheetLine → Answer → Request → Halting
loaded file refused asked = record {
  sheets =
      card_file ∷ file ∷ print_file ∷ one_type
      ∷ disk_line (codes "L") Detail (on (General 1)) ∷ constant 2 (codes "AB") ∷ totals;
  answers = card_of (codes "A") ∷ refused ∷ [];
  requests = Card ∷ Append (name (codes "L")) (ebcdic (codes "AB  ")) ∷ asked ∷ [];
}

-- an E line whose record is refused: reply 0 skips it and continues with the next E line
abbrev pub refused_exception : Halting
refused_exception = record {
  sheets =
      card_file ∷ keyed_load_file (codes "L") true ∷ print_file ∷ one_type
      ∷ calculation DetailTime none_of_three None Except None None None none_of_three
      ∷ addition (codes "L") Exception none_of_three ∷ constant 2 (codes "AB")
      ∷ line Exception none_of_three ∷ constant 1 (codes "E") ∷ totals;
  answers = card_of (codes "A") ∷ Done ∷ Refused DuplicateKey ∷ [];
  requests = Card ∷ Jump ∷ AddRequest (name (codes "L")) (ebcdic (codes "AB  ")) ∷ Ask DuplicateKey ∷ [];
}

unfoldable pub file_reply_corners : List Corner
file_reply_corners =
    going_on Card not_found
    ++ going_on Card chained_of_no_type
    ++ going_on Card chained_bad_digit
    ++ going_on Card nothing_to_update
    ++ going_on Card key_changed
    ++ going_on Card (added (Refused DuplicateKey) (Ask DuplicateKey))
    ++ ending (added (Refused FileFull) (Ask FileFull))
    ++ ending (loaded (load_file (codes "L") false) (Refused FileFull) (Ask FileFull))
    ++ ending (loaded (keyed_load_file (codes "L") false) (Refused KeyNotAscending) (Ask KeyNotAscending))
    ++ going_on (printed_at 1 1 (codes "E")) refused_exception
