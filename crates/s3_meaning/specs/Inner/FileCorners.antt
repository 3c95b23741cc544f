-- Worked examples: CHAIN, update, add and load.
use Rattle.std.specs.Prelude.{ℕ, pos, true, false, List, [], ◌∷◌, Option, Some, None, codes}
use Rattle.s3_cards.specs.Codes.{ebcdic}
use Rattle.s3_lines.specs.Inner.Blanks.{none_of_three}
use Rattle.s3_lines.specs.declared.indicator.Indicator.TheVariants.{General, FirstPage, Switch}
use Rattle.s3_lines.specs.declared.sheet.FileUse.TheVariants.{Input as InputUse, Output as OutputUse, Update}
use Rattle.s3_lines.specs.declared.sheet.Designation.TheVariants.{Primary, Chained}
use Rattle.s3_lines.specs.declared.sheet.Device.TheVariants.{Disk}
use Rattle.s3_lines.specs.declared.sheet.FieldForm.TheVariants.{Alphanumeric, Zoned}
use Rattle.s3_lines.specs.declared.sheet.Operation.TheVariants.{Chain}
use Rattle.s3_lines.specs.declared.sheet.CalculationTime.TheVariants.{Detail as DetailTime}
use Rattle.s3_lines.specs.declared.sheet.OutputKind.TheVariants.{Detail, Total}
use Rattle.s3_lines.specs.declared.sheet.OutputForm.TheVariants.{Plain, Packed}
use Rattle.s3_lines.specs.declared.sheet.SheetLine.{SheetLine}
use Rattle.s3_lines.specs.declared.sheet.SheetLine.TheVariants.{File}
use Rattle.s3_operator.specs.declared.halt_code.HaltCode.TheVariants.{NothingToUpdate, DuplicateKey}
use Rattle.s3_meaning.specs.Requests.{Request, Card, Chain as ChainRequest, Append, Add, Update as UpdateRequest, Key, RecordNumber, Ask, End, Nothing, Done, Refused, Reply}
use Rattle.s3_meaning.specs.declared.current.Current.TheVariants.{NthRead, LastChained}
use Rattle.s3_meaning.specs.Inner.SheetWords.{Corner, name, on, unless, resulting, file, card_file, print_file, chained_file, keyed_file, load_file, keyed_load_file, one_type, type_of_all, field_at, calculation, digit, field_named, line, disk_line, addition, constant, value, value_cleared, card_of, record_of, read_from, printed_at}

-- ---- CHAIN
abbrev pub chain : ℕ → SheetLine
chain number = calculation DetailTime none_of_three (digit number) Chain (field_named (codes "C")) None None (resulting (Some (General 9)) None None)

abbrev pub asks_for : ℕ → Request
asks_for number = ChainRequest (name (codes "C")) 4 (RecordNumber (pos number))

-- CHAIN by record number with an indicator in 54-55. If a record is found, the indicator goes off, the record's type goes on, and its
-- fields are moved at once. If none is found, the indicator goes on.
abbrev pub chained_with_indicator : Corner
chained_with_indicator = record {
  sheets =
      card_file ∷ chained_file (codes "C") InputUse ∷ print_file ∷ one_type ∷ type_of_all (codes "C") 2 ∷ field_at 1 2 Alphanumeric (codes "X")
      ∷ chain 3
      ∷ line Detail (on (General 2)) ∷ value 2 (codes "X") Plain
      ∷ line Detail (on (General 9)) ∷ constant 1 (codes "N") ∷ [];
  answers = card_of (codes "A") ∷ Nothing ∷ Done ∷ card_of (codes "B") ∷ record_of (codes "PQ") ∷ Done ∷ [];
  requests = Card ∷ asks_for 3 ∷ printed_at 1 1 (codes "N") ∷ Card ∷ asks_for 3 ∷ printed_at 1 2 (codes "PQ") ∷ Card ∷ [];
}

-- CHAIN turns the file's types off, so after a second CHAIN that finds no record, none is on; the fields keep their values
abbrev pub chained_twice : Corner
chained_twice = record {
  sheets =
      card_file ∷ chained_file (codes "C") InputUse ∷ print_file ∷ one_type ∷ type_of_all (codes "C") 2 ∷ field_at 1 2 Alphanumeric (codes "X")
      ∷ chain 3 ∷ chain 4
      ∷ line Detail (on (General 2)) ∷ constant 1 (codes "2")
      ∷ line Detail (on (General 9)) ∷ value 2 (codes "X") Plain ∷ [];
  answers = card_of (codes "A") ∷ record_of (codes "PQ") ∷ Nothing ∷ Done ∷ [];
  requests = Card ∷ asks_for 3 ∷ asks_for 4 ∷ printed_at 1 1 (codes "PQ") ∷ Card ∷ [];
}

-- CHAIN finds no record in a file whose condition is off, and makes no request
abbrev pub chained_switched_off : Corner
chained_switched_off = record {
  sheets =
      card_file ∷ File (record (file (codes "C") InputUse (Some Chained) Disk 4) { is_random = true; condition = Some (Switch 2) }) ∷ print_file
      ∷ one_type ∷ type_of_all (codes "C") 2 ∷ chain 3
      ∷ line Detail (on (General 9)) ∷ constant 1 (codes "N") ∷ [];
  answers = card_of (codes "A") ∷ Done ∷ [];
  requests = Card ∷ printed_at 1 1 (codes "N") ∷ Card ∷ [];
}

-- ---- updates
-- An update changes only the positions that the line writes, in the record that the last CHAIN found. After a CHAIN that found none there
-- is no record to update. The key is a field of a card.
abbrev pub chained_and_updated : Corner
chained_and_updated = record {
  sheets =
      card_file ∷ keyed_file (codes "C") Update ∷ print_file ∷ one_type ∷ field_at 1 2 Alphanumeric (codes "K") ∷ type_of_all (codes "C") 2
      ∷ calculation DetailTime none_of_three (field_named (codes "K")) Chain (field_named (codes "C")) None None (resulting (Some (General 9)) None None)
      ∷ disk_line (codes "C") Detail (on (General 1)) ∷ constant 3 (codes "Z") ∷ [];
  answers = card_of (codes "AB") ∷ record_of (codes "AB12") ∷ Done ∷ card_of (codes "CD") ∷ Nothing ∷ Refused NothingToUpdate ∷ Reply 0 ∷ [];
  requests =
      Card ∷ ChainRequest (name (codes "C")) 4 (Key (ebcdic (codes "AB")))
      ∷ UpdateRequest (name (codes "C")) (Some LastChained) (None ∷ None ∷ Some 0xe9 ∷ None ∷ [])
      ∷ Card ∷ ChainRequest (name (codes "C")) 4 (Key (ebcdic (codes "CD")))
      ∷ UpdateRequest (name (codes "C")) None (None ∷ None ∷ Some 0xe9 ∷ None ∷ []) ∷ Ask NothingToUpdate ∷ Card ∷ [];
}

-- in a file read in order, the current record is the one whose fields were moved last: at total time, the previous record
abbrev pub read_and_updated : Corner
read_and_updated = record {
  sheets =
      File (file (codes "P") Update (Some Primary) Disk 4) ∷ print_file ∷ type_of_all (codes "P") 1
      ∷ disk_line (codes "P") Detail (unless FirstPage) ∷ constant 1 (codes "D")
      ∷ disk_line (codes "P") Total none_of_three ∷ constant 4 (codes "T") ∷ [];
  answers = record_of (codes "1") ∷ Done ∷ record_of (codes "2") ∷ Done ∷ Done ∷ Nothing ∷ Done ∷ [];
  requests =
      read_from (codes "P") ∷ update_of 1 at_first ∷ read_from (codes "P") ∷ update_of 1 at_last
      ∷ update_of 2 at_first ∷ read_from (codes "P") ∷ update_of 2 at_last ∷ End false ∷ [];
}
  where
    update_of : ℕ → List (Option ℕ) → Request
    update_of n changes = UpdateRequest (name (codes "P")) (Some (NthRead n)) changes

    at_first : List (Option ℕ)
    at_first = Some 0xc4 ∷ None ∷ None ∷ None ∷ []

    at_last : List (Option ℕ)
    at_last = None ∷ None ∷ None ∷ Some 0xe3 ∷ []

-- before the first record is read, there is no record to update
abbrev pub updated_too_early : Corner
updated_too_early = record {
  sheets =
      File (file (codes "P") Update (Some Primary) Disk 4) ∷ print_file ∷ type_of_all (codes "P") 1
      ∷ disk_line (codes "P") Detail none_of_three ∷ constant 1 (codes "D") ∷ [];
  answers = Refused NothingToUpdate ∷ Reply 0 ∷ [];
  requests =
      UpdateRequest (name (codes "P")) None (Some 0xc4 ∷ None ∷ None ∷ None ∷ []) ∷ Ask NothingToUpdate ∷ read_from (codes "P") ∷ [];
}

-- ---- new records
-- A line with ADD adds by key if its file has a key, else at the end. A line without ADD appends to a load file, and updates a direct load.
-- Positions that no field writes are blank. The packed field is -12.
abbrev pub new_records : Corner
new_records = record {
  sheets =
      card_file ∷ keyed_load_file (codes "K") true ∷ load_file (codes "S") true ∷ load_file (codes "L") false
      ∷ chained_file (codes "D") OutputUse ∷ print_file ∷ one_type ∷ field_at 1 2 (Zoned 0) (codes "N")
      ∷ addition (codes "K") Detail (on (General 1)) ∷ constant 2 (codes "AB")
      ∷ addition (codes "S") Detail (on (General 1)) ∷ constant 3 (codes "C")
      ∷ disk_line (codes "L") Detail (on (General 1)) ∷ constant 1 (codes "D") ∷ value 4 (codes "N") Packed
      ∷ disk_line (codes "D") Detail (on (General 1)) ∷ constant 1 (codes "E") ∷ [];
  answers = card_of (codes "1K") ∷ Done ∷ Done ∷ Done ∷ Done ∷ [];
  requests =
      Card ∷ Add (name (codes "K")) (ebcdic (codes "AB  ")) ∷ Append (name (codes "S")) (ebcdic (codes "  C "))
      ∷ Append (name (codes "L")) (0xc4 ∷ 0x40 ∷ 0x01 ∷ 0x2d ∷ [])
      ∷ UpdateRequest (name (codes "D")) None (Some 0xc5 ∷ None ∷ None ∷ None ∷ []) ∷ Card ∷ [];
}

-- blank after acts on a refused record too, because its fields were written; so also if reply 0 skips it
abbrev pub refused_and_blanked : Corner
refused_and_blanked = record {
  sheets =
      card_file ∷ keyed_load_file (codes "K") true ∷ print_file ∷ one_type ∷ field_at 1 2 Alphanumeric (codes "X")
      ∷ addition (codes "K") Detail (on (General 1)) ∷ value_cleared 2 (codes "X") Plain
      ∷ line Detail (on (General 1)) ∷ value 2 (codes "X") Plain ∷ constant 3 (codes "P") ∷ [];
  answers = card_of (codes "AB") ∷ Refused DuplicateKey ∷ Reply 0 ∷ Done ∷ [];
  requests = Card ∷ Add (name (codes "K")) (ebcdic (codes "AB  ")) ∷ Ask DuplicateKey ∷ printed_at 1 1 (codes "  P") ∷ Card ∷ [];
}

unfoldable pub file_corners : List Corner
file_corners =
    chained_with_indicator ∷ chained_twice ∷ chained_switched_off ∷ chained_and_updated ∷ read_and_updated ∷ updated_too_early
    ∷ new_records ∷ refused_and_blanked ∷ []
