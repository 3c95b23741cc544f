-- Texts of records of a fixed length, and packs that were loaded from them.
use Rattle.std.specs.Prelude.{◌≡◌, ℕ, zero, suc, ◌+◌, ◌<◌, ◌==◌, ◌&&◌, ◌||◌, nat_le, Bool, true, Option, Some, None, List, [], ◌∷◌, length, map, take, drop, get_or, IsPermutation}
use Rattle.std.specs.List.{All, list_all}
use Rattle.std.specs.Str.Lines.{lines}
use Rattle.s3_cells.specs.Inner.Texts.{has_code, text_bytes}
use Rattle.s3_lines.specs.declared.sheet.KeyField.{KeyField}
use Rattle.s3_unload.specs.Inner.Fixed.{ebcdic_line_feed, is_fixed}
use Rattle.s3_unload.specs.declared.fixed.FixedForm.{FixedForm}
use Rattle.s3_unload.specs.declared.fixed.FixedForm.TheVariants.{Ebcdic, EbcdicLines, Ascii, AsciiLines}
use Rattle.s3_load.specs.declared.order.Order.{Order}
use Rattle.s3_load.specs.declared.rows.Row.{Row}
use Rattle.s3_load.specs.Inner.Filling.{records_of}
use Rattle.s3_load.specs.Inner.KeyOrder.{AreInKeyOrder}
use Rattle.s3_load.specs.Inner.Loaded.{HasRecords}

-- ---- the pieces of a text
-- at most so many pieces of so many bytes; the last piece may be shorter
unfoldable pub cut_by : (most unit : ℕ) → List ℕ → List (List ℕ)
cut_by zero unit text = []
cut_by (suc most) unit [] = []
cut_by (suc most) unit (byte ∷ text) = take unit (byte ∷ text) ∷ cut_by most unit (drop unit (byte ∷ text))

unfoldable pub cut : (unit : ℕ) → List ℕ → List (List ℕ)
cut unit text = cut_by (length text) unit text

-- the number of bytes for a record, with its line feed
abbrev pub unit_of : FixedForm → (record_length : ℕ) → ℕ
unit_of Ebcdic record_length = record_length
unit_of EbcdicLines record_length = record_length + 1
unit_of Ascii record_length = record_length
unit_of AsciiLines record_length = record_length + 1

-- a piece for each record: a line, or so many bytes
abbrev pub pieces : FixedForm → (record_length : ℕ) → List ℕ → List (List ℕ)
pieces Ebcdic record_length text = cut record_length text
pieces EbcdicLines record_length text = cut (record_length + 1) text
pieces Ascii record_length text = cut record_length text
pieces AsciiLines record_length text = lines text

-- so many bytes, followed by the line feed of EBCDIC if a record follows
abbrev pub ends_record : (record_length : ℕ) → List ℕ → Bool
ends_record record_length piece = (length piece == record_length) || ((length piece == record_length + 1) && (get_or piece record_length 0 == ebcdic_line_feed))

-- a piece is a record: it has the record's bytes, or characters of cards
abbrev pub is_piece : FixedForm → (record_length : ℕ) → List ℕ → Bool
is_piece Ebcdic record_length piece = length piece == record_length
is_piece EbcdicLines record_length piece = ends_record record_length piece
is_piece Ascii record_length piece = (length piece == record_length) && list_all has_code piece
is_piece AsciiLines record_length piece = nat_le (length piece) record_length && list_all has_code piece

-- the record of a piece: its bytes, or the codes of its characters, and blanks after a short line
abbrev pub record_of : FixedForm → (record_length : ℕ) → List ℕ → List ℕ
record_of Ebcdic record_length piece = take record_length piece
record_of EbcdicLines record_length piece = take record_length piece
record_of Ascii record_length piece = text_bytes record_length piece
record_of AsciiLines record_length piece = text_bytes record_length piece

-- ---- a text
-- each piece of the text is a record, and these are the records
pub record ReadsAs (form : FixedForm) (record_length : ℕ) (text : List ℕ) (records : List (List ℕ)) : Type 0 where
  pub fits : list_all (is_piece form record_length) (pieces form record_length text) ≡ true
  pub read : records ≡ map (record_of form record_length) (pieces form record_length text)

abbrev pub AreFixedRecords : FixedForm → (record_length : ℕ) → List ℕ → List Row → Type 0
AreFixedRecords form record_length text rows = ReadsAs form record_length text (records_of rows)

-- the records of a text, each once: in the order of their keys, or for a file without keys in the order of the text
pub record IsFixedText (form : FixedForm) (record_length : ℕ) (key : Option KeyField) (text : List ℕ) (rows : List Row) : Type 0 where
  pub made : List Row
  pub are_records : AreFixedRecords form record_length text made
  pub same : IsPermutation made rows
  pub unkeyed : key ≡ None → rows ≡ made
  pub keyed : AreInKeyOrder key rows

-- ---- a pack
-- The pack has the records of a text in the ordered file, if the bytes of the text are known.
pub record IsLoadedFixed (order : Order) (form : FixedForm) (text : Option (List ℕ)) (old new : List (List ℕ)) : Type 0 where
  pub rows : List Row
  pub records : (bytes : List ℕ) → text ≡ Some bytes → IsFixedText form order.layout.now.record_length order.key bytes rows
  pub has : HasRecords order (records_of rows) old new

-- ---- unloaded, and then loaded
-- these records have this length, and can be written in the form
pub record AreWritable (form : FixedForm) (record_length : ℕ) (records : List (List ℕ)) : Type 0 where
  pub long : All (λ bytes. length bytes ≡ record_length) records
  pub fits : list_all (is_fixed form) records ≡ true

-- each code of these records is a byte
abbrev pub AreOfBytes : List (List ℕ) → Type 0
AreOfBytes records = All (λ bytes. All (λ byte. byte < 256) bytes) records
