-- Tables of records: a heading of the fields' names, and a row for each record.
use Rattle.std.specs.Prelude.{◌≡◌, ℕ, Bool, false, List, ◌++◌, map, take, ⊤}
use Rattle.std.specs.List.{flat_map, list_all, prefix_len}
use Rattle.csv.specs.Writing.{default_writer, fields_written, has_written, row_text, with_delimiter, writer_pending, writer_setup, writer_under}
use Rattle.csv.specs.declared.writer.Writer.{Writer}
use Rattle.csv.specs.declared.writer.WriterBuilder.{WriterBuilder}
use Rattle.s3_cards.specs.Names.{is_mark}
use Rattle.s3_cards.specs.declared.name.Name.{Name}
use Rattle.s3_cards.specs.Codes.{shown_byte}
use Rattle.s3_cells.specs.Inner.Fields.{cell_of, is_shown}
use Rattle.s3_cells.specs.declared.field.Field.{Field}
use Rattle.s3_cells.specs.declared.fault.ShowFault.{ShowFault}
use Rattle.s3_cells.specs.declared.fault.ShowFault.TheVariants.{NoCharacter, NoNumber, NoDate, NoMemory}
use Rattle.std.specs.Prelude.{Vec}
use Rattle.std.specs.declared.alloc.Global.{Global}

abbrev pub row_of : List Field → List ℕ → List (List ℕ)
row_of fields bytes = map (λ field. cell_of field bytes) fields

-- each value of these fields can be shown
abbrev pub are_shown : List Field → List ℕ → Bool
are_shown fields bytes = list_all (λ field. is_shown field bytes) fields

abbrev pub name_text : Name → List ℕ
name_text name = map shown_byte (take (prefix_len is_mark name.codes) name.codes)

abbrev pub heading : List Field → List (List ℕ)
heading fields = map (λ field. name_text field.name) fields

abbrev pub comma : ℕ
comma = 44

abbrev pub setup : (delimiter : ℕ) → WriterBuilder
setup delimiter = with_delimiter default_writer delimiter

-- the text of rows, with this byte between their cells
abbrev pub rows_text : (delimiter : ℕ) → List Field → List (List ℕ) → List ℕ
rows_text delimiter fields records = flat_map (λ bytes. row_text (setup delimiter) (row_of fields bytes)) records

abbrev pub table_text : (delimiter : ℕ) → List Field → List (List ℕ) → List ℕ
table_text delimiter fields records = row_text (setup delimiter) (heading fields) ++ rows_text delimiter fields records

-- the value of a field can't be shown, or memory ran out
abbrev pub IsHiddenValue : Field → List ℕ → ShowFault → Type 0
IsHiddenValue field bytes (NoCharacter position) = is_shown field bytes ≡ false
IsHiddenValue field bytes NoNumber = is_shown field bytes ≡ false
IsHiddenValue field bytes (NoDate date) = is_shown field bytes ≡ false
IsHiddenValue field bytes NoMemory = ⊤

-- one of these fields has a value that can't be shown, or memory ran out
abbrev pub IsHiddenIn : List Field → List ℕ → ShowFault → Type 0
IsHiddenIn fields bytes (NoCharacter position) = are_shown fields bytes ≡ false
IsHiddenIn fields bytes NoNumber = are_shown fields bytes ≡ false
IsHiddenIn fields bytes (NoDate date) = are_shown fields bytes ≡ false
IsHiddenIn fields bytes NoMemory = ⊤

-- ---- a writer of such a table
-- what it has written
abbrev pub text_in : Writer (Vec ℕ Global) → List ℕ
text_in writer = (writer_under writer).items ++ writer_pending writer

-- the writer is between rows
pub record IsBetweenRows (delimiter : ℕ) (writer : Writer (Vec ℕ Global)) : Type 0 where
  pub set_up : writer_setup writer ≡ setup delimiter
  pub fields : fields_written writer ≡ 0
  pub wrote : has_written writer ≡ false

-- the writer has written some rows more, and is between rows
pub record AddsText (delimiter : ℕ) (old new : Writer (Vec ℕ Global)) (text : List ℕ) : Type 0 where
  pub added : text_in new ≡ text_in old ++ text
  pub between : IsBetweenRows delimiter new
