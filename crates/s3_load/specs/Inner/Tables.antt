-- Tables, as their texts give them.
use Rattle.std.specs.Prelude.{◌≡◌, ◌<◌, ℕ, Bool, true, false, ⊤, Option, Some, None, List, [], ◌∷◌, ◌++◌, length, get_or}
use Rattle.std.specs.Prelude.{IsPermutation}
use Rattle.csv.specs.Reading.{AreRecords, ReadRecord, Reached, Ready, default_config, reader_config, reader_state, reader_trim, source_of, strip_bom}
use Rattle.csv.specs.declared.parser.Config.{Config}
use Rattle.csv.specs.declared.parser.State.TheVariants as st
use Rattle.csv.specs.declared.reader.Reader.{Reader}
use Rattle.csv.specs.declared.reader.Trim.TheVariants as trim
use Rattle.s3_cells.specs.declared.field.Field.{Field}
use Rattle.s3_lines.specs.declared.sheet.KeyField.{KeyField}
use Rattle.s3_record_types.specs.declared.chosen.ChosenRecords.{ChosenRecords}
use Rattle.s3_load.specs.declared.columns.Columns.{Columns}
use Rattle.s3_load.specs.declared.rows.Row.{Row}
use Rattle.s3_load.specs.Inner.Columns.{IsHeading}
use Rattle.s3_load.specs.Inner.KeyOrder.{AreInKeyOrder}
use Rattle.s3_load.specs.Inner.Records.{IsRecordOf}

-- the settings for reading a table with this byte between its cells
abbrev pub table_config : ℕ → Config
table_config delimiter = record default_config { delimiter = delimiter }

-- these are the records of rows, one for each
pub record AreRecordsOf (record_length : ℕ) (columns filled : List Field) (chosen : ChosenRecords) (cells : List (List (List ℕ))) (rows : List Row) : Type 0 where
  pub counted : length rows ≡ length cells
  pub each : (k : ℕ) (d : Row) → k < length cells → IsRecordOf record_length columns filled chosen (get_or cells k []) (get_or rows k d).bytes.items

-- ---- a reader of a text, if its bytes are known
abbrev pub HasRead : {R : Type 0} → (R → Option (List ℕ)) → Option (List ℕ) → ℕ → List (List (List ℕ)) → Reader R → Type 0
HasRead rem None delimiter rows reader = ⊤
HasRead rem (Some text) delimiter rows reader = (rest : List ℕ) × (source_of rem reader ≡ Some rest) × Reached (table_config delimiter) st.StartRecord (strip_bom text) rows (reader_state reader) rest

-- the reader has read these rows of the text, and reads the next one next
pub record IsReading {R : Type 0} (rem : R → Option (List ℕ)) (text : Option (List ℕ)) (delimiter : ℕ) (rows : List (List (List ℕ))) (reader : Reader R) : Type 0 where
  pub ready : Ready reader
  pub untrimmed : reader_trim reader ≡ trim.None
  pub config : reader_config reader ≡ table_config delimiter
  pub read : HasRead rem text delimiter rows reader

-- the reader has read a row, which gives one record more; or there was none
pub record AddsRow {R : Type 0} (rem : R → Option (List ℕ)) (record_length : ℕ) (columns filled : List Field) (chosen : ChosenRecords) (first last : Reader R) (old new : List Row) : Type 0 where
  pub cells : List (List ℕ)
  pub row : Row
  pub read : ReadRecord rem first last true cells
  pub made : IsRecordOf record_length columns filled chosen cells row.bytes.items
  pub added : new ≡ old ++ row ∷ []

pub record FindsEnd {R : Type 0} (rem : R → Option (List ℕ)) (first last : Reader R) (old new : List Row) : Type 0 where
  pub cells : List (List ℕ)
  pub read : ReadRecord rem first last false cells
  pub same : new ≡ old

-- the reader has read a heading and rows after it, and these are their records
pub record HasRows {R : Type 0} (rem : R → Option (List ℕ)) (text : Option (List ℕ)) (delimiter : ℕ) (heading : List (List ℕ)) (record_length : ℕ) (columns filled : List Field) (chosen : ChosenRecords) (reader : Reader R) (rows : List Row) : Type 0 where
  pub cells : List (List (List ℕ))
  pub reading : IsReading rem text delimiter (heading ∷ cells) reader
  pub made : AreRecordsOf record_length columns filled chosen cells rows

-- ---- a table
-- the text has this heading, and these are the records of the rows after it
pub record AreRowsOf (text : List ℕ) (delimiter : ℕ) (heading : List (List ℕ)) (record_length : ℕ) (columns filled : List Field) (chosen : ChosenRecords) (rows : List Row) : Type 0 where
  pub cells : List (List (List ℕ))
  pub are_records : AreRecords (table_config delimiter) st.StartRecord (strip_bom text) (heading ∷ cells)
  pub made : AreRecordsOf record_length columns filled chosen cells rows

-- the records of a table, each once: in the order of their keys, or for a file without keys in the order of the rows
pub record IsTable (text : List ℕ) (delimiter : ℕ) (record_length : ℕ) (fields : List Field) (fills : Bool) (chosen : ChosenRecords) (key : Option KeyField) (rows : List Row) : Type 0 where
  pub heading : List (List ℕ)
  pub columns : Columns
  pub named : IsHeading fields fills heading columns
  pub made : List Row
  pub are_rows : AreRowsOf text delimiter heading record_length columns.fields.items columns.filled.items chosen made
  pub same : IsPermutation made rows
  pub unkeyed : key ≡ None → rows ≡ made
  pub keyed : AreInKeyOrder key rows
