-- What is reported about the rows of a table: no row without a reason.
use Rattle.std.specs.Prelude.{◌≡◌, ◌≢◌, ◌+◌, ◌<◌, ◌⊎◌, ◌∷◌, ◌++◌, ℕ, true, Option, Some, None, List, [], length, get_or}
use Rattle.std.specs.List.{All, Contains, list_any}
use Rattle.csv.specs.Reading.{AreRecords, ReadRecord, strip_bom}
use Rattle.csv.specs.declared.parser.State.TheVariants as st
use Rattle.csv.specs.declared.reader.Reader.{Reader}
use Rattle.s3_cards.specs.declared.name.Name.{Name}
use Rattle.s3_cells.specs.Inner.Fields.{IsNotTaken, Takes, field_bytes}
use Rattle.s3_cells.specs.Inner.Values.{GetsValue}
use Rattle.s3_cells.specs.declared.field.Field.{Field}
use Rattle.s3_lines.specs.declared.sheet.KeyField.{KeyField}
use Rattle.s3_record_types.specs.Inner.Chosen.{IsFaultIn}
use Rattle.s3_record_types.specs.declared.chosen.ChosenRecords.{ChosenRecords}
use Rattle.s3_load.specs.declared.fault.Reason.{Reason}
use Rattle.s3_load.specs.declared.fault.Reason.TheVariants.{Cell, Cells, OtherType, OverLines, SameKey}
use Rattle.s3_load.specs.declared.fault.ValueFault.{ValueFault}
use Rattle.s3_load.specs.declared.rows.Faults.{Faults}
use Rattle.s3_load.specs.declared.rows.Row.{Row}
use Rattle.s3_load.specs.Inner.Columns.{has_byte}
use Rattle.s3_load.specs.Inner.KeyOrder.{key_in}
use Rattle.s3_load.specs.Inner.Quotes.{is_line_end}
use Rattle.s3_load.specs.Inner.Records.{empty_record}
use Rattle.s3_load.specs.Inner.Tables.{IsReading, table_config}

-- ---- faults that are reported
-- none is counted if none is kept
abbrev pub CountsKept : Faults → Type 0
CountsKept faults = length faults.first.items ≡ 0 → faults.count ≡ 0

-- each added fault meets this predicate
pub record Reports (is_fault : ValueFault → Type 0) (old new : Faults) : Type 0 where
  pub added : List ValueFault
  pub kept : new.first.items ≡ old.first.items ++ added
  pub each : All is_fault added
  pub counted : CountsKept old → CountsKept new

-- ---- a cell
-- a cell isn't taken into this field; the report names the field and has the cell's text
abbrev pub IsCellReason : Field → (cell : List ℕ) → (named : Option Name) → Reason → Type 0
IsCellReason field cell named (Cell cause text) = (named ≡ Some field.name) × (text.items ≡ cell) × IsNotTaken field cell
IsCellReason field cell named _ = ⊥

abbrev pub IsCellFault : Field → (cell : List ℕ) → ValueFault → Type 0
IsCellFault field cell fault = IsCellReason field cell fault.field fault.reason

-- the cell of a column isn't taken into the column's field
pub record IsColumnFault (columns : List Field) (cells : List (List ℕ)) (fault : ValueFault) : Type 0 where
  pub column : ℕ
  pub within : column < length columns
  pub field : Field
  pub is : field ≡ get_or columns column field
  pub reason : IsCellFault field (get_or cells column []) fault

-- ---- a record
-- a field gets the value of a cell, or the cell isn't taken and the record is unchanged
abbrev pub Tries : Field → (cell old new : List ℕ) → Type 0
Tries field cell old new = Takes field cell old new ⊎ (IsNotTaken field cell × (new ≡ old))

-- a byte is in none of the first so many columns, apart from those whose cells aren't taken
abbrev pub StaysAt : (columns : List Field) → (cells : List (List ℕ)) → (count place : ℕ) → Type 0
StaysAt columns cells count place = (k : ℕ) (d : Field) → k < count → has_byte place (get_or columns k d) ≡ true → IsNotTaken (get_or columns k d) (get_or cells k [])

-- The first so many cells have put their values into a record if they could: each field has the value of its cell, or the cell isn't
-- taken. All bytes outside of the fields with new values are unchanged.
pub record HasTried (columns : List Field) (cells : List (List ℕ)) (old : List ℕ) (count : ℕ) (new : List ℕ) : Type 0 where
  pub long : length new ≡ length old
  pub each : (k : ℕ) (d : Field) → k < count → GetsValue (get_or columns k d).kind (get_or cells k []) (get_or columns k d).width (field_bytes (get_or columns k d) new) ⊎ IsNotTaken (get_or columns k d) (get_or cells k [])
  pub rest : (place : ℕ) → StaysAt columns cells count place → get_or new place 0 ≡ get_or old place 0

-- a record isn't of the chosen type
abbrev pub IsTypeReason : ChosenRecords → (bytes : List ℕ) → Reason → Type 0
IsTypeReason chosen bytes (OtherType fault) = IsFaultIn chosen bytes fault
IsTypeReason chosen bytes _ = ⊥

abbrev pub IsOfOtherType : ChosenRecords → (bytes : List ℕ) → ValueFault → Type 0
IsOfOtherType chosen bytes fault = IsTypeReason chosen bytes fault.reason

-- the record of the cells, with the codes of the chosen type, isn't of that type
pub record IsTypeFault (record_length : ℕ) (columns filled : List Field) (chosen : ChosenRecords) (cells : List (List ℕ)) (fault : ValueFault) : Type 0 where
  pub bytes : List ℕ
  pub made : HasTried columns cells (empty_record record_length filled chosen) (length columns) bytes
  pub reason : IsOfOtherType chosen bytes fault

-- ---- a row
-- a cell continues after the end of its line, or the row has another number of cells than the heading
abbrev pub IsShapeReason : (columns : List Field) → (cells : List (List ℕ)) → Reason → Type 0
IsShapeReason columns cells (OverLines text) = Contains cells text.items × (list_any is_line_end text.items ≡ true)
IsShapeReason columns cells (Cells found wanted) = (found ≡ length cells) × (wanted ≡ length columns) × (found ≢ wanted)
IsShapeReason columns cells _ = ⊥

-- what is reported about a row is true
abbrev pub IsRowFault : (record_length : ℕ) → (columns filled : List Field) → ChosenRecords → (cells : List (List ℕ)) → ValueFault → Type 0
IsRowFault record_length columns filled chosen cells fault =
    IsColumnFault columns cells fault ⊎ (IsTypeFault record_length columns filled chosen cells fault ⊎ IsShapeReason columns cells fault.reason)

-- one of these rows has the fault
pub record IsFaultAmong (record_length : ℕ) (columns filled : List Field) (chosen : ChosenRecords) (rows : List (List (List ℕ))) (fault : ValueFault) : Type 0 where
  pub row : ℕ
  pub within : row < length rows
  pub is : IsRowFault record_length columns filled chosen (get_or rows row []) fault

-- ---- a table
-- a row is read, and what is reported about it is true
pub record ReportsRow {R : Type 0} (rem : R → Option (List ℕ)) (record_length : ℕ) (columns filled : List Field) (chosen : ChosenRecords) (first last : Reader R) (old new : Faults) : Type 0 where
  pub cells : List (List ℕ)
  pub read : ReadRecord rem first last true cells
  pub reports : Reports (IsRowFault record_length columns filled chosen cells) old new

-- a heading and rows after it are read, and each report is true of one of the rows
pub record HasReported {R : Type 0} (rem : R → Option (List ℕ)) (text : Option (List ℕ)) (delimiter : ℕ) (heading : List (List ℕ)) (record_length : ℕ) (columns filled : List Field) (chosen : ChosenRecords) (reader : Reader R) (old new : Faults) : Type 0 where
  pub cells : List (List (List ℕ))
  pub reading : IsReading rem text delimiter (heading ∷ cells) reader
  pub reports : Reports (IsFaultAmong record_length columns filled chosen cells) old new

-- the text has this heading, and each report is true of a row after it
pub record ReportsRows (text : List ℕ) (delimiter : ℕ) (heading : List (List ℕ)) (record_length : ℕ) (columns filled : List Field) (chosen : ChosenRecords) (old new : Faults) : Type 0 where
  pub cells : List (List (List ℕ))
  pub are_records : AreRecords (table_config delimiter) st.StartRecord (strip_bom text) (heading ∷ cells)
  pub reports : Reports (IsFaultAmong record_length columns filled chosen cells) old new

-- ---- keys
-- a row has the key of another one; the report has that row's line and the key
abbrev pub IsKeyReason : KeyField → (one next : Row) → Reason → Type 0
IsKeyReason key one next (SameKey line codes) = (line ≡ one.line) × (codes.items ≡ key_in key next.bytes.items)
IsKeyReason key one next _ = ⊥

pub record HasSameKey (key : KeyField) (one next : Row) (fault : ValueFault) : Type 0 where
  pub same : key_in key one.bytes.items ≡ key_in key next.bytes.items
  pub line : fault.line ≡ next.line
  pub reason : IsKeyReason key one next fault.reason

-- one of these rows has the key of the row before it
pub record IsSameKey (key : KeyField) (rows : List Row) (fault : ValueFault) : Type 0 where
  pub place : ℕ
  pub within : place + 1 < length rows
  pub one : Row
  pub next : Row
  pub is_one : one ≡ get_or rows place one
  pub is_next : next ≡ get_or rows (place + 1) next
  pub same : HasSameKey key one next fault

-- the same statement if the file has a key
abbrev pub ReportsKeys : Option KeyField → List Row → (old new : Faults) → Type 0
ReportsKeys None rows old new = new ≡ old
ReportsKeys (Some key) rows old new = Reports (IsSameKey key rows) old new
