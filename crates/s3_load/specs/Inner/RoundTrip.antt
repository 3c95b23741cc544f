-- Tables that were loaded into files, and the tables that these are unloaded as.
use Rattle.std.specs.Prelude.{◌≡◌, ◌<◌, ℕ, true, ⊤, Option, None, Some, Ok, List, [], ◌∷◌, IsPermutation, length, map, get_or}
use Rattle.std.specs.Cmp.Lexicographic.{slice_cmp}
use Rattle.std.specs.List.{All, AllPairs}
use Rattle.std.specs.Ordering.{nat_cmp}
use Rattle.std.specs.declared.cmp.Ordering.TheVariants.{Less}
use Rattle.csv.specs.Reading.{AreRecords, strip_bom}
use Rattle.csv.specs.declared.parser.State.TheVariants as st
use Rattle.s3_slots.specs.Header.{mounted}
use Rattle.s3_slots.specs.declared.header.Header.{Header}
use Rattle.s3_slots.specs.declared.label.FileLabel.{FileLabel}
use Rattle.s3_slots.specs.declared.slot.Slot.TheVariants.{Sound}
use Rattle.s3_labels.specs.Areas.{area_of}
use Rattle.s3_pack_care.specs.Inner.Kept.{slot_on}
use Rattle.s3_cells.specs.Inner.Fields.{field_bytes}
use Rattle.s3_cells.specs.Inner.Values.{value_in, value_read}
use Rattle.s3_cells.specs.declared.field.Field.{Field}
use Rattle.s3_lines.specs.declared.sheet.KeyField.{KeyField}
use Rattle.s3_unload.specs.Inner.Ordered.{ordered}
use Rattle.s3_unload.specs.Inner.Tables.{are_shown, heading, row_of}
use Rattle.s3_load.specs.declared.order.Order.{Order}
use Rattle.s3_load.specs.Inner.Columns.{AreNamed, IsNamed, bare, is_inside}
use Rattle.s3_load.specs.Inner.KeyOrder.{key_in}
use Rattle.s3_load.specs.Inner.Loaded.{IsAsked}
use Rattle.s3_load.specs.Inner.Records.{AreAsWritten}
use Rattle.s3_load.specs.Inner.Tables.{table_config}

-- a row has a cell for each column; the record can be shown in each, and has there the value of the cell
pub record ShowsRow (columns : List Field) (cells : List (List ℕ)) (bytes : List ℕ) : Type 0 where
  pub counted : length cells ≡ length columns
  pub shown : are_shown columns bytes ≡ true
  pub values : (k : ℕ) (d : Field) → k < length columns → value_read (get_or columns k d).kind (get_or cells k []) ≡ Some (value_in (get_or columns k d).kind (field_bytes (get_or columns k d) bytes))

-- there is one record for each row, and it shows that row
pub record ShowRows (columns : List Field) (rows : List (List (List ℕ))) (records : List (List ℕ)) : Type 0 where
  pub counted : length records ≡ length rows
  pub each : (k : ℕ) → k < length rows → ShowsRow columns (get_or rows k []) (get_or records k [])

-- the text is a table: a heading, which names these columns, and the rows after it
pub record IsTableText (text : List ℕ) (delimiter : ℕ) (fields columns : List Field) (rows : List (List (List ℕ))) : Type 0 where
  pub heading : List (List ℕ)
  pub are_records : AreRecords (table_config delimiter) st.StartRecord (strip_bom text) (heading ∷ rows)
  pub named : AreNamed fields heading (length heading) columns

-- a slot of the level's area has an ordered file
pub record HasFileAsked (order : Order) (contents : List (List ℕ)) (label : FileLabel) : Type 0 where
  pub header : Header
  pub mounts : mounted contents ≡ Ok header
  pub slot : ℕ
  pub slot_in : slot < 32
  pub there : slot_on header contents (area_of order.level) slot ≡ Some (Sound label)
  pub asked : IsAsked order label

-- each record's key comes before the keys of all later records, character by character; without a key, any order will do
abbrev pub AreByKey : Option KeyField → List (List ℕ) → Type 0
AreByKey None records = ⊤
AreByKey (Some key) records = AllPairs (λ one other. slice_cmp nat_cmp (key_in key one) (key_in key other) ≡ Less) records

-- The file is unloaded as these records: in the order of their keys, or for a file without keys in the order given here. If the given
-- order is that of the keys, they are unloaded in this order.
pub record AreUnloaded (order : Order) (label : FileLabel) (contents records : List (List ℕ)) : Type 0 where
  pub same : IsPermutation records (ordered label contents)
  pub unkeyed : order.key ≡ None → ordered label contents ≡ records
  pub keyed : AreByKey order.key (ordered label contents)
  pub in_order : AreByKey order.key records → ordered label contents ≡ records

-- A loaded file is unloaded as records that show the table's rows, one for each: in the order of their keys, or for a file without keys in
-- the order of the rows.
pub record UnloadsTable (order : Order) (text : List ℕ) (contents : List (List ℕ)) : Type 0 where
  pub columns : List Field
  pub rows : List (List (List ℕ))
  pub table : IsTableText text order.delimiter order.layout.now.fields.items columns rows
  pub label : FileLabel
  pub file : HasFileAsked order contents label
  pub records : List (List ℕ)
  pub shows : ShowRows columns rows records
  pub unloaded : AreUnloaded order label contents records

-- ---- unloaded, and then loaded
-- in the heading of these fields, each cell names only its own field
abbrev pub AreToldApart : List Field → Type 0
AreToldApart fields = (k : ℕ) (d field : Field) → k < length fields → IsNamed fields (bare (get_or (heading fields) k [])) field → field ≡ get_or fields k d

-- These fields cover whole records of so many bytes. Each value can be shown, and each number has the bytes with which the program writes
-- it.
pub record SayAll (record_length : ℕ) (fields : List Field) (records : List (List ℕ)) : Type 0 where
  pub long : All (λ bytes. length bytes ≡ record_length) records
  pub covered : (place : ℕ) → place < record_length → is_inside fields place ≡ true
  pub shown : All (λ bytes. are_shown fields bytes ≡ true) records
  pub written : All (AreAsWritten fields) records

-- the text reads as the table of these records: the heading of the fields, and a row for each record
abbrev pub ReadsAsTable : (text : List ℕ) (delimiter : ℕ) (fields : List Field) (records : List (List ℕ)) → Type 0
ReadsAsTable text delimiter fields records = AreRecords (table_config delimiter) st.StartRecord (strip_bom text) (heading fields ∷ map (row_of fields) records)

-- the ordered file has these records again
pub record HasRecordsAgain (order : Order) (records contents : List (List ℕ)) : Type 0 where
  pub label : FileLabel
  pub file : HasFileAsked order contents label
  pub unloaded : AreUnloaded order label contents records
