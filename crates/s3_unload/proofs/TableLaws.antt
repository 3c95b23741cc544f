-- What a table reads as.
use Rattle.std.proofs.Common.{◌≡◌, ℕ, refl, List, [], ◌∷◌, map}
use Rattle.std.specs.Prelude.{None}
use Rattle.csv.specs.Machine.{next_record}
use Rattle.csv.specs.Reading.{AreRecords, Reached, default_config}
use Rattle.csv.specs.declared.parser.State.TheVariants.{StartRecord}
use Rattle.csv.proofs.RoundTrip.{read-write}
use Rattle.s3_cells.specs.declared.field.Field.{Field}
use Rattle.s3_unload.specs.Inner.Tables.{comma, heading, row_of, rows_text, table_text}

rows_read : (field : Field) (fields : List Field) (records : List (List ℕ)) → Reached default_config StartRecord (rows_text comma (field ∷ fields) records) (map (row_of (field ∷ fields)) records) StartRecord []
unfolding Reached
rows_read field fields [] = (refl, refl)
rows_read field fields (bytes ∷ records) = (
  (row_of (field ∷ fields) bytes, StartRecord, rows_text comma (field ∷ fields) records),
  read-write (row_of (field ∷ fields) bytes) (rows_text comma (field ∷ fields) records),
  refl,
  rows_read field fields records,
)

nothing_more : next_record default_config StartRecord [] [] [] ≡ None
unfolding next_record
nothing_more = refl

pub table_reads : (field : Field) (fields : List Field) (records : List (List ℕ)) → AreRecords default_config StartRecord (table_text comma (field ∷ fields) records) (heading (field ∷ fields) ∷ map (row_of (field ∷ fields)) records)
unfolding Reached
table_reads field fields records = (
  StartRecord,
  [],
  (
    (heading (field ∷ fields), StartRecord, rows_text comma (field ∷ fields) records),
    read-write (heading (field ∷ fields)) (rows_text comma (field ∷ fields) records),
    refl,
    rows_read field fields records,
  ),
  nothing_more,
)
