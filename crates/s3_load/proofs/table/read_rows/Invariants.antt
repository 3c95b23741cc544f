use Rattle.std.proofs.Common.{◌≡◌, ◌∷◌, ℕ, List, []}
use Rattle.std.specs.Prelude.{Some}
use Rattle.csv.specs.Reading.{Ready, reader_trim}
use Rattle.csv.specs.declared.reader.Trim.TheVariants as trim
use Rattle.s3_load.specs.Inner.Reasons.{HasReported}
use Rattle.s3_load.specs.Inner.Tables.{HasRows, IsReading}
use Rattle.s3_load.proofs.table.read_rows.Given as goal

abbrev pub invariant-loop : goal.invariant-loop
invariant-loop g l = record {
  ready : Ready l.reader;
  untrimmed : reader_trim l.reader ≡ trim.None;
  before : l.faults.count ≡ 0 → l.initial.faults.count ≡ 0;
  rows : l.faults.count ≡ 0 → (text : List ℕ) (heading : List (List ℕ)) → IsReading g.R.Read.remaining (Some text) l.order.delimiter (heading ∷ []) l.initial.reader
      → HasRows g.R.Read.remaining (Some text) l.order.delimiter heading l.order.layout.now.record_length l.columns.fields.items l.columns.filled.items l.order.chosen.now l.reader l.rows.items;
  reported : (text : List ℕ) (heading : List (List ℕ)) → IsReading g.R.Read.remaining (Some text) l.order.delimiter (heading ∷ []) l.initial.reader
      → HasReported g.R.Read.remaining (Some text) l.order.delimiter heading l.order.layout.now.record_length l.columns.fields.items l.columns.filled.items l.order.chosen.now l.reader l.initial.faults l.faults;
}
