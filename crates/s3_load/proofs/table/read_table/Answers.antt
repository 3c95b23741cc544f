use Rattle.std.proofs.Common.{◌≡◌, ◌∷◌, [], arith, subst, true}
use Rattle.std.specs.Prelude.{Some}
use Rattle.csv.specs.Reading.{ReadRecord}
use Rattle.csv.specs.Records.{fields_of}
use Rattle.s3_load.specs.Inner.Tables.{IsReading}
use Rattle.s3_load.proofs.TableLemmas.{reads_more}
use Rattle.s3_load.proofs.table.read_table.Goals as goal

pub returns-clause-table : goal.returns-clause-table
returns-clause-table g c = λ text source.
    let order = c.args.order.now in
    let table = c.reader_of-table.result in
    let heading = fields_of c.next_row.new.cells in
    let reading : IsReading g.R.Read.remaining (Some text) order.delimiter [] table = subst (λ t. IsReading g.R.Read.remaining t order.delimiter [] table) source c.reader_of-table.ensures in
    let read : ReadRecord g.R.Read.remaining table c.next_row.new.reader true heading = subst (λ b. ReadRecord g.R.Read.remaining table c.next_row.new.reader b heading) c.if-not-branch.false c.in_ok-next_row.ensures.read in
    let begun : IsReading g.R.Read.remaining (Some text) order.delimiter (heading ∷ []) c.next_row.new.reader =
    reads_more g.R.Read.remaining (Some text) order.delimiter [] table c.next_row.new.reader heading reading c.in_ok-next_row.ensures.ready read in
    let none : c.sort_by_key.new.faults.count ≡ 0 = omega arith in
    record {
      heading = heading;
      columns = c.in_ok-columns.columns;
      named = c.in_ok-columns.ensures.heading;
      made = c.in_ok-rows.rows.items;
      are_rows = c.in_ok-rows.ensures.rows (c.in_ok-sort_by_key.ensures.before none) text heading begun;
      same = c.in_ok-sort_by_key.ensures.same;
      unkeyed = c.sort_by_key.ensures.unkeyed;
      keyed = c.in_ok-sort_by_key.ensures.keyed none;
    }
