use Rattle.std.proofs.Common.{arith}
use Rattle.csv.specs.Records.{fields_of}
use Rattle.s3_load.proofs.table.read_row.Goals.{in-Some+in_ok-push-in-Some, in-None}
use Rattle.s3_load.proofs.table.read_row.Goals as goal

pub returns-clause-adds : goal.returns-clause-adds
returns-clause-adds g c = λ found none. elim c.match-branch-3.branch [
  | in-Some+in_ok-push-in-Some w ↦ record {
    cells = fields_of c.next_row.new.cells;
    row = w.in-Some.row;
    read = rw c.if-not-branch.false at c.in_ok-next_row.ensures.read;
    made = rw w.in-Some.is at c.in_ok-row.ensures.row none;
    added = rw w.rows-is w.in_ok-push-in-Some.ensures.items;
  }
  | in-None w ↦ let told = rw w.in-None.is at c.in_ok-row.ensures.none in absurd (omega arith)
]

pub returns-clause-reported : goal.returns-clause-reported
returns-clause-reported g c = λ found. record {
  cells = fields_of c.next_row.new.cells;
  read = rw c.if-not-branch.false at c.in_ok-next_row.ensures.read;
  reports = c.in_ok-row.ensures.reported;
}
