use Rattle.std.specs.Prelude.{Some}
use Rattle.s3_load.proofs.ReasonLemmas.{all_reported, one_more_reported}
use Rattle.s3_load.proofs.TableLemmas.{all_rows, one_more_row}
use Rattle.s3_load.proofs.table.read_rows.Goals as goal

pub returns-then-not-branch-clause-rows : goal.returns-then-not-branch-clause-rows
returns-then-not-branch-clause-rows g c = λ none text heading reading.
    all_rows g.R.Read.remaining text c.args.order.now.delimiter heading c.args.order.now.layout.now.record_length c.args.columns.now.fields.items c.args.columns.now.filled.items c.args.order.now.chosen.now c.loop.reader c.read_row.new.reader c.loop.rows.items
    c.read_row.new.rows.items (c.loop.invariant.rows (c.in_ok-read_row.ensures.before none) text heading reading) (c.in_ok-read_row.ensures.end c.if-not-branch.true)

pub returns-then-not-branch-clause-reported : goal.returns-then-not-branch-clause-reported
returns-then-not-branch-clause-reported g c = λ text heading reading.
    all_reported g.R.Read.remaining text c.args.order.now.delimiter heading c.args.order.now.layout.now.record_length c.args.columns.now.fields.items c.args.columns.now.filled.items c.args.order.now.chosen.now c.loop.reader c.read_row.new.reader
    c.args.faults.now c.loop.faults c.read_row.new.faults c.loop.rows.items c.read_row.new.rows.items (c.loop.invariant.reported text heading reading) (c.in_ok-read_row.ensures.end c.if-not-branch.true) (c.in_ok-read_row.ensures.silent c.if-not-branch.true)

pub loop-preserved : goal.loop-preserved
loop-preserved g c = record {
  ready = c.in_ok-read_row.ensures.ready;
  untrimmed = c.in_ok-read_row.ensures.untrimmed;
  before = λ none. c.loop.invariant.before (c.in_ok-read_row.ensures.before none);
  rows = λ none text heading reading.
      one_more_row g.R.Read.remaining (Some text) c.args.order.now.delimiter heading c.args.order.now.layout.now.record_length c.args.columns.now.fields.items c.args.columns.now.filled.items c.args.order.now.chosen.now c.loop.reader c.read_row.new.reader c.loop.rows.items
      c.read_row.new.rows.items (c.loop.invariant.rows (c.in_ok-read_row.ensures.before none) text heading reading) c.in_ok-read_row.ensures.ready (c.in_ok-read_row.ensures.adds c.if-not-branch.false none);
  reported = λ text heading reading.
      one_more_reported g.R.Read.remaining (Some text) c.args.order.now.delimiter heading c.args.order.now.layout.now.record_length c.args.columns.now.fields.items c.args.columns.now.filled.items c.args.order.now.chosen.now c.loop.reader c.read_row.new.reader
      c.args.faults.now c.loop.faults c.read_row.new.faults (c.loop.invariant.reported text heading reading) c.in_ok-read_row.ensures.ready (c.in_ok-read_row.ensures.reported c.if-not-branch.false);
}
