use Rattle.std.proofs.Common.{◌∙◌, [], get_or, inl, inr, length, subst, sym}
use Rattle.csv.specs.Records.{fields_of}
use Rattle.s3_cells.specs.Inner.Fields.{LiesIn, Takes}
use Rattle.s3_load.specs.Inner.Reasons.{IsCellFault, IsColumnFault, Reports, Tries}
use Rattle.s3_load.proofs.ReasonLemmas.{more_reported, of_column, reports_as}
use Rattle.s3_load.proofs.RecordLemmas.{field_lies, one_more_taken, one_more_tried, still_told}
use Rattle.s3_load.proofs.rows.take_cells.Goals.{then-has_key, else-has_key}
use Rattle.s3_load.proofs.rows.take_cells.Goals as goal

pub loop-column-preserved : goal.loop-column-preserved
loop-column-preserved c =
    let field = c.index-fields-column.result in
    let place = c.loop-column.column in
    let lies : LiesIn (length c.args.bytes.now) field = field_lies c.args.fields.now (length c.args.bytes.now) place field c.requires.within c.loop-column-test.true c.index-fields-column.is in
    let here : LiesIn (length c.loop-column.bytes) field = subst (λ n. LiesIn n field) (sym c.loop-column.auto.bytes) lies in
    record {
      taken = λ none.
          one_more_taken c.args.fields.now (fields_of c.args.cells.now) c.args.bytes.now c.loop-column.bytes c.take_cell.new.bytes place field c.loop-column-test.true c.index-fields-column.is c.requires.apart here
          (c.loop-column.invariant.taken (c.in_ok-taken.ensures.before none))
          (subst (λ cell. Takes field cell c.loop-column.bytes c.take_cell.new.bytes) c.cell_at.ensures (c.in_ok-taken.ensures.taken none));
      key = elim c.if-has_key.branch [
        | then-has_key w ↦ elim c.in_ok-taken.ensures.key [ inl it ↦ inl (w.has_key-is ∙ it) | inr told ↦ inr told ]
        | else-has_key w ↦ elim c.loop-column.invariant.key [
          | inl it ↦ absurd (cc (w.if-has_key.false, it))
          | inr told ↦ inr (still_told c.loop-column.faults.count c.take_cell.new.faults.count c.in_ok-taken.ensures.before told)
        ]
      ];
      before = λ none. c.loop-column.invariant.before (c.in_ok-taken.ensures.before none);
      tried =
          one_more_tried c.args.fields.now (fields_of c.args.cells.now) c.args.bytes.now c.loop-column.bytes c.take_cell.new.bytes place field c.loop-column-test.true c.index-fields-column.is c.requires.apart here
          c.loop-column.invariant.tried (subst (λ cell. Tries field cell c.loop-column.bytes c.take_cell.new.bytes) c.cell_at.ensures c.in_ok-taken.ensures.tried);
      reported =
          let is_fault = IsColumnFault c.args.fields.now (fields_of c.args.cells.now) in
          more_reported is_fault c.args.faults.now c.loop-column.faults c.take_cell.new.faults c.loop-column.invariant.reported
          (reports_as (IsCellFault field (get_or (fields_of c.args.cells.now) place [])) is_fault c.loop-column.faults c.take_cell.new.faults
          (of_column c.args.fields.now (fields_of c.args.cells.now) place field c.loop-column-test.true c.index-fields-column.is)
          (subst (λ cell. Reports (IsCellFault field cell) c.loop-column.faults c.take_cell.new.faults) c.cell_at.ensures c.in_ok-taken.ensures.reported));
    }
