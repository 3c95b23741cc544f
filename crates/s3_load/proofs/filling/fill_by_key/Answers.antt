use Rattle.std.proofs.Common.{◌≡◌, ◌∙◌, arith, refl, subst, sym, true}
use Rattle.std.proofs.lemmas.Bool.{cases_Bool}
use Rattle.std.proofs.Common.{inl, inr}
use Rattle.s3_slots.specs.Labels.{sectors_of}
use Rattle.s3_files.proofs.Rooms.{of_pack_room}
use Rattle.s3_keyed.proofs.Indexes.{of_pack_index}
use Rattle.s3_keyed.specs.Inner.Keyed.{shown}
use Rattle.s3_load.specs.Inner.Filling.{HasMore, KeepsSpare, records_of}
use Rattle.s3_load.proofs.FillLemmas.{all_by_key, one_more_by_key, only_closed, only_more, spare_by_key, spare_closed}
use Rattle.s3_load.proofs.filling.fill_by_key.Goals.{then-fits, else-fits}
use Rattle.s3_load.proofs.filling.fill_by_key.Goals as goal

pub check-requires-clause-room : goal.check-requires-clause-room
check-requires-clause-room c = of_pack_room _ _ c.requires.on_pack

pub check-requires-clause-index : goal.check-requires-clause-index
check-requires-clause-index c = of_pack_index _ _ c.requires.on_pack c.requires.indexed

pub loop-row-preserved : goal.loop-row-preserved
loop-row-preserved c = record {
  work = c.in_ok-put.ensures.work;
  records = λ fits none. elim c.if-fits.branch [
    | then-fits w ↦
        one_more_by_key c.loop-row.file c.put_row.new.file c.args.label.now c.args.rows.now c.loop-row.row-index c.row-item.result c.check.new.pool c.loop-row.store c.put_row.new.store (omega arith) c.row-item.is
        (c.loop-row.invariant.records w.if-fits.true (c.in_ok-put.ensures.before none)) (c.in_ok-put.ensures.adds (sym w.fits-is ∙ fits) none)
    | else-fits w ↦ absurd (cc (w.fits-is, fits))
  ];
  spare = λ fits none. elim c.if-fits.branch [
    | then-fits w ↦
        spare_by_key c.loop-row.file c.put_row.new.file c.args.label.now c.row-item.result.bytes.items c.check.new.pool c.loop-row.store c.put_row.new.store c.loop-row.invariant.work
        (c.in_ok-put.ensures.adds (sym w.fits-is ∙ fits) none) (c.loop-row.invariant.spare w.if-fits.true (c.in_ok-put.ensures.before none)) c.in_ok-put.ensures.spare
    | else-fits w ↦ absurd (cc (w.fits-is, fits))
  ];
  long = c.put_row.ensures.long ∙ c.loop-row.invariant.long;
  only = only_more (sectors_of c.args.label.now) (sectors_of c.args.label.now) c.check.new.pool c.loop-row.store c.put_row.new.store refl c.loop-row.invariant.only c.put_row.ensures.only;
}

pub returns-in-Ok-close-clause-records : goal.returns-in-Ok-close-clause-records
returns-in-Ok-close-clause-records c =
    let same : c.check.new.pool ≡ c.args.store.now = c.check.ensures.keeps.contents in
    let fits : c.loop-row.fits ≡ true = elim (cases_Bool c.loop-row.fits) [ inl it ↦ it | inr other ↦ absurd (cc (other, c.if-not-fits.false)) ] in
    let none : c.loop-row.faults.count ≡ 0 = omega arith in
    let more = all_by_key c.loop-row.file c.args.label.now c.args.rows.now c.loop-row.row-index c.check.new.pool c.loop-row.store c.close.new.pool c.requires.indexed (omega arith) c.loop-row.invariant.work
    (c.loop-row.invariant.records fits none) c.close.ensures.records in
    subst (λ s. HasMore c.args.label.now (records_of c.args.rows.now) s c.close.new.pool c.len-count.result) same
    (subst (λ n. HasMore c.args.label.now (records_of c.args.rows.now) c.check.new.pool c.close.new.pool n) (sym c.len-count.ensures) more)

pub returns-in-Ok-close-clause-spare : goal.returns-in-Ok-close-clause-spare
returns-in-Ok-close-clause-spare c =
    let same : c.check.new.pool ≡ c.args.store.now = c.check.ensures.keeps.contents in
    let fits : c.loop-row.fits ≡ true = elim (cases_Bool c.loop-row.fits) [ inl it ↦ it | inr other ↦ absurd (cc (other, c.if-not-fits.false)) ] in
    let none : c.loop-row.faults.count ≡ 0 = omega arith in
    let spare = spare_closed c.loop-row.file c.args.label.now c.check.new.pool c.loop-row.store c.close.new.pool c.loop-row.invariant.work (c.loop-row.invariant.spare fits none) c.close.ensures.unused in
    subst (λ s. KeepsSpare c.args.label.now c.len-count.result s c.close.new.pool) same (subst (λ n. KeepsSpare c.args.label.now n c.check.new.pool c.close.new.pool) (sym c.len-count.ensures) spare)

pub returns-in-Ok-close-clause-only : goal.returns-in-Ok-close-clause-only
returns-in-Ok-close-clause-only c =
    only_closed (sectors_of c.args.label.now) (shown c.loop-row.file).sectors c.args.store.now c.check.new.pool _ _ c.check.ensures.keeps.contents c.loop-row.invariant.work.sectors c.loop-row.invariant.only c.close.ensures.within

pub returns-clause-only : goal.returns-clause-only
returns-clause-only c =
    only_closed (sectors_of c.args.label.now) (shown c.loop-row.file).sectors c.args.store.now c.check.new.pool _ _ c.check.ensures.keeps.contents c.loop-row.invariant.work.sectors c.loop-row.invariant.only c.close.ensures.within
