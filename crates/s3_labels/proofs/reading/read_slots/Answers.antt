use Rattle.std.proofs.Common.{[], ◌∷◌, length, refl, ap, ◌∙◌, arith, length-append}
use Rattle.s3_store.proofs.Frames.{keeps_refl, keeps_trans}
use Rattle.s3_slots.specs.Slots.{slot_bytes, judged}
use Rattle.s3_labels.specs.Inner.AreaNumbers.{area_number}
use Rattle.s3_labels.proofs.Ways.{way_start, way_on}
use Rattle.s3_labels.proofs.reading.read_slots.Goals as goal

pub loop-i-init : goal.loop-i-init
loop-i-init g c = record {
  way = rw c.new-slots.ensures.items (way_start _ _ _ _);
  count = ap length c.new-slots.ensures.items;
  keeps = keeps_refl (g.P.Sectors.state c.args.pool.now);
  failures = refl;
}

pub loop-i-preserved : goal.loop-i-preserved
loop-i-preserved g c =
    let read = ap (λ contents. slot_bytes (area_number c.args.area) contents c.loop-i.i) c.loop-i.invariant.keeps.contents in
    let bytes = c.in_ok-bytes.ensures.ok ∙ read in
    let judged_so = c.judge-slot.ensures ∙ ap (λ earlier. judged c.args.format c.args.region earlier c.in_ok-bytes.bytes) c.deref.ensures.value ∙ ap (judged c.args.format c.args.region c.loop-i.slots.items) bytes in
    record {
      way = rw c.in_ok-push.ensures.items (way_on c.args.format c.args.region (area_number c.args.area) (g.P.Sectors.state c.args.pool.now).contents c.loop-i.i c.loop-i.slots.items c.judge-slot.result c.loop-i-test.true c.loop-i.invariant.way judged_so);
      count = rw c.in_ok-push.ensures.items (omega (arith, length-append c.loop-i.slots.items (c.judge-slot.result ∷ []), c.loop-i.invariant.count));
      keeps = keeps_trans _ _ _ c.loop-i.invariant.keeps c.in_ok-bytes.ensures.keeps;
      failures = omega (arith, c.in_ok-bytes.ensures.failures, c.loop-i.invariant.failures);
    }
