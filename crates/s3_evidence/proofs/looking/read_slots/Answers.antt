use Rattle.std.proofs.Common.{◌∙◌, ap, subst, sym}
use Rattle.std.specs.List.{All}
use Rattle.s3_evidence.specs.declared.evidence.BlockingSlot.{BlockingSlot}
use Rattle.s3_evidence.specs.Inner.About.{IsOwnArea}
use Rattle.s3_evidence.proofs.Abouts.{all_more}
use Rattle.s3_evidence.proofs.Looks.{looks_then}
use Rattle.s3_evidence.proofs.looking.read_slots.Goals.{in-Some+in_ok-add, in_default}
use Rattle.s3_evidence.proofs.looking.read_slots.Goals as goal

pub loop-place-preserved : goal.loop-place-preserved
loop-place-preserved g c = record {
  looks = looks_then _ c.args.bureau.now c.loop-place.bureau c.read_slot.new.bureau c.loop-place.invariant.looks c.in_ok-bytes.ensures;
  own = λ level all. elim c.match-branch-2.branch [
    | in-Some+in_ok-add w ↦ subst (All (λ (slot : BlockingSlot). IsOwnArea level slot.area)) (sym (ap (λ slots. slots.items) w.slots-is ∙ w.in_ok-add.ensures))
        (all_more (λ (slot : BlockingSlot). IsOwnArea level slot.area) c.loop-place.slots.items _ (c.loop-place.invariant.own level all) (all c.loop-place.place-index _ c.loop-place-test.true))
    | in_default w ↦ subst (All (λ (slot : BlockingSlot). IsOwnArea level slot.area)) (sym (ap (λ slots. slots.items) w.slots-is)) (c.loop-place.invariant.own level all)
  ];
}
