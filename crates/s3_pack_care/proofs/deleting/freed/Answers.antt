use Rattle.std.proofs.Common.{◌≡◌, ℕ, List, length, replicate, refl, slice_get, sym, ap, ◌∙◌, subst, arith}
use Rattle.s3_slots.specs.Slots.{slot_bytes}
use Rattle.s3_labels.specs.Inner.Areas.{Areas, IsReady, slots_in}
use Rattle.s3_labels.proofs.Regions.{ready_room}
use Rattle.s3_labels.specs.Inner.AreaNumbers.{area_number}
use Rattle.s3_pack_care.specs.Inner.Deleted.{MayFree, RefusesDelete, chosen_in}
use Rattle.s3_pack_care.specs.Inner.Kept.{IsMounted, IsRelabelled}
use Rattle.s3_pack_care.proofs.Deletes.{chosen_so, slot_refuses, trial_refuses}
use Rattle.s3_pack_care.proofs.Refusals.{handed_on}
use Rattle.s3_pack_care.proofs.deleting.freed.Goals as goal

pub read_slot-requires-clause-room : goal.read_slot-requires-clause-room
read_slot-requires-clause-room c = omega (arith, ready_room c.in_ok-store.field-0.areas c.args.store c.in_ok-store.ensures.ready, ap length c.in_ok-store.ensures.same)

pub relabelled-requires-clause-mounted : goal.relabelled-requires-clause-mounted
relabelled-requires-clause-mounted c = subst (λ (s : List (List ℕ)). IsMounted c.in_ok-store.field-0.areas s) (sym (c.read_slot.ensures.keeps ∙ c.in_ok-store.ensures.same)) c.in_ok-store.ensures.ok

pub relabelled-requires-clause-ready : goal.relabelled-requires-clause-ready
relabelled-requires-clause-ready c = subst (λ (s : List (List ℕ)). IsReady c.in_ok-store.field-0.areas s) (sym (c.read_slot.ensures.keeps ∙ c.in_ok-store.ensures.same)) c.in_ok-store.ensures.ready

pub returns-clause-freed : goal.returns-clause-freed
returns-clause-freed c =
    let same : c.read_slot.new.store ≡ c.args.store = c.read_slot.ensures.keeps ∙ c.in_ok-store.ensures.same in
    let areas = c.in_ok-store.field-0.areas in
    record {
      header = areas.header;
      mounts = c.in_ok-store.ensures.ok.mounts;
      slot = c.in_ok-slot.slot;
      slot_in = c.in_ok-slot.ensures.within;
      is = sym (ap (λ (a : Areas). chosen_in c.args.chosen (slots_in (area_number c.args.area) a)) c.in_ok-store.ensures.ok.judged) ∙ c.in_ok-slot.ensures.chosen;
      relabelled = subst (λ (s : List (List ℕ)). IsRelabelled (area_number c.args.area) c.in_ok-slot.slot (replicate 64 0) areas.header s c.in_ok-new.new.store) same c.in_ok-new.ensures.ok;
      long = c.in_ok-new.ensures.long ∙ ap length same;
    }

pub returns-clause-permitted : goal.returns-clause-permitted
returns-clause-permitted c =
    chosen_so (area_number c.args.area) c.args.chosen c.args.is_permanent_meant c.args.store c.in_ok-store.field-0.areas c.args.store refl c.in_ok-store.ensures.ok c.in_ok-slot.slot _ c.in_ok-bytes.bytes
    (λ s b. MayFree s b c.args.is_permanent_meant) c.in_ok-slot.ensures.chosen (sym (ap (slice_get (slots_in (area_number c.args.area) c.in_ok-store.field-0.areas)) c.from.ensures) ∙ c.slot.ensures) (c.in_ok-bytes.ensures.ok ∙ ap (λ s. slot_bytes (area_number c.args.area) s c.in_ok-slot.slot) c.in_ok-store.ensures.same) c.in_ok-permit.ensures.permitted

pub returns-in_err-permit-clause-refused : goal.returns-in_err-permit-clause-refused
returns-in_err-permit-clause-refused c =
    handed_on (RefusesDelete (area_number c.args.area) c.args.chosen c.args.is_permanent_meant c.args.store) c.from_residual-in_err-permit.result c.in_err-permit.field-0.0 c.from_residual-in_err-permit.ensures.1
    (slot_refuses (area_number c.args.area) c.args.chosen c.args.is_permanent_meant c.args.store c.in_ok-store.field-0.areas c.args.store refl c.in_ok-store.ensures.ok c.in_ok-slot.slot _ c.in_ok-bytes.bytes
    c.in_err-permit.field-0.0 c.in_ok-slot.ensures.chosen (sym (ap (slice_get (slots_in (area_number c.args.area) c.in_ok-store.field-0.areas)) c.from.ensures) ∙ c.slot.ensures) (c.in_ok-bytes.ensures.ok ∙ ap (λ s. slot_bytes (area_number c.args.area) s c.in_ok-slot.slot) c.in_ok-store.ensures.same) c.in_err-permit.ensures.refused)

pub returns-in_err-new-clause-refused : goal.returns-in_err-new-clause-refused
returns-in_err-new-clause-refused c =
    handed_on (RefusesDelete (area_number c.args.area) c.args.chosen c.args.is_permanent_meant c.args.store) c.from_residual-in_err-new.result c.in_err-new.field-0.0 c.from_residual-in_err-new.ensures.1
    (trial_refuses (area_number c.args.area) c.args.chosen c.args.is_permanent_meant c.args.store c.in_ok-store.field-0.areas c.args.store refl c.in_ok-store.ensures.ok c.in_ok-slot.slot
    c.read_slot.new.store c.in_err-new.field-0.0 c.in_ok-slot.ensures.chosen (c.read_slot.ensures.keeps ∙ c.in_ok-store.ensures.same) c.in_err-new.ensures.refused)
