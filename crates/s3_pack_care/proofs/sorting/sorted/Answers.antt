use Rattle.std.proofs.Common.{ℕ, List, length, refl, sym, ap, ◌∙◌, subst}
use Rattle.s3_slots.specs.Inner.Kept.{IsOfPack}
use Rattle.s3_slots.specs.Slots.{standing}
use Rattle.s3_labels.specs.Inner.AreaNumbers.{area_number}
use Rattle.s3_labels.proofs.AreaNumbers.{area_few}
use Rattle.s3_pack_care.proofs.Copies.{on_pack_by_name}
use Rattle.s3_pack_care.specs.Inner.Sorted.{RefusesSort, of_care}
use Rattle.s3_pack_care.proofs.SortRefusals.{absent_refuses, blocked_refuses, by_mount, handed_on}
use Rattle.s3_pack_care.proofs.SortedPacks.{sorted_is, sorted_only}
use Rattle.s3_pack_care.proofs.sorting.sorted.Goals as goal

pub sort_label-requires : goal.sort_label-requires
sort_label-requires c =
    subst (λ (s : List (List ℕ)). IsOfPack (length s) c.in-Present.label) (sym c.in_ok-store.ensures.same)
    (on_pack_by_name (area_number c.args.area) c.in_ok-store.field-0.areas c.args.store c.args.name c.in-Present.label (area_few c.args.area) (sym (c.standing_of.ensures ∙ ap (standing c.args.name) c.slots_of.ensures.slots) ∙ c.in-Present.is) c.in_ok-store.ensures.ready)

pub returns-in_ok-sort_label-in-Present-clause-sorted : goal.returns-in_ok-sort_label-in-Present-clause-sorted
returns-in_ok-sort_label-in-Present-clause-sorted c = record {
  header = c.in_ok-store.field-0.areas.header;
  is_mounted = c.in_ok-store.ensures.ok.mounts;
  sorted =
      sorted_is (area_number c.args.area) c.args.name c.in-Present.label c.in_ok-store.field-0.areas c.args.store c.in_ok-store.field-0.store c.sort_label.new.store (area_few c.args.area) c.in_ok-store.ensures.ok c.in_ok-store.ensures.same
      (sym (c.standing_of.ensures ∙ ap (standing c.args.name) c.slots_of.ensures.slots) ∙ c.in-Present.is) c.in_ok-sort_label-in-Present.ensures.others c.in_ok-sort_label-in-Present.ensures.count
      c.args.fields.now c.in_ok-sort_label-in-Present.ensures.in_order c.in_ok-sort_label-in-Present.ensures.within c.in_ok-sort_label-in-Present.ensures.sorted c.in_ok-sort_label-in-Present.ensures.tail;
}

pub returns-in_ok-sort_label-in-Present-clause-only : goal.returns-in_ok-sort_label-in-Present-clause-only
returns-in_ok-sort_label-in-Present-clause-only c =
    sorted_only (area_number c.args.area) c.args.name c.in-Present.label c.in_ok-store.field-0.areas c.args.store c.in_ok-store.field-0.store c.sort_label.new.store (area_few c.args.area) c.in_ok-store.ensures.ok c.in_ok-store.ensures.same
    (sym (c.standing_of.ensures ∙ ap (standing c.args.name) c.slots_of.ensures.slots) ∙ c.in-Present.is) c.in_ok-sort_label-in-Present.ensures.others c.in_ok-sort_label-in-Present.ensures.count

pub returns-in_err-store-clause-refused : goal.returns-in_err-store-clause-refused
returns-in_err-store-clause-refused c =
    handed_on (RefusesSort (area_number c.args.area) c.args.name c.args.fields.now c.args.store) c.from_residual.result (of_care c.in_err-store.field-0.0) c.from_residual.ensures.1
    (by_mount (area_number c.args.area) c.args.name c.args.fields.now c.args.store c.args.store c.in_err-store.field-0.0 refl c.in_err-store.ensures.err)

pub returns-in-Absent-clause-refused : goal.returns-in-Absent-clause-refused
returns-in-Absent-clause-refused c =
    absent_refuses (area_number c.args.area) c.args.name c.args.fields.now c.args.store c.in_ok-store.field-0.areas c.args.store refl c.in_ok-store.ensures.ok
    (sym (c.standing_of.ensures ∙ ap (standing c.args.name) c.slots_of.ensures.slots) ∙ c.in-Absent.is)

pub returns-in-Blocked-clause-refused : goal.returns-in-Blocked-clause-refused
returns-in-Blocked-clause-refused c =
    blocked_refuses (area_number c.args.area) c.args.name c.args.fields.now c.args.store c.in_ok-store.field-0.areas c.args.store refl c.in_ok-store.ensures.ok
    (sym (c.standing_of.ensures ∙ ap (standing c.args.name) c.slots_of.ensures.slots) ∙ c.in-Blocked.is)
