use Rattle.std.proofs.Common.{ℕ, List, length, sym, ap, ◌∙◌, subst}
use Rattle.s3_slots.specs.Inner.Kept.{IsOfPack}
use Rattle.s3_slots.specs.Slots.{standing}
use Rattle.s3_labels.specs.Inner.AreaNumbers.{area_number}
use Rattle.s3_labels.proofs.AreaNumbers.{area_few}
use Rattle.s3_pack_care.proofs.Copies.{on_pack_by_name}
use Rattle.s3_pack_care.proofs.SortedPacks.{sorted_only}
use Rattle.s3_amend.proofs.PackLemmas.{store_amended}
use Rattle.s3_amend.proofs.amending.amended_store.Goals as goal

pub amend_file-requires : goal.amend_file-requires
amend_file-requires c =
    subst (λ (s : List (List ℕ)). IsOfPack (length s) c.in-Present.label) (sym c.in_ok-store.ensures.same)
    (on_pack_by_name (area_number c.args.amendment.now.area) c.in_ok-store.field-0.areas c.args.store c.args.amendment.now.name c.in-Present.label (area_few c.args.amendment.now.area) (sym (c.standing_of.ensures ∙ ap (standing c.args.amendment.now.name) c.slots_of.ensures.slots) ∙ c.in-Present.is) c.in_ok-store.ensures.ready)

pub returns-in_ok-changed-in-Present-clause-amended : goal.returns-in_ok-changed-in-Present-clause-amended
returns-in_ok-changed-in-Present-clause-amended c =
    store_amended c.args.amendment.now c.in_ok-changed-in-Present.changed c.in-Present.label c.in_ok-store.field-0.areas c.args.store c.in_ok-store.field-0.store c.amend_file.new.store c.in_ok-store.ensures.ok c.in_ok-store.ensures.same
    (sym (c.standing_of.ensures ∙ ap (standing c.args.amendment.now.name) c.slots_of.ensures.slots) ∙ c.in-Present.is) c.in_ok-changed-in-Present.ensures.amended

pub returns-in_ok-changed-in-Present-clause-only : goal.returns-in_ok-changed-in-Present-clause-only
returns-in_ok-changed-in-Present-clause-only c =
    sorted_only (area_number c.args.amendment.now.area) c.args.amendment.now.name c.in-Present.label c.in_ok-store.field-0.areas c.args.store c.in_ok-store.field-0.store c.amend_file.new.store (area_few c.args.amendment.now.area) c.in_ok-store.ensures.ok c.in_ok-store.ensures.same
    (sym (c.standing_of.ensures ∙ ap (standing c.args.amendment.now.name) c.slots_of.ensures.slots) ∙ c.in-Present.is) c.in_ok-changed-in-Present.ensures.only c.in_ok-changed-in-Present.ensures.count
