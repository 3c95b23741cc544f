use Rattle.std.proofs.Common.{ℕ, List, length, sym, ap, ◌∙◌, subst}
use Rattle.s3_labels.proofs.Regions.{ready_room}
use Rattle.s3_labels.specs.Inner.AreaNumbers.{area_number}
use Rattle.s3_labels.proofs.AreaNumbers.{area_few}
use Rattle.s3_pack_care.specs.Inner.Kept.{IsMounted, RefusesWritten}
use Rattle.s3_pack_care.proofs.Changed.{uncovered_is}
use Rattle.s3_pack_care.proofs.Deletes.{mount_tried}
use Rattle.s3_pack_care.proofs.Refusals.{handed_on}
use Rattle.s3_pack_care.proofs.Relabelled.{relabelled_is}
use Rattle.s3_pack_care.proofs.relabelling.relabelled.Goals as goal

pub returns-clause-ok : goal.returns-clause-ok
returns-clause-ok c =
    relabelled_is (area_number c.args.area) c.args.slot c.from.result c.args.bytes.now c.args.pack.areas c.in_ok-new.new.areas c.args.pack.store c.in_ok-new.new.store (area_few c.args.area) c.requires.slot
    (ready_room c.args.pack.areas c.args.pack.store c.requires.ready) c.told-bytes c.from.ensures
    (c.in_ok-new.ensures.same ∙ rw c.label_sector-sector.ensures.value at c.in_default.ensures.ok) (ap length c.in_ok-new.ensures.same ∙ c.change_sector.ensures.within.count) c.requires.mounted
    (subst (λ (s : List (List ℕ)). IsMounted c.in_ok-new.new.areas s) (sym c.in_ok-new.ensures.same) c.in_ok-new.ensures.ok) c.in-None.ensures.none

pub returns-in_err-new-clause-refused : goal.returns-in_err-new-clause-refused
returns-in_err-new-clause-refused c =
    handed_on (RefusesWritten (area_number c.args.area) c.args.slot c.args.bytes.now c.args.pack.areas.header c.args.pack.store) c.from_residual.result c.in_err-new.field-0.0 c.from_residual.ensures.1
    (mount_tried (area_number c.args.area) c.args.slot c.from.result c.args.bytes.now c.args.pack.areas c.args.pack.store _ c.in_err-new.field-0.0 (area_few c.args.area) c.requires.slot
    (ready_room c.args.pack.areas c.args.pack.store c.requires.ready) c.told-bytes c.from.ensures (rw c.label_sector-sector.ensures.value at c.in_default.ensures.ok) c.change_sector.ensures.within.count c.requires.mounted c.in_err-new.ensures.err)

pub returns-in-Some-clause-refused : goal.returns-in-Some-clause-refused
returns-in-Some-clause-refused c =
    uncovered_is (area_number c.args.area) c.args.slot c.from.result c.args.bytes.now c.args.pack.areas c.in_ok-new.new.areas c.args.pack.store c.in_ok-new.new.store c.in-Some.other (area_few c.args.area) c.requires.slot
    (ready_room c.args.pack.areas c.args.pack.store c.requires.ready) c.told-bytes c.from.ensures
    (c.in_ok-new.ensures.same ∙ rw c.label_sector-sector.ensures.value at c.in_default.ensures.ok) (ap length c.in_ok-new.ensures.same ∙ c.change_sector.ensures.within.count) c.requires.mounted
    (subst (λ (s : List (List ℕ)). IsMounted c.in_ok-new.new.areas s) (sym c.in_ok-new.ensures.same) c.in_ok-new.ensures.ok) c.in-Some.ensures.some
