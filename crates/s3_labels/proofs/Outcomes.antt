-- Refusals of new packs and of changes.
use Rattle.std.proofs.Common.{◌≡◌, ℕ, ◌+◌, ◌/◌, List, Result, Ok, Err, refl, sym, ap, ◌∙◌, subst, arith, inl, inr, ◌⊎◌}
use Rattle.std.specs.Prelude.{IfErr, OnErr}
use Rattle.std.specs.Result.{IsErrAnd}
use Rattle.s3_store.specs.Inner.Failures.{failed_transfers}
use Rattle.s3_store.specs.declared.sector_fault.SectorFault.{SectorFault}
use Rattle.s3_store.specs.declared.sector_fault.SectorFault.TheVariants.{Device, NoMemory as NoMemoryForSectors}
use Rattle.s3_slots.specs.declared.making.LabelFault.{LabelFault}
use Rattle.s3_slots.specs.declared.slot.Slot.{Slot}
use Rattle.s3_labels.specs.Inner.Areas.{IsChangeRefusal, IsOfSectors, failed_change}
use Rattle.s3_labels.specs.declared.fault.ChangeFault.{ChangeFault}
use Rattle.s3_labels.specs.declared.fault.ChangeFault.TheVariants.{Label, Sectors as ChangedSectors}
use Rattle.s3_slots.specs.Header.{mounted}
use Rattle.s3_slots.specs.declared.header.Header.{Header}
use Rattle.s3_labels.specs.Inner.Images.{IsImageFault, image_from, image_with_masters, new_header, masters_from}
use Rattle.s3_labels.specs.declared.fault.ImageFault.{ImageFault}
use Rattle.s3_labels.specs.declared.fault.ImageFault.TheVariants.{Mount, TooLarge, NoMemory, BadQuota}

pub image_fault : (outcome : Result (List ℕ) ImageFault) (fault : ImageFault) → outcome ≡ Err fault → IsImageFault outcome fault
image_fault outcome (Mount fault) h = h
image_fault outcome TooLarge h = h
image_fault outcome NoMemory h = tt
image_fault outcome BadQuota h = h

pub header_refused : (contents : List (List ℕ)) (header : Header) (fault : ImageFault) (level_one level_two quota_one quota_two : ℕ) → mounted contents ≡ Ok header
    → Err fault ≡ new_header (header.level_one.sectors / 24) level_one level_two quota_one quota_two
    → IsImageFault (image_from contents (mounted contents) level_one level_two quota_one quota_two) fault
header_refused contents header fault level_one level_two quota_one quota_two m e =
    image_fault (image_from contents (mounted contents) level_one level_two quota_one quota_two) fault
    (ap (λ outcome. image_from contents outcome level_one level_two quota_one quota_two) m ∙ ap (image_with_masters (masters_from header contents)) (sym e))

-- ---- a change
pub label_refused : {T : Type 0} (result : Result T ChangeFault) (outcome : Result (List Slot) LabelFault) (fault : LabelFault) → IsErrAnd result (λ f. f ≡ Label fault) → outcome ≡ Err fault
    → IfErr result (IsChangeRefusal outcome)
label_refused (Ok x) outcome fault gives h = tt
label_refused (Err f) outcome fault gives h = subst (λ (f : ChangeFault). IsChangeRefusal outcome f) (sym gives) h

pub sectors_refused : {T : Type 0} (result : Result T ChangeFault) (outcome : Result (List Slot) LabelFault) (fault : SectorFault) → IsErrAnd result (λ f. f ≡ ChangedSectors fault)
    → IfErr result (IsChangeRefusal outcome)
sectors_refused (Ok x) outcome fault gives = tt
sectors_refused (Err f) outcome fault gives = subst (λ (f : ChangeFault). IsChangeRefusal outcome f) (sym gives) tt

-- nothing has changed
pub label_same : {T : Type 0} (result : Result T ChangeFault) (IsSame : Type 0) → IsSame → IfErr result (λ f. IsOfSectors f ⊎ IsSame)
label_same (Ok x) IsSame same = tt
label_same (Err f) IsSame same = inr same

pub sectors_same : {T : Type 0} (result : Result T ChangeFault) (fault : SectorFault) (IsSame : Type 0) → IsErrAnd result (λ f. f ≡ ChangedSectors fault) → IfErr result (λ f. IsOfSectors f ⊎ IsSame)
sectors_same (Ok x) fault IsSame gives = tt
sectors_same (Err f) fault IsSame gives = inl (subst (λ (f : ChangeFault). IsOfSectors f) (sym gives) tt)

pub label_failed : {T : Type 0} (result : Result T ChangeFault) (n : ℕ) (fault : LabelFault) → IsErrAnd result (λ f. f ≡ Label fault) → n ≡ n + failed_change result
label_failed (Ok x) n fault gives = absurd gives
label_failed (Err f) n fault gives = rw gives (omega arith)

failures_same : {T U : Type 0} (result : Result T ChangeFault) (transfer : Result U SectorFault) (fault : SectorFault) → IsErrAnd result (λ f. f ≡ ChangedSectors fault) → transfer ≡ Err fault → failed_transfers transfer ≡ failed_change result
failures_same (Ok x) transfer fault gives is = absurd gives
failures_same (Err f) transfer Device gives is = rw (gives, is) refl
failures_same (Err f) transfer NoMemoryForSectors gives is = rw (gives, is) refl

pub sectors_failed : {T U : Type 0} (result : Result T ChangeFault) (transfer : Result U SectorFault) (fault : SectorFault) (old new : ℕ) → IsErrAnd result (λ f. f ≡ ChangedSectors fault) → transfer ≡ Err fault
    → new ≡ old + failed_transfers transfer → new ≡ old + failed_change result
sectors_failed result transfer fault old new gives is h = h ∙ ap (λ n. old + n) (failures_same result transfer fault gives is)

-- the transfers before have not failed
pub later_failed : (old middle new failed : ℕ) → middle ≡ old + 0 → new ≡ middle + failed → new ≡ old + failed
later_failed old middle new failed before h = omega (arith, before, h)

pub err_map : {T E : Type 0} (A B : Type 0) (result : Result T E) → (A → B) → OnErr result A → OnErr result B
err_map A B (Ok x) f a = tt
err_map A B (Err e) f a = f a
