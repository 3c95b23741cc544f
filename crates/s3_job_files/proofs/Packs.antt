-- What calls for one level leave unchanged on the pack: after an answer or a fault, and one after another.
use Rattle.std.proofs.Common.{◌≡◌, ◌≤◌, ◌+◌, ℕ, false, List, Result, Ok, Err, IsErrAnd, arith, refl, sym, ap, subst, ◌∙◌}
use Rattle.std.specs.Prelude.{OnOk}
use Rattle.s3_cards.specs.declared.levels.LevelId.{LevelId}
use Rattle.s3_cards.specs.declared.levels.LevelId.TheVariants.{One, Two}
use Rattle.s3_store.specs.Inner.Calls.{Changes, Reads}
use Rattle.s3_store.specs.Inner.Failures.{failed_transfers}
use Rattle.s3_store.specs.Inner.State.{PoolState, ChangesWithin, KeepsInStep}
use Rattle.s3_store.specs.declared.sector_fault.SectorFault.{SectorFault}
use Rattle.s3_store.specs.declared.sector_fault.SectorFault.TheVariants.{NoMemory}
use Rattle.s3_store.proofs.Frames.{keeps_refl, step_from_keeps, step_from_within, step_trans}
use Rattle.s3_slots.specs.Labels.{sectors_of}
use Rattle.s3_slots.specs.declared.header.Header.{Header}
use Rattle.s3_slots.specs.declared.slot.Slot.{Slot}
use Rattle.s3_labels.specs.Areas.{area_of, IsLabelSector}
use Rattle.s3_labels.specs.Inner.Areas.{Areas, slots_at, with_slots, IsReady as IsPackReady}
use Rattle.s3_labels.specs.Inner.Labelled.{KeepsSaid}
use Rattle.s3_labels.proofs.Changes.{header_with}
use Rattle.s3_labels.proofs.Makes.{few_areas}
use Rattle.s3_job_files.specs.declared.file.OpenFile.{OpenFile}
use Rattle.s3_job_files.specs.Inner.Holds.{seen, IsOutOfReach, Stands}
use Rattle.s3_job_files.specs.Inner.Packs.{ChangesLabels, KeepsOthers, LeavesPack}
use Rattle.s3_job_files.proofs.Putting.{file_spares, own_sound, pack_over}
use Rattle.s3_job_files.proofs.Said.{file_says, said_same, said_then}

-- ---- the slots of a level
pub with_own : (level : LevelId) (areas : Areas) → areas ≡ with_slots level (slots_at level areas) areas
with_own One areas = refl
with_own Two areas = refl

pub with_again : (level : LevelId) (first second : List Slot) (areas : Areas) → with_slots level second (with_slots level first areas) ≡ with_slots level second areas
with_again One first second areas = refl
with_again Two first second areas = refl

masters_with : (level : LevelId) (slots : List Slot) (areas : Areas) → (with_slots level slots areas).masters ≡ areas.masters
masters_with One slots areas = refl
masters_with Two slots areas = refl

-- what sets them leaves the header and the masters
pub header_kept : (level : LevelId) (old new : Areas) → new ≡ with_slots level (slots_at level new) old → new.header ≡ old.header
header_kept level old new alone = ap (λ (areas : Areas). areas.header) alone ∙ header_with level (slots_at level new) old

pub masters_kept : (level : LevelId) (old new : Areas) → new ≡ with_slots level (slots_at level new) old → new.masters ≡ old.masters
masters_kept level old new alone = ap (λ (areas : Areas). areas.masters) alone ∙ masters_with level (slots_at level new) old

-- labels lie before the spool blocks and the regions
pub not_label : (level : LevelId) (n : ℕ) → 25 ≤ n → IsLabelSector (area_of level) n → ⊥
not_label level n high is = omega (arith, few_areas level, high, is.1)

-- ---- the masters and the other level
-- one call after another
others_then : (level : LevelId) (old middle new : Areas) (s t u : PoolState) → KeepsOthers level old middle s t → KeepsOthers level middle new t u → KeepsOthers level old new s u
others_then level old middle new s t u first second = record {
  pack = second.pack;
  areas = second.areas ∙ ap (with_slots level (slots_at level new)) first.areas ∙ with_again level (slots_at level middle) (slots_at level new) old;
  sectors = step_trans (IsOutOfReach level old.header) s t u first.sectors
      (subst (λ (header : Header). KeepsInStep (IsOutOfReach level header) t u) (header_kept level old middle first.areas) second.sectors);
}

-- ---- past an answer or a fault
-- past an answer another one is given
pub pack_ok : {T U : Type 0} {level : LevelId} {first : T} {old new : Areas} {s t : PoolState} (answer : U) → LeavesPack level (Ok first) old new s t → LeavesPack level (Ok answer) old new s t
pack_ok answer leaves = record { others = leaves.others; says = leaves.says; failures = leaves.failures }

-- a fault is passed on
pub pack_err : {T U : Type 0} {level : LevelId} {fault : SectorFault} {old new : Areas} {s t : PoolState} (result : Result U SectorFault) → IsErrAnd result (λ f. f ≡ fault) → LeavesPack {T = T} level (Err fault) old new s t
    → LeavesPack level result old new s t
pack_err (Ok answer) is leaves = absurd is
pack_err {U = U} {s = s} {t = t} (Err f) is leaves = record {
  others = leaves.others;
  says = tt;
  failures = subst (λ (g : SectorFault). t.failures ≡ s.failures + failed_transfers {T = U} (Err g)) (sym is) leaves.failures;
}

-- memory ran out behind what was done
pub pack_spent : {T U : Type 0} {level : LevelId} {first : T} {old new : Areas} {s t : PoolState} (result : Result U SectorFault) → IsErrAnd result (λ f. f ≡ NoMemory) → LeavesPack level (Ok first) old new s t
    → LeavesPack level result old new s t
pack_spent (Ok answer) is leaves = absurd is
pack_spent (Err f) is leaves = rw is (record { others = leaves.others; says = tt; failures = leaves.failures })

-- ---- what calls do
on_ok : {T E : Type 0} {A : Type 0} (result : Result T E) → A → OnOk result A
on_ok (Ok answer) it = it
on_ok (Err fault) it = tt

-- slots of the level's own were set
pub pack_closed : {T : Type 0} {level : LevelId} {old new : Areas} {s t : PoolState} (result : Result T SectorFault) → IsPackReady new t.contents → new ≡ with_slots level (slots_at level new) old
    → KeepsInStep (IsOutOfReach level old.header) s t → OnOk result (KeepsSaid level old s.contents new t.contents) → t.failures ≡ s.failures + failed_transfers result → LeavesPack level result old new s t
pack_closed result ready alone spares says failures = record { others = record { pack = ready; areas = alone; sectors = spares }; says = says; failures = failures }

-- no slot was set
pub pack_changed : {T : Type 0} {level : LevelId} {old new : Areas} {s t : PoolState} (result : Result T SectorFault) → IsPackReady new t.contents → new ≡ old → KeepsInStep (IsOutOfReach level old.header) s t
    → KeepsSaid level old s.contents new t.contents → t.failures ≡ s.failures + failed_transfers result → LeavesPack level result old new s t
pack_changed {level = level} {new = new} result ready same spares says failures = pack_closed result ready (with_own level new ∙ ap (with_slots level (slots_at level new)) same) spares (on_ok result says) failures

-- no sector changed either
pub pack_read : {T : Type 0} {level : LevelId} {old new : Areas} {s t : PoolState} {result : Result T SectorFault} → IsPackReady old s.contents → new ≡ old → Reads result s t → LeavesPack level result old new s t
pack_read {level = level} {old = old} {new = new} {s = s} {t = t} {result = result} ready same reads =
    pack_changed result (subst (λ (areas : Areas). IsPackReady areas t.contents) (sym same) (subst (IsPackReady old) (sym reads.keeps.contents) ready)) same
    (step_from_keeps (IsOutOfReach level old.header) s t reads.keeps) (said_same level old new s t reads.keeps same) reads.failures

-- nothing was done
pub pack_kept : {T : Type 0} (level : LevelId) (areas : Areas) (s : PoolState) (answer : T) → IsPackReady areas s.contents → LeavesPack level (Ok answer) areas areas s s
pack_kept level areas s answer ready = pack_read ready refl (record { keeps = keeps_refl s; failures = omega arith })

-- a file of the level's own was changed
pub file_leaves : {T : Type 0} {level : LevelId} {areas : Areas} {file : OpenFile} {s t : PoolState} {result : Result T SectorFault} → IsPackReady areas s.contents → Stands level (seen areas s.contents) file
    → file.is_master ≡ false → Changes (sectors_of file.label) result s t → LeavesPack level result areas areas s t
file_leaves {level = level} {areas = areas} {file = file} {s = s} {t = t} {result = result} ready stands own changes =
    let sound = own_sound level (seen areas s.contents) file stands own in
    pack_changed result (pack_over areas s.contents t.contents changes.within.count ready) refl (file_spares level areas s t file.label ready sound changes.within)
    (file_says level areas s t file.label ready sound changes.within) changes.failures

-- labels of the level were changed
pub labels_leave : {T : Type 0} {level : LevelId} {old new : Areas} {s t : PoolState} {result : Result T SectorFault} → IsPackReady new t.contents → new ≡ with_slots level (slots_at level new) old
    → ChangesWithin (IsLabelSector (area_of level)) s t → OnOk result (KeepsSaid level old s.contents new t.contents) → t.failures ≡ s.failures + failed_transfers result → ChangesLabels level result old new s t
labels_leave {level = level} {old = old} {s = s} {t = t} {result = result} ready alone within says failures = record {
  within = within;
  leaves = pack_closed result ready alone (step_from_within (IsLabelSector (area_of level)) (IsOutOfReach level old.header) s t (λ n out inside. out.labels inside) within) says failures;
}

-- ---- one call behind another
pub pack_then : {T U : Type 0} {level : LevelId} {first : T} {old middle new : Areas} {s t u : PoolState} {result : Result U SectorFault} → LeavesPack level (Ok first) old middle s t → LeavesPack level result middle new t u
    → LeavesPack level result old new s u
pack_then {level = level} {old = old} {middle = middle} {new = new} {s = s} {t = t} {u = u} {result = result} first second = record {
  others = others_then level old middle new s t u first.others second.others;
  says = said_then result level old middle new s.contents t.contents u.contents first.says second.says;
  failures = second.failures ∙ ap (λ (n : ℕ). n + failed_transfers result) (let same : t.failures ≡ s.failures = omega (arith, first.failures) in same);
}
