-- A change of a label that is there.
use Rattle.std.proofs.Common.{◌≡◌, ◌+◌, ℕ, List, ap, sym, ◌∙◌}
use Rattle.std.specs.Prelude.{Option, None, Result, Ok, Err, IfErr, OnOk}
use Rattle.s3_cards.specs.declared.levels.LevelId.{LevelId}
use Rattle.s3_cards.specs.declared.name.Name.{Name}
use Rattle.s3_store.specs.Inner.Failures.{failed_transfers}
use Rattle.s3_store.specs.Inner.State.{PoolState, ChangesWithin}
use Rattle.s3_store.specs.declared.sector_fault.SectorFault.{SectorFault}
use Rattle.s3_store.specs.declared.sector_fault.SectorFault.TheVariants.{Device, NoMemory}
use Rattle.s3_slots.specs.Making.{counted, dropped}
use Rattle.s3_slots.specs.Inner.Making.{refusal, unless_refused, with_count, without_label}
use Rattle.s3_slots.specs.Slots.{standing}
use Rattle.s3_slots.specs.declared.making.LabelFault.{LabelFault}
use Rattle.s3_slots.specs.declared.slot.Slot.{Slot}
use Rattle.s3_labels.specs.Areas.{area_of, IsLabelSector}
use Rattle.s3_labels.specs.Inner.Areas.{Areas, slots_at, with_slots, IsChangeRefusal, IsOfSectors, IsReady as IsPackReady, failed_change}
use Rattle.s3_labels.specs.Inner.Labelled.{KeepsSaid}
use Rattle.s3_labels.specs.declared.fault.ChangeFault.{ChangeFault}
use Rattle.s3_labels.specs.declared.fault.ChangeFault.TheVariants.{Label, Sectors}
use Rattle.s3_job_files.specs.Inner.Packs.{ChangesLabels}
use Rattle.s3_job_files.specs.Inner.Refusals.{sectors_answer}
use Rattle.s3_job_files.proofs.Packs.{labels_leave}

allowed : (refused : Option LabelFault) (slots : List Slot) → refused ≡ None → unless_refused refused slots ≡ Ok slots
allowed refused slots is = ap (λ r. unless_refused r slots) is

of_sectors : (meant : Result (List Slot) LabelFault) (slots : List Slot) (fault : ChangeFault) → meant ≡ Ok slots → IsChangeRefusal meant fault → IsOfSectors fault
of_sectors meant slots (Label fault) ok is = let wrong : Ok slots ≡ Err fault = sym ok ∙ is in absurd cc
of_sectors meant slots (Sectors fault) ok is = tt

if_sectors : (meant : Result (List Slot) LabelFault) (slots : List Slot) (change : Result (Unit {0}) ChangeFault) → meant ≡ Ok slots → IfErr change (IsChangeRefusal meant) → IfErr change IsOfSectors
if_sectors meant slots (Ok _) ok is = tt
if_sectors meant slots (Err fault) ok is = of_sectors meant slots fault ok is

pub drop_refused : (name : Name) (slots : List Slot) (change : Result (Unit {0}) ChangeFault) → refusal (standing name slots) ≡ None → IfErr change (IsChangeRefusal (without_label name slots)) → IfErr change IsOfSectors
drop_refused name slots change there is = if_sectors (without_label name slots) (dropped name slots) change (allowed (refusal (standing name slots)) (dropped name slots) there) is

pub count_refused : (name : Name) (n : ℕ) (slots : List Slot) (change : Result (Unit {0}) ChangeFault) → refusal (standing name slots) ≡ None → IfErr change (IsChangeRefusal (with_count name n slots)) → IfErr change IsOfSectors
count_refused name n slots change there is = if_sectors (with_count name n slots) (counted name n slots) change (allowed (refusal (standing name slots)) (counted name n slots) there) is

is_changed : (meant : Result (List Slot) LabelFault) (slots after : List Slot) (change : Result (Unit {0}) ChangeFault) (answer : Result (Unit {0}) SectorFault) → meant ≡ Ok slots → IfErr change IsOfSectors
    → OnOk change (meant ≡ Ok after) → answer ≡ sectors_answer change → OnOk answer (after ≡ slots)
is_changed meant slots after (Ok _) (Ok _) ok of is same = let both : Ok after ≡ Ok slots = sym is ∙ ok in cc
is_changed meant slots after (Ok _) (Err fault) ok of is same = tt
is_changed meant slots after (Err (Label fault)) answer ok of is same = absurd of
is_changed meant slots after (Err (Sectors fault)) (Ok _) ok of is same = absurd cc
is_changed meant slots after (Err (Sectors fault)) (Err other) ok of is same = tt

pub dropped_by : (name : Name) (slots after : List Slot) (change : Result (Unit {0}) ChangeFault) (answer : Result (Unit {0}) SectorFault) → refusal (standing name slots) ≡ None → IfErr change (IsChangeRefusal (without_label name slots))
    → OnOk change (without_label name slots ≡ Ok after) → answer ≡ sectors_answer change → OnOk answer (after ≡ dropped name slots)
dropped_by name slots after change answer there refused is same =
    is_changed (without_label name slots) (dropped name slots) after change answer (allowed (refusal (standing name slots)) (dropped name slots) there) (drop_refused name slots change there refused) is same

pub counted_by : (name : Name) (n : ℕ) (slots after : List Slot) (change : Result (Unit {0}) ChangeFault) (answer : Result (Unit {0}) SectorFault) → refusal (standing name slots) ≡ None
    → IfErr change (IsChangeRefusal (with_count name n slots)) → OnOk change (with_count name n slots ≡ Ok after) → answer ≡ sectors_answer change → OnOk answer (after ≡ counted name n slots)
counted_by name n slots after change answer there refused is same =
    is_changed (with_count name n slots) (counted name n slots) after change answer (allowed (refusal (standing name slots)) (counted name n slots) there) (count_refused name n slots change there refused) is same

failed_same : (change : Result (Unit {0}) ChangeFault) (answer : Result (Unit {0}) SectorFault) → IfErr change IsOfSectors → answer ≡ sectors_answer change → failed_transfers answer ≡ failed_change change
failed_same (Ok _) answer of same = ap failed_transfers same
failed_same (Err (Label fault)) answer of same = absurd of
failed_same (Err (Sectors Device)) answer of same = ap failed_transfers same
failed_same (Err (Sectors NoMemory)) answer of same = ap failed_transfers same

said_same : (A : Type 0) (change : Result (Unit {0}) ChangeFault) (answer : Result (Unit {0}) SectorFault) → IfErr change IsOfSectors → answer ≡ sectors_answer change → OnOk change A → OnOk answer A
said_same A (Ok _) (Ok _) of same it = it
said_same A (Ok _) (Err fault) of same it = tt
said_same A (Err (Label fault)) answer of same it = absurd of
said_same A (Err (Sectors fault)) (Ok _) of same it = absurd cc
said_same A (Err (Sectors fault)) (Err other) of same it = tt

-- what the change leaves
pub change_leaves : {level : LevelId} {old new : Areas} {s t : PoolState} (change : Result (Unit {0}) ChangeFault) (answer : Result (Unit {0}) SectorFault) → IfErr change IsOfSectors → answer ≡ sectors_answer change
    → IsPackReady new t.contents → new ≡ with_slots level (slots_at level new) old → ChangesWithin (IsLabelSector (area_of level)) s t → OnOk change (KeepsSaid level old s.contents new t.contents)
    → t.failures ≡ s.failures + failed_change change → ChangesLabels level answer old new s t
change_leaves {level = level} {old = old} {new = new} {s = s} {t = t} change answer of same ready alone within says failures =
    labels_leave ready alone within (said_same (KeepsSaid level old s.contents new t.contents) change answer of same says) (failures ∙ ap (λ (n : ℕ). s.failures + n) (sym (failed_same change answer of same)))
