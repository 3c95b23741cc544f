-- Why a file isn't sorted, as the calls within a sort say it.
use Rattle.std.proofs.Common.{◌≡◌, ℕ, List, Some, Result, Ok, Err, sym, ap, ◌∙◌, subst}
use Rattle.std.specs.Prelude.{IfErr}
use Rattle.std.specs.Result.{IsErrAnd}
use Rattle.s3_cards.specs.declared.name.Name.{Name}
use Rattle.s3_slots.specs.Header.{mounted}
use Rattle.s3_slots.specs.Inner.Making.{refusal}
use Rattle.s3_slots.specs.Slots.{standing}
use Rattle.s3_slots.specs.declared.label.FileLabel.{FileLabel}
use Rattle.s3_slots.specs.declared.making.LabelFault.TheVariants.{DamagedLabel, NotFound}
use Rattle.s3_slots.specs.declared.slot.Standing.TheVariants.{Absent, Blocked, Present}
use Rattle.s3_labels.specs.Inner.Areas.{Areas, slots_in}
use Rattle.s3_pack_care.specs.Inner.Kept.{IsMountRefusal, IsMounted}
use Rattle.s3_pack_care.specs.declared.fault.CareFault.{CareFault}
use Rattle.s3_pack_care.specs.declared.fault.CareFault.TheVariants.{Damaged, Exists, Label as LabelOfCare, Mount as MountOfCare, NoFile, NoMemory as NoMemoryOfCare, NoName, NoSlot, Permanent, SourceLabel, SourceMount, Uncovers}
use Rattle.s3_pack_care.proofs.Refusals.{are_on}
use Rattle.s3_pack_care.specs.Inner.Sorted.{IsUnsortable, RefusesFile, RefusesSort, of_care}
use Rattle.s3_pack_care.specs.declared.sort_fault.SortFault.{SortFault}
use Rattle.s3_pack_care.specs.declared.sort_fault.SortFault.TheVariants.{Field, Label, Mount, NoMemory, NotInOrder}
use Rattle.s3_pack_care.specs.declared.fields.SortField.{SortField}

pub memory_file : (fields : List SortField) (label : FileLabel) (fault : SortFault) → fault ≡ NoMemory → RefusesFile fields label fault
memory_file fields label fault h = subst (RefusesFile fields label) (sym h) tt

-- a call hands on the fault of another one
pub handed_on : {T : Type 0} (P : SortFault → Type 0) (result : Result T SortFault) (fault : SortFault) → IsErrAnd result (λ f. f ≡ fault) → P fault → IfErr result P
handed_on P (Ok x) fault gives h = tt
handed_on P (Err f) fault gives h = subst P (sym gives) h

module _ (area : ℕ) (name : Name) (fields : List SortField) (old : List (List ℕ)) where
  -- the header refuses the pack
  pub by_mount : (begun : List (List ℕ)) (fault : CareFault) → begun ≡ old → IsMountRefusal begun fault → RefusesSort area name fields old (of_care fault)
  by_mount begun (MountOfCare fault) here h = sym (ap mounted here) ∙ h
  by_mount begun NoMemoryOfCare here h = tt
  by_mount begun (SourceMount fault) here h = absurd h
  by_mount begun (SourceLabel fault) here h = absurd h
  by_mount begun (LabelOfCare fault) here h = absurd h
  by_mount begun NoFile here h = absurd h
  by_mount begun NoSlot here h = absurd h
  by_mount begun Permanent here h = absurd h
  by_mount begun Exists here h = absurd h
  by_mount begun (Damaged slot) here h = absurd h
  by_mount begun NoName here h = absurd h
  by_mount begun (Uncovers slot) here h = absurd h

  module _ (areas : Areas) (begun : List (List ℕ)) (here : begun ≡ old) (is : IsMounted areas begun) where
    mounted_here : IsMounted areas old
    mounted_here = subst (λ (s : List (List ℕ)). IsMounted areas s) here is

    -- no file has the label, or a damaged slot has it
    pub absent_refuses : standing name (slots_in area areas) ≡ Absent → RefusesSort area name fields old (Label NotFound)
    absent_refuses h = are_on areas old (λ a. refusal (standing name (slots_in area a)) ≡ Some NotFound) mounted_here (ap refusal h)

    pub blocked_refuses : standing name (slots_in area areas) ≡ Blocked → RefusesSort area name fields old (Label DamagedLabel)
    blocked_refuses h = are_on areas old (λ a. refusal (standing name (slots_in area a)) ≡ Some DamagedLabel) mounted_here (ap refusal h)

    -- the file refuses
    module _ (label : FileLabel) (stands : standing name (slots_in area areas) ≡ Present label) where
      unsortable : (fault : SortFault) → RefusesFile fields label fault → IsUnsortable area name fields old fault
      unsortable fault h = record { label = label; stands = are_on areas old (λ a. standing name (slots_in area a) ≡ Present label) mounted_here stands; refuses = h }

      pub file_refuses : (fault : SortFault) → RefusesFile fields label fault → RefusesSort area name fields old fault
      file_refuses NoMemory h = tt
      file_refuses NotInOrder h = unsortable NotInOrder h
      file_refuses (Field place record_length) h = unsortable (Field place record_length) h
      file_refuses (Mount fault) h = absurd h
      file_refuses (Label fault) h = absurd h
