-- Requests for new files, making a list of them, and labels of a level's own area and of the masters.
use Rattle.std.specs.Prelude.{◌≡◌, ◌≤◌, ℕ, ◌+◌, Bool, true, false, List, [], ◌∷◌, Option, Some, None, Result, Ok, Err}
use Rattle.s3_cards.specs.declared.name.Name.{Name}
use Rattle.s3_cards.specs.Names.{is_name}
use Rattle.s3_slots.specs.Slots.{standing, is_key_of}
use Rattle.s3_slots.specs.declared.header.Format.{Format}
use Rattle.s3_slots.specs.declared.label.FileLabel.{FileLabel}
use Rattle.s3_slots.specs.declared.making.LabelFault.{LabelFault}
use Rattle.s3_slots.specs.declared.making.LabelFault.TheVariants.{DamagedLabel, NotFound}
use Rattle.s3_slots.specs.declared.making.NewFile.{NewFile}
use Rattle.s3_slots.specs.declared.making.Size.{Size}
use Rattle.s3_slots.specs.declared.making.Size.TheVariants.{Records, Tracks}
use Rattle.s3_slots.specs.declared.slot.Slot.{Slot}
use Rattle.s3_slots.specs.declared.slot.Standing.{Standing}
use Rattle.s3_slots.specs.declared.slot.Standing.TheVariants.{Absent, Blocked, Present}
use Rattle.s3_store.specs.declared.stretch.Stretch.{Stretch}
use Rattle.s3_slots.specs.Making.{dropped, counted, made}

-- ---- what may be requested
-- a number of records or of tracks
abbrev pub IsSize : Size → Type 0
IsSize (Records n) = (1 ≤ n) × (n ≤ 999999)
IsSize (Tracks n) = (1 ≤ n) × (n ≤ 999)

-- a file that may be made if there is space
pub record IsNewFile (new : NewFile) : Type 0 where
  pub named : is_name new.name.codes ≡ true
  pub length : (1 ≤ new.record_length) × (new.record_length ≤ 1024)
  pub key : is_key_of new.organization new.record_length new.key_length new.key_start ≡ true
  pub size : IsSize new.size

-- what follows after a make; or its refusal, with the place of the file
abbrev pub and_then : ℕ → Result (List Slot) LabelFault → (List Slot → Result (List Slot) (ℕ × LabelFault)) → Result (List Slot) (ℕ × LabelFault)
and_then at (Ok slots) go = go slots
and_then at (Err fault) go = Err (at, fault)

-- the slots after these makes, or the first refusal with its place
abbrev pub planned : ℕ → Format → Stretch → (masters : List Slot) → List NewFile → List Slot → Result (List Slot) (ℕ × LabelFault)
planned at format region masters [] slots = Ok slots
planned at format region masters (new ∷ news) slots =
    and_then at (made format region masters new slots) (planned (at + 1) format region masters news)

-- ---- labels of the level's own area
abbrev pub refusal : Standing → Option LabelFault
refusal Absent = Some NotFound
refusal Blocked = Some DamagedLabel
refusal (Present label) = None

abbrev pub unless_refused : Option LabelFault → List Slot → Result (List Slot) LabelFault
unless_refused None slots = Ok slots
unless_refused (Some fault) slots = Err fault

-- the slots after the count of a file was set
abbrev pub with_count : Name → ℕ → List Slot → Result (List Slot) LabelFault
with_count name n slots = unless_refused (refusal (standing name slots)) (counted name n slots)

-- the slots after a label was dropped, with any retention
abbrev pub without_label : Name → List Slot → Result (List Slot) LabelFault
without_label name slots = unless_refused (refusal (standing name slots)) (dropped name slots)

-- ---- a label for a level: its own area first, then the masters
abbrev pub file_in_masters : Standing → Result (FileLabel × Bool) LabelFault
file_in_masters Absent = Err NotFound
file_in_masters Blocked = Err DamagedLabel
file_in_masters (Present label) = Ok (label, true)

abbrev pub file_in : Standing → (masters : Standing) → Result (FileLabel × Bool) LabelFault
file_in Absent masters = file_in_masters masters
file_in Blocked masters = Err DamagedLabel
file_in (Present label) masters = Ok (label, false)

-- the file of that label, and whether it is a master's
unfoldable pub found : Name → (own masters : List Slot) → Result (FileLabel × Bool) LabelFault
found name own masters = file_in (standing name own) (standing name masters)
