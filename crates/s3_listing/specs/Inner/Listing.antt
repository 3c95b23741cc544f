-- What is listed of a pack.
use Rattle.std.specs.Prelude.{◌≡◌, ℕ, List, ◌++◌, Option, Result, Ok, Err, ⊤}
use Rattle.std.specs.List.{flat_map}
use Rattle.std.specs.Io.KnownBytes.{Appends}
use Rattle.s3_slots.specs.Header.{mounted}
use Rattle.s3_slots.specs.declared.header.Header.{Header}
use Rattle.s3_slots.specs.declared.header.MountFault.{MountFault}
use Rattle.s3_slots.specs.declared.slot.Slot.{Slot}
use Rattle.s3_labels.specs.Inner.Areas.{Areas, areas_on}
use Rattle.s3_labels.specs.Contents.{contents_of}
use Rattle.s3_listing.specs.Inner.Lines.{slot_line}
use Rattle.s3_listing.specs.declared.fault.ListFault.{ListFault}
use Rattle.s3_listing.specs.declared.fault.ListFault.TheVariants.{Mount, NoMemory, File}

-- the lines of an area's used slots
abbrev pub area_text : ℕ → List Slot → List ℕ
area_text area slots = flat_map (slot_line area) slots

-- the used slots of the masters and of both levels, in slot order
abbrev pub text_of : Areas → List ℕ
text_of areas = area_text 0 areas.masters ++ area_text 1 areas.level_one ++ area_text 2 areas.level_two

abbrev pub text_if : List (List ℕ) → Result Header MountFault → Result (List ℕ) MountFault
text_if contents (Ok header) = Ok (text_of (areas_on header contents))
text_if contents (Err fault) = Err fault

-- the text of the pack of these bytes, or why it isn't mounted
abbrev pub listing : List ℕ → Result (List ℕ) MountFault
listing bytes = text_if (contents_of bytes) (mounted (contents_of bytes))

-- that text was written behind what the writer had
abbrev pub WritesText : Result (List ℕ) MountFault → Option (List ℕ) → Option (List ℕ) → Type 0
WritesText (Ok text) old new = Appends old new text
WritesText (Err fault) old new = ⊥

-- a pack is refused by its header; nothing is said of memory and of the writer
abbrev pub IsRefused : Result (List ℕ) MountFault → ListFault → Type 0
IsRefused text (Mount fault) = text ≡ Err fault
IsRefused text NoMemory = ⊤
IsRefused text File = ⊤
