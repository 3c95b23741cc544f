-- The objects of a pack in JSON: their members, in order. docs/schemas says what they mean.
use Rattle.std.specs.Prelude.{ℕ, zero, suc, ◌+◌, ◌/◌, List, [], ◌∷◌, ◌++◌, Bool, true, false, Option, Some, None, codes, map, option_map, take}
use Rattle.std.specs.List.{prefix_len}
use Rattle.json.specs.Json.{Json, null, string}
use Rattle.s3_cards.specs.Names.{is_mark}
use Rattle.s3_cards.specs.declared.name.Name.{Name}
use Rattle.s3_cards.specs.declared.retention.Retention.{Retention}
use Rattle.s3_cards.specs.declared.retention.Retention.TheVariants.{Permanent, Scratch, Temporary}
use Rattle.s3_json_lines.specs.Inner.Characters.{text_of}
use Rattle.s3_json_lines.specs.Inner.Values.{array_of, object_named, whole}
use Rattle.s3_labels.specs.Inner.AreaNumbers.{area_number}
use Rattle.s3_listing.specs.declared.room.FreeRoom.{FreeRoom}
use Rattle.s3_pack_check.specs.declared.checking.Cause.{Cause}
use Rattle.s3_pack_check.specs.declared.checking.Cause.TheVariants.{Index, Label}
use Rattle.s3_pack_check.specs.declared.checking.Wrong.{Wrong}
use Rattle.s3_slots.specs.declared.header.Format.{Format}
use Rattle.s3_slots.specs.declared.header.Format.TheVariants.{First, Second}
use Rattle.s3_slots.specs.declared.header.Header.{Header}
use Rattle.s3_slots.specs.declared.label.FileLabel.{FileLabel}
use Rattle.s3_slots.specs.declared.label.Organization.{Organization}
use Rattle.s3_slots.specs.declared.label.Organization.TheVariants.{Direct, Indexed, Sequential}
use Rattle.s3_slots.specs.declared.slot.Slot.{Slot}
use Rattle.s3_slots.specs.declared.slot.Slot.TheVariants.{Damaged, Free, Sound}
use Rattle.s3_store.specs.declared.stretch.Stretch.{Stretch}

-- ---- texts and numbers
-- the characters of a name
abbrev pub name_text : Name → List ℕ
name_text name = text_of (take (prefix_len is_mark name.codes) name.codes)

-- null without a text
abbrev pub text_json : Option (List ℕ) → Json
text_json None = null
text_json (Some text) = string text

-- null for 0
abbrev pub nonzero_json : ℕ → Json
nonzero_json zero = null
nonzero_json (suc number) = whole (suc number)

-- the tracks of a run of sectors
abbrev pub tracks_json : Stretch → Json
tracks_json run = whole (run.sectors / 24)

-- ---- the pack and its areas
abbrev pub format_number : Format → ℕ
format_number First = 1
format_number Second = 2

abbrev pub pack_json : Header → Json
pack_json header = object_named (
    (codes "kind", string (codes "pack")) ∷ (codes "format", whole (format_number header.format))
    ∷ (codes "sectors", whole header.total) ∷ (codes "quota1", whole header.quota_one) ∷ (codes "quota2", whole header.quota_two) ∷ [])

abbrev pub is_free : Slot → Bool
is_free Free = true
is_free (Damaged name) = false
is_free (Sound label) = false

abbrev pub area_json : (area : ℕ) → Stretch → FreeRoom → (free_slots : ℕ) → Json
area_json area region room free_slots = object_named (
    (codes "kind", string (codes "area")) ∷ (codes "area", whole area) ∷ (codes "sector", whole region.start)
    ∷ (codes "tracks", tracks_json region) ∷ (codes "free_tracks", whole room.tracks) ∷ (codes "free_in_a_row", whole room.in_a_row)
    ∷ (codes "free_slots", whole free_slots) ∷ [])

-- ---- slots
abbrev pub damaged_json : (area place : ℕ) (label reason : Option (List ℕ)) → Json
damaged_json area place label reason = object_named (
    (codes "kind", string (codes "damaged")) ∷ (codes "area", whole area) ∷ (codes "slot", whole place)
    ∷ (codes "label", text_json label) ∷ (codes "reason", text_json reason) ∷ [])

abbrev pub organization_word : Organization → List ℕ
organization_word Sequential = codes "S"
organization_word Indexed = codes "I"
organization_word Direct = codes "D"

abbrev pub retention_word : Retention → List ℕ
retention_word Temporary = codes "T"
retention_word Scratch = codes "S"
retention_word Permanent = codes "P"

-- the members of a file before its extents
abbrev pub label_members : (area place : ℕ) → FileLabel → (label date : Option (List ℕ)) → List (List ℕ × Json)
label_members area place file label date =
    (codes "kind", string (codes "file")) ∷ (codes "area", whole area) ∷ (codes "slot", whole place) ∷ (codes "label", text_json label)
    ∷ (codes "organization", string (organization_word file.organization)) ∷ (codes "retention", string (retention_word file.retention))
    ∷ (codes "date", text_json date) ∷ (codes "record_length", whole file.record_length) ∷ (codes "key_start", nonzero_json file.key_start)
    ∷ (codes "key_length", nonzero_json file.key_length) ∷ (codes "capacity", whole file.capacity) ∷ (codes "records", whole file.count) ∷ []

abbrev pub extent_json : Stretch → Json
extent_json extent = object_named ((codes "sector", whole extent.start) ∷ (codes "tracks", tracks_json extent) ∷ [])

abbrev pub file_json : (area place : ℕ) → FileLabel → (reason : Option (List ℕ)) → Json
file_json area place file reason = object_named (
    label_members area place file (Some (name_text file.name)) (Some (text_of file.date))
    ++ (codes "extents", array_of (map extent_json file.extents)) ∷ (codes "reason", text_json reason) ∷ [])

-- the object of a slot; a free one has none
abbrev pub slot_objects : (area place : ℕ) → Slot → (reason : Option (List ℕ)) → List Json
slot_objects area place Free reason = []
slot_objects area place (Damaged name) reason = damaged_json area place (option_map name_text name) reason ∷ []
slot_objects area place (Sound file) reason = file_json area place file reason ∷ []

-- ---- what is wrong with a pack
abbrev pub kind_word : Cause → List ℕ
kind_word (Label damage) = codes "label"
kind_word (Index entry) = codes "index"

-- the entry in error, from 1
abbrev pub entry_json : Cause → Json
entry_json (Label damage) = null
entry_json (Index None) = null
entry_json (Index (Some entry)) = whole (entry.place + 1)

abbrev pub wrong_json : Wrong → (label reason : Option (List ℕ)) → Json
wrong_json wrong label reason = object_named (
    (codes "area", whole (area_number wrong.area)) ∷ (codes "slot", whole wrong.slot) ∷ (codes "label", text_json label)
    ∷ (codes "kind", string (kind_word wrong.cause)) ∷ (codes "entry", entry_json wrong.cause) ∷ (codes "reason", text_json reason) ∷ [])
