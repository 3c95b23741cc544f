-- The line that shows a slot of an area.
use Rattle.std.specs.Prelude.{ℕ, ◌+◌, List, [], ◌∷◌, ◌++◌, Option, Some, None, codes, map}
use Rattle.s3_cards.specs.Codes.{shown_byte}
use Rattle.s3_cards.specs.Numbers.{in_digits}
use Rattle.s3_cards.specs.declared.name.Name.{Name}
use Rattle.s3_cards.specs.declared.retention.Retention.{Retention}
use Rattle.s3_cards.specs.declared.retention.Retention.TheVariants.{Permanent, Scratch, Temporary}
use Rattle.s3_slots.specs.declared.label.FileLabel.{FileLabel}
use Rattle.s3_slots.specs.declared.label.Organization.{Organization}
use Rattle.s3_slots.specs.declared.label.Organization.TheVariants.{Direct, Indexed, Sequential}
use Rattle.s3_slots.specs.declared.slot.Slot.{Slot}
use Rattle.s3_slots.specs.declared.slot.Slot.TheVariants.{Damaged, Free, Sound}

-- a label in its 8 places
abbrev pub name_text : Name → List ℕ
name_text name = map shown_byte name.codes

-- 8 question marks stand for a label that isn't a name
abbrev pub label_text : Option Name → List ℕ
label_text (Some name) = name_text name
label_text None = codes "????????"

abbrev pub organization_letter : Organization → ℕ
organization_letter Sequential = 83
organization_letter Indexed = 73
organization_letter Direct = 68

abbrev pub retention_letter : Retention → ℕ
retention_letter Temporary = 84
retention_letter Scratch = 83
retention_letter Permanent = 80

-- organization, retention, record length, capacity and count
unfoldable pub fields_text : FileLabel → List ℕ
fields_text label =
    organization_letter label.organization ∷ 32 ∷ retention_letter label.retention ∷ 32 ∷ []
    ++ in_digits 4 label.record_length ++ 32 ∷ [] ++ in_digits 8 label.capacity ++ 32 ∷ [] ++ in_digits 8 label.count

-- a line: the area, the file of a label, and LF
abbrev pub line_of : ℕ → (label fields : List ℕ) → List ℕ
line_of area label fields = (48 + area) ∷ 32 ∷ [] ++ label ++ 32 ∷ [] ++ fields ++ 10 ∷ []

-- the line of a slot; a free one has none
unfoldable pub slot_line : ℕ → Slot → List ℕ
slot_line area Free = []
slot_line area (Sound label) = line_of area (name_text label.name) (fields_text label)
slot_line area (Damaged name) = line_of area (label_text name) (codes "DAMAGED")
