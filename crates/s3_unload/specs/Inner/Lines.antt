-- Files written as lines: one line for each record, in characters or in hexadecimal digits.
use Rattle.std.specs.Prelude.{◌≡◌, ℕ, ◌+◌, ◌-◌, ◌/◌, ◌%◌, nat_lt, Bool, true, false, List, [], ◌∷◌, ◌++◌, map, slice_get, Option, Some, ⊤, if◌then◌else◌}
use Rattle.std.specs.List.{flat_map, list_all}
use Rattle.std.specs.Io.KnownBytes.{Appends}
use Rattle.s3_cards.specs.declared.name.Name.{Name}
use Rattle.s3_cards.specs.Codes.{shown_byte}
use Rattle.s3_slots.specs.declared.label.FileLabel.{FileLabel}
use Rattle.s3_cells.specs.Inner.Texts.{has_character}
use Rattle.s3_unload.specs.Inner.Found.{IsFound}
use Rattle.s3_unload.specs.Inner.Ordered.{in_order}
use Rattle.s3_unload.specs.Inner.Refusals.{IsFindRefusal}
use Rattle.s3_unload.specs.Inner.Unloads.{Refuses}
use Rattle.s3_labels.specs.declared.area.Area.{Area}
use Rattle.s3_unload.specs.declared.lines.LineForm.{LineForm}
use Rattle.s3_unload.specs.declared.lines.LineForm.TheVariants.{Text, Hexadecimal}
use Rattle.s3_unload.specs.declared.fault.UnloadFault.{UnloadFault}
use Rattle.s3_unload.specs.declared.fault.UnloadFault.TheVariants.{Mount, NotFound, DamagedLabel, BadIndex, OtherLength, Hidden, NoCharacter, NoMemory, File}

-- a hexadecimal digit, 0 to 9 and a to f, and the two digits of a byte
abbrev pub digit_of : ℕ → ℕ
digit_of number = if nat_lt number 10 then 48 + number else 97 + (number - 10)

abbrev pub digits_of : ℕ → List ℕ
digits_of byte = digit_of (byte / 16) ∷ digit_of (byte % 16) ∷ []

abbrev pub new_line : ℕ
new_line = 10

abbrev pub line_of : LineForm → List ℕ → List ℕ
line_of Text bytes = map shown_byte bytes ++ new_line ∷ []
line_of Hexadecimal bytes = flat_map digits_of bytes ++ new_line ∷ []

-- a record can be written in this form
abbrev pub is_line : LineForm → List ℕ → Bool
is_line Text bytes = list_all has_character bytes
is_line Hexadecimal bytes = true

abbrev pub lines_text : LineForm → List (List ℕ) → List ℕ
lines_text form records = flat_map (line_of form) records

-- The file of the label in the area was written after the earlier output: a line for each of its records, in the order in which they were
-- written. Each of them can be written in this form.
pub record UnloadsLines (area : Area) (name : Name) (form : LineForm) (contents : List (List ℕ)) (old new : Option (List ℕ)) : Type 0 where
  pub label : FileLabel
  pub found : IsFound area name contents label
  pub shown : list_all (is_line form) (in_order label contents) ≡ true
  pub written : Appends old new (lines_text form (in_order label contents))

-- record number n, from 1, can't be written in this form
pub record HasUnshown (form : LineForm) (records : List (List ℕ)) (number : ℕ) : Type 0 where
  pub bytes : List ℕ
  pub there : slice_get records (number - 1) ≡ Some bytes
  pub hidden : is_line form bytes ≡ false

-- the line of record n, from 0, isn't written
abbrev pub IsLineRefusal : ℕ → LineForm → List ℕ → UnloadFault → Type 0
IsLineRefusal n form bytes (NoCharacter number position) = (number ≡ n + 1) × (is_line form bytes ≡ false)
IsLineRefusal n form bytes NoMemory = ⊤
IsLineRefusal n form bytes (Hidden number field fault) = ⊥
IsLineRefusal n form bytes BadIndex = ⊥
IsLineRefusal n form bytes (Mount fault) = ⊥
IsLineRefusal n form bytes NotFound = ⊥
IsLineRefusal n form bytes DamagedLabel = ⊥
IsLineRefusal n form bytes (OtherLength long) = ⊥
IsLineRefusal n form bytes File = ⊥

-- not all lines are written: a byte has no character, or memory ran out
abbrev pub IsUnshown : LineForm → List (List ℕ) → UnloadFault → Type 0
IsUnshown form records (NoCharacter number position) = HasUnshown form records number
IsUnshown form records NoMemory = ⊤
IsUnshown form records (Hidden number field fault) = ⊥
IsUnshown form records BadIndex = ⊥
IsUnshown form records (Mount fault) = ⊥
IsUnshown form records NotFound = ⊥
IsUnshown form records DamagedLabel = ⊥
IsUnshown form records (OtherLength long) = ⊥
IsUnshown form records File = ⊥

-- the file isn't written: because of the pack, because memory ran out, or because the writer failed
abbrev pub IsLinesRefusal : Area → Name → LineForm → List (List ℕ) → UnloadFault → Type 0
IsLinesRefusal area name form contents (Mount fault) = IsFindRefusal area name contents (Mount fault)
IsLinesRefusal area name form contents NotFound = IsFindRefusal area name contents NotFound
IsLinesRefusal area name form contents DamagedLabel = IsFindRefusal area name contents DamagedLabel
IsLinesRefusal area name form contents (NoCharacter number position) = Refuses area name contents (λ label. HasUnshown form (in_order label contents) number)
IsLinesRefusal area name form contents (OtherLength long) = ⊥
IsLinesRefusal area name form contents BadIndex = ⊥
IsLinesRefusal area name form contents (Hidden number field fault) = ⊥
IsLinesRefusal area name form contents NoMemory = ⊤
IsLinesRefusal area name form contents File = ⊤
