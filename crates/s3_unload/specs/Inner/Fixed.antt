-- Records of a fixed length, for other programs.
use Rattle.std.specs.Prelude.{◌≡◌, ℕ, ◌+◌, ◌-◌, Bool, true, false, List, [], ◌∷◌, ◌++◌, map, Option, Some, None, slice_get, ⊤, length}
use Rattle.std.specs.List.{flat_map, list_all}
use Rattle.std.specs.Io.KnownBytes.{Appends}
use Rattle.s3_cards.specs.declared.name.Name.{Name}
use Rattle.s3_cards.specs.Codes.{shown_byte}
use Rattle.s3_slots.specs.declared.label.FileLabel.{FileLabel}
use Rattle.s3_cells.specs.Inner.Texts.{has_character}
use Rattle.s3_record_types.specs.Inner.Chosen.{chosen_of, is_chosen}
use Rattle.s3_record_types.specs.declared.chosen.ChosenRecords.{ChosenRecords}
use Rattle.s3_unload.specs.Inner.Found.{IsFound}
use Rattle.s3_unload.specs.Inner.Opened.{IsOpenRefusal}
use Rattle.s3_unload.specs.Inner.Ordered.{in_order, ordered}
use Rattle.s3_unload.specs.Inner.Refusals.{IsFindRefusal}
use Rattle.s3_unload.specs.Inner.Unloads.{Refuses}
use Rattle.s3_labels.specs.declared.area.Area.{Area}
use Rattle.s3_unload.specs.declared.fixed.FixedForm.{FixedForm}
use Rattle.s3_unload.specs.declared.fixed.FixedForm.TheVariants.{Ebcdic, EbcdicLines, Ascii, AsciiLines}
use Rattle.s3_unload.specs.declared.fault.UnloadFault.{UnloadFault}
use Rattle.s3_unload.specs.declared.fault.UnloadFault.TheVariants.{Mount, NotFound, DamagedLabel, BadIndex, OtherLength, Hidden, NoCharacter, NoMemory, File}

-- ---- the forms
-- the line feed of EBCDIC, and the line feed of ASCII
abbrev pub ebcdic_line_feed : ℕ
ebcdic_line_feed = 37

abbrev pub ascii_line_feed : ℕ
ascii_line_feed = 10

-- the byte after each record
abbrev pub line_feed_of : FixedForm → Option ℕ
line_feed_of Ebcdic = None
line_feed_of EbcdicLines = Some ebcdic_line_feed
line_feed_of Ascii = None
line_feed_of AsciiLines = Some ascii_line_feed

abbrev pub end_of : FixedForm → List ℕ
end_of Ebcdic = []
end_of EbcdicLines = ebcdic_line_feed ∷ []
end_of Ascii = []
end_of AsciiLines = ascii_line_feed ∷ []

-- the bytes of a record without the line feed: those on the pack, or its characters
abbrev pub coded_as : FixedForm → List ℕ → List ℕ
coded_as Ebcdic bytes = bytes
coded_as EbcdicLines bytes = bytes
coded_as Ascii bytes = map shown_byte bytes
coded_as AsciiLines bytes = map shown_byte bytes

abbrev pub fixed_of : FixedForm → List ℕ → List ℕ
fixed_of form bytes = coded_as form bytes ++ end_of form

-- a record can be written in this form
abbrev pub is_fixed : FixedForm → List ℕ → Bool
is_fixed Ebcdic bytes = true
is_fixed EbcdicLines bytes = true
is_fixed Ascii bytes = list_all has_character bytes
is_fixed AsciiLines bytes = list_all has_character bytes

abbrev pub fixed_text : FixedForm → List (List ℕ) → List ℕ
fixed_text form records = flat_map (fixed_of form) records

-- ---- files that are written
-- The file of the label in the area was written after the earlier output: each of its chosen records, in key order if it has an index.
-- Each of them can be written in this form. So many records aren't chosen.
pub record UnloadsFixed (area : Area) (name : Name) (form : FixedForm) (chosen : ChosenRecords) (others : ℕ) (contents : List (List ℕ)) (old new : Option (List ℕ)) : Type 0 where
  pub label : FileLabel
  pub found : IsFound area name contents label
  pub fits : list_all (is_fixed form) (chosen_of chosen (ordered label contents)) ≡ true
  pub written : Appends old new (fixed_text form (chosen_of chosen (ordered label contents)))
  pub counted : others + length (chosen_of chosen (ordered label contents)) ≡ length (ordered label contents)

-- record number n, from 1, in the order in which they were written, is chosen and can't be written in this form
pub record HasUnfixed (form : FixedForm) (chosen : ChosenRecords) (records : List (List ℕ)) (number : ℕ) : Type 0 where
  pub bytes : List ℕ
  pub there : slice_get records (number - 1) ≡ Some bytes
  pub is_meant : is_chosen chosen bytes ≡ true
  pub hidden : is_fixed form bytes ≡ false

-- record n, from 0, isn't written; whether it fits the form is given: a byte has no character, or memory ran out
abbrev pub IsUnfit : ℕ → Bool → UnloadFault → Type 0
IsUnfit n fits (NoCharacter number position) = (number ≡ n + 1) × (fits ≡ false)
IsUnfit n fits NoMemory = ⊤
IsUnfit n fits (Hidden number field fault) = ⊥
IsUnfit n fits BadIndex = ⊥
IsUnfit n fits (Mount fault) = ⊥
IsUnfit n fits NotFound = ⊥
IsUnfit n fits DamagedLabel = ⊥
IsUnfit n fits (OtherLength long) = ⊥
IsUnfit n fits File = ⊥

-- not all records are written: a byte has no character, or memory ran out
abbrev pub IsUnfixed : FixedForm → ChosenRecords → FileLabel → List (List ℕ) → UnloadFault → Type 0
IsUnfixed form chosen label contents (NoCharacter number position) = HasUnfixed form chosen (in_order label contents) number
IsUnfixed form chosen label contents NoMemory = ⊤
IsUnfixed form chosen label contents (Hidden number field fault) = ⊥
IsUnfixed form chosen label contents BadIndex = ⊥
IsUnfixed form chosen label contents (Mount fault) = ⊥
IsUnfixed form chosen label contents NotFound = ⊥
IsUnfixed form chosen label contents DamagedLabel = ⊥
IsUnfixed form chosen label contents (OtherLength long) = ⊥
IsUnfixed form chosen label contents File = ⊥

-- the file isn't written: because of the pack, because memory ran out, or because the writer failed
abbrev pub IsFixedRefusal : Area → Name → FixedForm → ChosenRecords → List (List ℕ) → UnloadFault → Type 0
IsFixedRefusal area name form chosen contents (Mount fault) = IsFindRefusal area name contents (Mount fault)
IsFixedRefusal area name form chosen contents NotFound = IsFindRefusal area name contents NotFound
IsFixedRefusal area name form chosen contents DamagedLabel = IsFindRefusal area name contents DamagedLabel
IsFixedRefusal area name form chosen contents BadIndex = Refuses area name contents (λ label. IsOpenRefusal label contents BadIndex)
IsFixedRefusal area name form chosen contents (NoCharacter number position) = Refuses area name contents (λ label. HasUnfixed form chosen (in_order label contents) number)
IsFixedRefusal area name form chosen contents (OtherLength long) = ⊥
IsFixedRefusal area name form chosen contents (Hidden number field fault) = ⊥
IsFixedRefusal area name form chosen contents NoMemory = ⊤
IsFixedRefusal area name form chosen contents File = ⊤
