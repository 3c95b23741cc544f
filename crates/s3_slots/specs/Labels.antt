-- The fields of a label, and its 64 bytes.
use Rattle.std.specs.Prelude.{ℕ, ◌+◌, ◌==◌, Bool, true, false, ◌&&◌, List, [], ◌∷◌, take, drop, map, slice_index, Option, Some, None, if◌then◌else◌}
use Rattle.byteorder.specs.Endian.{big_number}
use Rattle.s3_cards.specs.declared.ebcdic.TheConstants.{LETTER_D, LETTER_I, LETTER_P, LETTER_S, LETTER_T}
use Rattle.s3_cards.specs.declared.name.Name.{Name}
use Rattle.s3_cards.specs.Names.{is_name}
use Rattle.s3_store.specs.Bytes.{bytes_at, part}
use Rattle.s3_store.specs.Stretches.{sectors_in}
use Rattle.s3_slots.specs.Header.{stretch_at}
use Rattle.s3_slots.specs.declared.header.Format.{Format}
use Rattle.s3_slots.specs.declared.header.Format.TheVariants.{First, Second}
use Rattle.s3_slots.specs.declared.label.FileLabel.{FileLabel}
use Rattle.s3_slots.specs.declared.label.Organization.{Organization}
use Rattle.s3_slots.specs.declared.label.Organization.TheVariants.{Direct, Indexed, Sequential}
use Rattle.s3_cards.specs.declared.retention.Retention.{Retention}
use Rattle.s3_cards.specs.declared.retention.Retention.TheVariants.{Permanent, Scratch, Temporary}
use Rattle.s3_store.specs.declared.stretch.Stretch.{Stretch}

abbrev pub is_indexed : Organization → Bool
is_indexed Indexed = true
is_indexed _ = false

abbrev pub is_direct : Organization → Bool
is_direct Direct = true
is_direct _ = false

-- the numbers of a file's sectors, in order
unfoldable pub sectors_of : FileLabel → List ℕ
sectors_of label = sectors_in label.extents

-- the bytes of a file, end to end over its extents
unfoldable pub file_bytes : FileLabel → List (List ℕ) → List ℕ
file_bytes label contents = bytes_at (sectors_of label) contents

-- ---- reading
abbrev pub organization_by : ℕ → Option Organization
organization_by code =
    if code == LETTER_S then Some Sequential else (if code == LETTER_I then Some Indexed else (if code == LETTER_D then Some Direct else None))

abbrev pub retention_by : ℕ → Option Retention
retention_by code =
    if code == LETTER_T then Some Temporary else (if code == LETTER_S then Some Scratch else (if code == LETTER_P then Some Permanent else None))

-- the name in these bytes, if they are one
abbrev pub name_by : List ℕ → Option Name
name_by codes = if is_name codes then Some (record { codes = codes }) else None

-- an extent that isn't used has 0 in both numbers
abbrev pub is_unused : Stretch → Bool
is_unused stretch = (stretch.start == 0) && (stretch.sectors == 0)

-- the number of extents up to the last used one
abbrev pub used_count : List Stretch → ℕ
used_count [] = 0
used_count (stretch ∷ stretches) = if (used_count stretches == 0) && is_unused stretch then 0 else used_count stretches + 1

abbrev pub used : List Stretch → List Stretch
used stretches = take (used_count stretches) stretches

-- the places of the extents in a slot
abbrev pub extent_places : Format → List ℕ
extent_places First = 16 ∷ []
extent_places Second = 16 ∷ 34 ∷ 38 ∷ 42 ∷ []

abbrev pub extents_in : Format → List ℕ → List Stretch
extents_in format bytes = used (map (λ at. stretch_at at bytes) (extent_places format))

-- the fields of a label, if its name, organization and retention are valid
abbrev pub label_with : Format → List ℕ → Option Name → Option Organization → Option Retention → Option FileLabel
label_with format bytes (Some name) (Some organization) (Some retention) =
    Some (record {
      name = name;
      organization = organization;
      retention = retention;
      record_length = big_number 2 (drop 11 bytes);
      key_length = slice_index bytes 13;
      key_start = big_number 2 (drop 14 bytes);
      extents = extents_in format bytes;
      capacity = big_number 4 (drop 20 bytes);
      count = big_number 4 (drop 24 bytes);
      date = part bytes 28 6;
    })
label_with format bytes _ _ _ = None

abbrev pub name_in : List ℕ → Option Name
name_in bytes = name_by (part bytes 1 8)

abbrev pub label_in : Format → List ℕ → Option FileLabel
label_in format bytes = label_with format bytes (name_in bytes) (organization_by (slice_index bytes 9)) (retention_by (slice_index bytes 10))
