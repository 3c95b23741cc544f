-- The 64 bytes that are written for a label, and labels that can be written.
use Rattle.std.specs.Prelude.{◌≡◌, ◌<◌, ◌≤◌, ◌^◌, ℕ, ◌+◌, true, false, ◌++◌, List, [], ◌∷◌, length, replicate, slice_get, unwrap_or}
use Rattle.byteorder.specs.Endian.{big_bytes}
use Rattle.s3_cards.specs.declared.ebcdic.TheConstants.{LETTER_D, LETTER_I, LETTER_P, LETTER_S, LETTER_T}
use Rattle.s3_cards.specs.Names.{is_name}
use Rattle.s3_slots.specs.declared.label.FileLabel.{FileLabel}
use Rattle.s3_slots.specs.declared.label.Organization.{Organization}
use Rattle.s3_slots.specs.declared.label.Organization.TheVariants.{Direct, Indexed, Sequential}
use Rattle.s3_cards.specs.declared.retention.Retention.{Retention}
use Rattle.s3_cards.specs.declared.retention.Retention.TheVariants.{Permanent, Scratch, Temporary}
use Rattle.s3_store.specs.declared.stretch.Stretch.{Stretch}
use Rattle.s3_slots.specs.Labels.{is_unused, used}

-- ---- writing
abbrev pub organization_code : Organization → ℕ
organization_code Sequential = LETTER_S
organization_code Indexed = LETTER_I
organization_code Direct = LETTER_D

abbrev pub retention_code : Retention → ℕ
retention_code Temporary = LETTER_T
retention_code Scratch = LETTER_S
retention_code Permanent = LETTER_P

abbrev pub extent_bytes : Stretch → List ℕ
extent_bytes stretch = big_bytes 2 stretch.start ++ big_bytes 2 stretch.sectors

-- the extent at a place; an unused one after the last
abbrev pub extent_at : List Stretch → ℕ → Stretch
extent_at extents i = unwrap_or (slice_get extents i) (record { start = 0; sectors = 0 })

-- the bytes of a label's slot, field by field
unfoldable pub label_bytes : FileLabel → List ℕ
label_bytes label =
    (1 ∷ []) ++ label.name.codes ++ (organization_code label.organization ∷ retention_code label.retention ∷ [])
    ++ big_bytes 2 label.record_length ++ (label.key_length ∷ []) ++ big_bytes 2 label.key_start
    ++ extent_bytes (extent_at label.extents 0)
    ++ big_bytes 4 label.capacity ++ big_bytes 4 label.count ++ label.date
    ++ extent_bytes (extent_at label.extents 1) ++ extent_bytes (extent_at label.extents 2) ++ extent_bytes (extent_at label.extents 3)
    ++ replicate 18 0

-- A label whose fields are in the ranges of their bytes: it has a name and one to four extents, each of them used.
pub record IsWritable (label : FileLabel) : Type 0 where
  pub codes : length label.name.codes ≡ 8
  pub named : is_name label.name.codes ≡ true
  pub record_length : label.record_length < 65536
  pub key_start : label.key_start < 65536
  pub some : 1 ≤ length label.extents
  pub few : length label.extents ≤ 4
  pub used : (i : ℕ) → i < length label.extents → is_unused (extent_at label.extents i) ≡ false
  pub small : (i : ℕ) → ((extent_at label.extents i).start < 65536) × ((extent_at label.extents i).sectors < 65536)
  pub capacity : label.capacity < 2 ^ 32
  pub count : label.count < 2 ^ 32
  pub date : length label.date ≡ 6
