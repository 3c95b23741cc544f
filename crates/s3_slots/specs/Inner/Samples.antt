-- Samples of headers, files and slots for worked examples.
use Rattle.std.specs.Prelude.{ℕ, List, [], ◌∷◌, ◌++◌, replicate, take, None, Result, Ok, Err}
use Rattle.byteorder.specs.Endian.{big_bytes}
use Rattle.s3_cards.specs.declared.name.Name.{Name}
use Rattle.s3_cards.specs.declared.retention.Retention.TheVariants.{Temporary}
use Rattle.s3_cards.specs.Names.{name_of}
use Rattle.s3_store.specs.declared.stretch.Stretch.{Stretch}
use Rattle.s3_slots.specs.Slots.{standing}
use Rattle.s3_slots.specs.Inner.Making.{planned}
use Rattle.s3_slots.specs.Making.{dropped}
use Rattle.s3_slots.specs.declared.header.Format.{Format}
use Rattle.s3_slots.specs.declared.header.Format.TheVariants.{Second}
use Rattle.s3_slots.specs.declared.header.Header.{Header}
use Rattle.s3_slots.specs.declared.label.FileLabel.{FileLabel}
use Rattle.s3_slots.specs.declared.label.Organization.TheVariants.{Indexed, Sequential}
use Rattle.s3_slots.specs.declared.making.LabelFault.{LabelFault}
use Rattle.s3_slots.specs.declared.making.NewFile.{NewFile}
use Rattle.s3_slots.specs.declared.making.Size.TheVariants.{Records, Tracks}
use Rattle.s3_slots.specs.declared.slot.Slot.{Slot}
use Rattle.s3_slots.specs.declared.slot.Slot.TheVariants.{Damaged, Free}
use Rattle.s3_slots.specs.declared.slot.Standing.{Standing}
use Rattle.s3_slots.specs.declared.slot.Standing.TheVariants.{Absent, Present}

-- ---- three regions of ten tracks, in the second format
abbrev pub ten_bytes : List ℕ
ten_bytes = 0x53 ∷ 0x33 ∷ 0x50 ∷ 0x41 ∷ 0x43 ∷ 0x4b ∷ 0x30 ∷ 0x32 ∷ 0x03 ∷ 0x78 ∷ 0x00 ∷ 0xa8 ∷ 0x00 ∷ 0xf0 ∷ 0x01 ∷ 0x98 ∷ 0x00 ∷ 0xf0 ∷ 0x02 ∷ 0x88 ∷ 0x00 ∷ 0xf0 ∷ 0x40 ∷ 0x40 ∷ []

abbrev pub ten : Header
ten = record {
  format = Second;
  total = 888;
  masters = record { start = 168; sectors = 240 };
  level_one = record { start = 408; sectors = 240 };
  level_two = record { start = 648; sectors = 240 };
  quota_one = 64;
  quota_two = 64;
}

-- so many sectors, of which the first begins with these bytes
abbrev pub pack_of : ℕ → List ℕ → List (List ℕ)
pack_of sectors bytes = bytes ∷ replicate sectors []

abbrev pub with_quotas : ℕ → ℕ → List (List ℕ)
with_quotas one two = pack_of 887 (take 22 ten_bytes ++ one ∷ two ∷ [])

-- ---- files
abbrev pub named : ℕ → Name
named letter = name_of (letter ∷ [])

abbrev pub data_name : Name
data_name = name_of (0xc4 ∷ 0xc1 ∷ 0xe3 ∷ 0xc1 ∷ [])

abbrev pub june : List ℕ
june = 0xf0 ∷ 0xf6 ∷ 0xf1 ∷ 0xf5 ∷ 0xf7 ∷ 0xf6 ∷ []

abbrev pub new_data : NewFile
new_data = record { name = data_name; organization = Sequential; retention = Temporary; record_length = 10; key_length = 0; key_start = 0; size = Records 10; date = june }

abbrev pub new_index : NewFile
new_index = record { name = data_name; organization = Indexed; retention = Temporary; record_length = 20; key_length = 6; key_start = 1; size = Tracks 1; date = june }

abbrev pub file : ℕ → ℕ → NewFile
file letter tracks = record { name = named letter; organization = Sequential; retention = Temporary; record_length = 96; key_length = 0; key_start = 0; size = Tracks tracks; date = june }

abbrev pub of_records : ℕ → NewFile
of_records n = record (file 0xc1 1) { size = Records n }

abbrev pub all_free : List Slot
all_free = replicate 32 Free

abbrev pub slots_in : Result (List Slot) (ℕ × LabelFault) → List Slot
slots_in (Ok slots) = slots
slots_in (Err _) = []

-- A of 2 tracks, B of 3 and C of 2 in level 1; then B is dropped
abbrev pub without_b : Format → List Slot
without_b format = dropped (named 0xc2) (slots_in (planned 0 format ten.level_one all_free (file 0xc1 2 ∷ file 0xc2 3 ∷ file 0xc3 2 ∷ []) all_free))

abbrev pub d_label : FileLabel
d_label = record {
  name = named 0xc4;
  organization = Sequential;
  retention = Temporary;
  record_length = 96;
  key_length = 0;
  key_start = 0;
  extents = record { start = 0x1c8; sectors = 0x48 } ∷ record { start = 0x240; sectors = 0x30 } ∷ [];
  capacity = 320;
  count = 0;
  date = june;
}

-- ---- damage
-- labels of area 2 with all bytes FF
abbrev pub all_ff : List (List ℕ)
all_ff = replicate 17 [] ++ replicate 8 (replicate 256 0xff)

abbrev pub no_label : List Slot
no_label = replicate 32 (Damaged None)

-- a slot of one file: its letter, first sector, how many, and how many records
abbrev pub slot_bytes_of : (letter start sectors count : ℕ) → List ℕ
slot_bytes_of letter start sectors count =
    1 ∷ letter ∷ replicate 7 0x40 ++ 0xe2 ∷ 0xe3 ∷ 0 ∷ 96 ∷ 0 ∷ 0 ∷ 0 ∷ [] ++ big_bytes 2 start ++ big_bytes 2 sectors ++ big_bytes 4 10 ++ big_bytes 4 count ++ june ++ replicate 30 0

-- the labels of area 1 begin with A from sector 408 on, and B from sector 432 on
abbrev pub two_files : (of_a of_b count : ℕ) → List (List ℕ)
two_files of_a of_b count = replicate 9 [] ++ (slot_bytes_of 0xc1 408 of_a 0 ++ slot_bytes_of 0xc2 432 of_b count) ∷ []

abbrev pub extents_under : Standing → List Stretch
extents_under (Present label) = label.extents
extents_under _ = []

abbrev pub standing_after : Name → Result (List Slot) LabelFault → Standing
standing_after name (Ok slots) = standing name slots
standing_after name (Err _) = Absent
