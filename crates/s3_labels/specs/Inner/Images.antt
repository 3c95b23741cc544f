-- New packs, and migration from the first format to the second.
use Rattle.std.specs.Prelude.{◌≡◌, ℕ, ◌+◌, ◌-◌, ◌*◌, ◌/◌, ◌%◌, ◌==◌, Bool, not, ◌&&◌, ◌||◌, ◌++◌, codes, nat_le, nat_lt, List, [], ◌∷◌, map, length, slice_index, replicate, Option, Some, None, Result, Ok, Err, ⊤, if◌then◌else◌}
use Rattle.std.specs.List.{range_with_len, flat_map}
use Rattle.byteorder.specs.Endian.{big_bytes}
use Rattle.s3_store.specs.Bytes.{bytes_at}
use Rattle.s3_store.specs.declared.stretch.Stretch.{Stretch}
use Rattle.s3_slots.specs.Header.{first_region, are_quotas, mounted}
use Rattle.s3_slots.specs.Inner.Labels.{label_bytes}
use Rattle.s3_slots.specs.Slots.{slots_of}
use Rattle.s3_slots.specs.declared.header.Format.{Format}
use Rattle.s3_slots.specs.declared.header.Format.TheVariants.{First, Second}
use Rattle.s3_slots.specs.declared.header.Header.{Header}
use Rattle.s3_slots.specs.declared.header.MountFault.{MountFault}
use Rattle.s3_slots.specs.declared.label.FileLabel.{FileLabel}
use Rattle.s3_slots.specs.declared.slot.Slot.{Slot}
use Rattle.s3_slots.specs.declared.slot.Slot.TheVariants.{Damaged, Free, Sound}
use Rattle.s3_labels.specs.Inner.Areas.{Areas}
use Rattle.s3_labels.specs.declared.fault.ImageFault.{ImageFault}
use Rattle.s3_labels.specs.declared.fault.ImageFault.TheVariants.{Mount, TooLarge, NoMemory, BadQuota}
use Rattle.s3_labels.specs.declared.fault.MigrateFault.{MigrateFault}
use Rattle.s3_labels.specs.declared.fault.MigrateFault.TheVariants.{Mount as NotMounted, AlreadyNew, NoMemory as NoMemoryToMigrate}
use Rattle.s3_labels.specs.Contents.{contents_of}

-- ---- a new pack
-- regions of so many tracks, end to end
abbrev pub regions_of : (masters level_one level_two quota_one quota_two : ℕ) → Header
regions_of masters level_one level_two quota_one quota_two =
    record {
      format = Second;
      total = first_region + 24 * (masters + level_one + level_two);
      masters = record { start = first_region; sectors = 24 * masters };
      level_one = record { start = first_region + 24 * masters; sectors = 24 * level_one };
      level_two = record { start = first_region + 24 * (masters + level_one); sectors = 24 * level_two };
      quota_one = quota_one;
      quota_two = quota_two;
    }

-- the same regions, with the masters' region as large as level 1's in this header
abbrev pub regions_from : Header → (level_one level_two quota_one quota_two : ℕ) → Header
regions_from old level_one level_two quota_one quota_two = regions_of (old.level_one.sectors / 24) level_one level_two quota_one quota_two

-- the regions and quotas, if the pack has space for so many tracks
abbrev pub new_header : (masters level_one level_two quota_one quota_two : ℕ) → Result Header ImageFault
new_header masters level_one level_two quota_one quota_two =
    if not (are_quotas quota_one quota_two) then Err BadQuota
    else (if nat_lt 2723 (masters + level_one + level_two) then Err TooLarge
    else Ok (regions_of masters level_one level_two quota_one quota_two))

abbrev pub region_bytes : Stretch → List ℕ
region_bytes region = big_bytes 2 region.start ++ big_bytes 2 region.sectors

abbrev pub header_bytes : Header → List ℕ
header_bytes header =
    codes "S3PACK02" ++ big_bytes 2 header.total ++ region_bytes header.masters ++ region_bytes header.level_one ++ region_bytes header.level_two
    ++ (header.quota_one ∷ header.quota_two ∷ [])

-- bytes, filled up with zeros to this length
unfoldable pub padded : ℕ → List ℕ → List ℕ
padded width bytes = bytes ++ replicate (width - length bytes) 0

-- the masters of a new pack: the bytes of their labels, slot after slot, and the bytes of their region
pub record Masters : Type 0 where
  pub labels : List ℕ
  pub region : List ℕ

abbrev pub no_masters : Masters
no_masters = record { labels = []; region = [] }

-- the bytes of a new pack: its header, the masters' labels, their region, and zeros
unfoldable pub image_of : Header → Masters → List ℕ
image_of header masters =
    padded (256 * header.total) (padded (256 * first_region) (padded 256 (header_bytes header) ++ masters.labels) ++ masters.region)

-- an extent at the same distance from the start of the masters' region as it had in the old region
abbrev pub moved : Stretch → Stretch → Stretch
moved region extent = record extent { start = extent.start - region.start + first_region }

abbrev pub moved_label : Stretch → FileLabel → FileLabel
moved_label region label = record label { extents = map (moved region) label.extents }

-- the label of a valid file as a master
abbrev pub master_bytes : Stretch → Slot → List ℕ
master_bytes region (Sound label) = label_bytes (moved_label region label)
master_bytes region Free = []
master_bytes region (Damaged name) = []

-- the slot of a valid file as a master
abbrev pub master_slot : Stretch → Slot → List Slot
master_slot region (Sound label) = Sound (moved_label region label) ∷ []
master_slot region Free = []
master_slot region (Damaged name) = []

-- the 32 slots of an area: these, and then free ones
abbrev pub with_free : List Slot → List Slot
with_free slots = slots ++ replicate (32 - length slots) Free

-- the areas of a new pack with these masters
abbrev pub new_areas : Header → List Slot → Areas
new_areas header masters = record { header = header; masters = with_free masters; level_one = with_free []; level_two = with_free [] }

-- the valid files of level 1 in slot order, and a copy of its region
unfoldable pub masters_from : Header → List (List ℕ) → Masters
masters_from header contents =
    record {
      labels = flat_map (master_bytes header.level_one) (slots_of header.format header.level_one 1 contents);
      region = bytes_at (range_with_len header.level_one.start header.level_one.sectors) contents;
    }

abbrev pub image_with_masters : Masters → Result Header ImageFault → Result (List ℕ) ImageFault
image_with_masters masters (Ok header) = Ok (image_of header masters)
image_with_masters masters (Err fault) = Err fault

abbrev pub image_from : List (List ℕ) → Result Header MountFault → (level_one level_two quota_one quota_two : ℕ) → Result (List ℕ) ImageFault
image_from contents (Err fault) level_one level_two quota_one quota_two = Err (Mount fault)
image_from contents (Ok header) level_one level_two quota_one quota_two =
    image_with_masters (masters_from header contents) (new_header (header.level_one.sectors / 24) level_one level_two quota_one quota_two)

-- A new pack with regions of so many tracks. With an old pack, the masters' region is as large as the old pack's level 1.
abbrev pub image_bytes : (from : Option (List ℕ)) → (masters level_one level_two quota_one quota_two : ℕ) → Result (List ℕ) ImageFault
image_bytes None masters level_one level_two quota_one quota_two = image_with_masters no_masters (new_header masters level_one level_two quota_one quota_two)
image_bytes (Some old) masters level_one level_two quota_one quota_two =
    image_from (contents_of old) (mounted (contents_of old)) level_one level_two quota_one quota_two

-- the outcome is this error, unless memory ran out
abbrev pub IsImageFault : Result (List ℕ) ImageFault → ImageFault → Type 0
IsImageFault outcome NoMemory = ⊤
IsImageFault outcome (Mount fault) = outcome ≡ Err (Mount fault)
IsImageFault outcome TooLarge = outcome ≡ Err TooLarge
IsImageFault outcome BadQuota = outcome ≡ Err BadQuota

-- ---- from the first format to the second
-- the second to fourth extent of one of the 96 slots
abbrev pub is_further_extent : ℕ → Bool
is_further_extent at = nat_le 256 at && nat_lt at 6400 && nat_le 34 (at % 64) && nat_lt (at % 64) 46

-- the byte at a place of the migrated pack: the format, two quotas of 64, no further extents, and otherwise the old byte
abbrev pub migrated_byte : (at byte : ℕ) → ℕ
migrated_byte at byte =
    if nat_lt at 8 then slice_index (codes "S3PACK02") at
    else (if (at == 22) || (at == 23) then 64
    else (if is_further_extent at then 0 else byte))

-- the bytes of the new pack from a place on
abbrev pub migrated_bytes : ℕ → List ℕ → List ℕ
migrated_bytes at [] = []
migrated_bytes at (byte ∷ bytes) = migrated_byte at byte ∷ migrated_bytes (at + 1) bytes

-- the header in the second format, with 64 lines a level
abbrev pub in_second : Header → Header
in_second header = record header { format = Second; quota_one = 64; quota_two = 64 }

abbrev pub migrated_from : List ℕ → Format → Result (List ℕ) MigrateFault
migrated_from bytes First = Ok (migrated_bytes 0 bytes)
migrated_from bytes Second = Err AlreadyNew

abbrev pub migrated_by : List ℕ → Result Header MountFault → Result (List ℕ) MigrateFault
migrated_by bytes (Ok header) = migrated_from bytes header.format
migrated_by bytes (Err fault) = Err (NotMounted fault)

-- the pack of these bytes in the second format
unfoldable pub migrated : List ℕ → Result (List ℕ) MigrateFault
migrated bytes = migrated_by bytes (mounted (contents_of bytes))

abbrev pub IsMigrateFault : Result (List ℕ) MigrateFault → MigrateFault → Type 0
IsMigrateFault outcome NoMemoryToMigrate = ⊤
IsMigrateFault outcome (NotMounted fault) = outcome ≡ Err (NotMounted fault)
IsMigrateFault outcome AlreadyNew = outcome ≡ Err AlreadyNew
