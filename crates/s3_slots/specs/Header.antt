-- The header of a pack, and the tests of a mount.
use Rattle.std.specs.Prelude.{ℕ, ◌+◌, ◌%◌, ◌==◌, Bool, not, ◌&&◌, nat_le, nat_lt, codes, List, [], ◌∷◌, length, take, drop, slice_index, Option, Some, None, Result, Ok, Err, if◌then◌else◌}
use Rattle.std.specs.List.{list_all}
use Rattle.std.specs.Cmp.Lexicographic.{pointwise}
use Rattle.std.specs.Prelude.{nat_eq}
use Rattle.byteorder.specs.Endian.{big_number}
use Rattle.s3_cards.specs.declared.levels.LevelId.{LevelId}
use Rattle.s3_cards.specs.declared.levels.LevelId.TheVariants.{One, Two}
use Rattle.s3_store.specs.Bytes.{sector_bytes}
use Rattle.s3_store.specs.Stretches.{end_of}
use Rattle.s3_slots.specs.Stretches.{are_apart}
use Rattle.s3_slots.specs.declared.header.Format.{Format}
use Rattle.s3_slots.specs.declared.header.Format.TheVariants.{First, Second}
use Rattle.s3_slots.specs.declared.header.Header.{Header}
use Rattle.s3_slots.specs.declared.header.MountFault.{MountFault}
use Rattle.s3_slots.specs.declared.header.MountFault.TheVariants.{BadHeader, BadRegions, Short}
use Rattle.s3_store.specs.declared.stretch.Stretch.{Stretch}

-- the sectors before the regions
abbrev pub first_region : ℕ
first_region = 168

abbrev pub region_of : LevelId → Header → Stretch
region_of One header = header.level_one
region_of Two header = header.level_two

abbrev pub quota_of : LevelId → Header → ℕ
quota_of One header = header.quota_one
quota_of Two header = header.quota_two

abbrev pub regions : Header → List Stretch
regions header = header.masters ∷ header.level_one ∷ header.level_two ∷ []

-- ---- its bytes
abbrev pub begins_with : List ℕ → List ℕ → Bool
begins_with text bytes = pointwise nat_eq (take (length text) bytes) text

-- the format by the first eight bytes
abbrev pub format_in : List ℕ → Option Format
format_in bytes =
    if begins_with (codes "S3PACK01") bytes then Some First
    else (if begins_with (codes "S3PACK02") bytes then Some Second else None)

abbrev pub stretch_at : ℕ → List ℕ → Stretch
stretch_at at bytes = record { start = big_number 2 (drop at bytes); sectors = big_number 2 (drop (at + 2) bytes) }

-- the quota; the first format always has 64 lines
abbrev pub quota_in : Format → ℕ → List ℕ → ℕ
quota_in First at bytes = 64
quota_in Second at bytes = slice_index bytes at

abbrev pub header_in : Format → List ℕ → Header
header_in format bytes =
    record {
      format = format;
      total = big_number 2 (drop 8 bytes);
      masters = stretch_at 10 bytes;
      level_one = stretch_at 14 bytes;
      level_two = stretch_at 18 bytes;
      quota_one = quota_in format 22 bytes;
      quota_two = quota_in format 23 bytes;
    }

-- ---- the tests
-- each level can queue at least one line, and both together at most 128
abbrev pub are_quotas : ℕ → ℕ → Bool
are_quotas one two = nat_le 1 one && nat_le 1 two && nat_le (one + two) 128

-- a region is whole tracks, after the spool blocks and before the end of the pack
abbrev pub is_region : ℕ → Stretch → Bool
is_region total region =
    nat_le first_region region.start && (region.start % 24 == 0) && (region.sectors % 24 == 0) && nat_le (end_of region) total

abbrev pub are_regions : Header → Bool
are_regions header = list_all (is_region header.total) (regions header) && are_apart (regions header)

-- the tests in order; none reads a label
abbrev pub accepted : ℕ → Option Header → Result Header MountFault
accepted sectors None = Err BadHeader
accepted sectors (Some header) =
    if not (are_quotas header.quota_one header.quota_two) then Err BadHeader
    else (if not (are_regions header) then Err BadRegions
    else (if nat_lt sectors header.total then Err Short else Ok header))

abbrev pub header_by : List ℕ → Option Format → Option Header
header_by bytes None = None
header_by bytes (Some format) = Some (header_in format bytes)

-- the header of a pack, or why it can't be mounted
abbrev pub mounted : List (List ℕ) → Result Header MountFault
mounted contents =
    if nat_lt (length contents) first_region then Err Short
    else accepted (length contents) (header_by (sector_bytes contents 0) (format_in (sector_bytes contents 0)))
