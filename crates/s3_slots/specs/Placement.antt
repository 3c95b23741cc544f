-- The slot and the extents of a new file.
use Rattle.std.specs.Prelude.{ℕ, ◌+◌, ◌-◌, ◌*◌, ◌/◌, ◌==◌, Bool, true, false, nat_le, List, [], ◌∷◌, ◌++◌, map, take, Option, Some, None, find, if◌then◌else◌}
use Rattle.std.specs.List.{range_with_len, sum_by, position_from}
use Rattle.s3_store.specs.Stretches.{end_of}
use Rattle.s3_slots.specs.Stretches.{sectors_of_tracks}
use Rattle.s3_slots.specs.Slots.{is_clear}
use Rattle.s3_slots.specs.declared.header.Format.{Format}
use Rattle.s3_slots.specs.declared.header.Format.TheVariants.{First, Second}
use Rattle.s3_slots.specs.declared.slot.Slot.{Slot}
use Rattle.s3_slots.specs.declared.slot.Slot.TheVariants.{Free}
use Rattle.s3_store.specs.declared.stretch.Stretch.{Stretch}

-- ---- the slot
abbrev pub is_free : Slot → Bool
is_free Free = true
is_free _ = false

-- the lowest free one
abbrev pub free_slot : List Slot → Option ℕ
free_slot slots = position_from is_free 0 slots

-- ---- the space
-- so many tracks that begin at a track of the region
abbrev pub tracks_at : Stretch → ℕ → ℕ → Stretch
tracks_at region tracks track = record { start = region.start + 24 * track; sectors = sectors_of_tracks tracks }

-- each place in the region for so many tracks, from the lowest up
abbrev pub places : Stretch → ℕ → List Stretch
places region tracks = map (tracks_at region tracks) (range_with_len 0 (region.sectors / 24 + 1 - tracks))

-- the lowest place without a sector of a valid extent
unfoldable pub lowest_place : Stretch → List Slot → ℕ → Option Stretch
lowest_place region slots tracks = find (is_clear slots) (places region tracks)

-- a stretch, if it has a sector
abbrev pub ended : Stretch → List Stretch
ended run = if run.sectors == 0 then [] else run ∷ []

abbrev pub grown : Stretch → Stretch → Stretch
grown run track = record { start = run.start; sectors = run.sectors + track.sectors }

abbrev pub empty_behind : Stretch → Stretch
empty_behind track = record { start = end_of track; sectors = 0 }

-- the free runs of these tracks, of which the first continues the given run; a track with a sector of a valid extent ends a run
abbrev pub free_runs : List Slot → Stretch → List Stretch → List Stretch
free_runs slots run [] = ended run
free_runs slots run (track ∷ tracks) =
    if is_clear slots track then free_runs slots (grown run track) tracks else ended run ++ free_runs slots (empty_behind track) tracks

-- the free extents of a region, from the lowest up
unfoldable pub free_stretches : Stretch → List Slot → List Stretch
free_stretches region slots = free_runs slots (record { start = region.start; sectors = 0 }) (places region 1)

-- so many sectors of these extents; the last extent may be cut
abbrev pub cut : ℕ → List Stretch → List Stretch
cut sectors [] = []
cut sectors (stretch ∷ stretches) =
    if nat_le sectors stretch.sectors then record stretch { sectors = sectors } ∷ []
    else stretch ∷ cut (sectors - stretch.sectors) stretches

abbrev pub cut_if : Bool → ℕ → List Stretch → Option (List Stretch)
cut_if true sectors stretches = Some (cut sectors stretches)
cut_if false sectors stretches = None

-- so many sectors of the lowest four free extents, if these have so many
abbrev pub lowest_stretches : Stretch → List Slot → ℕ → Option (List Stretch)
lowest_stretches region slots sectors =
    let lowest : List Stretch = take 4 (free_stretches region slots) in
    cut_if (nat_le sectors (sum_by (λ stretch. stretch.sectors) lowest)) sectors lowest

-- one extent if one suffices; else none in the first format, and up to four in the second
abbrev pub placed_or : Format → Stretch → List Slot → ℕ → Option Stretch → Option (List Stretch)
placed_or format region slots tracks (Some extent) = Some (extent ∷ [])
placed_or First region slots tracks None = None
placed_or Second region slots tracks None = lowest_stretches region slots (sectors_of_tracks tracks)

-- the extents of a file of so many tracks
unfoldable pub placed : Format → Stretch → List Slot → ℕ → Option (List Stretch)
placed format region slots tracks = placed_or format region slots tracks (lowest_place region slots tracks)
