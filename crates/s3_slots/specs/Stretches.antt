-- Runs of sectors that overlap or don't, and tracks.
use Rattle.std.specs.Prelude.{◌<◌, ◌≤◌, ℕ, ◌+◌, ◌*◌, ◌/◌, ◌==◌, Bool, true, ◌&&◌, ◌||◌, nat_le, List, [], ◌∷◌}
use Rattle.std.specs.List.{list_all}
use Rattle.s3_store.specs.Stretches.{end_of}
use Rattle.s3_store.specs.declared.stretch.Stretch.{Stretch}

-- two runs have no sector in common: one of them is empty, or ends before the other
abbrev pub is_apart : Stretch → Stretch → Bool
is_apart a b = (a.sectors == 0) || (b.sectors == 0) || nat_le (end_of a) b.start || nat_le (end_of b) a.start

abbrev pub is_apart_from_all : Stretch → List Stretch → Bool
is_apart_from_all stretch others = list_all (is_apart stretch) others

-- no two of these runs have a sector in common
abbrev pub are_apart : List Stretch → Bool
are_apart [] = true
are_apart (stretch ∷ stretches) = is_apart_from_all stretch stretches && are_apart stretches

abbrev pub is_inside : Stretch → Stretch → Bool
is_inside outer stretch = nat_le outer.start stretch.start && nat_le (end_of stretch) (end_of outer)

-- ---- tracks of 24 sectors
abbrev pub sectors_of_tracks : ℕ → ℕ
sectors_of_tracks tracks = 24 * tracks

-- the tracks that so many sectors take
abbrev pub tracks_for : ℕ → ℕ
tracks_for sectors = (sectors + 23) / 24

-- a sector of a run
abbrev pub IsIn : Stretch → ℕ → Type 0
IsIn region n = (region.start ≤ n) × (n < end_of region)
