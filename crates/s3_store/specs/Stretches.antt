-- Runs of sectors: regions, extents, free space.
use Rattle.std.specs.Prelude.{ℕ, ◌+◌, List}
use Rattle.std.specs.List.{range_with_len, flat_map}
use Rattle.s3_store.specs.declared.stretch.Stretch.{Stretch}

-- the first sector after a run
abbrev pub end_of : Stretch → ℕ
end_of stretch = stretch.start + stretch.sectors

-- the numbers of the sectors of these runs, in order
abbrev pub sectors_in : List Stretch → List ℕ
sectors_in stretches = flat_map (λ stretch. range_with_len stretch.start stretch.sectors) stretches
