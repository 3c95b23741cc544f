-- Runs of sectors that are whole tracks.
use Rattle.std.specs.Prelude.{◌≡◌, ◌%◌}
use Rattle.s3_store.specs.declared.stretch.Stretch.{Stretch}

-- whole tracks: both numbers are multiples of a track's sectors
abbrev pub IsWhole : Stretch → Type 0
IsWhole region = (region.start % 24 ≡ 0) × (region.sectors % 24 ≡ 0)
