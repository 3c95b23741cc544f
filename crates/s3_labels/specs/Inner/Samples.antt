-- A pack of the first format for worked examples.
use Rattle.std.specs.Prelude.{ℕ, List, [], ◌∷◌, ◌++◌, drop, replicate, take}
use Rattle.std.specs.List.{flat_map, range_with_len}
use Rattle.s3_store.specs.Bytes.{sector_bytes}
use Rattle.s3_store.specs.declared.stretch.Stretch.{Stretch}
use Rattle.s3_slots.specs.Inner.Samples.{june}

-- the second track after the spool blocks
abbrev pub second_track : Stretch
second_track = record { start = 192; sectors = 24 }

-- its first ten sectors: only a file A of level 1 in the second track, with FF after the fields of its slot
abbrev pub first_sectors : List (List ℕ)
first_sectors =
    replicate 9 [] ++ (1 ∷ 0xc1 ∷ replicate 7 0x40 ++ 0xe2 ∷ 0xe3 ∷ 0 ∷ 96 ∷ 0 ∷ 0 ∷ 0 ∷ 0 ∷ 192 ∷ 0 ∷ 24 ∷ 0 ∷ 0 ∷ 0 ∷ 10 ∷ 0 ∷ 0 ∷ 0 ∷ 0 ∷ [] ++ june ++ replicate 30 0xff) ∷ []

abbrev pub bytes_of : List (List ℕ) → List ℕ
bytes_of contents = flat_map (sector_bytes contents) (range_with_len 0 10)

-- the labels of level 1 in these bytes
abbrev pub labels_in : List ℕ → List (List ℕ)
labels_in bytes = replicate 9 [] ++ take 256 (drop 2304 bytes) ∷ []
