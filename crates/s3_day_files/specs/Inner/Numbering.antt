-- Which numbers the kept packs have, and which of these packs a save removes. A list of names has what has the names from number 1 on.
use Rattle.std.specs.Prelude.{ℕ, ◌+◌, ◌-◌, max, nat_le, Bool, true, false, not, ◌&&◌, List, [], ◌∷◌, length, take, drop, position, Option, Some, None, slice_get, unwrap_or, if◌then◌else◌}
use Rattle.std.specs.List.{list_all}
use Rattle.s3_day_files.specs.declared.numbering.AtName.{AtName}
use Rattle.s3_day_files.specs.declared.numbering.AtName.TheVariants.{Nothing, Pack, Other}

abbrev pub is_free : AtName → Bool
is_free Nothing = true
is_free Pack = false
is_free Other = false

abbrev pub is_pack : AtName → Bool
is_pack Nothing = false
is_pack Pack = true
is_pack Other = false

-- a gap is eight free numbers one after another
abbrev pub begins_with_gap : List AtName → Bool
begins_with_gap names = nat_le 8 (length names) && list_all is_free (take 8 names)

abbrev pub ends_with_gap : List AtName → Bool
ends_with_gap names = begins_with_gap (drop (length names - 8) names)

-- the names before the first gap
abbrev pub before_gap : List AtName → List AtName
before_gap [] = []
before_gap (name ∷ names) = if begins_with_gap (name ∷ names) then [] else name ∷ before_gap names

-- the numbers of the packs, if the first name has this number
abbrev pub packs_from : (first : ℕ) → List AtName → List ℕ
packs_from first [] = []
packs_from first (name ∷ names) = if is_pack name then first ∷ packs_from (first + 1) names else packs_from (first + 1) names

-- the packs before the first gap are kept
abbrev pub kept_in : List AtName → List ℕ
kept_in names = packs_from 1 (before_gap names)

-- how many packs come before the first number that no pack has
abbrev pub packs_before : List AtName → ℕ
packs_before names = unwrap_or (position (λ name. not (is_pack name)) names) (length names)

-- So many packs come first, before this. The last of them gets the next number if that is free. If it isn't, or packs have all numbers,
-- the last pack is replaced by the one before it.
abbrev pub end_after : (packs : ℕ) → Option AtName → ℕ
end_after packs (Some Nothing) = packs + 1
end_after packs (Some Pack) = packs
end_after packs (Some Other) = packs
end_after packs None = packs

abbrev pub end_of_moves : List AtName → ℕ
end_of_moves names = end_after (packs_before names) (slice_get names (packs_before names))

-- as many packs are kept as are wanted, or one fewer than before the save if that is more: the first ones, which are the newest
abbrev pub surplus : (wanted before : ℕ) → List ℕ → List ℕ
surplus wanted before numbers = drop (max wanted (before - 1)) numbers
