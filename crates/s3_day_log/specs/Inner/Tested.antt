-- Whether a pack and the files of both decks are those of a logged day, by their checksums.
use Rattle.std.specs.Prelude.{◌≡◌, ◌≢◌, ◌⊎◌, ℕ, ◌+◌, Bool, true, false, List, map, take, slice_get, Option, Some, None, option_map, Result, Ok, Err}
use Rattle.std.specs.Str.{bytes_eq}
use Rattle.std.specs.String.{string_bytes}
use Rattle.s3_day_log.specs.declared.event.NamedFile.{NamedFile}
use Rattle.s3_day_log.specs.declared.day_log.DayLog.{DayLog}
use Rattle.s3_day_log.specs.declared.day_log.Refused.{Refused}
use Rattle.s3_day_log.specs.declared.day_log.Refused.TheVariants.{Pack, IsSaved, Deck}
use Rattle.s3_day_log.specs.declared.which_pack.Standing.{Standing}
use Rattle.s3_day_log.specs.declared.which_pack.Standing.TheVariants.{First, Saved, Other}
use Rattle.s3_day_log.specs.Inner.Endings.{standing_of}

abbrev pub sum_of : NamedFile → List ℕ
sum_of file = string_bytes file.sha256

-- a pack is the one with which the day was begun; no pack, if the day was begun without one
abbrev pub is_same_pack : (logged pack : Option (List ℕ)) → Bool
is_same_pack (Some sum) (Some other) = bytes_eq sum other
is_same_pack None None = true
is_same_pack _ _ = false

-- a pack is the one that the day has saved
abbrev pub is_saved_pack : (saved pack : Option (List ℕ)) → Bool
is_saved_pack (Some sum) (Some other) = bytes_eq sum other
is_saved_pack _ _ = false

-- which of the day's packs a pack is
abbrev pub standing_in : DayLog → Option (List ℕ) → Standing
standing_in log pack = standing_of (is_same_pack (option_map sum_of log.begun.pack) pack) (is_saved_pack (option_map string_bytes log.saved) pack)

abbrev pub HasPack : DayLog → (pack : Option (List ℕ)) → Result (Unit {0}) Refused → Type 0
HasPack log pack (Ok done) = standing_in log pack ≡ First
HasPack log pack (Err Pack) = standing_in log pack ≡ Other
HasPack log pack (Err IsSaved) = standing_in log pack ≡ Saved
HasPack log pack (Err (Deck level place)) = ⊥

-- the files of a deck before this place, from 1, are those of the log, and the file at this place isn't
pub record Differs (place : ℕ) (logged given : List (List ℕ)) : Type 0 where
  pub at : ℕ
  pub is : place ≡ at + 1
  pub before : take at logged ≡ take at given
  pub here : slice_get logged at ≢ slice_get given at

abbrev pub Matches : (level : ℕ) → (logged given : List (List ℕ)) → Result (Unit {0}) Refused → Type 0
Matches level logged given (Ok done) = logged ≡ given
Matches level logged given (Err Pack) = ⊥
Matches level logged given (Err IsSaved) = ⊥
Matches level logged given (Err (Deck number place)) = (number ≡ level) × Differs place logged given

-- which file of which deck differs first
abbrev pub DiffersAt : (log : DayLog) → (one two : List (List ℕ)) → (level place : ℕ) → Type 0
DiffersAt log one two level place =
    ((level ≡ 1) × Differs place (map sum_of log.begun.deck1.items) one)
    ⊎ ((level ≡ 2) × ((map sum_of log.begun.deck1.items ≡ one) × Differs place (map sum_of log.begun.deck2.items) two))

-- the pack and all files are those of the log; or the first that differs is reported, the pack before the decks
abbrev pub IsTested : DayLog → (pack : Option (List ℕ)) → (one two : List (List ℕ)) → Result (Unit {0}) Refused → Type 0
IsTested log pack one two (Ok done) =
    (standing_in log pack ≡ First) × ((map sum_of log.begun.deck1.items ≡ one) × (map sum_of log.begun.deck2.items ≡ two))
IsTested log pack one two (Err Pack) = standing_in log pack ≡ Other
IsTested log pack one two (Err IsSaved) = standing_in log pack ≡ Saved
IsTested log pack one two (Err (Deck level place)) = (standing_in log pack ≡ First) × DiffersAt log one two level place
