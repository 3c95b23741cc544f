-- What was written, if a write may have failed.
use Rattle.std.specs.Prelude.{◌≡◌, ◌++◌, ℕ, List, [], Bool, false, Option}
use Rattle.std.specs.Io.KnownBytes.{Appends}

-- the beginning of a text was written after the earlier bytes; all of it, unless a write has failed
pub record HasWritten (before now : Option (List ℕ)) (has_failed : Bool) (text : List ℕ) : Type 0 where
  pub front : List ℕ
  pub rest : List ℕ
  pub wrote : Appends before now front
  pub whole : text ≡ front ++ rest
  pub all : has_failed ≡ false → rest ≡ []

-- A writer that had written the first text has now written the second one. If a write has failed, it has written a beginning of it.
abbrev pub Moves : (was now : Option (List ℕ)) (had_failed has_failed : Bool) (from to : List ℕ) → Type 0
Moves was now had_failed has_failed from to = (before : Option (List ℕ)) → HasWritten before was had_failed from → HasWritten before now has_failed to

-- whatever text the writer had written, these bytes came after it
abbrev pub Adds : (was now : Option (List ℕ)) (had_failed has_failed : Bool) (bytes : List ℕ) → Type 0
Adds was now had_failed has_failed bytes = (text : List ℕ) → Moves was now had_failed has_failed text (text ++ bytes)

-- a write of some bytes leaves these bytes unwritten
abbrev pub LeavesBytes : (was now : Option (List ℕ)) (bytes left : List ℕ) → Type 0
LeavesBytes was now bytes left = (front : List ℕ) × (Appends was now front × (bytes ≡ front ++ left))
