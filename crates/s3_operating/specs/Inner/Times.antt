-- The time of a line in the log.
use Rattle.std.specs.Prelude.{ℕ, Bool, true, false, List, Option, Some, None, ⊤}
use Rattle.std.specs.Io.KnownBytes.{Appends}
use Rattle.s3_day_log.specs.Inner.Events.{Said}
use Rattle.s3_day_log.specs.Inner.Times.{IsLineAt}

-- unless a write has failed, the known bytes of a file have grown by the line of an event at a second that the clock gave
abbrev pub IsNotedAt : (IsGiven : ℕ → Type 0) → (before now : Option (List ℕ)) → (has_failed : Bool) → Said → Type 0
IsNotedAt IsGiven before now true said = ⊤
IsNotedAt IsGiven None now false said = ⊤
IsNotedAt IsGiven (Some bytes) now false said = (second : ℕ) × (line : List ℕ) × IsGiven second × IsLineAt (record { second = second; said = said }) line × Appends (Some bytes) now line
