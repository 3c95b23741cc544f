-- What a look at the pack leaves of a bureau.
use Rattle.std.specs.Prelude.{◌≡◌, ◌≢◌, ◌⊎◌, ◌+◌, ℕ, true, false, Option, Some, None, Result, Ok, Err}
use Rattle.s3_store.specs.Inner.State.{KeepsContents}
use Rattle.s3_bureau.specs.declared.stop.Stop.{Stop}
use Rattle.s3_bureau.specs.declared.stop.Stop.TheVariants.{NoMemory, Device, Stopped}
use Rattle.s3_bureau.specs.Inner.Held.{State, has_worlds, is_open}

-- why a look ended before its end, if it did
abbrev pub stop_in : {T : Type 0} → Result T Stop → Option Stop
stop_in (Ok _) = None
stop_in (Err stop) = Some stop

-- how many transfers have failed
abbrev pub failed_by : Option Stop → ℕ
failed_by None = 0
failed_by (Some NoMemory) = 0
failed_by (Some Device) = 1
failed_by (Some Stopped) = 0

-- a look that came to its end leaves how far the bureau has come; one that didn't does, or has stopped it
abbrev pub Leaves : Option Stop → (old new : State) → Type 0
Leaves None old new = new.phase ≡ old.phase
Leaves (Some stop) old new = (new.phase ≡ old.phase) ⊎ (has_worlds new.phase ≡ false)

-- All stays but what the store has by then of the sectors, and how far the bureau has come where it stopped.
pub record Looks (stop : Option Stop) (old new : State) : Type 0 where
  pub one : new.one ≡ old.one
  pub two : new.two ≡ old.two
  pub areas : new.beside.areas ≡ old.beside.areas
  pub blocks : new.beside.blocks ≡ old.beside.blocks
  pub keeps : KeepsContents old.beside.state new.beside.state
  pub failures : new.beside.state.failures ≡ old.beside.state.failures + failed_by stop
  pub leaves : Leaves stop old new
  pub before : is_open old ≡ true → stop ≢ Some Stopped
  pub closed : is_open old ≡ false → new ≡ old
