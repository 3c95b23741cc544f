-- How many printed lines a level has in its queue, and what reading a sector of the pack gives.
use Rattle.std.specs.Prelude.{◌≡◌, ◌+◌, ℕ, ◌-◌, Bool, true, false, List, length, slice_get, Option, Some, None, Result, IfOk, OnOk, OnErr}
use Rattle.s3_store.specs.Inner.Failures.{failed_transfers}
use Rattle.s3_store.specs.Inner.State.{KeepsContents}
use Rattle.s3_store.specs.declared.sector_fault.SectorFault.{SectorFault}
use Rattle.s3_solo.specs.Lines.{Lines}
use Rattle.s3_bureau.specs.declared.bureau.Phase.TheVariants.{Stopped}
use Rattle.s3_bureau.specs.Inner.Held.{State, is_open}

-- the number of printed lines in the queue
abbrev pub queued : Lines → ℕ
queued lines = length lines.printed - lines.drained

-- the sector has these bytes, or there is no such sector
abbrev pub IsFound : Bool → Option (List ℕ) → List ℕ → Type 0
IsFound true sector bytes = sector ≡ Some bytes
IsFound false sector bytes = sector ≡ None

-- the sector of this number was read, if there is one, or the bureau stopped
pub record Fetches (n : ℕ) (result : Result Bool SectorFault) (bytes : List ℕ) (old new : State) : Type 0 where
  pub was_open : is_open old ≡ true
  pub found : IfOk result (λ found. IsFound found (slice_get old.beside.state.contents n) bytes)
  pub one : new.one ≡ old.one
  pub two : new.two ≡ old.two
  pub areas : new.beside.areas ≡ old.beside.areas
  pub blocks : new.beside.blocks ≡ old.beside.blocks
  pub keeps : KeepsContents old.beside.state new.beside.state
  pub failures : new.beside.state.failures ≡ old.beside.state.failures + failed_transfers result
  pub goes_on : OnOk result (new.phase ≡ old.phase)
  pub stops : OnErr result (new.phase ≡ Stopped)
