-- The environment in which a job begins.
use Rattle.std.specs.Prelude.{ℕ, ◌≡◌, Bool, true, Option, Some, None}
use Rattle.s3_lines.specs.declared.indicator.Indicator.{Indicator}
use Rattle.s3_meaning.specs.Environment.{Environment, on_at_first}

-- the indicators of the environment are those of a job with these switches
pub record BeginsWith (switches : ℕ) (e : Environment) : Type 0 where
  pub on : (indicator : Indicator) → e.on indicator ≡ on_at_first switches indicator

-- whether the condition of a file holds at the beginning of a job
abbrev pub holds_at_first : ℕ → Option Indicator → Bool
holds_at_first switches (Some indicator) = on_at_first switches indicator
holds_at_first switches None = true
