-- Which of H1 to H9 halts the job next.
use Rattle.std.specs.Prelude.{◌≡◌, ◌≤◌, ◌<◌, ℕ, true, false}
use Rattle.s3_lines.specs.declared.indicator.Indicator.TheVariants.{Halt}
use Rattle.s3_cycle.specs.declared.stepper.Stepper.{Stepper}
use Rattle.s3_cycle.specs.Inner.Going.{held_by}

-- none of the halt indicators of this range is on
abbrev pub AreOff : Stepper → (from to : ℕ) → Type 0
AreOff c from to = (n : ℕ) → from ≤ n → n < to → (held_by c).on (Halt n) ≡ false

pub record IsFirstHalt (c : Stepper) (from number : ℕ) : Type 0 where
  pub behind : from ≤ number
  pub few : number ≤ 9
  pub on : (held_by c).on (Halt number) ≡ true
  pub before : AreOff c from number
