-- Output lines that are written or skipped.
use Rattle.std.specs.Prelude.{◌≡◌, ℕ, Bool, true, false, ◌&&◌, slice_get, Option, Some, None}
use Rattle.s3_meaning.specs.Runs.{Rest}
use Rattle.s3_meaning.specs.OutputLines.{Output}
use Rattle.s3_meaning.specs.Output.{line_holds}
use Rattle.s3_program.specs.declared.starts.OutputStart.{OutputStart}
use Rattle.s3_program.specs.declared.starts.Walk.{Walk}
use Rattle.s3_program.specs.Inner.Started.{output_at}
use Rattle.s3_operations.specs.Inner.Fits.{tables}
use Rattle.s3_instructions.specs.Inner.OutputLines.{is_used}
use Rattle.s3_cycle.specs.declared.stepper.Stepper.{Stepper}
use Rattle.s3_cycle.specs.declared.went.Went.{Went}
use Rattle.s3_cycle.specs.declared.went.Went.TheVariants as went
use Rattle.s3_cycle.specs.Inner.Rest.{starts_of, is_at_overflow, lines_then, lines_from}
use Rattle.s3_cycle.specs.Inner.Going.{own, held_by, here, GoesOn}

-- the line exists, and its conditions hold
abbrev pub is_held : Stepper → Walk → Option Output → Bool
is_held c walk None = false
is_held c walk (Some line) = line_holds (own c) (is_at_overflow walk) (held_by c) line

-- the line's file is used, and its conditions hold
abbrev pub is_due : Stepper → Walk → OutputStart → Bool
is_due c walk start =
    is_used (held_by c) (slice_get c.program.files.items start.file) && is_held c walk (output_at (tables c.program) c.program.outputs.items start)

-- the line at this place is written
pub record IsDue (c : Stepper) (walk : Walk) (place : ℕ) : Type 0 where
  pub start : OutputStart
  pub there : slice_get (starts_of c.program.starts walk) place ≡ Some start
  pub due : is_due c walk start ≡ true

-- no line of this range is written, for any continuation
abbrev pub PassesTo : Stepper → Walk → (from to : ℕ) → Type 0
PassesTo c walk from to = (go : Rest) → lines_then (own c) c.program walk from go (held_by c) ≡ lines_then (own c) c.program walk to go (held_by c)

-- no line from this place on is written
abbrev pub PassesAll : Stepper → Walk → (from : ℕ) → Type 0
PassesAll c walk from = (go : Rest) → lines_then (own c) c.program walk from go (held_by c) ≡ go (held_by c)

-- writes lines from this place on
abbrev pub Puts : Stepper → Stepper → Walk → (next : ℕ) → Went → Type 0
Puts old new walk next went.ToRequest = GoesOn old new (here old (λ source program progress. lines_from source program progress walk next))
Puts old new walk next went.ToEnd = (new ≡ old) × PassesAll old walk next
