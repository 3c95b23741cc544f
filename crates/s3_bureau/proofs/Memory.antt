-- Only an entry that acts can stop a level.
use Rattle.std.proofs.Common.{◌≡◌, ℕ, Bool, true, false, Result, Ok, Err, refl}
use Rattle.std.specs.Prelude.{if◌then◌else◌}
use Rattle.s3_solo.specs.declared.action.Action.TheVariants.{Reply, Drain}
use Rattle.s3_solo.specs.declared.action.Did.TheVariants.{Acted, Refused}
use Rattle.s3_solo.specs.Lines.{is_queued}
use Rattle.s3_operator.specs.declared.reply_fault.ReplyFault.{ReplyFault}
use Rattle.s3_operator.specs.Halts.{answer_to, fault_number, waiting}
use Rattle.s3_solo.specs.World.{World}
use Rattle.s3_solo.specs.Serving.{acted}
use Rattle.s3_solo.specs.Solo.{refused, reply_given, step_of}

-- a reply acts, unless it is refused
pub reply_acts : (digit : ℕ) (w : World) → ((number : ℕ) → (step_of w (Reply digit)).did ≡ Refused number → ⊥) → (step_of w (Reply digit)).did ≡ Acted
reply_acts digit w not_refused = by (answer_to digit (waiting w.halts)) not_refused
  where
    by : (answer : Result (Unit {0}) ReplyFault) → ((number : ℕ) → (reply_given digit answer w).did ≡ Refused number → ⊥) → (reply_given digit answer w).did ≡ Acted
    by (Ok allowed) never = refl
    by (Err fault) never = absurd (never (fault_number fault) refl)

-- a drain acts, unless it is refused
pub drain_acts : (w : World) → ((number : ℕ) → (step_of w Drain).did ≡ Refused number → ⊥) → (step_of w Drain).did ≡ Acted
drain_acts w not_refused = by (is_queued w.lines) _ not_refused
  where
    by : (b : Bool) (after : World) → ((number : ℕ) → (if b then acted after else refused 3 w).did ≡ Refused number → ⊥) → (if b then acted after else refused 3 w).did ≡ Acted
    by true after never = refl
    by false after never = absurd (never 3 refl)
