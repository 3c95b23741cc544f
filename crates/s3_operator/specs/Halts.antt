-- The halts that were shown, and a reply to the waiting one.
use Rattle.std.specs.Prelude.{ℕ, ◌-◌, Bool, List, [], ◌∷◌, ◌++◌, length, set, slice_get, Option, Some, None, is_some, Result, Ok, Err, if◌then◌else◌}
use Rattle.s3_operator.specs.declared.halt_code.HaltCode.{HaltCode}
use Rattle.s3_operator.specs.declared.reply_fault.ReplyFault.{ReplyFault}
use Rattle.s3_operator.specs.declared.reply_fault.ReplyFault.TheVariants.{NotHalted, NotAllowed}
use Rattle.s3_operator.specs.Replies.{is_allowed}

-- a halt that was shown: the job's number, the halt's code, pairs of a card's number and the number of the error there, and the reply
pub record ShownHalt : Type 0 where
  pub job : ℕ
  pub code : HaltCode
  pub details : List (ℕ × ℕ)
  pub reply : Option ℕ

-- a halt is shown: it comes after the others and has no reply
abbrev pub with_halt : (job : ℕ) → HaltCode → (details : List (ℕ × ℕ)) → List ShownHalt → List ShownHalt
with_halt job code details halts = halts ++ (record { job = job; code = code; details = details; reply = None }) ∷ []

abbrev pub last_halt : List ShownHalt → Option ShownHalt
last_halt halts = slice_get halts (length halts - 1)

-- the code of a halt without a reply
abbrev pub unanswered : Option ShownHalt → Option HaltCode
unanswered None = None
unanswered (Some halt) = on halt.reply
  where
    on : Option ℕ → Option HaltCode
    on None = Some halt.code
    on (Some digit) = None

-- the last halt waits if it has no reply
abbrev pub waiting : List ShownHalt → Option HaltCode
waiting halts = unanswered (last_halt halts)

abbrev pub is_waiting : List ShownHalt → Bool
is_waiting halts = is_some (waiting halts)

-- the last halt has this reply
abbrev pub with_reply : (digit : ℕ) → List ShownHalt → List ShownHalt
with_reply digit halts = on (last_halt halts)
  where
    on : Option ShownHalt → List ShownHalt
    on None = halts
    on (Some halt) = set halts (length halts - 1) (record halt { reply = Some digit })

-- the answer to a reply while this halt waits
abbrev pub answer_to : (digit : ℕ) → Option HaltCode → Result (Unit {0}) ReplyFault
answer_to digit None = Err NotHalted
answer_to digit (Some code) = if is_allowed code digit then Ok tt else Err NotAllowed

abbrev pub fault_number : ReplyFault → ℕ
fault_number NotHalted = 1
fault_number NotAllowed = 2
