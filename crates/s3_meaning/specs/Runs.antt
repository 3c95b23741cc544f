-- A run maps the answers that a job has had so far to its next request. It is a function: nothing is suspended.
use Rattle.std.specs.Prelude.{ℕ, ◌==◌, Bool, true, false, List, [], ◌∷◌, if◌then◌else◌}
use Rattle.s3_lines.specs.declared.indicator.Indicator.TheVariants.{LastRecord, FirstPage}
use Rattle.s3_operator.specs.declared.halt_code.HaltCode.{HaltCode}
use Rattle.s3_meaning.specs.Requests.{Request, Ask, End, Answer, Reply}
use Rattle.s3_meaning.specs.Calculations.{Calculation}
use Rattle.s3_meaning.specs.Environment.{Environment, turn, with_last_record}
use Rattle.s3_meaning.specs.Selection.{InputFile, Reading}

abbrev pub Run : Type 0
Run = List Answer → Request

-- a continuation: the rest of a run, from an environment
abbrev pub Rest : Type 0
Rest = Environment → Run

-- makes a request, and continues with its answer
unfoldable pub ask : Request → (Answer → Run) → Run
ask request go [] = request
ask request go (answer ∷ answers) = go answer answers

unfoldable pub ended : Bool → Rest
ended at_once e answers = End at_once

-- Restart points: an answer can restart the lines of a section after a jump, or the reading of a file after a skipped record.
-- It can also restart the totals of the last record after reply 2, and the cycle.
pub record Anew : Type 0 where
  pub jump : (section lines : List Calculation) → Rest → Rest
  pub read : InputFile → (InputFile → Rest) → Rest
  pub last : Rest
  pub cycle : Reading → Rest

-- ---- halts
-- reply 2 sets LR and L1 to L9 and goes to the totals; if LR is already on, it ends the job
unfoldable pub to_totals : Anew → Rest
to_totals anew e = (if e.on LastRecord then ended true else anew.last) (turn FirstPage false (with_last_record e))

-- whether this is reply 2
abbrev pub goes_to_totals : ℕ → Bool
goes_to_totals digit = digit == 2

-- reply 0 continues, and reply 3 ends the job
unfoldable pub replied : Anew → Rest → Answer → Rest
replied anew go (Reply digit) e = (if digit == 0 then go else (if goes_to_totals digit then to_totals anew else ended true)) e
replied anew go _ e = ended true e

unfoldable pub halted : Anew → HaltCode → Rest → Rest
halted anew code go e = ask (Ask code) (λ answer. replied anew go answer e)
