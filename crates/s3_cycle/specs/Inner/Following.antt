-- A suspended run as higher layers see it.
use Rattle.std.specs.Prelude.{◌≡◌, ◌<◌, ℕ, Bool, List, ◌∷◌, ◌++◌, Option, replicate}
use Rattle.s3_lines.specs.declared.sheet.FileLine.{FileLine}
use Rattle.s3_meaning.specs.Source.{Source}
use Rattle.s3_meaning.specs.Requests as Meant
use Rattle.s3_meaning.specs.Requests.{Answer, Done}
use Rattle.s3_meaning.specs.Inner.Requests.{fits}
use Rattle.s3_meaning.specs.Cycle.{Req}
use Rattle.s3_program.specs.Inner.Stands.{Stands}
use Rattle.s3_cycle.specs.declared.request.Request.{Request}
use Rattle.s3_cycle.specs.declared.request.Answer as Code
use Rattle.s3_cycle.specs.declared.stepper.Stepper.{Stepper}
use Rattle.s3_cycle.specs.Inner.Requests.{request_of, answer_of}
use Rattle.s3_cycle.specs.Inner.Rest.{rest}

-- the run's program is the compiled source
unfoldable pub StandsFor : Stepper → Source → Type 0
StandsFor c source = Stands c.program source

-- the File Description specifications of its files, by slot
unfoldable pub files : Stepper → List FileLine
files c = c.program.files.items

-- the pending request; `put` has the byte written at each position of its line or record, if any
unfoldable pub asked : Stepper → Request
asked c = c.request

unfoldable pub put : Stepper → List (Option ℕ)
put c = c.composition

-- the pending request in the terms of the semantics
unfoldable pub waits : Stepper → Meant.Request
waits c = request_of c.program c.composition c.request

unfoldable pub is_fit : Stepper → Code.Answer → Bool
is_fit c answer = fits (waits c) (answer_of answer)

-- the run continues as the semantics of the source does after these answers
pub record Follows (source : Source) (switches : ℕ) (date : List ℕ) (past : List Answer) (c : Stepper) : Type 0 where
  pub stands : StandsFor c source
  pub runs : (answers : List Answer) → rest source c answers ≡ Req source switches date (past ++ answers)

-- the run continues after this many jumps, each answered with Done
pub record PassesJumps (old new : Stepper) (jumps : ℕ) : Type 0 where
  pub asks : (source : Source) → StandsFor old source → (n : ℕ) → n < jumps → rest source old (replicate n Done) ≡ Meant.Jump
  pub goes : (source : Source) → StandsFor old source → StandsFor new source × ((answers : List Answer) → rest source new answers ≡ rest source old (replicate jumps Done ++ answers))

-- the run continues with one more answer
abbrev pub Resumes : (old new : Stepper) → Answer → Type 0
Resumes old new answer =
    (source : Source) → StandsFor old source → StandsFor new source × ((answers : List Answer) → rest source new answers ≡ rest source old (answer ∷ answers))
