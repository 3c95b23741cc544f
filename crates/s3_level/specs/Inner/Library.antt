-- The cycles that a library keeps for its programs.
use Rattle.std.specs.Prelude.{◌≡◌, ℕ, List, Option, Some, None}
use Rattle.indexmap.specs.IndexMap.{IndexMap, get}
use Rattle.s3_cards.specs.declared.name.Name.{Name}
use Rattle.s3_cards.specs.Names.{same_name}
use Rattle.s3_cycle.specs.declared.stepper.Stepper.{Stepper}
use Rattle.s3_cycle.specs.Inner.Following.{StandsFor}
use Rattle.s3_cycle.specs.Inner.Rest.{rest}
use Rattle.s3_meaning.specs.Cycle.{Req}
use Rattle.s3_meaning.specs.Requests.{Answer}
use Rattle.s3_meaning.specs.Source.{Source}
use Rattle.s3_program.specs.declared.program.Program.{Program}
use Rattle.s3_program.specs.Inner.Stands.{Stands}
use Rattle.s3_level.specs.declared.job.OpenJob.{OpenJob}

-- each name has the program that it had
abbrev pub HasSame : {S : Type 0} → (old new : IndexMap Name Program S) → Type 0
HasSame old new = (name : Name) → get same_name new name ≡ get same_name old name

-- a cycle belongs to a program: it represents each source that the program represents
abbrev pub IsFor : Program → Stepper → Type 0
IsFor program cycle = (source : Source) → Stands program source → StandsFor cycle source

-- the cycle of a program's last job, if one is kept
abbrev pub Rests : Program → Option Stepper → Type 0
Rests program None = Unit {0}
Rests program (Some cycle) = IsFor program cycle

-- a cycle of a program is at the beginning of a run
abbrev pub BeginsFor : Program → (switches : ℕ) → (date : List ℕ) → Stepper → Type 0
BeginsFor program switches date cycle =
    (source : Source) → Stands program source → StandsFor cycle source × ((answers : List Answer) → rest source cycle answers ≡ Req source switches date answers)

-- the cycle of a running job can be returned to the library
abbrev pub IsOfLibrary : {S : Type 0} → IndexMap Name Program S → Option OpenJob → Type 0
IsOfLibrary library None = Unit {0}
IsOfLibrary library (Some job) = (program : Program) → get same_name library job.program ≡ Some program → IsFor program job.cycle
