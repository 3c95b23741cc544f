-- CHAIN: what it seeks, and how the run continues.
use Rattle.std.specs.Prelude.{◌≡◌, ℕ, true, Option, Some, None}
use Rattle.s3_cards.specs.declared.name.Name.{Name}
use Rattle.s3_lines.specs.declared.sheet.CalculationLine.{CalculationLine}
use Rattle.s3_lines.specs.declared.sheet.Operation.TheVariants as op
use Rattle.s3_meaning.specs.Source.{Source, file_named}
use Rattle.s3_meaning.specs.Runs.{Rest, ended}
use Rattle.s3_meaning.specs.Calculations.{name_in}
use Rattle.s3_meaning.specs.Calculating.{chained, sought_in}
use Rattle.s3_meaning.specs.Cycle.{again}
use Rattle.s3_program.specs.declared.program.Program.{Program}
use Rattle.s3_program.specs.declared.program.Reference.{Reference}
use Rattle.s3_operations.specs.Inner.Fits.{IsLineOf, named_line}
use Rattle.s3_match.specs.Inner.Heads.{file_at}
use Rattle.s3_instructions.specs.declared.calculation.chained.Chained.{Chained}
use Rattle.s3_instructions.specs.Inner.Chains.{IsChained}
use Rattle.s3_cycle.specs.declared.progress.Progress.{Progress}
use Rattle.s3_cycle.specs.declared.request.Sought.{Sought}
use Rattle.s3_cycle.specs.declared.stepper.Stepper.{Stepper}
use Rattle.s3_cycle.specs.declared.went.Calculated.{Calculated}
use Rattle.s3_cycle.specs.declared.went.Calculated.TheVariants as one
use Rattle.s3_cycle.specs.Inner.Requests.{IsSoughtBy, sought_of}
use Rattle.s3_cycle.specs.Inner.Rest.{calculating, line_at}
use Rattle.s3_cycle.specs.Inner.Going.{GoesOn, IsRunning, here, held_by, own}

-- ---- what CHAIN seeks
-- a decoded CHAIN of the program
pub record ChainsAt (c : Stepper) (chain : Chained) : Type 0 where
  pub line : CalculationLine Reference
  pub of_program : IsLineOf c.program line op.Chain
  pub is : IsChained c.program line chain

-- A key of the file's key length, or a record number if the file has no key. Its value is the one that the semantics seeks with the run's
-- values.
pub record Seeks (c : Stepper) (line : CalculationLine Reference) (file : ℕ) (sought : Sought) : Type 0 where
  pub by : IsSoughtBy (file_at c.program file).key sought
  pub value : sought_of sought ≡ sought_in (own c) (held_by c) (named_line c.program line) (file_at c.program file)

-- ---- how the run continues
-- the CHAIN at a place, then the calculations after it
unfoldable pub chaining : ℕ → Source → Program → Progress → Rest
chaining place source program progress = on (line_at program place)
  where
    on : Option (CalculationLine Name) → Rest
    on None = ended true
    on (Some line) = chained source (again source) line (file_named source (name_in line.factor2)) (calculating source program progress)

-- CHAIN seeks or finds no record, and calculations continue
pub record PassesChain (old new : Stepper) (place : ℕ) : Type 0 where
  pub program : new.program ≡ old.program
  pub progress : new.progress ≡ old.progress
  pub running : IsRunning new
  pub runs : here new calculating ≡ here old (chaining place)

abbrev pub DoesChain : Stepper → Stepper → (place : ℕ) → Calculated → Type 0
DoesChain old new place one.GoesOn = PassesChain old new place
DoesChain old new place one.Waits = GoesOn old new (here old (chaining place))
