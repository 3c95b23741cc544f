-- The start of a run.
use Rattle.std.specs.Prelude.{◌≡◌, ℕ, List}
use Rattle.std.specs.List.{All}
use Rattle.s3_meaning.specs.Environment.{at_first}
use Rattle.s3_meaning.specs.Cycle.{Req, first_reading}
use Rattle.s3_program.specs.declared.program.Program.{Program}
use Rattle.s3_program.specs.Inner.Stands.{source_named}
use Rattle.s3_match.specs.Inner.Reading.{IsReading, reading_in}
use Rattle.s3_instructions.specs.Inner.Calculations.{AreCalculations, IsTotalsGuard}
use Rattle.s3_instructions.specs.Inner.Fields.{AreInputs}
use Rattle.s3_instructions.specs.Inner.OutputLines.{AreOutputs}
use Rattle.s3_meaning.specs.Source.{overflow_of}
use Rattle.s3_cycle.specs.declared.starting.Beginning.{Beginning}
use Rattle.s3_cycle.specs.declared.starting.Instructions.{Instructions}
use Rattle.s3_cycle.specs.declared.progress.Progress.{Progress}
use Rattle.s3_cycle.specs.declared.state.State.{State}
use Rattle.s3_cycle.specs.declared.stepper.Stepper.{Stepper}
use Rattle.s3_cycle.specs.Inner.Rest.{rest}
use Rattle.s3_cycle.specs.Inner.Environment.{environment}
use Rattle.s3_cycle.specs.Inner.Going.{AreSound, CanBegin, IsHeadWithin, IsWaiting}

pub record BeginsState (program : Program) (switches : ℕ) (date : List ℕ) (state : State) : Type 0 where
  pub sound : AreSound program state
  pub held : environment program state ≡ at_first (source_named program) switches date

pub record BeginsProgress (program : Program) (switches : ℕ) (progress : Progress) : Type 0 where
  pub reading : IsReading program progress.reading
  pub heads : All (IsHeadWithin program) progress.reading.files.items
  pub begins : CanBegin program progress
  pub first : (date : List ℕ) → reading_in program progress.reading ≡ first_reading (source_named program) (at_first (source_named program) switches date)

-- the decoded instructions of the program's specifications
pub record AreInstructions (program : Program) (instructions : Instructions) : Type 0 where
  pub calculations : AreCalculations program instructions.calculations.items
  pub totals_guard : IsTotalsGuard program instructions.totals_guard
  pub inputs : AreInputs program instructions.inputs.items
  pub outputs : AreOutputs program instructions.outputs

pub record BeginsRun (program : Program) (switches : ℕ) (date : List ℕ) (beginning : Beginning) : Type 0 where
  pub state : BeginsState program switches date beginning.state
  pub progress : BeginsProgress program switches beginning.progress
  pub instructions : AreInstructions program beginning.instructions

-- the run consists of exactly these parts
pub record IsBegun (begun : Program) (beginning : Beginning) (c : Stepper) : Type 0 where
  pub program : c.program ≡ begun
  pub overflow : c.overflow ≡ overflow_of begun.files.items
  pub state : c.state ≡ beginning.state
  pub progress : c.progress ≡ beginning.progress
  pub calculations : c.calculations ≡ beginning.instructions.calculations
  pub totals_guard : c.totals_guard ≡ beginning.instructions.totals_guard
  pub inputs : c.inputs ≡ beginning.instructions.inputs
  pub outputs : c.outputs ≡ beginning.instructions.outputs

-- the run at the job's first request
pub record Starts (program : Program) (switches : ℕ) (date : List ℕ) (c : Stepper) : Type 0 where
  pub same : c.program ≡ program
  pub sound : IsWaiting c
  pub runs : rest (source_named program) c ≡ Req (source_named program) switches date
