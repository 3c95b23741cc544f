-- Composing an output line, and writing its record to a file.
use Rattle.std.specs.Prelude.{◌≡◌, ℕ, true, List, Option, Some, is_some, not, length, replicate, slice_get}
use Rattle.s3_lines.specs.Files.{is_printer}
use Rattle.s3_meaning.specs.Environment.{Environment}
use Rattle.s3_meaning.specs.OutputLines.{Output}
use Rattle.s3_meaning.specs.Output.{composed, disk_request}
use Rattle.s3_program.specs.declared.program.Program.{Program}
use Rattle.s3_program.specs.declared.starts.OutputStart.{OutputStart}
use Rattle.s3_output.specs.declared.requests.DiskRequest.{DiskRequest}
use Rattle.s3_output.specs.Inner.Compositions.{first_position}
use Rattle.s3_output.specs.Inner.Lines.{IsLineAt, IsStart, file_of}
use Rattle.s3_output.specs.Inner.Requests as disk
use Rattle.s3_instructions.specs.Inner.OutputLines.{own_starts}
use Rattle.s3_match.specs.Inner.Heads.{file_at}
use Rattle.s3_cycle.specs.declared.stepper.Stepper.{Stepper}
use Rattle.s3_cycle.specs.Inner.Requests.{IsDiskFile, TakesRecord}
use Rattle.s3_cycle.specs.Inner.Environment.{environment}
use Rattle.s3_cycle.specs.Inner.Going.{AreSound, own, held_by}

-- the output line of this number has a file
pub record CanCompose (c : Stepper) (number : ℕ) : Type 0 where
  pub start : OutputStart
  pub there : slice_get (own_starts c.program.starts) number ≡ Some start
  pub starts : IsStart c.program start
  pub file : is_some (file_of c.program start) ≡ true

-- Only values and the composed record have changed, as the semantics composes the line. A printed line begins blank.
pub record ComposesLine (old new : Stepper) (start : OutputStart) : Type 0 where
  pub same : new ≡ record old { state = new.state; composition = new.composition }
  pub sound : AreSound old.program new.state
  pub sized : length new.composition ≡ (file_at old.program start.file).record_length
  pub composes : (line : Output) → IsLineAt old.program start line
      → composed (own old) line.fields (record { positions = replicate (file_at old.program start.file).record_length (first_position (not (is_printer (file_at old.program start.file).device))); after = held_by old })
      ≡ record { positions = new.composition; after = environment old.program new.state }

-- the line's request is this request to the file in a slot
abbrev pub AsksFor : Program → (file : ℕ) → Output → DiskRequest → Type 0
AsksFor program file line request =
    (positions : List (Option ℕ)) (e : Environment) → disk_request (file_at program file) line positions e ≡ disk.request_of request (file_at program file) positions e

-- the composed record can be written to the file in a slot
pub record CanStore (c : Stepper) (file : ℕ) (request : DiskRequest) : Type 0 where
  pub line : Output
  pub asks : AsksFor c.program file line request
  pub fits : IsDiskFile c.program.files.items file (TakesRecord (length c.composition))
