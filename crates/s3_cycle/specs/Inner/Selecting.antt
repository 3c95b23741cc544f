-- The selected record is taken from the head of its file.
use Rattle.std.specs.Prelude.{◌≡◌, ℕ, true, Some}
use Rattle.std.specs.List.{All}
use Rattle.s3_meaning.specs.Environment.{Environment, turn}
use Rattle.s3_meaning.specs.Selection.{Selected, broken, is_matched, taken}
use Rattle.s3_match.specs.Inner.Reading.{IsReading, reading_in}
use Rattle.s3_match.specs.Inner.Selecting.{selected_at}
use Rattle.s3_cycle.specs.declared.progress.Selection.{Selection}
use Rattle.s3_cycle.specs.declared.stepper.Stepper.{Stepper}
use Rattle.s3_cycle.specs.Inner.Rest.{selected_of}
use Rattle.s3_cycle.specs.Inner.Going.{IsTaken, IsHeadWithin}

-- the head of the file at this place is taken, and becomes the record being processed
pub record Takes (old new : Stepper) (place : ℕ) (selection : Selection) : Type 0 where
  pub same : new ≡ record old { progress = record old.progress { reading = new.progress.reading } }
  pub reading : IsReading old.program new.progress.reading
  pub heads : All (IsHeadWithin old.program) new.progress.reading.files.items
  pub is_taken : IsTaken old.program new.progress selection
  pub selected : selected_at old.program old.progress.reading.files.items place ≡ Some (selected_of old.program new.progress selection)
  pub rest : reading_in old.program new.progress.reading ≡ taken (reading_in old.program old.progress.reading) (selected_of old.program new.progress selection)
  pub matched : selection.is_matched ≡ is_matched (reading_in old.program old.progress.reading) (selected_of old.program new.progress selection)

-- steps 4 and 5: the record identifying indicator goes on, and control breaks are detected
abbrev pub identified : Selected → Environment → Environment
identified selected e = broken selected.head (turn selected.head.kind.indicator true e)
