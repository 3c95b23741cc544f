-- The state of each input file at the beginning of a job.
use Rattle.std.specs.Prelude.{ℕ, ◌≡◌, List, map, filter, take}
use Rattle.std.specs.List.{All, range_with_len}
use Rattle.s3_meaning.specs.Environment.{Environment}
use Rattle.s3_meaning.specs.Source.{is_input}
use Rattle.s3_meaning.specs.Cycle.{first_standing}
use Rattle.s3_program.specs.declared.program.Program.{Program}
use Rattle.s3_match.specs.declared.heads.InputFile.{InputFile}
use Rattle.s3_match.specs.Inner.Heads.{file_at, input_of, IsInput}
use Rattle.s3_match.specs.Inner.Selecting.{inputs_of}
use Rattle.s3_match.specs.Inner.Reading.{is_input_slot, slots_of}
use Rattle.s3_match.specs.Inner.BeginningEnvironment.{BeginsWith}

-- the file of a slot at the beginning of a job
pub record IsFirst (program : Program) (switches slot : ℕ) (input : InputFile) : Type 0 where
  pub stands_for : input.file ≡ slot
  pub sound : IsInput program input
  pub standing : (e : Environment) → BeginsWith switches e → input_of program input ≡ first_standing e (file_at program slot)

-- the files of the first so many slots
pub record AreFirst (program : Program) (switches count : ℕ) (files : List InputFile) : Type 0 where
  pub inputs : All (IsInput program) files
  pub slots : slots_of files ≡ filter (is_input_slot program) (range_with_len 0 count)
  pub standings : (e : Environment) → BeginsWith switches e → inputs_of program files ≡ map (first_standing e) (filter is_input (take count program.files.items))
