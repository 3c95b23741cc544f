-- The output lines of a program, by the place of their first card.
use Rattle.std.specs.Prelude.{◌≡◌, ℕ, Option, Some, slice_get, option_map}
use Rattle.s3_lines.specs.declared.sheet.FileLine.{FileLine}
use Rattle.s3_meaning.specs.OutputLines.{Output}
use Rattle.s3_program.specs.declared.program.Program.{Program}
use Rattle.s3_program.specs.declared.starts.OutputStart.{OutputStart}
use Rattle.s3_program.specs.Inner.Starts.{output_starts}
use Rattle.s3_program.specs.Inner.Started.{output_at}
use Rattle.s3_operations.specs.Inner.Fits.{tables}

-- the line of the source that starts there
abbrev pub IsLineAt : Program → OutputStart → Output → Type 0
IsLineAt program start line = output_at (tables program) program.outputs.items start ≡ Some line

-- an output line of the program starts there
pub record IsStart (program : Program) (start : OutputStart) : Type 0 where
  pub number : ℕ
  pub there : slice_get (output_starts program.files.items program.outputs.items) number ≡ Some start

-- the file of a line
abbrev pub file_of : Program → OutputStart → Option FileLine
file_of program start = slice_get program.files.items start.file

-- the record length of a line's file, in bytes
abbrev pub length_of : Program → OutputStart → Option ℕ
length_of program start = option_map (λ file. file.record_length) (file_of program start)
