-- The unread lists that the heads represent, and tests of heads as the code keeps them.
use Rattle.std.specs.Prelude.{ℕ, Bool, true, ◌&&◌, List, Option, map, slice_get, if◌then◌else◌}
use Rattle.std.specs.Option.{option_and_then}
use Rattle.s3_lines.specs.declared.sheet.Designation.TheVariants.{Secondary}
use Rattle.s3_meaning.specs.Source.{is_designated}
use Rattle.s3_meaning.specs.Selection as meaning
use Rattle.s3_meaning.specs.Selection.{Reading, Selected, selectable, same_key}
use Rattle.s3_program.specs.declared.program.Program.{Program}
use Rattle.s3_match.specs.declared.heads.InputFile.{InputFile}
use Rattle.s3_match.specs.declared.keys.RecordKey.{RecordKey}
use Rattle.s3_match.specs.Inner.Keys.{key_in}
use Rattle.s3_match.specs.Inner.Heads.{file_at, has_head, input_of}

abbrev pub inputs_of : Program → List InputFile → List meaning.InputFile
inputs_of program files = map (input_of program) files

abbrev pub reading_of : Program → List InputFile → RecordKey → Reading
reading_of program files primary_key = record { files = inputs_of program files; primary_key = key_in primary_key }

-- the head of a file, in the form in which it can be selected
abbrev pub selected_of : Program → InputFile → Option Selected
selected_of program input = selectable (input_of program input)

abbrev pub selected_at : Program → List InputFile → ℕ → Option Selected
selected_at program files place = option_and_then (selected_of program) (slice_get files place)

abbrev pub has_key : RecordKey → InputFile → Bool
has_key key input = has_head input && same_key (key_in input.key) (key_in key)

abbrev pub is_secondary_with_key : Program → RecordKey → InputFile → Bool
is_secondary_with_key program key input = is_designated Secondary (file_at program input.file) && has_key key input

abbrev pub delays_end : Program → Bool → InputFile → Bool
delays_end program some_end input = has_head input && (if some_end then (file_at program input.file).ends_job else true)
