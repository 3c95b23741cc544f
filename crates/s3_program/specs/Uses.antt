-- Diagnostic 12: a file use outside the table of files, a second card file or print file, or a record line for an output file. A direct
-- load may have record lines. It also covers output lines, packed data, spaces and skips that the file can't have.
use Rattle.std.specs.Prelude.{Bool, true, false, not, ◌&&◌, ◌||◌, Option, Some, None}
use Rattle.std.specs.Option.{option_or}
use Rattle.s3_lines.specs.declared.sheet.FileLine.{FileLine}
use Rattle.s3_lines.specs.declared.sheet.FieldForm.{FieldForm}
use Rattle.s3_lines.specs.declared.sheet.FieldForm.TheVariants.{Packed, PackedText}
use Rattle.s3_lines.specs.declared.sheet.InputLine.{InputLine}
use Rattle.s3_lines.specs.declared.sheet.InputLine.TheVariants.{Record, Field as FieldOfRecord}
use Rattle.s3_lines.specs.declared.sheet.OutputForm.{OutputForm}
use Rattle.s3_lines.specs.declared.sheet.OutputForm.TheVariants.{Packed as PackedForm}
use Rattle.s3_lines.specs.declared.sheet.OutputCard.{OutputCard}
use Rattle.s3_lines.specs.declared.sheet.OutputContent.{OutputContent}
use Rattle.s3_lines.specs.declared.sheet.OutputContent.TheVariants.{Constant as ConstantContent, Field as FieldContent}
use Rattle.s3_lines.specs.declared.sheet.OutputLine.{OutputLine}
use Rattle.s3_lines.specs.declared.sheet.OutputLine.TheVariants.{Line as LineCard, Field as FieldCard}
use Rattle.s3_lines.specs.Files.{is_disk, is_printer}
use Rattle.s3_program.specs.declared.program.Meaning.{Meaning}
use Rattle.s3_program.specs.declared.program.Meaning.TheVariants as a
use Rattle.s3_program.specs.declared.standing.FileStanding.{FileStanding}
use Rattle.s3_program.specs.declared.standing.InputStanding.{InputStanding}
use Rattle.s3_program.specs.declared.standing.OutputStanding.{OutputStanding}
use Rattle.s3_program.specs.FileTable.{is_in_table, is_card_file, is_print_file, allows_records, allows_output, has_spacing}

abbrev pub file_misused : FileStanding → FileLine → Bool
file_misused at file =
    not (is_in_table file) || (is_card_file file && at.has_card_file) || (is_print_file file && at.has_print_file)

-- lines of an undefined file aren't checked
abbrev pub is_off_disk : Meaning → Bool
is_off_disk (a.File file) = not (is_disk file.device)
is_off_disk _ = false

abbrev pub refuses_records : Meaning → Bool
refuses_records (a.File file) = not (allows_records file)
refuses_records _ = false

abbrev pub is_packed : FieldForm → Bool
is_packed (Packed decimals) = true
is_packed PackedText = true
is_packed _ = false

abbrev pub input_misused : InputStanding → InputLine Meaning → Bool
input_misused at (Record file indicator codes) = refuses_records file
input_misused at (FieldOfRecord field) = is_packed field.form && is_off_disk at.file
input_misused at _ = false

abbrev pub file_refuses : OutputCard Meaning → Meaning → Bool
file_refuses card (a.File file) =
    not (allows_output file card.is_addition) || (has_spacing card.spacing && not (is_printer file.device))
file_refuses card _ = false

abbrev pub refuses_line : OutputCard Meaning → Option Meaning → Bool
refuses_line card None = false
refuses_line card (Some meaning) = file_refuses card meaning

abbrev pub is_packed_form : OutputForm → Bool
is_packed_form PackedForm = true
is_packed_form _ = false

abbrev pub is_packed_content : OutputContent Meaning → Bool
is_packed_content (ConstantContent constant) = false
is_packed_content (FieldContent field) = is_packed_form field.form

abbrev pub is_entry_off_disk : Option Meaning → Bool
is_entry_off_disk None = false
is_entry_off_disk (Some meaning) = is_off_disk meaning

abbrev pub output_misused : OutputStanding → OutputLine Meaning → Bool
output_misused at (LineCard card) = refuses_line card (option_or card.file at.file)
output_misused at (FieldCard field) = is_packed_content field.content && is_entry_off_disk at.file
output_misused at _ = false
