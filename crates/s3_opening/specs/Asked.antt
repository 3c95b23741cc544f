-- What an F line asks for: whether its file is used, made or opened, and what a new file is like.
use Rattle.std.specs.Prelude.{ℕ, ◌==◌, Bool, true, not, ◌&&◌, List, Option, Some, None, is_some, if◌then◌else◌}
use Rattle.s3_lines.specs.Files.{is_output_use, is_chained, is_disk}
use Rattle.s3_lines.specs.declared.indicator.Indicator.{Indicator}
use Rattle.s3_lines.specs.declared.indicator.Indicator.TheVariants.{Switch}
use Rattle.s3_lines.specs.declared.sheet.KeyField.{KeyField}
use Rattle.s3_lines.specs.declared.sheet.FileLine.{FileLine}
use Rattle.s3_meaning.specs.Environment.{switch_on}
use Rattle.s3_ocl.specs.declared.contents.FileSize.{FileSize}
use Rattle.s3_ocl.specs.declared.contents.FileSize.TheVariants as Stated
use Rattle.s3_ocl.specs.declared.contents.FileStatement.{FileStatement}
use Rattle.s3_slots.specs.Labels.{is_indexed}
use Rattle.s3_slots.specs.declared.label.FileLabel.{FileLabel}
use Rattle.s3_slots.specs.declared.label.Organization.{Organization}
use Rattle.s3_slots.specs.declared.label.Organization.TheVariants.{Sequential, Indexed, Direct}
use Rattle.s3_slots.specs.declared.making.NewFile.{NewFile}
use Rattle.s3_slots.specs.declared.making.Size.{Size}
use Rattle.s3_slots.specs.declared.making.Size.TheVariants.{Records, Tracks}

-- the switch of the line's condition is on, or the line has no condition
abbrev pub is_switched_on : ℕ → Option Indicator → Bool
is_switched_on switches (Some (Switch n)) = switch_on switches n
is_switched_on switches _ = true

-- the line is for a file on the pack, and the job uses it
abbrev pub is_used : ℕ → FileLine → Bool
is_used switches line = is_disk line.device && is_switched_on switches line.condition

-- an output file without additions is made; any other file is opened
abbrev pub is_new : FileLine → Bool
is_new line = is_output_use line.usage && not line.has_additions

abbrev pub key_length_of : Option KeyField → ℕ
key_length_of None = 0
key_length_of (Some key) = key.length

abbrev pub key_start_of : Option KeyField → ℕ
key_start_of None = 0
key_start_of (Some key) = key.start

-- the label agrees with the line; a file without a key is sequential or direct
unfoldable pub is_of_layout : FileLine → FileLabel → Bool
is_of_layout line label =
    (label.record_length == line.record_length)
    && (if is_some line.key then is_indexed label.organization else not (is_indexed label.organization))
    && (label.key_length == key_length_of line.key) && (label.key_start == key_start_of line.key)

-- ---- a new file
-- indexed if the line has a key, direct for a direct load, else sequential
abbrev pub organization_of : FileLine → Organization
organization_of line = if is_some line.key then Indexed else (if is_chained line.designation then Direct else Sequential)

abbrev pub size_of : FileSize → Size
size_of (Stated.Records n) = Records n
size_of (Stated.Tracks n) = Tracks n

-- the file that a line and its statement ask for; its date is the job's
unfoldable pub new_file : List ℕ → FileLine → FileStatement → NewFile
new_file date line statement =
    record {
      name = statement.label;
      organization = organization_of line;
      retention = statement.retention;
      record_length = line.record_length;
      key_length = key_length_of line.key;
      key_start = key_start_of line.key;
      size = size_of statement.size;
      date = date;
    }
