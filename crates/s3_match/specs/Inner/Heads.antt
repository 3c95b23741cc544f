-- The heads of the primary and secondary files as the code keeps them, and the unread lists that they represent.
use Rattle.std.specs.Prelude.{ℕ, ◌≡◌, Bool, true, false, List, None, slice_get, unwrap_or}
use Rattle.std.specs.Option.{option_or}
use Rattle.s3_cards.specs.Names.{no_name}
use Rattle.s3_lines.specs.declared.sheet.Device.TheVariants.{Disk}
use Rattle.s3_lines.specs.declared.sheet.FileUse.TheVariants.{Input as InputUse}
use Rattle.s3_lines.specs.declared.sheet.FileLine.{FileLine}
use Rattle.s3_meaning.specs.Selection as meaning
use Rattle.s3_meaning.specs.Selection.{match_key}
use Rattle.s3_program.specs.declared.program.Program.{Program}
use Rattle.s3_program.specs.declared.starts.TypeStart.{TypeStart}
use Rattle.s3_match.specs.declared.heads.InputFile.{InputFile}
use Rattle.s3_match.specs.declared.heads.Standing.{Standing}
use Rattle.s3_match.specs.declared.heads.Standing.TheVariants as at
use Rattle.s3_match.specs.Inner.Types.{is_type_start, kind_at}
use Rattle.s3_match.specs.Inner.Keys.{key_in}

-- the file line for a slot without a file
abbrev pub no_file : FileLine
no_file = record {
  name = no_name;
  usage = InputUse;
  designation = None;
  ends_job = false;
  record_length = 0;
  is_random = false;
  is_keyed = false;
  is_indexed = false;
  key = None;
  overflow = None;
  device = Disk;
  has_additions = false;
  condition = None;
}

abbrev pub file_at : Program → ℕ → FileLine
file_at program file = unwrap_or (slice_get program.files.items file) no_file

abbrev pub is_unread_standing : Standing → Bool
is_unread_standing at.Unread = true
is_unread_standing (at.Stands start) = false
is_unread_standing at.Ended = false

abbrev pub is_unread : InputFile → Bool
is_unread input = is_unread_standing input.standing

abbrev pub is_head_standing : Standing → Bool
is_head_standing at.Unread = false
is_head_standing (at.Stands start) = true
is_head_standing at.Ended = false

abbrev pub has_head : InputFile → Bool
has_head input = is_head_standing input.standing

-- the record at the head; its number is the number of records read
abbrev pub standing_as : Program → (reads : ℕ) → (bytes : List ℕ) → Standing → meaning.Standing
standing_as program reads bytes at.Unread = meaning.Unread
standing_as program reads bytes (at.Stands start) = meaning.Stands (record { number = reads; bytes = bytes; kind = kind_at program start })
standing_as program reads bytes at.Ended = meaning.Ended

abbrev pub input_of : Program → InputFile → meaning.InputFile
input_of program input = record {
  file = file_at program input.file;
  standing = standing_as program input.reads input.bytes input.standing;
  reads = input.reads;
  last_key = key_in input.last_key;
}

-- the key is kept with each head
pub record IsHead (program : Program) (input : InputFile) (start : TypeStart) : Type 0 where
  pub starts : is_type_start program start ≡ true
  pub key : key_in input.key ≡ match_key (kind_at program start) input.bytes

pub record IsInput (program : Program) (input : InputFile) : Type 0 where
  pub head : (start : TypeStart) → input.standing ≡ at.Stands start → IsHead program input start

-- ---- changes of the represented file
abbrev pub unread : Program → ℕ → meaning.InputFile
unread program file = record { file = file_at program file; standing = meaning.Unread; reads = 0; last_key = None }

abbrev pub ended : meaning.InputFile → meaning.InputFile
ended input = record input { standing = meaning.Ended }

abbrev pub vacated : meaning.InputFile → meaning.InputFile
vacated input = record input { standing = meaning.Unread }

-- a record becomes the head
abbrev pub put : Program → TypeStart → List ℕ → meaning.InputFile → meaning.InputFile
put program start bytes input =
    record input {
      standing = meaning.Stands (record { number = input.reads; bytes = bytes; kind = kind_at program start });
      last_key = option_or (match_key (kind_at program start) bytes) input.last_key;
    }

-- the bytes change, and the other fields are unchanged
pub record Keeps (old new : InputFile) (bytes : List ℕ) : Type 0 where
  pub contents : new.bytes ≡ bytes
  pub file : new.file ≡ old.file
  pub stands : new.standing ≡ old.standing
  pub reads : new.reads ≡ old.reads
  pub key : key_in new.key ≡ key_in old.key
  pub given : new.key.is_given ≡ old.key.is_given
  pub last_key : key_in new.last_key ≡ key_in old.last_key
