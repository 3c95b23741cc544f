-- A level's files, F lines and FILE statements for worked examples. Records have 10 bytes, and the first one is the key.
use Rattle.std.specs.Prelude.{ℕ, Bool, true, false, not, List, [], ◌∷◌, ◌++◌, map, replicate, Option, Some, None, Result, Ok, Err}
use Rattle.s3_cards.specs.declared.name.Name.{Name}
use Rattle.s3_cards.specs.declared.retention.Retention.{Retention}
use Rattle.s3_cards.specs.declared.retention.Retention.TheVariants.{Temporary, Permanent}
use Rattle.s3_cards.specs.Names.{same_name}
use Rattle.s3_lines.specs.declared.indicator.Indicator.TheVariants.{Switch}
use Rattle.s3_lines.specs.declared.sheet.FileUse.{FileUse}
use Rattle.s3_lines.specs.declared.sheet.Designation.TheVariants.{Chained}
use Rattle.s3_lines.specs.declared.sheet.Device.TheVariants.{Disk}
use Rattle.s3_lines.specs.declared.sheet.FileLine.{FileLine}
use Rattle.s3_ocl.specs.declared.contents.FileSize.TheVariants.{Records}
use Rattle.s3_ocl.specs.declared.contents.FileStatement.{FileStatement}
use Rattle.s3_operator.specs.declared.halt_code.HaltCode.{HaltCode}
use Rattle.s3_slots.specs.Inner.Samples.{named, june, ten}
use Rattle.s3_slots.specs.declared.label.FileLabel.{FileLabel}
use Rattle.s3_slots.specs.declared.label.Organization.TheVariants.{Sequential, Indexed}
use Rattle.s3_slots.specs.declared.slot.Slot.{Slot}
use Rattle.s3_slots.specs.declared.slot.Slot.TheVariants.{Free, Damaged, Sound}
use Rattle.s3_keyed.specs.Inner.Samples.{b_and_a}
use Rattle.s3_job_files.specs.Files.{Files, FilesInUse}
use Rattle.s3_opening.specs.Opening.{Settings, opened}

-- ---- labels
-- a sequential file of one letter, in a track of level 1
abbrev pub in_order : (letter track : ℕ) → Retention → FileLabel
in_order letter start retention = record {
  name = named letter;
  organization = Sequential;
  retention = retention;
  record_length = 10;
  key_length = 0;
  key_start = 0;
  extents = record { start = start; sectors = 24 } ∷ [];
  capacity = 10;
  count = 2;
  date = june;
}

abbrev pub by_key : (letter start : ℕ) → FileLabel
by_key letter start = record (in_order letter start Temporary) { organization = Indexed; key_length = 1; key_start = 1 }

-- ---- the files of level 1
-- D is sequential, I and X are indexed, P is permanent, and the slots of B and M are damaged
abbrev pub own_slots : List Slot
own_slots =
    Sound (in_order 0xc4 408 Temporary) ∷ Sound (by_key 0xc9 432) ∷ Sound (by_key 0xe7 456) ∷ Sound (in_order 0xd7 480 Permanent)
    ∷ Damaged (Some (named 0xc2)) ∷ Damaged (Some (named 0xd4)) ∷ []

-- M is sequential, N is indexed, and the slot of L is damaged
abbrev pub master_slots : List Slot
master_slots = Sound (in_order 0xd4 168 Temporary) ∷ Sound (by_key 0xd5 192) ∷ Damaged (Some (named 0xd3)) ∷ []

-- the indexes of X and N are bad; so many of the level's slots are free
abbrev pub with_free : (free : ℕ) → Files
with_free free = record {
  format = ten.format;
  own = record {
    region = ten.level_one;
    slots = own_slots ++ replicate free Free;
    kept = λ name. record { records = b_and_a; has_good_index = not (same_name name (named 0xe7)) };
  };
  masters = record {
    region = ten.masters;
    slots = master_slots;
    kept = λ name. record { records = b_and_a; has_good_index = not (same_name name (named 0xd5)) };
  };
}

-- ---- F lines and FILE statements
-- a line for a file on the pack with sequential records of 10 bytes
abbrev pub line : (letter : ℕ) → FileUse → FileLine
line letter usage = record {
  name = named letter;
  usage = usage;
  designation = None;
  ends_job = false;
  record_length = 10;
  is_random = false;
  is_keyed = false;
  is_indexed = false;
  key = None;
  overflow = None;
  device = Disk;
  has_additions = false;
  condition = None;
}

-- the same line with a key of one byte at this position
abbrev pub keyed : (start : ℕ) → FileLine → FileLine
keyed start line = record line { is_keyed = true; is_indexed = true; key = Some (record { length = 1; start = start }) }

abbrev pub longer : FileLine → FileLine
longer line = record line { record_length = 11 }

abbrev pub with_additions : FileLine → FileLine
with_additions line = record line { has_additions = true }

-- the same line with switch 8 as its condition
abbrev pub under_switch : FileLine → FileLine
under_switch line = record line { condition = Some (Switch 8) }

abbrev pub direct : FileLine → FileLine
direct line = record line { designation = Some Chained; is_random = true }

-- the statement gives the file of one letter the label of another one; a new file has space for three records
abbrev pub labelled : (letter label : ℕ) → FileStatement
labelled letter label = record { name = named letter; label = named label; size = Records 3; retention = Temporary }

-- each of these files has its own letter as its label
abbrev pub alike : List ℕ → List FileStatement
alike letters = map (λ letter. labelled letter letter) letters

abbrev pub everyone : List FileStatement
everyone = alike (0xc2 ∷ 0xc4 ∷ 0xc5 ∷ 0xc6 ∷ 0xc9 ∷ 0xd3 ∷ 0xd4 ∷ 0xd5 ∷ 0xd7 ∷ 0xe7 ∷ [])

abbrev pub settings : (switches : ℕ) → List FileStatement → Settings
settings switches statements = record { statements = statements; switches = switches; date = june }

-- ---- the results
abbrev pub halt_of : Result FilesInUse HaltCode → Option HaltCode
halt_of (Ok in_use) = None
halt_of (Err code) = Some code

-- the halt of a job with these lines, if each file has its own letter as its label and so many slots are free
abbrev pub halt_with : (free : ℕ) → List FileLine → Option HaltCode
halt_with free lines = halt_of (opened (settings 0 everyone) lines (with_free free))

-- the halt of a job with these statements, or with these switches
abbrev pub halt_by : List FileStatement → List FileLine → Option HaltCode
halt_by statements lines = halt_of (opened (settings 0 statements) lines (with_free 1))

abbrev pub halt_under : (switches : ℕ) → List FileLine → Option HaltCode
halt_under switches lines = halt_of (opened (settings switches everyone) lines (with_free 1))

abbrev pub files_of : Result FilesInUse HaltCode → List (Name × (Bool × Bool))
files_of (Ok in_use) = map (λ file. (file.label, (file.is_master, file.is_made))) in_use.job_files
files_of (Err code) = []

-- for each file in use its label, whether it is a master's, and whether the job made it
abbrev pub used : List FileLine → List (Name × (Bool × Bool))
used lines = files_of (opened (settings 0 everyone) lines (with_free 1))

abbrev pub records_in : Name → Result FilesInUse HaltCode → List (List ℕ)
records_in name (Ok in_use) = (in_use.files.own.kept name).records
records_in name (Err code) = []

-- the records of a label of the level after the start
abbrev pub records_under : ℕ → List FileLine → List (List ℕ)
records_under letter lines = records_in (named letter) (opened (settings 0 everyone) lines (with_free 1))
