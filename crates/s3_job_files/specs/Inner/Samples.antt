-- Files of the worked examples: records of 10 bytes; if the file is indexed, the first byte is the key.
use Rattle.std.specs.Prelude.{ℕ, Bool, true, false, List, [], ◌∷◌, ◌++◌, replicate, Option, Some, None}
use Rattle.s3_cards.specs.declared.name.Name.{Name}
use Rattle.s3_cards.specs.Names.{same_name}
use Rattle.s3_cards.specs.declared.retention.Retention.{Retention}
use Rattle.s3_cards.specs.declared.retention.Retention.TheVariants.{Temporary, Scratch}
use Rattle.s3_slots.specs.Inner.Samples.{june, named, ten}
use Rattle.s3_slots.specs.Slots.{standing}
use Rattle.s3_slots.specs.declared.label.FileLabel.{FileLabel}
use Rattle.s3_slots.specs.declared.label.Organization.TheVariants.{Indexed, Sequential}
use Rattle.s3_slots.specs.declared.slot.Slot.{Slot}
use Rattle.s3_slots.specs.declared.slot.Slot.TheVariants.{Free, Sound}
use Rattle.s3_slots.specs.declared.slot.Standing.{Standing}
use Rattle.s3_slots.specs.declared.slot.Standing.TheVariants.{Present}
use Rattle.s3_keyed.specs.Inner.Samples.{letter, b_and_a}
use Rattle.s3_meaning.specs.Requests.{Request, Answer}
use Rattle.s3_job_files.specs.Files.{Files, JobFile, FilesInUse}
use Rattle.s3_job_files.specs.Requests.{Served, served}
use Rattle.s3_job_files.specs.Closing.{files_closed}

-- ---- one file
-- an indexed file of B and A, with space for so many records
abbrev pub two_keys : (capacity : ℕ) → FileLabel
two_keys capacity = record {
  name = named 0xc9;
  organization = Indexed;
  retention = Temporary;
  record_length = 10;
  key_length = 1;
  key_start = 1;
  extents = record { start = 408; sectors = 24 } ∷ [];
  capacity = capacity;
  count = 2;
  date = june;
}

-- the same records and C, which the job added
abbrev pub b_a_and_c : List (List ℕ)
b_a_and_c = b_and_a ++ letter 0xc3 ∷ []

-- the fifth byte becomes 1
abbrev pub fifth_byte : List (Option ℕ)
fifth_byte = replicate 4 None ++ Some 1 ∷ replicate 5 None

-- the key becomes Z
abbrev pub other_key : List (Option ℕ)
other_key = Some 0xe9 ∷ replicate 9 None

-- ---- the files of a level and its job
-- a sequential file that has had no record
abbrev pub empty_label : Name → Retention → FileLabel
empty_label name retention = record {
  name = name;
  organization = Sequential;
  retention = retention;
  record_length = 10;
  key_length = 0;
  key_start = 0;
  extents = record { start = 432; sectors = 24 } ∷ [];
  capacity = 2;
  count = 0;
  date = june;
}

-- The level has I, with B and A, and two files that its job made: T and the scratch file S. The masters have M, with B and A too.
abbrev pub level_files : Files
level_files = record {
  format = ten.format;
  own = record {
    region = ten.level_one;
    slots = Sound (two_keys 10) ∷ Sound (empty_label (named 0xe3) Temporary) ∷ Sound (empty_label (named 0xe2) Scratch) ∷ replicate 29 Free;
    kept = λ name. record { records = of_own (same_name name (named 0xc9)); has_good_index = true };
  };
  masters = record {
    region = ten.masters;
    slots = Sound (record (two_keys 10) { name = named 0xd4 }) ∷ replicate 31 Free;
    kept = λ name. record { records = b_and_a; has_good_index = true };
  };
}
  where
    of_own : Bool → List (List ℕ)
    of_own true = b_and_a
    of_own false = []

abbrev pub job_file : ℕ → (is_master is_made : Bool) → JobFile
job_file code is_master is_made =
    record { name = named code; label = named code; is_master = is_master; is_made = is_made; read = 0; chained = None }

abbrev pub in_use : FilesInUse
in_use = record {
  files = level_files;
  job_files = job_file 0xc9 false false ∷ job_file 0xe3 false true ∷ job_file 0xe2 false true ∷ job_file 0xd4 true false ∷ [];
}

-- ---- what requests make of the files
abbrev pub files_after : FilesInUse → Option Served → FilesInUse
files_after was None = was
files_after was (Some served) = served.in_use

-- the files after these requests
abbrev pub after : List Request → FilesInUse → FilesInUse
after [] in_use = in_use
after (request ∷ requests) in_use = after requests (files_after in_use (served request in_use))

abbrev pub answer_in : Option Served → Option Answer
answer_in None = None
answer_in (Some served) = Some served.answer

-- the answer to a request after these requests
abbrev pub answer_behind : List Request → Request → Option Answer
answer_behind requests request = answer_in (served request (after requests in_use))

-- the level's slots after these requests and the end of the job
abbrev pub slots_at_end : List Request → List Slot
slots_at_end requests = (files_closed (after requests in_use).job_files (after requests in_use).files).own.slots

abbrev pub count_in : Standing → Option ℕ
count_in (Present label) = Some label.count
count_in _ = None

-- how many records a file of the level has after these requests and the end of the job
abbrev pub count_at_end : ℕ → List Request → Option ℕ
count_at_end code requests = count_in (standing (named code) (slots_at_end requests))
