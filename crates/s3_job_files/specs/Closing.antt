-- The end of a job: the counts of its files are set, and its scratch files are removed.
use Rattle.std.specs.Prelude.{ℕ, Bool, true, false, ◌&&◌, List, [], ◌∷◌, length, if◌then◌else◌}
use Rattle.s3_cards.specs.declared.retention.Retention.{Retention}
use Rattle.s3_cards.specs.declared.retention.Retention.TheVariants.{Scratch}
use Rattle.s3_slots.specs.Slots.{standing}
use Rattle.s3_slots.specs.Making.{counted, dropped}
use Rattle.s3_slots.specs.declared.slot.Slot.{Slot}
use Rattle.s3_slots.specs.declared.slot.Standing.{Standing}
use Rattle.s3_slots.specs.declared.slot.Standing.TheVariants.{Present}
use Rattle.s3_job_files.specs.Files.{Area, Files, JobFile}

abbrev pub is_kept_for_job : Retention → Bool
is_kept_for_job Scratch = true
is_kept_for_job _ = false

-- the slot has a scratch file
abbrev pub is_scratch : Standing → Bool
is_scratch (Present label) = is_kept_for_job label.retention
is_scratch _ = false

-- a scratch file that the job made is removed; the count of any other file is set
abbrev pub closed_slots : JobFile → (count : ℕ) → List Slot → List Slot
closed_slots file count slots = if file.is_made && is_scratch (standing file.label slots) then dropped file.label slots else counted file.label count slots

abbrev pub closed_in : JobFile → Area → Area
closed_in file area = record area { slots = closed_slots file (length (area.kept file.label).records) area.slots }

abbrev pub closed_by : (is_master : Bool) → JobFile → Files → Files
closed_by true file files = files
closed_by false file files = record files { own = closed_in file files.own }

abbrev pub file_closed : JobFile → Files → Files
file_closed file files = closed_by file.is_master file files

-- the files of a level after the files of its job are closed
unfoldable pub files_closed : List JobFile → Files → Files
files_closed [] files = files
files_closed (file ∷ more) files = files_closed more (file_closed file files)
