-- What a job has changed in its files.
use Rattle.std.specs.Prelude.{ℕ, ◌-◌, nat_lt, Bool, ◌||◌}
use Rattle.s3_job_files.specs.Inner.Holds.{count_of}
use Rattle.s3_job_files.specs.declared.file.OpenFile.{OpenFile}

-- how many records it has added to a file
abbrev pub added_to : OpenFile → ℕ
added_to file = count_of file.records - file.label.count

-- it has made the file, so that one that was under its label is gone; or records were added, or some were updated
abbrev pub is_changed : OpenFile → Bool
is_changed file = file.is_made || (nat_lt 0 (added_to file) || nat_lt 0 file.updates)
