-- A record that can become the head of a file.
use Rattle.std.specs.Prelude.{◌≤◌, ℕ, List, length}
use Rattle.s3_lines.specs.declared.sheet.FileLine.{FileLine}

-- the record is at least as long as the file's records, and at most 1,024 bytes
pub record IsRecordOf (file : FileLine) (bytes : List ℕ) : Type 0 where
  pub long : file.record_length ≤ length bytes
  pub short : length bytes ≤ 1024
