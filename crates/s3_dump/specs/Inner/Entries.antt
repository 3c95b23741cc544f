-- The entries of an index in memory, and what a line that fits says.
use Rattle.std.specs.Prelude.{ℕ, ◌+◌, ◌*◌, ◌≤◌, List, map}
use Rattle.std.specs.Borrow.{Bor}
use Rattle.std.specs.BTreeMap.{BTreeMap}
use Rattle.s3_dump.specs.Inner.Indexes.{records_bytes}
use Rattle.s3_dump.specs.declared.index.IndexLine.{IndexLine}

-- an entry, and entries in the order of a map
abbrev pub entry_seen : Bor (List ℕ) × ℕ → List ℕ × ℕ
entry_seen entry = (entry.0.now, entry.1)

abbrev pub seen : BTreeMap (Bor (List ℕ)) ℕ → List (List ℕ × ℕ)
seen entries = map entry_seen entries.entries

-- a line fits in so many bytes
pub record FitsIn (line : IndexLine) (long : ℕ) : Type 0 where
  pub start : 1 ≤ line.key_start
  pub inside : line.key_start + line.key_length ≤ line.record_length + 1
  pub within : line.count * line.record_length ≤ records_bytes line
  pub before : records_bytes line ≤ long
