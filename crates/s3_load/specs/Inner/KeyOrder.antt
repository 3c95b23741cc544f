-- Rows in the order of their keys, character by character.
use Rattle.std.specs.Prelude.{◌≡◌, ℕ, Bool, ◌+◌, ◌-◌, ⊤, Option, Some, None, List, [], length, nat_le, if◌then◌else◌}
use Rattle.std.specs.Cmp.Lexicographic.{slice_cmp}
use Rattle.std.specs.List.{AllPairs}
use Rattle.std.specs.List.Sorted.{IsSortedBy}
use Rattle.std.specs.Ordering.{is_lt, nat_cmp}
use Rattle.std.specs.declared.cmp.Ordering.TheVariants.{Less}
use Rattle.s3_store.specs.Bytes.{part}
use Rattle.s3_lines.specs.declared.sheet.KeyField.{KeyField}
use Rattle.s3_load.specs.declared.rows.Row.{Row}

-- the bytes of the key of a record; none if the record is too short for the key
abbrev pub key_in : KeyField → List ℕ → List ℕ
key_in key bytes = if nat_le (key.start - 1 + key.length) (length bytes) then part bytes (key.start - 1) key.length else []

-- at the first different character of two keys, the first row's character is the less
abbrev pub ComesBefore : KeyField → Row → Row → Type 0
ComesBefore key one other = slice_cmp nat_cmp (key_in key one.bytes.items) (key_in key other.bytes.items) ≡ Less

-- .. as a test
abbrev pub comes_before : KeyField → Row → Row → Bool
comes_before key one other = is_lt (slice_cmp nat_cmp (key_in key one.bytes.items) (key_in key other.bytes.items))

-- no row comes before an earlier one
abbrev pub AreSorted : KeyField → List Row → Type 0
AreSorted key rows = IsSortedBy (comes_before key) rows

-- in a file with a key, each row comes before all later ones, so no two rows have the same key
abbrev pub AreInKeyOrder : Option KeyField → List Row → Type 0
AreInKeyOrder None rows = ⊤
AreInKeyOrder (Some key) rows = AllPairs (ComesBefore key) rows
