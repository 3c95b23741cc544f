-- The added entries in memory, in the terms of the definitions.
use Rattle.std.specs.Prelude.{ℕ, ◌+◌, ◌*◌, ◌^◌, List, map}
use Rattle.s3_keyed.specs.declared.added.AddedEntries.{AddedEntries}
use Rattle.s3_keyed.specs.declared.keys.KeyNumber.{KeyNumber}
use Rattle.s3_keyed.specs.KeyOrder.{Entry}

-- the number that is kept in two halves
abbrev pub whole_number : KeyNumber → ℕ
whole_number n = n.high * 256 ^ 16 + n.low

-- the entry of a key's number and its record's number
abbrev pub entry_under : KeyNumber × ℕ → Entry
entry_under pair = record { key = whole_number pair.0; number = pair.1 }

-- the entries, in the order in which they are kept
abbrev pub entries_of : AddedEntries → List Entry
entries_of added = map entry_under added.numbers.entries
