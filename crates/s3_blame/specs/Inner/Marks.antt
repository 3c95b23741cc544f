-- Entries that are marked, beside those of the table.
use Rattle.std.specs.Prelude.{ℕ, ◌==◌, Bool, ◌&&◌, List}
use Rattle.std.specs.List.{list_all, list_any}
use Rattle.s3_lines.specs.declared.sheet.Line.{Line}
use Rattle.s3_sheets.specs.declared.parts.FaultyEntry.{FaultyEntry}
use Rattle.s3_blame.specs.declared.parts.Part.{Part}
use Rattle.s3_blame.specs.Inner.Changes.{Entry}
use Rattle.s3_blame.specs.Inner.Entries.{entries_on}

-- an entry that a condition speaks of, by its columns
abbrev pub span : Part → Entry
span part = (part.from, part.to)

abbrev pub fails : Part → Bool
fails part = part.is_at_fault

abbrev pub entry_of : (card number : ℕ) → Part → FaultyEntry
entry_of card number part = record { card = card; number = number; from = part.from; to = part.to }

abbrev pub has_columns : FaultyEntry → Entry → Bool
has_columns entry (from, to) = entry.from == from && entry.to == to

-- an entry is one of these, and marked for this number of this card
abbrev pub is_of : (card number : ℕ) → List Entry → FaultyEntry → Bool
is_of card number entries entry = entry.card == card && (entry.number == number && list_any (has_columns entry) entries)

abbrev pub are_of : (card number : ℕ) → List Entry → List FaultyEntry → Bool
are_of card number entries marked = list_all (is_of card number entries) marked

-- an entry is one of the table's for its number on this line
abbrev pub is_listed_on : FaultyEntry → Line → Bool
is_listed_on entry line = is_of line.card entry.number (entries_on line.sheet entry.number) entry
