-- The columns that are marked for a diagnostic.
use Rattle.std.specs.Prelude.{◌==◌, Bool, ◌&&◌, List, map, filter}
use Rattle.s3_lines.specs.declared.diagnostic.Diagnostic.{Diagnostic}
use Rattle.s3_decks.specs.declared.ruled.Columns.{Columns}
use Rattle.s3_sheets.specs.declared.parts.FaultyEntry.{FaultyEntry}

abbrev pub is_of : Diagnostic → FaultyEntry → Bool
is_of diagnostic entry = entry.card == diagnostic.card && entry.number == diagnostic.number

abbrev pub span : FaultyEntry → Columns
span entry = record { from = entry.from; to = entry.to }

-- those of each entry that is at fault by it
abbrev pub columns_of : Diagnostic → List FaultyEntry → List Columns
columns_of diagnostic entries = map span (filter (is_of diagnostic) entries)
