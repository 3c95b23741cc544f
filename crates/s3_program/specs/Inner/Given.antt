-- The definitions of a source's lines: each name has its first definition.
use Rattle.std.specs.Prelude.{List, [], ◌∷◌, ◌++◌, Option, is_some, filter_map, option_map, if◌then◌else◌}
use Rattle.std.specs.Map.{lookup}
use Rattle.s3_cards.specs.declared.name.Name.{Name}
use Rattle.s3_cards.specs.Names.{same_name}
use Rattle.s3_lines.specs.declared.sheet.FileLine.{FileLine}
use Rattle.s3_lines.specs.declared.sheet.Line.{Line}
use Rattle.s3_meaning.specs.Source.{file_line}
use Rattle.s3_program.specs.FileEntries.{file_entry}

-- ---- tables
-- appends an entry, if its name is new
abbrev pub noted : {X : Type 0} → List (Name × X) → Name × X → List (Name × X)
noted table entry = if is_some (lookup (same_name entry.0) table) then table else table ++ entry ∷ []

unfoldable pub all_noted : {X : Type 0} → List (Name × X) → List (Name × X) → List (Name × X)
all_noted table [] = table
all_noted table (entry ∷ entries) = all_noted (noted table entry) entries

-- the first entry of each name, in order
abbrev pub firsts : {X : Type 0} → List (Name × X) → List (Name × X)
firsts entries = all_noted [] entries

-- ---- the definitions of a line
abbrev pub file_given : Line → Option (Name × FileLine)
file_given line = option_map file_entry (file_line line)

-- ---- the definitions of all lines
abbrev pub files_given : List Line → List (Name × FileLine)
files_given lines = filter_map file_given lines
