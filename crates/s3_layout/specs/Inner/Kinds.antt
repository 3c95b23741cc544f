-- The types of a file's records, with their record identification codes.
use Rattle.std.specs.Prelude.{◌≡◌, List, [], ◌∷◌, ◌++◌, map, filter, Option, Some, None, if◌then◌else◌}
use Rattle.s3_cards.specs.Names.{same_name}
use Rattle.s3_cards.specs.declared.name.Name.{Name}
use Rattle.s3_lines.specs.declared.indicator.Indicator.{Indicator}
use Rattle.s3_lines.specs.declared.sheet.InputLine.{InputLine}
use Rattle.s3_lines.specs.declared.sheet.InputLine.TheVariants.{Record, And, Or}
use Rattle.s3_lines.specs.declared.sheet.RecordCode.{RecordCode}
use Rattle.s3_meaning.specs.Names.{entries}
use Rattle.s3_meaning.specs.RecordTypes.{RecordType, further_codes}
use Rattle.s3_record_types.specs.declared.chosen.ChosenRecords.{ChosenRecords}
use Rattle.s3_record_types.specs.declared.chosen.ChosenRecords.TheVariants.{All, OfType}
use Rattle.s3_record_types.specs.declared.kind.RecordKind.{RecordKind}

-- the indicator of a type, and its codes
abbrev pub coded : RecordKind → Indicator × List RecordCode
coded kind = (kind.indicator, kind.codes.items)

abbrev pub coded_type : RecordType → Indicator × List RecordCode
coded_type kind = (kind.indicator, kind.codes)

-- of the types of a source those of a file
abbrev pub kinds_in : Name → List RecordType → List (Indicator × List RecordCode)
kinds_in file types = map coded_type (filter (λ (kind : RecordType). same_name kind.file file) types)

-- the records of the type that is named, among these types; all of them where none is
abbrev pub AreChosen : Option Indicator → List (Indicator × List RecordCode) → ChosenRecords → Type 0
AreChosen None kinds All = Unit {0}
AreChosen None kinds (OfType indicator found) = ⊥
AreChosen (Some named) kinds All = ⊥
AreChosen (Some named) kinds (OfType indicator found) = (indicator ≡ named) × (map coded found.items ≡ kinds)

-- ---- line by line
-- the file of a line, below lines of another one
abbrev pub file_at : Name → InputLine Name → Name
file_at current (Record next indicator codes) = next
file_at current _ = current

-- the type that begins on a line of the current file, above further lines, if it is of the file that is meant
abbrev pub begun : (file current : Name) → InputLine Name → List (InputLine Name) → List (Indicator × List RecordCode)
begun file current line lines = if same_name current file then on line else []
  where
    on : InputLine Name → List (Indicator × List RecordCode)
    on (Record next indicator codes) = (indicator, entries codes ++ further_codes lines) ∷ []
    on (Or indicator codes) = (indicator, entries codes ++ further_codes lines) ∷ []
    on _ = []

-- the entries of an AND line
abbrev pub further : InputLine Name → Option (List (Option RecordCode))
further (And codes) = Some codes
further _ = None
