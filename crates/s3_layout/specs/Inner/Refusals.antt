-- Why a source is no layout. The first reason of these counts: the first diagnostic of its cards, its file, the type of records, the first
-- line of a field that is refused, and that the records have no field.
use Rattle.std.specs.Prelude.{◌≡◌, ◌+◌, ◌-◌, ◌++◌, ◌&&◌, ℕ, Bool, false, List, [], ◌∷◌, Option, Some, None, Result, Ok, Err, if◌then◌else◌, nat_le}
use Rattle.std.specs.List.{list_any}
use Rattle.std.specs.Option.{option_or}
use Rattle.s3_cards.specs.Names.{same_name}
use Rattle.s3_cards.specs.declared.name.Name.{Name}
use Rattle.s3_cells.specs.Inner.Values.{is_kind_of}
use Rattle.s3_cells.specs.declared.kind.FieldKind.{FieldKind}
use Rattle.s3_lines.specs.declared.diagnostic.Diagnostic.{Diagnostic}
use Rattle.s3_lines.specs.declared.indicator.Indicator.{Indicator}
use Rattle.s3_lines.specs.declared.sheet.FieldLine.{FieldLine}
use Rattle.s3_lines.specs.declared.sheet.Line.{Line}
use Rattle.s3_sheets.specs.Lines.{lines_of}
use Rattle.s3_sheets.specs.Sheets.{sheet_diagnostics}
use Rattle.s3_layout.specs.Inner.Columns.{kind_of}
use Rattle.s3_layout.specs.Inner.Entries.{chosen_type, entries_from, first, has_named, types_from}
use Rattle.s3_layout.specs.Inner.Files.{chosen_file}
use Rattle.s3_layout.specs.declared.choosing.Choice.{Choice}
use Rattle.s3_layout.specs.declared.fault.LayoutFault.{LayoutFault}
use Rattle.s3_layout.specs.declared.fault.LayoutFault.TheVariants.{NoMemory, Card, NoFields, NoForm, OtherType, Twice}

-- an answer is a refusal for just this reason, and none without a reason, unless memory ran out
abbrev pub Refuses : {X : Type 0} → Option LayoutFault → Result X LayoutFault → Type 0
Refuses reason (Ok found) = reason ≡ None
Refuses reason (Err NoMemory) = Unit {0}
Refuses reason (Err fault) = reason ≡ Some fault

-- ---- cards
-- the first of the diagnostics of single cards
abbrev pub card_refusal : List Diagnostic → Option LayoutFault
card_refusal [] = None
card_refusal (diagnostic ∷ more) = Some (Card diagnostic.card diagnostic.number)

-- ---- fields
-- a field has a form that a program can read: it is within the record, and its length and its decimals suit its kind
abbrev pub has_form : (record_length : ℕ) → FieldLine Name → Bool
has_form record_length entry =
    nat_le 1 entry.from && nat_le entry.from entry.to && nat_le entry.to record_length && suits (kind_of entry.form)
  where
    suits : Option FieldKind → Bool
    suits None = false
    suits (Some kind) = is_kind_of kind (entry.to + 1 - entry.from)

abbrev pub form_refusal : (record_length : ℕ) → FieldLine Name → Option LayoutFault
form_refusal record_length entry = if has_form record_length entry then None else Some (NoForm entry.name)

-- one of the fields above has the name
abbrev pub name_refusal : (above : List Name) → Name → Option LayoutFault
name_refusal above name = if list_any (same_name name) above then Some (Twice name) else None

-- the first line that is refused, below fields of these names
abbrev pub entries_refusal : (record_length : ℕ) → (above : List Name) → List (FieldLine Name) → Option LayoutFault
entries_refusal record_length above [] = None
entries_refusal record_length above (entry ∷ entries) =
    option_or (option_or (form_refusal record_length entry) (name_refusal above entry.name))
    (entries_refusal record_length (above ++ entry.name ∷ []) entries)

-- the fields of records: there is one at least
abbrev pub fields_refusal : (record_length : ℕ) → List (FieldLine Name) → Option LayoutFault
fields_refusal record_length [] = Some NoFields
fields_refusal record_length (entry ∷ entries) = entries_refusal record_length [] (entry ∷ entries)

-- ---- lines
-- a step is refused, or what follows it
abbrev pub refused_or : {X : Type 0} → Result X LayoutFault → (X → Option LayoutFault) → Option LayoutFault
refused_or (Err fault) reason = Some fault
refused_or (Ok found) reason = reason found

abbrev pub layout_refusal : Choice → List Line → Option LayoutFault
layout_refusal choice lines =
    refused_or (chosen_file choice.file lines)
    (λ file. refused_or (chosen_type choice.record_type (types_from file.name first lines))
    (λ record_type. fields_refusal file.record_length (entries_from file.name record_type first lines)))

-- whole records need no field
abbrev pub type_refusal : Option Indicator → List Indicator → Option LayoutFault
type_refusal record_type types = if has_named record_type types then None else Some OtherType

abbrev pub whole_refusal : Choice → List Line → Option LayoutFault
whole_refusal choice lines =
    refused_or (chosen_file choice.file lines)
    (λ file. type_refusal choice.record_type (types_from file.name first lines))

abbrev pub types_refusal : Option Name → List Line → Option LayoutFault
types_refusal name lines = refused_or (chosen_file name lines) (λ file. None)

-- ---- sources
-- the cards are refused, or their lines
abbrev pub of_cards : (from : ℕ) → List (List ℕ) → (List Line → Option LayoutFault) → Option LayoutFault
of_cards from cards reason = option_or (card_refusal (sheet_diagnostics from cards)) (reason (lines_of from cards))
