-- The columns of the entries of each kind of card, beside those that the sheets are read by, that tabs go to, and that diagnostics mark.
use Rattle.std.specs.Prelude.{ℕ, ◌==◌, ◌&&◌, ◌||◌, List, [], ◌∷◌, ◌++◌, Bool, true}
use Rattle.std.specs.List.{list_all, list_any}
use Rattle.s3_blame.specs.Inner.Entries.{entries_tested}
use Rattle.s3_entries.specs.Inner.Spans.{spans_of}
use Rattle.s3_entries.specs.declared.header.TheConstants as header
use Rattle.s3_entries.specs.declared.output.TheConstants as output
use Rattle.s3_entries.specs.declared.shared.TheConstants as shared
use Rattle.s3_entries.specs.declared.form.CardForm.{CardForm}
use Rattle.s3_entries.specs.declared.form.CardForm.TheVariants as form
use Rattle.s3_sheets.specs.Tables.{rules_of}
use Rattle.s3_sheets.specs.declared.kind.CardKind.{CardKind}
use Rattle.s3_sheets.specs.declared.kind.CardKind.TheVariants.{Header, File, Record, RecordAnd, RecordOr, Field, Calculation, OutputLine, OutputAnd, OutputOr, OutputField}
use Rattle.s3_punch.specs.declared.stops.TheConstants.{HEADER_STARTS, FILE_STARTS, INPUT_STARTS, CALCULATION_STARTS, OUTPUT_STARTS}
use Rattle.s3_tests.specs.Inner.Starts.{is_left_blank}

-- whether an entry begins, and whether one ends, at a column
abbrev pub begins : List (ℕ × ℕ) → ℕ → Bool
begins spans column = list_any (λ (span : ℕ × ℕ). span.0 == column) spans

abbrev pub ends : List (ℕ × ℕ) → ℕ → Bool
ends spans column = list_any (λ (span : ℕ × ℕ). span.1 == column) spans

-- ---- the sheets
-- whether the columns of each rule of a kind of card are those of an entry, or of several side by side
abbrev pub has_all_rules : CardForm → CardKind → Bool
has_all_rules form kind =
    list_all (λ rule. is_left_blank rule.entry || begins (spans_of form) rule.from && ends (spans_of form) rule.to) (rules_of kind)

unfoldable pub rules_are_entries : Bool
rules_are_entries =
    has_all_rules form.Header Header && has_all_rules form.File File && has_all_rules form.Record Record
    && has_all_rules form.RecordGroup RecordAnd && has_all_rules form.RecordGroup RecordOr && has_all_rules form.Field Field
    && has_all_rules form.Calculation Calculation && has_all_rules form.Line OutputLine && has_all_rules form.LineGroup OutputAnd
    && has_all_rules form.LineGroup OutputOr && has_all_rules form.OutputField OutputField

-- ---- diagnostics
abbrev pub numbers : List ℕ
numbers = 5 ∷ 6 ∷ 7 ∷ 8 ∷ 9 ∷ 10 ∷ 11 ∷ 12 ∷ []

-- whether all that is marked on a kind of card begins where an entry begins, and ends where one ends
abbrev pub has_all_marks : List (ℕ × ℕ) → CardKind → Bool
has_all_marks spans kind =
    list_all (λ number. list_all (λ (mark : ℕ × ℕ). begins spans mark.0 && ends spans mark.1) (entries_tested kind number)) numbers

-- a field card that has no line before it is marked where a line has its filename
unfoldable pub marks_are_entries : Bool
marks_are_entries =
    has_all_marks (spans_of form.File) File && has_all_marks (spans_of form.Record) Record
    && has_all_marks (spans_of form.RecordGroup) RecordAnd && has_all_marks (spans_of form.RecordGroup) RecordOr
    && has_all_marks (spans_of form.Record ++ spans_of form.Field) Field && has_all_marks (spans_of form.Calculation) Calculation
    && has_all_marks (spans_of form.Line) OutputLine && has_all_marks (spans_of form.LineGroup) OutputAnd
    && has_all_marks (spans_of form.LineGroup) OutputOr && has_all_marks (spans_of form.Line ++ spans_of form.OutputField) OutputField

-- ---- tabs
-- whether each stop of a sheet is the first column of an entry, or of the program identification
abbrev pub are_starts : List ℕ → List (ℕ × ℕ) → Bool
are_starts stops spans = list_all (λ stop. begins spans stop || stop == header.PROGRAM.from) stops

-- whether each first column of an entry is a stop, or one of a few others
abbrev pub are_stops : List (ℕ × ℕ) → List ℕ → (others : List ℕ) → Bool
are_stops spans stops others = list_all (λ (span : ℕ × ℕ). list_any (λ stop. stop == span.0) stops || list_any (λ other. other == span.0) others) spans

abbrev pub stops_match : List ℕ → List (ℕ × ℕ) → (others : List ℕ) → Bool
stops_match stops spans others = are_starts stops spans && are_stops spans stops others

-- a tab doesn't go to AND and OR, which begin before a stop, nor to the space before, whose column ADD has
unfoldable pub stops_are_entries : Bool
stops_are_entries =
    stops_match HEADER_STARTS (spans_of form.Header) [] && stops_match FILE_STARTS (spans_of form.File) []
    && stops_match INPUT_STARTS (spans_of form.Record ++ spans_of form.RecordGroup ++ spans_of form.Field) (shared.GROUP.from ∷ [])
    && stops_match CALCULATION_STARTS (spans_of form.Calculation) []
    && stops_match OUTPUT_STARTS (spans_of form.Line ++ spans_of form.LineGroup ++ spans_of form.OutputField) (shared.GROUP.from ∷ output.SPACE_BEFORE.from ∷ [])
