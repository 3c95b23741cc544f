-- What it is that the condition of a number tests an entry of a card: two sources are alike but for the columns of that entry on one card,
-- and just one of them has the number on that card.
use Rattle.std.specs.Prelude.{◌≡◌, ℕ, ◌+◌, ◌<◌, ◌==◌, nat_le, Bool, true, false, not, ◌&&◌, ◌||◌, List, [], ◌∷◌, ◌++◌, length, map}
use Rattle.std.specs.List.{All, list_all, list_any}
use Rattle.s3_lines.specs.declared.diagnostic.Diagnostic.{Diagnostic}
use Rattle.s3_sheets.specs.declared.kind.CardKind.{CardKind}
use Rattle.s3_sheets.specs.declared.kind.CardKind.TheVariants.{Comment, Unknown, Header, File, Record, RecordAnd, RecordOr, Field, Calculation, OutputLine, OutputAnd, OutputOr, OutputField}
use Rattle.s3_sheets.specs.declared.parts.FaultyEntry.{FaultyEntry}
use Rattle.s3_sheets.specs.Kinds.{kind_of}
use Rattle.s3_sheets.specs.Rules.{Rule}
use Rattle.s3_sheets.specs.Tables.{rules_of}
use Rattle.s3_sheets.specs.Lines.{lines_of}
use Rattle.s3_sheets.specs.Sheets.{kind_at, sheet_diagnostics}
use Rattle.s3_diagnose.specs.Diagnostics.{compile_diagnostics}
use Rattle.s3_diagnose.specs.Inner.Whole.{has_number}
use Rattle.s3_blame.specs.Inner.Changes.{Entry, Change, first_source, other_card, other_source, card_changed}

-- ---- entries
abbrev pub entry_of_rule : Rule → Entry
entry_of_rule rule = (rule.from, rule.to)

-- those that have no rule of their own: a C card's operation, its factor 2 and the length of its result, ADD and spaces; and those by which
-- a card is one of its kind, the words AND and OR, and a file's name where there is none
abbrev pub entries_besides : CardKind → List Entry
entries_besides Calculation = (28, 32) ∷ (33, 42) ∷ (49, 51) ∷ []
entries_besides OutputLine = (16, 18) ∷ (17, 17) ∷ (18, 18) ∷ []
entries_besides RecordAnd = (14, 16) ∷ []
entries_besides RecordOr = (14, 16) ∷ []
entries_besides OutputAnd = (14, 16) ∷ []
entries_besides OutputOr = (14, 16) ∷ []
entries_besides Field = (7, 14) ∷ []
entries_besides OutputField = (7, 14) ∷ []
entries_besides _ = []

abbrev pub entries_of_kind : CardKind → List Entry
entries_of_kind kind = map entry_of_rule (rules_of kind) ++ entries_besides kind

abbrev pub begins_at : ℕ → Entry → Bool
begins_at column (from, to) = from == column

abbrev pub ends_at : ℕ → Entry → Bool
ends_at column (from, to) = to == column

-- the columns of an entry of such cards, or of several that stand side by side
abbrev pub is_of_entries : CardKind → Change → Bool
is_of_entries kind change =
    nat_le change.from change.to
    && list_any (begins_at change.from) (entries_of_kind kind)
    && list_any (ends_at change.to) (entries_of_kind kind)

-- the other codes fill just those columns
abbrev pub fills_its_columns : Change → Bool
fills_its_columns change =
    length change.card == 96 && nat_le 1 change.from && nat_le change.to 96 && change.from + length change.other == change.to + 1

-- ---- what they have
-- no card is at fault by itself
abbrev pub is_read : List (List ℕ) → Bool
is_read cards = length (sheet_diagnostics 0 cards) == 0

-- the condition of a number holds on a card
abbrev pub has : (card number : ℕ) → List (List ℕ) → Bool
has card number cards = has_number card number (compile_diagnostics (length cards + 1) (lines_of 0 cards))

abbrev pub same_kind : CardKind → CardKind → Bool
same_kind Comment Comment = true
same_kind Unknown Unknown = true
same_kind Header Header = true
same_kind File File = true
same_kind Record Record = true
same_kind RecordAnd RecordAnd = true
same_kind RecordOr RecordOr = true
same_kind Field Field = true
same_kind Calculation Calculation = true
same_kind OutputLine OutputLine = true
same_kind OutputAnd OutputAnd = true
same_kind OutputOr OutputOr = true
same_kind OutputField OutputField = true
same_kind _ _ = false

-- 9 is of a card of some kind that is out of its place, and so it tests the entry by which the card is one of that kind. With other codes
-- there the card is of another kind, and what else it has may be wrong for that kind.
abbrev pub is_of_other_kind : Change → Bool
is_of_other_kind change =
    not (same_kind (kind_of (other_card change)) (kind_of change.card))
    && list_all (λ (diagnostic : Diagnostic). diagnostic.card == card_changed change) (sheet_diagnostics 0 (other_source change))

-- a card of this kind has the number, and with the other codes it hasn't
abbrev pub takes_away : (number : ℕ) → CardKind → Change → Bool
takes_away number kind change =
    is_of_entries kind change
    && fills_its_columns change
    && same_kind (kind_of change.card) kind
    && is_read (first_source change)
    && has (card_changed change) number (first_source change)
    && (is_read (other_source change) || (number == 9 && is_of_other_kind change))
    && not (has (card_changed change) number (other_source change))

-- ---- the relation
-- the condition of a number tests an entry of cards of a kind: a change of this entry alone can take the number from such a card
abbrev pub IsTested : (number : ℕ) → CardKind → Entry → Type 0
IsTested number kind entry = (change : Change) × ((change.from, change.to) ≡ entry) × (takes_away number kind change ≡ true)

-- an entry that is marked for a number of a card, of a source that stands from a place of its deck on, is one that the number's condition
-- tests on cards of that kind
abbrev pub IsTestedOn : (from : ℕ) → List (List ℕ) → FaultyEntry → Type 0
IsTestedOn from cards entry =
    (i : ℕ) × (i < length cards) × (entry.card ≡ from + i + 1) × IsTested entry.number (kind_at cards i) (entry.from, entry.to)

abbrev pub AreTested : (from : ℕ) → List (List ℕ) → List FaultyEntry → Type 0
AreTested from cards entries = All (IsTestedOn from cards) entries
