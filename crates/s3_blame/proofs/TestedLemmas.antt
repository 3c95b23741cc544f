-- The entries of the table are tested, and the lines of a source are of the kinds of its cards.
use Rattle.std.proofs.Common.{◌≡◌, ℕ, zero, suc, ◌+◌, ◌<◌, ◌==◌, List, [], ◌∷◌, Bool, true, false, Option, Some, None, refl, sym, ◌∙◌, ap, subst, inl, inr, length, slice_index_or, arith}
use Rattle.std.specs.Prelude.{◌&&◌, ◌||◌, cond, map, filter}
use Rattle.std.specs.List.{list_all, list_any}
use Rattle.std.specs.Option.{option_to_list}
use Rattle.std.proofs.lemmas.Bool.{cases_Bool, eqb-true, and_parts, false≢true}
use Rattle.std.proofs.lemmas.List.Folds.{list_any-append}
use Rattle.std.proofs.lemmas.List.Sums.{AllPass-from_list_all}
use Rattle.s3_lines.specs.declared.sheet.Line.{Line}
use Rattle.s3_sheets.specs.declared.kind.CardKind.{CardKind}
use Rattle.s3_sheets.specs.declared.kind.CardKind.TheVariants as kind
use Rattle.s3_sheets.specs.declared.parts.FaultyEntry.{FaultyEntry}
use Rattle.s3_sheets.specs.Kinds.{kind_of}
use Rattle.s3_sheets.specs.Lines.{sheet_line, line_at, line_of, card_at, lines_below, lines_of}
use Rattle.s3_blame.specs.Inner.Tested.{takes_away, IsTested, IsTestedOn, AreTested}
use Rattle.s3_blame.specs.Inner.Entries.{Row, rows_of, is_for, entry_in, entries_on, kind_of_line}
use Rattle.s3_blame.specs.Inner.Marks.{has_columns, is_listed_on}
use Rattle.s3_blame.specs.Inner.Names.{Names}
use Rattle.s3_blame.specs.Inner.OwnMarks.{is_mark_among, is_mark_on, is_named}
use Rattle.s3_blame.proofs.Shown.{is_shown, all_shown}

-- ---- the table
in_row : (number : ℕ) (kind : CardKind) (row : Row) (e : FaultyEntry) → is_for number row ≡ true → is_shown kind row ≡ true
    → has_columns e (entry_in row) ≡ true → IsTested number kind (e.from, e.to)
in_row number kind row e same shown at =
    let n : row.number ≡ number = eqb-true row.number number same in
    let f : e.from ≡ row.change.from = eqb-true e.from row.change.from (and_parts (e.from == row.change.from) (e.to == row.change.to) at).0 in
    let t : e.to ≡ row.change.to = eqb-true e.to row.change.to (and_parts (e.from == row.change.from) (e.to == row.change.to) at).1 in
    (row.change, rw (f, t) refl, ap (λ m. takes_away m kind row.change) (sym n) ∙ shown)

in_rows : (number : ℕ) (kind : CardKind) (rows : List Row) (e : FaultyEntry) → list_all (is_shown kind) rows ≡ true
    → list_any (has_columns e) (map entry_in (filter (is_for number) rows)) ≡ true → IsTested number kind (e.from, e.to)
in_rows number kind [] e shown at = absurd (false≢true at)
in_rows number kind (row ∷ rows) e shown at =
    let both = and_parts (is_shown kind row) (list_all (is_shown kind) rows) shown in
    let others : List Row = filter (is_for number) rows in
    elim (cases_Bool (is_for number row)) [
      | inl same ↦
          let found : (has_columns e (entry_in row) || list_any (has_columns e) (map entry_in others)) ≡ true =
          sym (ap (λ b. list_any (has_columns e) (map entry_in (cond b (row ∷ others) others))) same) ∙ at in
          elim (cases_Bool (has_columns e (entry_in row))) [
            | inl hit ↦ in_row number kind row e same both.0 hit
            | inr miss ↦ in_rows number kind rows e both.1 (sym (ap (λ b. b || list_any (has_columns e) (map entry_in others)) miss) ∙ found)
          ]
      | inr other ↦
          in_rows number kind rows e both.1 (sym (ap (λ b. list_any (has_columns e) (map entry_in (cond b (row ∷ others) others))) other) ∙ at)
    ]

-- ---- lines and their cards
abbrev card_in : ℕ → Option Line → ℕ
card_in number None = number
card_in number (Some line) = line.card

abbrev kind_in : CardKind → Option Line → CardKind
kind_in kind None = kind
kind_in kind (Some line) = kind_of_line line.sheet

card_read : (number : ℕ) (kind : CardKind) (card : List ℕ) → card_in number (line_at number (sheet_line kind card)) ≡ number
card_read number kind.Comment card = refl
card_read number kind.Unknown card = refl
card_read number kind.Header card = refl
card_read number kind.File card = refl
card_read number kind.Record card = refl
card_read number kind.RecordAnd card = refl
card_read number kind.RecordOr card = refl
card_read number kind.Field card = refl
card_read number kind.Calculation card = refl
card_read number kind.OutputLine card = refl
card_read number kind.OutputAnd card = refl
card_read number kind.OutputOr card = refl
card_read number kind.OutputField card = refl

kind_read : (number : ℕ) (kind : CardKind) (card : List ℕ) → kind_in kind (line_at number (sheet_line kind card)) ≡ kind
kind_read number kind.Comment card = refl
kind_read number kind.Unknown card = refl
kind_read number kind.Header card = refl
kind_read number kind.File card = refl
kind_read number kind.Record card = refl
kind_read number kind.RecordAnd card = refl
kind_read number kind.RecordOr card = refl
kind_read number kind.Field card = refl
kind_read number kind.Calculation card = refl
kind_read number kind.OutputLine card = refl
kind_read number kind.OutputAnd card = refl
kind_read number kind.OutputOr card = refl
kind_read number kind.OutputField card = refl

card_of_line : (number : ℕ) (card : List ℕ) (line : Line) → line_of number card ≡ Some line → line.card ≡ number
unfolding line_of
card_of_line number card line read = sym (ap (card_in number) read) ∙ card_read number (kind_of card) card

kind_of_its_card : (number : ℕ) (card : List ℕ) (line : Line) → line_of number card ≡ Some line → kind_of_line line.sheet ≡ kind_of card
unfolding line_of
kind_of_its_card number card line read = sym (ap (kind_in (kind_of card)) read) ∙ kind_read number (kind_of card) card

-- a line that passes a test is that of some card
abbrev IsOf : (Line → Bool) → (from : ℕ) → List (List ℕ) → (count : ℕ) → Type 0
IsOf p from cards count = (i : ℕ) × (i < count) × (line : Line) × (line_of (from + i + 1) (card_at cards i) ≡ Some line) × (p line ≡ true)

in_option : (p : Line → Bool) (o : Option Line) → list_any p (option_to_list o) ≡ true → (line : Line) × (o ≡ Some line) × (p line ≡ true)
in_option p None e = absurd (false≢true e)
in_option p (Some line) e = elim (cases_Bool (p line)) [
  | inl hit ↦ (line, refl, hit)
  | inr miss ↦ absurd (false≢true (sym (ap (λ b. b || false) miss) ∙ e))
]

in_lines : (p : Line → Bool) (from : ℕ) (cards : List (List ℕ)) (count : ℕ) → list_any p (lines_below from cards count) ≡ true → IsOf p from cards count
in_lines p from cards zero e = absurd (false≢true e)
in_lines p from cards (suc n) e =
    let above : List Line = lines_below from cards n in
    let last : Option Line = line_of (from + n + 1) (card_at cards n) in
    let some : (list_any p above || list_any p (option_to_list last)) ≡ true = sym (list_any-append p above (option_to_list last)) ∙ e in
    elim (cases_Bool (list_any p above)) [
      | inl earlier ↦ let (i, in', line, read, hit) = in_lines p from cards n earlier in (i, omega (arith, in'), line, read, hit)
      | inr none ↦
          let (line, read, hit) = in_option p last (sym (ap (λ b. b || list_any p (option_to_list last)) none) ∙ some) in
          (n, omega arith, line, read, hit)
    ]

-- ---- entries that are marked
mark_is_tested : (names : Names) (from : ℕ) (cards : List (List ℕ)) (e : FaultyEntry) → is_mark_among names (lines_of from cards) e ≡ true → IsTestedOn from cards e
unfolding lines_of
mark_is_tested names from cards e among =
    let (i, in', line, read, hit) = in_lines (is_mark_on names e) from cards (length cards) among in
    let on : is_listed_on e line ≡ true = (and_parts (is_listed_on e line) (is_named names line e) hit).0 in
    let of = and_parts (e.card == line.card) ((e.number == e.number) && list_any (has_columns e) (entries_on line.sheet e.number)) on in
    let kind : CardKind = kind_of_line line.sheet in
    let tested : IsTested e.number kind (e.from, e.to) =
    in_rows e.number kind (rows_of kind) e (all_shown kind) (and_parts (e.number == e.number) (list_any (has_columns e) (entries_on line.sheet e.number)) of.1).1 in (
      i,
      in',
      eqb-true e.card line.card of.0 ∙ card_of_line (from + i + 1) (card_at cards i) line read,
      subst (λ k. IsTested e.number k (e.from, e.to)) (kind_of_its_card (from + i + 1) (card_at cards i) line read) tested,
    )

pub marks_are_tested : (names : Names) (from : ℕ) (cards : List (List ℕ)) (lines : List Line) (marked : List FaultyEntry) → lines ≡ lines_of from cards
    → list_all (is_mark_among names lines) marked ≡ true → AreTested from cards marked
marks_are_tested names from cards lines marked same among k d in' =
    let all : list_all (is_mark_among names (lines_of from cards)) marked ≡ true = ap (λ ls. list_all (is_mark_among names ls) marked) (sym same) ∙ among in
    mark_is_tested names from cards (slice_index_or marked k d) (AllPass-from_list_all (is_mark_among names (lines_of from cards)) marked all k d in')
