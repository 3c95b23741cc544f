-- Entries that are marked are among those of the table.
use Rattle.std.proofs.Common.{◌≡◌, ℕ, ◌<◌, ◌==◌, List, [], ◌∷◌, ◌++◌, Bool, true, false, refl, sym, ◌∙◌, ap, inl, inr, length, get_or}
use Rattle.std.specs.Prelude.{◌&&◌, ◌||◌, map, filter}
use Rattle.std.specs.List.{list_all, list_any}
use Rattle.std.proofs.lemmas.Bool.{cases_Bool, eq-eqb, eqb-true, and_parts, false≢true}
use Rattle.std.proofs.lemmas.List.Folds.{list_all-append, list_any_at}
use Rattle.s3_lines.specs.declared.sheet.Line.{Line}
use Rattle.s3_lines.specs.declared.sheet.SheetLine.{SheetLine}
use Rattle.s3_sheets.specs.declared.parts.FaultyEntry.{FaultyEntry}
use Rattle.s3_blame.specs.declared.parts.Part.{Part}
use Rattle.s3_blame.specs.Inner.Changes.{Entry}
use Rattle.s3_blame.specs.Inner.Entries.{entries_on}
use Rattle.s3_blame.specs.Inner.Marks.{span, fails, entry_of, has_columns, is_of, are_of, is_listed_on}
use Rattle.s3_blame.specs.Inner.Names.{Names}
use Rattle.s3_blame.specs.Inner.OwnMarks.{are_marks_on, chosen, is_mark_among, is_mark_on, is_named, is_open, own_marks}

same : (n : ℕ) → (n == n) ≡ true
same n = eq-eqb n n refl

own_columns : (card number : ℕ) (p : Part) → has_columns (entry_of card number p) (span p) ≡ true
own_columns card number p = rw (same p.from, same p.to) refl

own_entry : (card number : ℕ) (p : Part) (entries : List Entry) → is_of card number (span p ∷ entries) (entry_of card number p) ≡ true
own_entry card number p entries = rw (same card, same number, own_columns card number p) refl

or_true : (a : Bool) → (a || true) ≡ true
or_true true = refl
or_true false = refl

and_left : (a b : Bool) → (a && b) ≡ true → a ≡ true
and_left a b e = (and_parts a b e).0

and_right : (a b : Bool) → (a && b) ≡ true → b ≡ true
and_right a b e = (and_parts a b e).1

-- an entry more is spoken of
wider_entry : (card number : ℕ) (x : Entry) (entries : List Entry) (e : FaultyEntry) → is_of card number entries e ≡ true
    → is_of card number (x ∷ entries) e ≡ true
wider_entry card number x entries e of =
    let c : (e.card == card) ≡ true = and_left (e.card == card) ((e.number == number) && list_any (has_columns e) entries) of in
    let r : ((e.number == number) && list_any (has_columns e) entries) ≡ true = and_right (e.card == card) ((e.number == number) && list_any (has_columns e) entries) of in
    let n : (e.number == number) ≡ true = and_left (e.number == number) (list_any (has_columns e) entries) r in
    let a : list_any (has_columns e) entries ≡ true = and_right (e.number == number) (list_any (has_columns e) entries) r in
    rw (c, n, a) (or_true (has_columns e x))

wider : (card number : ℕ) (x : Entry) (entries : List Entry) (marked : List FaultyEntry) → are_of card number entries marked ≡ true
    → are_of card number (x ∷ entries) marked ≡ true
wider card number x entries [] of = refl
wider card number x entries (e ∷ marked) of =
    rw (wider_entry card number x entries e (and_left (is_of card number entries e) (are_of card number entries marked) of))
    (wider card number x entries marked (and_right (is_of card number entries e) (are_of card number entries marked) of))

pub at_fault_are_parts : (card number : ℕ) (parts : List Part) (found : List FaultyEntry)
    → found ≡ map (entry_of card number) (filter fails parts) → are_of card number (map span parts) found ≡ true
at_fault_are_parts card number parts found e = ap (are_of card number (map span parts)) e ∙ those parts
  where
    those : (ps : List Part) → are_of card number (map span ps) (map (entry_of card number) (filter fails ps)) ≡ true
    those [] = refl
    those (p ∷ ps) =
        let more : are_of card number (span p ∷ map span ps) (map (entry_of card number) (filter fails ps)) ≡ true =
        wider card number (span p) (map span ps) (map (entry_of card number) (filter fails ps)) (those ps) in
        elim (cases_Bool p.is_at_fault) [
          | inl bad ↦ rw (bad, own_entry card number p (map span ps)) more
          | inr good ↦ rw good more
        ]

-- .. and of those parts that are in error
pub at_fault_are_chosen : (card number : ℕ) (parts : List Part) (found : List FaultyEntry)
    → found ≡ map (entry_of card number) (filter fails parts) → are_of card number (chosen (map fails parts) (map span parts)) found ≡ true
unfolding chosen
at_fault_are_chosen card number parts found e = ap (are_of card number (chosen (map fails parts) (map span parts))) e ∙ those parts
  where
    those : (ps : List Part) → are_of card number (chosen (map fails ps) (map span ps)) (map (entry_of card number) (filter fails ps)) ≡ true
    those [] = refl
    those (p ∷ ps) =
        let entries = chosen (map fails ps) (map span ps) in
        let more : are_of card number (span p ∷ entries) (map (entry_of card number) (filter fails ps)) ≡ true =
        wider card number (span p) entries (map (entry_of card number) (filter fails ps)) (those ps) in
        elim (cases_Bool p.is_at_fault) [
          | inl bad ↦ rw (bad, own_entry card number p entries) more
          | inr good ↦ rw good (those ps)
        ]

pub chosen_at : (marks_of : ℕ → List Entry) (n card number : ℕ) (parts : List Part) (wanted : List Bool) (entries : List Entry) (found : List FaultyEntry) → number ≡ n → marks_of n ≡ chosen wanted entries → map span parts ≡ entries
    → map fails parts ≡ wanted → are_of card number (chosen (map fails parts) (map span parts)) found ≡ true → are_of card number (marks_of number) found ≡ true
chosen_at marks_of n card number parts wanted entries found is same spans failing of =
    let both : chosen (map fails parts) (map span parts) ≡ chosen wanted entries = ap (λ fs. chosen fs (map span parts)) failing ∙ ap (chosen wanted) spans in
    ap (λ m. are_of card number (marks_of m) found) is
    ∙ ap (λ es. are_of card number es found) (same ∙ sym both)
    ∙ of

-- an entry that is marked alone
pub alone_of_at : (marks_of : ℕ → List Entry) (n card number : ℕ) (parts : List Part) (entry : Entry) (found : List FaultyEntry) → number ≡ n → marks_of n ≡ entry ∷ [] → map span parts ≡ entry ∷ [] → map fails parts ≡ true ∷ []
    → are_of card number (chosen (map fails parts) (map span parts)) found ≡ true → are_of card number (marks_of number) found ≡ true
unfolding chosen
alone_of_at marks_of n card number parts entry found is same spans failing of =
    chosen_at marks_of n card number parts (true ∷ []) (entry ∷ []) found is same spans failing of

-- nothing is said of this number
pub unless_open : (P : Type 0) (other : ℕ → Bool) (n number : ℕ) → number ≡ n → other n ≡ true → other number ≡ false → P
unless_open P other n number is said not_said = absurd (false≢true (sym not_said ∙ (ap other is ∙ said)))

-- ---- entries that have to be marked
-- an entry of a number of a line's card
named_one : (names : Names) (line : Line) (number : ℕ) (e : FaultyEntry) → is_of line.card number (entries_on line.sheet number) e ≡ true
    → (is_open line.sheet number ≡ false → is_of line.card number (own_marks names line.card line.sheet number) e ≡ true) → is_named names line e ≡ true
named_one names line number e of own = elim (cases_Bool (is_open line.sheet e.number)) [
  | inl said ↦ ap (λ b. b || list_any (has_columns e) (own_marks names line.card line.sheet e.number)) said
  | inr shut ↦
      let n : e.number ≡ number = eqb-true e.number number (and_left (e.number == number) (list_any (has_columns e) (entries_on line.sheet number))
      (and_right (e.card == line.card) ((e.number == number) && list_any (has_columns e) (entries_on line.sheet number)) of)) in
      let own_of = own (ap (is_open line.sheet) (sym n) ∙ shut) in
      let columns : list_any (has_columns e) (own_marks names line.card line.sheet number) ≡ true = and_right (e.number == number) (list_any (has_columns e) (own_marks names line.card line.sheet number))
      (and_right (e.card == line.card) ((e.number == number) && list_any (has_columns e) (own_marks names line.card line.sheet number)) own_of) in
      let there : list_any (has_columns e) (own_marks names line.card line.sheet e.number) ≡ true = ap (λ m. list_any (has_columns e) (own_marks names line.card line.sheet m)) n ∙ columns in
      ap (λ b. is_open line.sheet e.number || b) there ∙ or_true (is_open line.sheet e.number)
]

pub named_all : (names : Names) (line : Line) (number : ℕ) (marked : List FaultyEntry) → are_of line.card number (entries_on line.sheet number) marked ≡ true
    → (is_open line.sheet number ≡ false → are_of line.card number (own_marks names line.card line.sheet number) marked ≡ true) → list_all (is_named names line) marked ≡ true
named_all names line number [] of own = refl
named_all names line number (e ∷ marked) of own =
    rw (named_one names line number e (and_left (is_of line.card number (entries_on line.sheet number) e) (are_of line.card number (entries_on line.sheet number) marked) of)
    (λ is. and_left (is_of line.card number (own_marks names line.card line.sheet number) e) (are_of line.card number (own_marks names line.card line.sheet number) marked) (own is)))
    (named_all names line number marked (and_right (is_of line.card number (entries_on line.sheet number) e) (are_of line.card number (entries_on line.sheet number) marked) of)
    (λ is. and_right (is_of line.card number (own_marks names line.card line.sheet number) e) (are_of line.card number (own_marks names line.card line.sheet number) marked) (own is)))

-- .. on a card of some kind
pub named_on : (names : Names) (line : Line) (s : SheetLine) (number : ℕ) (marked : List FaultyEntry) → line.sheet ≡ s
    → are_of line.card number (entries_on s number) marked ≡ true
    → (is_open s number ≡ false → are_of line.card number (own_marks names line.card s number) marked ≡ true) → list_all (is_named names line) marked ≡ true
named_on names line s number marked is of own =
    named_all names line number marked (ap (λ s. are_of line.card number (entries_on s number) marked) is ∙ of)
    (λ shut. ap (λ s. are_of line.card number (own_marks names line.card s number) marked) is ∙ own (ap (λ s. is_open s number) (sym is) ∙ shut))

-- ---- marks of lines
-- those of a number of a line's card
listed : (names : Names) (line : Line) (number : ℕ) (marked : List FaultyEntry) → are_of line.card number (entries_on line.sheet number) marked ≡ true
    → list_all (is_named names line) marked ≡ true → are_marks_on names line marked ≡ true
listed names line number [] of named = refl
listed names line number (e ∷ marked) of named =
    let first : is_of line.card number (entries_on line.sheet number) e ≡ true =
    and_left (is_of line.card number (entries_on line.sheet number) e) (are_of line.card number (entries_on line.sheet number) marked) of in
    let rest : are_of line.card number (entries_on line.sheet number) marked ≡ true =
    and_right (is_of line.card number (entries_on line.sheet number) e) (are_of line.card number (entries_on line.sheet number) marked) of in
    let n : e.number ≡ number = eqb-true e.number number (and_left (e.number == number) (list_any (has_columns e) (entries_on line.sheet number))
    (and_right (e.card == line.card) ((e.number == number) && list_any (has_columns e) (entries_on line.sheet number)) first)) in
    let on : is_listed_on e line ≡ true = ap (λ m. is_of line.card m (entries_on line.sheet m) e) n ∙ first in
    rw (on, and_left (is_named names line e) (list_all (is_named names line) marked) named)
    (listed names line number marked rest (and_right (is_named names line e) (list_all (is_named names line) marked) named))

pub more_on_line : (names : Names) (line : Line) (number : ℕ) (old more : List FaultyEntry) → are_marks_on names line old ≡ true
    → are_of line.card number (entries_on line.sheet number) more ≡ true → list_all (is_named names line) more ≡ true → are_marks_on names line (old ++ more) ≡ true
more_on_line names line number old more so_far of named =
    list_all-append (λ e. is_mark_on names e line) old more
    ∙ rw so_far (listed names line number more of named)

-- those of a line among others
on_lines : (names : Names) (lines : List Line) (i : ℕ) (d : Line) (marked : List FaultyEntry) → i < length lines
    → are_marks_on names (get_or lines i d) marked ≡ true → list_all (is_mark_among names lines) marked ≡ true
on_lines names lines i d [] in' of = refl
on_lines names lines i d (e ∷ marked) in' of =
    rw (list_any_at (is_mark_on names e) lines i d in' (and_left (is_mark_on names e (get_or lines i d)) (are_marks_on names (get_or lines i d) marked) of))
    (on_lines names lines i d marked in' (and_right (is_mark_on names e (get_or lines i d)) (are_marks_on names (get_or lines i d) marked) of))

pub more_on_lines : (names : Names) (lines : List Line) (i : ℕ) (d : Line) (old more : List FaultyEntry) → list_all (is_mark_among names lines) old ≡ true → i < length lines
    → are_marks_on names (get_or lines i d) more ≡ true → list_all (is_mark_among names lines) (old ++ more) ≡ true
more_on_lines names lines i d old more so_far in' of =
    list_all-append (is_mark_among names lines) old more
    ∙ rw so_far (on_lines names lines i d more in' of)
