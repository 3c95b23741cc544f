-- Steps of the loops over the entries and over the diagnostics of a source.
use Rattle.std.proofs.Common.{◌≡◌, ℕ, ◌+◌, ◌<◌, ◌==◌, List, [], ◌∷◌, ◌++◌, Bool, true, false, ◌&&◌, cond, length, map, take, get_or, refl, sym, ap, ◌∙◌, filter, eqb-true}
use Rattle.std.proofs.lemmas.List.{map-append}
use Rattle.std.proofs.lemmas.List.Elements.{filter_more}
use Rattle.s3_blame.specs.Inner.Columns.{columns_of, is_of, span}
use Rattle.s3_lines.specs.declared.diagnostic.Diagnostic.{Diagnostic}
use Rattle.s3_sheets.specs.declared.parts.FaultyEntry.{FaultyEntry}
use Rattle.s3_decks.specs.declared.ruled.Columns.{Columns}
use Rattle.s3_source_listing.specs.Inner.Notes.{is_on, marks_of, marks_under, numbers_under}

-- the entries of a card, with one entry more
pub entry_more : (card : ℕ) (entries : List FaultyEntry) (i : ℕ) (none : FaultyEntry) → i < length entries
    → filter (is_on card) (take (i + 1) entries) ≡ filter (is_on card) (take i entries) ++ cond ((get_or entries i none).card == card) (get_or entries i none ∷ []) []
entry_more card entries i none within = filter_more (is_on card) entries i none within

-- the numbers of a card, with one diagnostic more
number_if : (found : Diagnostic) (on_card : Bool)
    → map (λ (diagnostic : Diagnostic). diagnostic.number) (cond on_card (found ∷ []) []) ≡ cond on_card (found.number ∷ []) []
number_if found true = refl
number_if found false = refl

number_more : (card : ℕ) (found : List Diagnostic) (i : ℕ) (none : Diagnostic) → i < length found
    → numbers_under card (take (i + 1) found)
    ≡ numbers_under card (take i found) ++ cond ((get_or found i none).card == card) ((get_or found i none).number ∷ []) []
number_more card found i none within =
    ap (map (λ (diagnostic : Diagnostic). diagnostic.number)) (filter_more (λ (diagnostic : Diagnostic). diagnostic.card == card) found i none within)
    ∙ map-append (λ (diagnostic : Diagnostic). diagnostic.number) (filter (λ (diagnostic : Diagnostic). diagnostic.card == card) (take i found)) (cond ((get_or found i none).card == card) (get_or found i none ∷ []) [])
    ∙ ap (λ more. numbers_under card (take i found) ++ more) (number_if (get_or found i none) ((get_or found i none).card == card))

-- the entries of a card with a number are those with that number among the entries of the card: of a list with one entry in front, by
-- whether it is of the card
with_entry : (card number : ℕ) (entry : FaultyEntry) (entries : List FaultyEntry) (on_card : Bool) → (entry.card == card) ≡ on_card
    → filter (is_of (record { card = card; number = number })) (filter (is_on card) entries) ≡ filter (is_of (record { card = card; number = number })) entries
    → filter (is_of (record { card = card; number = number })) (cond on_card (entry ∷ filter (is_on card) entries) (filter (is_on card) entries))
    ≡ cond (on_card && (entry.number == number)) (entry ∷ filter (is_of (record { card = card; number = number })) entries) (filter (is_of (record { card = card; number = number })) entries)
with_entry card number entry entries false same rest = rest
with_entry card number entry entries true same rest =
    ap (λ (b : Bool). cond (b && (entry.number == number)) (entry ∷ filter (is_of (record { card = card; number = number })) (filter (is_on card) entries)) (filter (is_of (record { card = card; number = number })) (filter (is_on card) entries))) same
    ∙ ap (λ (more : List FaultyEntry). cond (true && (entry.number == number)) (entry ∷ more) more) rest

pub narrowed : (card number : ℕ) (entries : List FaultyEntry)
    → filter (is_of (record { card = card; number = number })) (filter (is_on card) entries) ≡ filter (is_of (record { card = card; number = number })) entries
narrowed card number [] = refl
narrowed card number (entry ∷ entries) =
    with_entry card number entry entries (entry.card == card) refl (narrowed card number entries)

-- so the columns of a card's diagnostics are the same with all entries
pub narrowed_marks : (card : ℕ) (numbers : List ℕ) (entries : List FaultyEntry)
    → map (marks_of card (filter (is_on card) entries)) numbers ≡ map (marks_of card entries) numbers
narrowed_marks card [] entries = refl
narrowed_marks card (number ∷ numbers) entries =
    ap (λ marked. map span marked ∷ map (marks_of card (filter (is_on card) entries)) numbers) (narrowed card number entries)
    ∙ ap (λ more. marks_of card entries number ∷ more) (narrowed_marks card numbers entries)

-- the columns of a card's diagnostics, with one diagnostic more
marks_if : (card : ℕ) (entries_on : ℕ → List FaultyEntry) (found : Diagnostic) (on_card : Bool) → (found.card == card) ≡ on_card
    → cond on_card (columns_of found (entries_on found.card) ∷ []) [] ≡ map (marks_of card (entries_on card)) (cond on_card (found.number ∷ []) [])
marks_if card entries_on found false same = refl
marks_if card entries_on found true same =
    ap (λ other. columns_of (record { card = other; number = found.number }) (entries_on other) ∷ []) (eqb-true found.card card same)

mark_more : (card : ℕ) (found : List Diagnostic) (entries_on : ℕ → List FaultyEntry) (i : ℕ) (none : Diagnostic) → i < length found
    → marks_under card (take (i + 1) found) (entries_on card)
    ≡ marks_under card (take i found) (entries_on card) ++ cond ((get_or found i none).card == card) (columns_of (get_or found i none) (entries_on (get_or found i none).card) ∷ []) []
mark_more card found entries_on i none within =
    ap (map (marks_of card (entries_on card))) (number_more card found i none within)
    ∙ map-append (marks_of card (entries_on card)) (numbers_under card (take i found)) (cond ((get_or found i none).card == card) ((get_or found i none).number ∷ []) [])
    ∙ ap (λ more. marks_under card (take i found) (entries_on card) ++ more) (sym (marks_if card entries_on (get_or found i none) ((get_or found i none).card == card) refl))

-- so what is noted of a card grows by what a diagnostic adds to it
pub numbered : (found : List Diagnostic) (i : ℕ) (none : Diagnostic) (old new : List ℕ) (card : ℕ) → i < length found
    → new ≡ old ++ cond ((get_or found i none).card == card) ((get_or found i none).number ∷ []) []
    → old ≡ numbers_under card (take i found) → new ≡ numbers_under card (take (i + 1) found)
numbered found i none old new card within more so_far =
    more
    ∙ ap (λ front. front ++ cond ((get_or found i none).card == card) ((get_or found i none).number ∷ []) []) so_far
    ∙ sym (number_more card found i none within)

pub marked : (found : List Diagnostic) (entries_on : ℕ → List FaultyEntry) (of_card : List FaultyEntry) (i : ℕ) (none : Diagnostic) (old new : List (List Columns)) (card : ℕ) → i < length found
    → of_card ≡ entries_on (get_or found i none).card
    → new ≡ old ++ cond ((get_or found i none).card == card) (columns_of (get_or found i none) of_card ∷ []) []
    → old ≡ marks_under card (take i found) (entries_on card) → new ≡ marks_under card (take (i + 1) found) (entries_on card)
marked found entries_on of_card i none old new card within same more so_far =
    more
    ∙ ap (λ front. front ++ cond ((get_or found i none).card == card) (columns_of (get_or found i none) of_card ∷ []) []) so_far
    ∙ ap (λ some. marks_under card (take i found) (entries_on card) ++ cond ((get_or found i none).card == card) (columns_of (get_or found i none) some ∷ []) []) same
    ∙ sym (mark_more card found entries_on i none within)
