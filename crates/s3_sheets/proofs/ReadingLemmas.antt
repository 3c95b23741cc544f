-- Lemmas about reading the sheets.
use Rattle.std.proofs.Common.{◌≡◌, ℕ, ◌+◌, ◌<◌, List, [], ◌∷◌, ◌++◌, refl, sym, ◌∙◌, ap, arith, subst, inl, inr, length, get_or, suc, add-one, Bool, true}
use Rattle.std.specs.Prelude.{map, filter}
use Rattle.std.specs.Option.{option_to_list}
use Rattle.std.proofs.lemmas.Bool.{cases_Bool}
use Rattle.std.proofs.lemmas.List.{map-append, get_or_default}
use Rattle.std.proofs.lemmas.List.Elements.{filter-append}
use Rattle.s3_sheets.specs.Lines.{card_at, line_of, lines_below, lines_of}
use Rattle.s3_sheets.specs.Sheets.{standing_at, card_holds, holds, numbers, pairs, diagnostic, sheet_diagnostics}
use Rattle.s3_sheets.specs.Inner.Sheets.{card_diagnostics}
use Rattle.s3_sheets.specs.Inner.Progress.{Kept, nothing_kept, kept_behind, standing_behind}
use Rattle.s3_lines.specs.Inner.Ascending.{cards_ascend}
use Rattle.s3_lines.specs.Inner.Ranges.{are_read}
use Rattle.s3_sheets.proofs.HeldLemmas.{IsHeld, all_held, kept_at}
use Rattle.s3_sheets.proofs.InsideLemmas.{all_read}
use Rattle.s3_sheets.proofs.ProgressLemmas.{IsKept, none_kept, kept_next, standing_same}
use Rattle.s3_lines.specs.declared.diagnostic.Diagnostic.{Diagnostic}
use Rattle.s3_sheets.specs.declared.progress.Standing.{Standing}
use Rattle.s3_lines.specs.declared.sheet.Line.{Line}

-- the result of reading a source's first n cards
pub record ReadSoFar (from : ℕ) (cards : List (List ℕ)) (n : ℕ) (diagnostics : List Diagnostic) (typed : List Line) (kept : Kept) : Type 0 where
  pub found : diagnostics ≡ map (diagnostic from) (filter (holds cards) (pairs n))
  pub lines : typed ≡ lines_below from cards n
  pub progress : IsKept cards n kept

pub nothing_read : (from : ℕ) (cards : List (List ℕ)) (diagnostics : List Diagnostic) (typed : List Line) (kept : Kept)
    → diagnostics ≡ [] → typed ≡ [] → kept ≡ nothing_kept → ReadSoFar from cards 0 diagnostics typed kept
nothing_read from cards diagnostics typed kept none no_lines first = record {
  found = none;
  lines = no_lines;
  progress = let P : Kept → Type 0 = λ k. IsKept cards 0 k in subst P (sym first) (none_kept cards);
}

filter_of_map : {X Y : Type 0} (p : Y → Bool) (f : X → Y) (xs : List X) → filter p (map f xs) ≡ map f (filter (λ x. p (f x)) xs)
filter_of_map p f [] = refl
filter_of_map p f (x ∷ xs) = elim (cases_Bool (p (f x))) [
  | inl good ↦ rw good (ap (λ ys. f x ∷ ys) (filter_of_map p f xs))
  | inr bad ↦ rw bad (filter_of_map p f xs)
]

map_of_map : {X Y Z : Type 0} (g : Y → Z) (f : X → Y) (xs : List X) → map g (map f xs) ≡ map (λ x. g (f x)) xs
map_of_map g f [] = refl
map_of_map g f (x ∷ xs) = ap (λ ys. g (f x) ∷ ys) (map_of_map g f xs)

-- the diagnostics of one more card
diagnostics_next : (from : ℕ) (cards : List (List ℕ)) (n : ℕ) → map (diagnostic from) (filter (holds cards) (pairs (suc n)))
    ≡ map (diagnostic from) (filter (holds cards) (pairs n)) ++ card_diagnostics (from + n + 1) (standing_at cards n)
diagnostics_next from cards n =
    let here : List (ℕ × ℕ) = map (λ number. (n, number)) numbers in
    let one : filter (holds cards) here ≡ map (λ number. (n, number)) (filter (card_holds (standing_at cards n)) numbers) =
    filter_of_map (holds cards) (λ number. (n, number)) numbers in
    ap (map (diagnostic from)) (filter-append (holds cards) (pairs n) here)
    ∙ (map-append (diagnostic from) (filter (holds cards) (pairs n)) (filter (holds cards) here)
    ∙ ap (λ x. map (diagnostic from) (filter (holds cards) (pairs n)) ++ x)
    (ap (map (diagnostic from)) one
    ∙ map_of_map (diagnostic from) (λ number. (n, number)) (filter (card_holds (standing_at cards n)) numbers)))

-- one more card, if the state gives its facts
read_more : (from : ℕ) (cards : List (List ℕ)) (n : ℕ) (found found' : List Diagnostic) (lines lines' : List Line) (kept : Kept)
    → ReadSoFar from cards n found lines kept → n < length cards
    → found' ≡ found ++ card_diagnostics (from + n + 1) (standing_behind kept (card_at cards n))
    → lines' ≡ lines ++ option_to_list (line_of (from + n + 1) (card_at cards n))
    → ReadSoFar from cards (n + 1) found' lines' (kept_behind kept (card_at cards n))
read_more from cards n found found' lines lines' kept so_far in' more one = record {
  found =
      more ∙ (ap (λ x. x ++ card_diagnostics (from + n + 1) (standing_behind kept (card_at cards n))) so_far.found
      ∙ (ap (λ s. map (diagnostic from) (filter (holds cards) (pairs n)) ++ card_diagnostics (from + n + 1) s)
      (standing_same cards n kept so_far.progress)
      ∙ (sym (diagnostics_next from cards n) ∙ ap (λ m. map (diagnostic from) (filter (holds cards) (pairs m))) (sym (add-one n)))));
  lines =
      one ∙ (ap (λ x. x ++ option_to_list (line_of (from + n + 1) (card_at cards n))) so_far.lines ∙ ap (lines_below from cards) (sym (add-one n)));
  progress = kept_next cards n kept so_far.progress in';
}

-- one more card, with the code's values for the card, its facts and the next state
pub card_read : (from : ℕ) (cards : List (List ℕ)) (n : ℕ) (found found' : List Diagnostic) (lines lines' : List Line) (kept kept' : Kept) (standing : Standing)
    (d : List ℕ) → ReadSoFar from cards n found lines kept → n < length cards
    → standing ≡ standing_behind kept (get_or cards n d) → kept' ≡ kept_behind kept (get_or cards n d)
    → found' ≡ found ++ card_diagnostics (from + n + 1) standing
    → lines' ≡ lines ++ option_to_list (line_of (from + n + 1) (get_or cards n d))
    → ReadSoFar from cards (n + 1) found' lines' kept'
card_read from cards n found found' lines lines' kept kept' standing d so_far in' stands keeps more one =
    let card : get_or cards n d ≡ card_at cards n = get_or_default cards n d [] in' in
    let more' : found' ≡ found ++ card_diagnostics (from + n + 1) (standing_behind kept (card_at cards n)) =
    more ∙ ap (λ s. found ++ card_diagnostics (from + n + 1) s) (stands ∙ ap (standing_behind kept) card) in
    let one' : lines' ≡ lines ++ option_to_list (line_of (from + n + 1) (card_at cards n)) =
    one ∙ ap (λ c. lines ++ option_to_list (line_of (from + n + 1) c)) card in
    let keeps' : kept_behind kept (card_at cards n) ≡ kept' = sym (keeps ∙ ap (kept_behind kept) card) in
    subst (λ (k : Kept). ReadSoFar from cards (n + 1) found' lines' k) keeps' (read_more from cards n found found' lines lines' kept so_far in' more' one')

empty_list : {X : Type 0} (xs : List X) → length xs ≡ 0 → xs ≡ []
empty_list [] e = refl
empty_list (x ∷ xs) e = absurd (omega arith)

unmapped : {X Y : Type 0} (f : X → Y) (xs : List X) → map f xs ≡ [] → xs ≡ []
unmapped f [] e = refl
unmapped f (x ∷ xs) e = absurd cc

pub all_found : (from : ℕ) (cards : List (List ℕ)) (n : ℕ) (found : List Diagnostic) (lines : List Line) (kept : Kept)
    → ReadSoFar from cards n found lines kept → n ≡ length cards → found ≡ sheet_diagnostics from cards
unfolding sheet_diagnostics
all_found from cards n found lines kept so_far e = so_far.found ∙ ap (λ m. map (diagnostic from) (filter (holds cards) (pairs m))) e

pub all_lines : (from : ℕ) (cards : List (List ℕ)) (n : ℕ) (found : List Diagnostic) (lines : List Line) (kept : Kept)
    → ReadSoFar from cards n found lines kept → n ≡ length cards → lines ≡ lines_of from cards
unfolding lines_of
all_lines from cards n found lines kept so_far e = so_far.lines ∙ ap (lines_below from cards) e

pub no_diagnostics : (from : ℕ) (cards : List (List ℕ)) (found : List Diagnostic) (lines : List Line)
    → found ≡ sheet_diagnostics from cards → lines ≡ lines_of from cards → length found ≡ 0
    → (sheet_diagnostics from cards ≡ []) × (lines ≡ lines_of from cards) × (are_read lines ≡ true) × (cards_ascend from lines ≡ true)
unfolding sheet_diagnostics lines_of
no_diagnostics from cards found lines of_found of_lines short =
    let empty : map (diagnostic from) (filter (holds cards) (pairs (length cards))) ≡ [] = sym of_found ∙ empty_list found short in
    let none : filter (holds cards) (pairs (length cards)) ≡ [] = unmapped (diagnostic from) (filter (holds cards) (pairs (length cards))) empty in
    let held : IsHeld from (length cards) (lines_below from cards (length cards)) (kept_at cards (length cards)) =
    all_held from cards (length cards) (omega arith) none in
    (empty, of_lines, ap are_read of_lines ∙ all_read from cards (length cards) (omega arith) none, ap (cards_ascend from) of_lines ∙ held.ascending)

pub some_diagnostics : (from : ℕ) (cards : List (List ℕ)) (found : List Diagnostic) → found ≡ sheet_diagnostics from cards → 0 < length found
    → (found ≡ [] → ⊥) × (found ≡ sheet_diagnostics from cards)
some_diagnostics from cards found of_found some = (λ empty. absurd (omega (arith, ap length empty)), of_found)
