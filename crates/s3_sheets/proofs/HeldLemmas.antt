-- The lines of cards without a diagnostic, card by card: in the order of the sheets, in range, with ascending card numbers.
use Rattle.std.proofs.Common.{◌≡◌, ℕ, zero, suc, ◌+◌, ◌<◌, ◌≤◌, List, [], ◌∷◌, ◌++◌, Bool, true, false, refl, sym, ◌∙◌, ap, arith, subst, inl, inr, length, max, add-one}
use Rattle.std.specs.Prelude.{Option, Some, None, nat_le, nat_lt, ◌==◌, ◌&&◌, map, filter}
use Rattle.std.specs.Option.{option_to_list}
use Rattle.std.proofs.lemmas.Bool.{cases_Bool}
use Rattle.std.proofs.lemmas.Bool.Decides.{nat_tests}
use Rattle.std.proofs.lemmas.List.Folds.{list_all-append}
use Rattle.std.proofs.lemmas.List.Elements.{filter-append}
use Rattle.s3_lines.specs.Inner.Ascending.{cards_ascend}
use Rattle.s3_lines.specs.Inner.Ranges.{in_range, sheet_number, stands_behind, in_order_behind}
use Rattle.s3_lines.specs.declared.sheet.Line.{Line}
use Rattle.s3_lines.specs.declared.sheet.SheetLine.{SheetLine}
use Rattle.s3_sheets.specs.Kinds.{kind_of, sheet_of}
use Rattle.s3_sheets.specs.Lines.{card_at, sheet_line, line_at, line_of, lines_below}
use Rattle.s3_sheets.specs.Sheets.{before, kind_at, is_behind, is_misplaced, lacks_file, faults_of, has_fault, is_outside, card_holds, holds, numbers, pairs}
use Rattle.s3_sheets.specs.Inner.Progress.{Kept, nothing_kept, kept_behind, is_misplaced_behind}
use Rattle.s3_sheets.specs.declared.kind.CardKind.{CardKind}
use Rattle.s3_sheets.specs.declared.kind.CardKind.TheVariants.{Comment, Unknown, Header, File, Record, RecordAnd, RecordOr, Field, Calculation, OutputLine, OutputAnd, OutputOr, OutputField}
use Rattle.s3_sheets.proofs.LineLemmas.{are_in_range, card_passes, neither}
use Rattle.s3_sheets.proofs.ProgressLemmas.{IsKept, none_kept, kept_next, misplaced_same}
use Rattle.s3_sheets.proofs.RangeLemmas.{both}

-- ---- cards without diagnostics
none_filtered : {X : Type 0} (test : X → Bool) (x : X) (xs : List X) → filter test (x ∷ xs) ≡ [] → (test x ≡ false) × (filter test xs ≡ [])
none_filtered test x xs e = elim (cases_Bool (test x)) [
  | inl good ↦ absurd (let f = rw good at e in cc)
  | inr bad ↦ (bad, rw bad at e)
]

both_empty : {X : Type 0} (xs ys : List X) → xs ++ ys ≡ [] → (xs ≡ []) × (ys ≡ [])
both_empty [] ys e = (refl, e)
both_empty (x ∷ xs) ys e = absurd cc

-- a card without a diagnostic
pub record IsFree (cards : List (List ℕ)) (i : ℕ) : Type 0 where
  pub placed : is_misplaced (kind_at cards i) (before cards i) ≡ false
  pub faultless : has_fault (faults_of (card_at cards i)) ≡ false
  pub filed : lacks_file (kind_at cards i) (before cards i) (card_at cards i) ≡ false
  pub inside : is_outside cards i ≡ false

one_free : (cards : List (List ℕ)) (i : ℕ) → filter (holds cards) (map (λ number. (i, number)) numbers) ≡ [] → IsFree cards i
unfolding card_holds
one_free cards i e =
    let a = none_filtered (holds cards) (i, 1) ((i, 2) ∷ (i, 3) ∷ (i, 4) ∷ (i, 13) ∷ []) e in
    let b = none_filtered (holds cards) (i, 2) ((i, 3) ∷ (i, 4) ∷ (i, 13) ∷ []) a.1 in
    let c = none_filtered (holds cards) (i, 3) ((i, 4) ∷ (i, 13) ∷ []) b.1 in
    let d = none_filtered (holds cards) (i, 4) ((i, 13) ∷ []) c.1 in
    let n = neither (faults_of (card_at cards i)).name (lacks_file (kind_at cards i) (before cards i) (card_at cards i)) c.0 in
    let k = neither (faults_of (card_at cards i)).number (is_outside cards i) d.0 in
    record { placed = a.0; faultless = rw (b.0, n.0, k.0) refl; filed = n.1; inside = k.1 }

pub before_free : (cards : List (List ℕ)) (n : ℕ) → filter (holds cards) (pairs (suc n)) ≡ [] → (filter (holds cards) (pairs n) ≡ []) × IsFree cards n
before_free cards n e =
    let b = both_empty (filter (holds cards) (pairs n)) (filter (holds cards) (map (λ number. (n, number)) numbers))
    (sym (filter-append (holds cards) (pairs n) (map (λ number. (n, number)) numbers)) ∙ e) in
    (b.0, one_free cards n b.1)

-- ---- lists of lines
-- the sheet of the last line, or `last` if there is no line
abbrev pub last_sheet : ℕ → List Line → ℕ
last_sheet last [] = last
last_sheet last (line ∷ lines) = last_sheet (sheet_number line.sheet) lines

-- the card of the last line, or `last` if there is no line
abbrev pub last_card : ℕ → List Line → ℕ
last_card last [] = last
last_card last (line ∷ lines) = last_card line.card lines

and_assoc : (a b c : Bool) → (a && (b && c)) ≡ ((a && b) && c)
and_assoc true b c = refl
and_assoc false b c = refl

order_append : (last : ℕ) (xs ys : List Line) → in_order_behind last (xs ++ ys) ≡ (in_order_behind last xs && in_order_behind (last_sheet last xs) ys)
unfolding in_order_behind
order_append last [] ys = refl
order_append last (x ∷ xs) ys =
    ap (λ b. stands_behind last x.sheet && b) (order_append (sheet_number x.sheet) xs ys)
    ∙ and_assoc (stands_behind last x.sheet) (in_order_behind (sheet_number x.sheet) xs) (in_order_behind (last_sheet (sheet_number x.sheet) xs) ys)

last_append : (last : ℕ) (xs ys : List Line) → last_sheet last (xs ++ ys) ≡ last_sheet (last_sheet last xs) ys
last_append last [] ys = refl
last_append last (x ∷ xs) ys = last_append (sheet_number x.sheet) xs ys

ascend_append : (last : ℕ) (xs ys : List Line) → cards_ascend last (xs ++ ys) ≡ (cards_ascend last xs && cards_ascend (last_card last xs) ys)
unfolding cards_ascend
ascend_append last [] ys = refl
ascend_append last (x ∷ xs) ys =
    ap (λ b. nat_lt last x.card && b) (ascend_append x.card xs ys) ∙ and_assoc (nat_lt last x.card) (cards_ascend x.card xs) (cards_ascend (last_card x.card xs) ys)

card_append : (last : ℕ) (xs ys : List Line) → last_card last (xs ++ ys) ≡ last_card (last_card last xs) ys
card_append last [] ys = refl
card_append last (x ∷ xs) ys = card_append x.card xs ys

-- ---- one more line
later : (sheet latest : ℕ) → is_behind sheet latest ≡ false → nat_le latest sheet ≡ true
later sheet latest placed = grind (arith, nat_tests)

later_max : (sheet latest : ℕ) → is_behind sheet latest ≡ false → sheet ≡ max latest sheet
later_max sheet latest placed = grind (arith, nat_tests)

in_order_next : (kind : CardKind) (card : List ℕ) (number latest : ℕ) → is_misplaced_behind kind latest ≡ false
    → (in_order_behind latest (option_to_list (line_at number (sheet_line kind card))) ≡ true)
    × (last_sheet latest (option_to_list (line_at number (sheet_line kind card))) ≡ max latest (sheet_of kind))
unfolding in_order_behind
in_order_next Comment card number latest placed = (refl, omega arith)
in_order_next Unknown card number latest placed = absurd cc
in_order_next Header card number latest placed = (both (first latest placed) refl, first_max latest placed)
  where
    first : (latest : ℕ) → is_behind 1 latest ≡ false → (latest == 0) ≡ true
    first latest placed = grind (arith, nat_tests)

    first_max : (latest : ℕ) → is_behind 1 latest ≡ false → 1 ≡ max latest 1
    first_max latest placed = grind (arith, nat_tests)
in_order_next File card number latest placed = (both (later 2 latest placed) refl, later_max 2 latest placed)
in_order_next Record card number latest placed = (both (later 3 latest placed) refl, later_max 3 latest placed)
in_order_next RecordAnd card number latest placed = (both (later 3 latest placed) refl, later_max 3 latest placed)
in_order_next RecordOr card number latest placed = (both (later 3 latest placed) refl, later_max 3 latest placed)
in_order_next Field card number latest placed = (both (later 3 latest placed) refl, later_max 3 latest placed)
in_order_next Calculation card number latest placed = (both (later 4 latest placed) refl, later_max 4 latest placed)
in_order_next OutputLine card number latest placed = (both (later 5 latest placed) refl, later_max 5 latest placed)
in_order_next OutputAnd card number latest placed = (both (later 5 latest placed) refl, later_max 5 latest placed)
in_order_next OutputOr card number latest placed = (both (later 5 latest placed) refl, later_max 5 latest placed)
in_order_next OutputField card number latest placed = (both (later 5 latest placed) refl, later_max 5 latest placed)

ascends_next : (number last : ℕ) (sheet : Option SheetLine) → last < number
    → (cards_ascend last (option_to_list (line_at number sheet)) ≡ true) × (last_card last (option_to_list (line_at number sheet)) ≤ number)
unfolding cards_ascend
ascends_next number last None above = (refl, omega arith)
ascends_next number last (Some sheet) above = (both (grind (arith, nat_tests)) refl, omega arith)

-- ---- all lines
abbrev pub kept_at : List (List ℕ) → ℕ → Kept
kept_at cards zero = nothing_kept
kept_at cards (suc n) = kept_behind (kept_at cards n) (card_at cards n)

pub is_kept_at : (cards : List (List ℕ)) (n : ℕ) → n ≤ length cards → IsKept cards n (kept_at cards n)
is_kept_at cards zero few = none_kept cards
is_kept_at cards (suc n) few =
    subst (λ (m : ℕ). IsKept cards m (kept_at cards (suc n))) (add-one n) (kept_next cards n (kept_at cards n) (is_kept_at cards n (omega arith)) (omega arith))

pub record IsHeld (from n : ℕ) (lines : List Line) (kept : Kept) : Type 0 where
  pub ordered : in_order_behind 0 lines ≡ true
  pub latest : last_sheet 0 lines ≡ kept.latest_sheet
  pub ranged : are_in_range lines ≡ true
  pub ascending : cards_ascend from lines ≡ true
  pub newest : last_card from lines ≤ from + n

none_held : (from : ℕ) → IsHeld from 0 [] nothing_kept
unfolding in_order_behind cards_ascend
none_held from = record { ordered = refl; latest = refl; ranged = refl; ascending = refl; newest = omega arith }

held_next : (from : ℕ) (cards : List (List ℕ)) (n : ℕ) (lines : List Line) (kept : Kept) → IsHeld from n lines kept → IsKept cards n kept → IsFree cards n
    → IsHeld from (suc n) (lines ++ option_to_list (line_of (from + n + 1) (card_at cards n))) (kept_behind kept (card_at cards n))
unfolding line_of kept_behind
held_next from cards n lines kept held is free =
    let card : List ℕ = card_at cards n in
    let number : ℕ = from + n + 1 in
    let more : List Line = option_to_list (line_of number card) in
    let placed : is_misplaced_behind (kind_of card) kept.latest_sheet ≡ false =
    misplaced_same (kind_of card) (before cards n) kept.latest_sheet is.latest ∙ free.placed in
    let order = in_order_next (kind_of card) card number kept.latest_sheet placed in
    let ascends = ascends_next number (last_card from lines) (sheet_line (kind_of card) card) (let k = held.newest in omega arith) in
    record {
      ordered = order_append 0 lines more ∙ both held.ordered (ap (λ last. in_order_behind last more) held.latest ∙ order.0);
      latest = last_append 0 lines more ∙ (ap (λ last. last_sheet last more) held.latest ∙ order.1);
      ranged = list_all-append (λ line. in_range line.sheet) lines more ∙ both held.ranged (card_passes card number free.faultless);
      ascending = ascend_append from lines more ∙ both held.ascending ascends.0;
      newest = (let e = card_append from lines more in let k = ascends.1 in omega (arith, e, k));
    }

pub all_held : (from : ℕ) (cards : List (List ℕ)) (n : ℕ) → n ≤ length cards → filter (holds cards) (pairs n) ≡ []
    → IsHeld from n (lines_below from cards n) (kept_at cards n)
all_held from cards zero few none = none_held from
all_held from cards (suc n) few none =
    let b = before_free cards n none in
    held_next from cards n (lines_below from cards n) (kept_at cards n) (all_held from cards n (omega arith) b.0) (is_kept_at cards n (omega arith)) b.1
