-- Cards have nothing but card characters, whatever their lines have.
use Rattle.std.proofs.Common.{◌≡◌, ℕ, zero, suc, ◌+◌, ◌-◌, ◌<◌, ◌≤◌, List, [], ◌∷◌, ◌++◌, Bool, true, false, cond, not, Option, Some, None, length, map, take, drop, replicate, get_or, refl, ◌∙◌, arith, subst, inl, inr, ◌==◌, ◌&&◌, ◌||◌, unwrap_or, find}
use Rattle.std.specs.Prelude.{position}
use Rattle.std.proofs.lemmas.Bool.{cases_Bool}
use Rattle.std.proofs.lemmas.Bool.Decides.{nat_tests}
use Rattle.std.proofs.lemmas.List.Elements.{All-append, All-cons, All-drop, All-head, All-nil, All-push, All-replicate, All-tail, All-take, All-weaker}
use Rattle.std.proofs.lemmas.List.FromFn.{get_or-range_with_len, length-range_with_len}
use Rattle.std.specs.List.{All, fold, list_all, onto_first, range_with_len, slice_split}
use Rattle.std.specs.Option.{option_map}
use Rattle.s3_cards.specs.Codes.{code_page}
use Rattle.s3_cards.specs.Deck.{has_code}
use Rattle.s3_punch.specs.declared.characters.TheConstants.{PLAIN}
use Rattle.s3_punch.specs.declared.form.LineForm.{LineForm}
use Rattle.s3_punch.specs.declared.form.LineForm.TheVariants.{InPieces, Plain}
use Rattle.s3_punch.specs.declared.part.Part.{Part}
use Rattle.s3_punch.specs.Inner.Cards.{card_by, card_of_line, column_of, form_of, has_remark, is_colon, is_zero, of_parts, or_blank, part_text, parted, piece_at, piece_character, piece_of, pieced, with_character, with_piece, with_text, without_remark, written}
use Rattle.s3_punch.specs.Inner.Characters.{is_small, is_tab, plain_of, shown}
use Rattle.s3_punch.specs.Inner.Parts.{is_data, is_source}
use Rattle.s3_punch.specs.Inner.Stops.{tabbed}

-- a byte that is a card character
abbrev pub Coded : ℕ → Type 0
Coded byte = has_code byte ≡ true

abbrev pub AllCoded : List ℕ → Type 0
AllCoded = All Coded

-- the same, or 0
abbrev Filled : ℕ → Type 0
Filled byte = (is_zero byte || has_code byte) ≡ true

pub blank_coded : Coded 32
unfolding code_page
blank_coded = refl

unknown_coded : Coded 63
unfolding code_page
unknown_coded = refl

both_true : (a b : Bool) → (a && b) ≡ true → (a ≡ true) × (b ≡ true)
both_true true b h = (refl, h)
both_true false b h = cc

-- ---- characters
found_at : {X : Type 0} (p q : X → Bool) (y : X) (ys : List X) (x : X) → (find p ys ≡ Some x → list_all q ys ≡ true → q x ≡ true) → find p (y ∷ ys) ≡ Some x → list_all q (y ∷ ys) ≡ true → q x ≡ true
found_at p q y ys x rest found all = elim (cases_Bool (p y)) [
  | inl here ↦ let f : cond (p y) (Some y) (find p ys) ≡ Some x = found in let g : Some y ≡ Some x = rw here at f in let e : y ≡ x = cc in subst (λ (z : _). q z ≡ true) e (both_true _ _ all).0
  | inr not_here ↦ let f : cond (p y) (Some y) (find p ys) ≡ Some x = found in rest (rw not_here at f) (both_true _ _ all).1
]

found_passes : {X : Type 0} (p q : X → Bool) (xs : List X) (x : X) → find p xs ≡ Some x → list_all q xs ≡ true → q x ≡ true
found_passes p q [] x found all = cc
found_passes p q (y ∷ ys) x found all = found_at p q y ys x (found_passes p q ys x) found all

all_at : (p : ℕ → Bool) (xs : List ℕ) (i : ℕ) → i < length xs → list_all p xs ≡ true → p (get_or xs i 0) ≡ true
all_at p [] i within all = absurd (omega arith)
all_at p (x ∷ xs) zero within all = (both_true _ _ all).0
all_at p (x ∷ xs) (suc i) within all = all_at p xs i (omega arith) (both_true _ _ all).1

capitals_coded : list_all has_code (range_with_len 65 26) ≡ true
unfolding code_page
capitals_coded = refl

table_coded : list_all (λ entry. has_code entry.1) PLAIN ≡ true
unfolding code_page
table_coded = refl

capital_coded : (c : ℕ) → is_small c ≡ true → Coded (c - 32)
capital_coded c small =
    let within : (97 ≤ c) × (c ≤ 122) = grind (arith, nat_tests) in
    let place : c - 97 < length (range_with_len 65 26) = omega (arith, length-range_with_len 65 26) in
    let is : get_or (range_with_len 65 26) (c - 97) 0 ≡ 65 + (c - 97) = get_or-range_with_len 65 26 (c - 97) 0 (omega arith) in
    let same : 65 + (c - 97) ≡ c - 32 = omega arith in
    subst Coded (is ∙ same) (all_at has_code (range_with_len 65 26) (c - 97) place capitals_coded)

plain_in_table : (o : Option (ℕ × ℕ)) (p : _) → find p PLAIN ≡ o → Coded (unwrap_or (option_map (λ entry. entry.1) o) 63)
plain_in_table None p found = unknown_coded
plain_in_table (Some entry) p found = found_passes p (λ entry. has_code entry.1) PLAIN entry found table_coded

pub shown_coded : (c : ℕ) → Coded (shown c)
unfolding plain_of
shown_coded c = elim (cases_Bool (is_small c)) [
  | inl small ↦ rw small (capital_coded c small)
  | inr other ↦ rw other (elim (cases_Bool (has_code c)) [
    | inl coded ↦ rw coded coded
    | inr not_coded ↦ rw not_coded (plain_in_table (find (λ entry. entry.0 == c) PLAIN) (λ entry. entry.0 == c) refl)
  ])
]

-- ---- plain lines
with_coded_by : (b : Bool) (wide card : List ℕ) (c : ℕ) → AllCoded wide → AllCoded card → AllCoded (cond b wide (card ++ shown c ∷ []))
with_coded_by true wide card c whole h = whole
with_coded_by false wide card c whole h = All-push Coded card (shown c) h (shown_coded c)

with_coded : (src : Bool) (card : List ℕ) (c : ℕ) → AllCoded card → AllCoded (with_character src card c)
with_coded src card c h =
    with_coded_by (is_tab c) (tabbed src card) card c (All-append Coded card _ h (All-replicate Coded _ 32 blank_coded)) h

laid_coded : (src : Bool) (cs card : List ℕ) → AllCoded card → AllCoded (fold (with_character src) card cs)
laid_coded src [] card h = h
laid_coded src (c ∷ cs) card h = laid_coded src cs (with_character src card c) (with_coded src card c h)

-- ---- cards in pieces
filled_coded : (byte : ℕ) → Coded byte → Filled byte
filled_coded byte h = by (is_zero byte) (has_code byte) h
  where
    by : (a b : Bool) → b ≡ true → (a || b) ≡ true
    by true b h = refl
    by false b h = h

zero_filled : Filled 0
zero_filled = refl

piece_coded : (c : ℕ) → Coded (piece_character c)
piece_coded c = by (is_tab c)
  where
    by : (b : Bool) → Coded (cond b 32 (shown c))
    by true = blank_coded
    by false = shown_coded c

pieces_coded : (cs : List ℕ) → AllCoded (map piece_character cs)
pieces_coded [] = All-nil Coded
pieces_coded (c ∷ cs) = All-cons Coded (piece_character c) (map piece_character cs) (piece_coded c) (pieces_coded cs)

marked_filled : (b : Bool) (byte : ℕ) → Filled byte → Filled (cond b 0 byte)
marked_filled true byte h = zero_filled
marked_filled false byte h = h

parted_filled : (quoted : Bool) (bytes : List ℕ) → All Filled bytes → All Filled (parted quoted bytes)
parted_filled quoted [] h = All-nil Filled
parted_filled quoted (byte ∷ bytes) h =
    All-cons Filled _ _ (marked_filled (byte == 32 && not quoted) byte (All-head Filled byte bytes h)) (parted_filled (cond (byte == 39) (not quoted) quoted) bytes (All-tail Filled byte bytes h))

onto_filled : (x : ℕ) (parts : List (List ℕ)) → Filled x → All (All Filled) parts → All (All Filled) (onto_first x parts)
onto_filled x [] h all = All-cons (All Filled) (x ∷ []) [] (All-cons Filled x [] h (All-nil Filled)) (All-nil (All Filled))
onto_filled x (part ∷ parts) h all =
    All-cons (All Filled) (x ∷ part) parts (All-cons Filled x part h (All-head (All Filled) part parts all)) (All-tail (All Filled) part parts all)

split_filled_by : (b : Bool) (x : ℕ) (parts : List (List ℕ)) → Filled x → All (All Filled) parts → All (All Filled) (cond b ([] ∷ parts) (onto_first x parts))
split_filled_by true x parts h all = All-cons (All Filled) [] parts (All-nil Filled) all
split_filled_by false x parts h all = onto_filled x parts h all

split_filled : (xs : List ℕ) → All Filled xs → All (All Filled) (slice_split is_zero xs)
split_filled [] h = All-cons (All Filled) [] [] (All-nil Filled) (All-nil (All Filled))
split_filled (x ∷ xs) h =
    split_filled_by (is_zero x) x (slice_split is_zero xs) (All-head Filled x xs h) (split_filled xs (All-tail Filled x xs h))

text_filled : (card text : List ℕ) (column : ℕ) → All Filled card → All Filled text → All Filled (with_text card column text)
text_filled card text column h t =
    let wide : All Filled (card ++ replicate (column - 1 + length text - length card) 0) = All-append Filled card _ h (All-replicate Filled _ 0 zero_filled) in
    All-append Filled _ _ (All-append Filled _ text (All-take Filled (column - 1) _ wide) t) (All-drop Filled (column - 1 + length text) _ wide)

laid_piece_filled : (card part text : List ℕ) (column : Option ℕ) → All Filled card → All Filled text → All Filled (with_piece card (option_map (λ n. (n, text)) column))
laid_piece_filled card part text None h t = h
laid_piece_filled card part text (Some column) h t = text_filled card text column h t

piece_filled_by : (colon : Option ℕ) (card part : List ℕ) → All Filled card → All Filled part → All Filled (with_piece card (piece_at part colon))
piece_filled_by None card part h p = h
piece_filled_by (Some colon) card part h p =
    laid_piece_filled card part (drop (colon + 1) part) (column_of (take colon part)) h (All-drop Filled (colon + 1) part p)

fold_filled : (parts : List (List ℕ)) (card : List ℕ) → All Filled card → All (All Filled) parts → All Filled (fold (λ card part. with_piece card (piece_of part)) card parts)
fold_filled [] card h all = h
fold_filled (part ∷ parts) card h all =
    fold_filled parts (with_piece card (piece_of part)) (piece_filled_by (position is_colon part) card part h (All-head (All Filled) part parts all)) (All-tail (All Filled) part parts all)

blanked_by : (a b : Bool) (byte : ℕ) → is_zero byte ≡ a → has_code byte ≡ b → (a || b) ≡ true → Coded (cond a 32 byte)
blanked_by true b byte empty code h = blank_coded
blanked_by false b byte empty code h = code ∙ h

blanked_coded : (bytes : List ℕ) → All Filled bytes → AllCoded (map or_blank bytes)
blanked_coded [] h = All-nil Coded
blanked_coded (byte ∷ bytes) h =
    All-cons Coded (or_blank byte) (map or_blank bytes) (blanked_by (is_zero byte) (has_code byte) byte refl refl (All-head Filled byte bytes h)) (blanked_coded bytes (All-tail Filled byte bytes h))

some_blank : (b : Bool) (card : List ℕ) → AllCoded card → AllCoded (cond b (32 ∷ []) card)
some_blank true card h = All-cons Coded 32 [] blank_coded (All-nil Coded)
some_blank false card h = h

pieced_coded : (cs : List ℕ) → AllCoded (pieced cs)
pieced_coded cs =
    let text : All Filled (part_text cs) = parted_filled false _ (All-weaker Coded Filled filled_coded _ (pieces_coded (drop 1 cs))) in
    let card : AllCoded (of_parts (slice_split is_zero (part_text cs))) = blanked_coded _ (fold_filled _ [] (All-nil Filled) (split_filled _ text)) in
    some_blank (length (of_parts (slice_split is_zero (part_text cs))) == 0) _ card

-- ---- whole cards
written_coded : (form : LineForm) (src : Bool) (cs : List ℕ) → AllCoded (written form src cs)
written_coded InPieces src cs = pieced_coded cs
written_coded Plain src cs = laid_coded src cs [] (All-nil Coded)

finished_by : (b : Bool) (card : List ℕ) → AllCoded card → AllCoded (cond b (without_remark card) card)
finished_by true card h =
    All-append Coded _ _ (All-append Coded _ _ (All-take Coded 59 card h) (All-replicate Coded _ 32 blank_coded)) (All-drop Coded _ card h)
finished_by false card h = h

card_coded : (blanks src : Bool) (cs : List ℕ) (form : LineForm) → AllCoded (card_by blanks src cs form)
card_coded blanks src cs form = finished_by ((blanks && src) && has_remark (written form src cs)) (written form src cs) (written_coded form src cs)

some_card_coded : (blanks src : Bool) (cs : List ℕ) (form : Option LineForm) (card : List ℕ) → option_map (card_by blanks src cs) form ≡ Some card → AllCoded card
some_card_coded blanks src cs None card h = cc
some_card_coded blanks src cs (Some form) card h = let e : card_by blanks src cs form ≡ card = cc in subst AllCoded e (card_coded blanks src cs form)

-- the card of each line has card characters alone
pub line_coded : (blanks : Bool) (part : Part) (cs card : List ℕ) → card_of_line blanks part cs ≡ Some card → AllCoded card
unfolding card_of_line
line_coded blanks part cs card h = some_card_coded blanks (is_source part) cs (form_of (is_data part) cs) card h
