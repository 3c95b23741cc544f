-- A deck that is punched already comes out as it was.
use Rattle.std.proofs.Common.{◌≡◌, ℕ, zero, suc, ◌+◌, ◌-◌, ◌<◌, ◌≤◌, List, [], ◌∷◌, ◌++◌, Bool, true, false, cond, not, Option, Some, None, length, map, take, drop, get_or, refl, sym, ap, ◌∙◌, arith, subst, eq-eqb, inl, inr, ◌==◌, ◌&&◌, ◌||◌, ltb-true, lt-ltb, append_assoc, length-append}
use Rattle.std.specs.Prelude.{Ok, Err, Result, nat_lt}
use Rattle.std.proofs.lemmas.Bool.{cases_Bool, cases_lt}
use Rattle.std.proofs.lemmas.Bool.Decides.{nat_tests}
use Rattle.std.proofs.lemmas.List.{append-nil, get_or-append-add, get_or_append_left, take_all, take-append-le}
use Rattle.std.proofs.lemmas.List.Elements.{All-cons, All-head, All-nil, All-tail}
use Rattle.std.proofs.lemmas.List.FromFn.{get_or-range_with_len, length-range_with_len}
use Rattle.std.proofs.lemmas.List.Splits.{join_with_byte-slice_split}
use Rattle.std.specs.List.{All, enumerate_from, flat_map, fold, join_with_byte, list_all, list_any, onto_first, range_with_len, slice_split}
use Rattle.std.specs.Option.{option_map, option_or}
use Rattle.std.specs.Str.Lines.{lines, lines_of_parts, strip_carriage_return}
use Rattle.bstr.specs.Utf8.{Decoded, decoded, good, lossy_chars, or_replacement, pieces_from}
use Rattle.bstr.proofs.lemmas.PieceLemmas.{lossy_chars-step}
use Rattle.s3_cards.specs.Codes.{code_page}
use Rattle.s3_cards.proofs.CodeLemmas.{no_code_past}
use Rattle.s3_cards.specs.Deck.{cards_of as deck_cards, deck_of, fault_from, fault_of, has_code}
use Rattle.s3_cards.specs.declared.deck.CardFault.{CardFault}
use Rattle.s3_cards.specs.declared.deck.CardFault.TheVariants.{BadCharacter, TooMany, TooWide}
use Rattle.s3_cards.specs.declared.deck.DeckFault.{DeckFault}
use Rattle.s3_cards.specs.declared.deck.DeckFault.TheVariants.{At}
use Rattle.s3_punch.proofs.CodedLemmas.{AllCoded, Coded}
use Rattle.s3_punch.proofs.LineLemmas.{coded_other, no_newline}
use Rattle.s3_punch.specs.Inner.Cards.{card_by, card_of_line, form_of, with_character}
use Rattle.s3_punch.specs.Inner.Characters.{is_small, plain_of, shown}
use Rattle.s3_punch.specs.Inner.Decks.{IsDeck, IsPunched, NumberedCard, all_stand, card_of_bytes, cards_from, deck_text, has_card, is_open, is_plain, joined, numbered, part_after, stands, text_with, without_end}
use Rattle.s3_punch.specs.Inner.Parts.{is_data, is_source, part_behind}
use Rattle.s3_punch.specs.Inner.Stops.{tabbed}
use Rattle.s3_punch.specs.declared.deck.Begun.{Begun}
use Rattle.s3_punch.specs.declared.form.LineForm.{LineForm}
use Rattle.s3_punch.specs.declared.form.LineForm.TheVariants.{InPieces, Plain}
use Rattle.s3_punch.specs.declared.part.Part.{Part}

both_true : (a b : Bool) → (a && b) ≡ true → (a ≡ true) × (b ≡ true)
both_true true b h = (refl, h)
both_true false b h = cc

-- ---- characters of cards
tab_has_none : has_code 9 ≡ false
unfolding code_page
tab_has_none = refl

all_none_at : (xs : List ℕ) (i : ℕ) → i < length xs → list_all (λ c. not (has_code c)) xs ≡ true → has_code (get_or xs i 0) ≡ false
all_none_at [] i within all = absurd (omega arith)
all_none_at (x ∷ xs) zero within all = negated (has_code x) (both_true _ _ all).0
  where
    negated : (b : Bool) → not b ≡ true → b ≡ false
    negated true h = cc
    negated false h = refl
all_none_at (x ∷ xs) (suc i) within all = all_none_at xs i (omega arith) (both_true _ _ all).1

small_have_none : list_all (λ c. not (has_code c)) (range_with_len 97 26) ≡ true
unfolding code_page
small_have_none = refl

small_has_none : (c : ℕ) → is_small c ≡ true → has_code c ≡ false
small_has_none c small =
    let within : (97 ≤ c) × (c ≤ 122) = grind (arith, nat_tests) in
    let is : get_or (range_with_len 97 26) (c - 97) 0 ≡ 97 + (c - 97) = get_or-range_with_len 97 26 (c - 97) 0 (omega arith) in
    let same : 97 + (c - 97) ≡ c = omega arith in
    subst (λ n. has_code n ≡ false) (is ∙ same) (all_none_at (range_with_len 97 26) (c - 97) (omega (arith, length-range_with_len 97 26)) small_have_none)

coded_large : (c : ℕ) → Coded c → is_small c ≡ false
coded_large c coded = elim (cases_Bool (is_small c)) [
  | inl small ↦ absurd (let none = small_has_none c small in let f : true ≡ false = sym coded ∙ none in cc)
  | inr other ↦ other
]

-- a card character is its own plain one
pub plain_self : (c : ℕ) → Coded c → plain_of c ≡ Some c
unfolding plain_of
plain_self c coded = rw (coded_large c coded, coded) refl

shown_self : (c : ℕ) → Coded c → shown c ≡ c
shown_self c coded = rw (plain_self c coded) refl

below : (c : ℕ) → Coded c → c < 128
below c coded = elim (cases_lt c 128) [
  | inl lt ↦ lt
  | inr ge ↦ absurd (let none = no_code_past c ge in let e : has_code c ≡ false = rw none refl in let f : true ≡ false = sym coded ∙ e in cc)
]

decoded_self : (b : ℕ) (rest : List ℕ) → b < 128 → decoded (b ∷ rest) ≡ good b 1
decoded_self b rest small =
    let some : (length (b ∷ rest) == 0) ≡ false = grind (arith, nat_tests) in
    let ascii : nat_lt b 0x80 ≡ true = lt-ltb b 0x80 small in
    rw (some, ascii) refl

no_characters : lossy_chars [] ≡ []
unfolding pieces_from
no_characters = refl

-- the characters of a card are its bytes
pub characters_self : (line : List ℕ) → AllCoded line → lossy_chars line ≡ line
characters_self [] coded = no_characters
characters_self (b ∷ line) coded =
    let is = decoded_self b line (below b (coded 0 0 (omega arith))) in
    lossy_chars-step (b ∷ line) (omega arith)
    ∙ ap (λ (d : Decoded). or_replacement d.char ∷ lossy_chars (drop d.size (b ∷ line))) is
    ∙ ap (λ more. b ∷ more) (characters_self line (All-tail Coded b line coded))

-- ---- one line
with_self : (src : Bool) (card : List ℕ) (c : ℕ) → Coded c → with_character src card c ≡ card ++ c ∷ []
with_self src card c coded =
    ap (λ (b : Bool). cond b (tabbed src card) (card ++ shown c ∷ [])) (coded_other c 9 tab_has_none coded) ∙ ap (λ x. card ++ x ∷ []) (shown_self c coded)

fold_self : (src : Bool) (line card : List ℕ) → AllCoded line → fold (with_character src) card line ≡ card ++ line
fold_self src [] card coded = sym (append-nil card)
fold_self src (c ∷ line) card coded =
    ap (λ wide. fold (with_character src) wide line) (with_self src card c (All-head Coded c line coded))
    ∙ fold_self src line (card ++ c ∷ []) (All-tail Coded c line coded)
    ∙ append_assoc card (c ∷ []) line

plain_form : (form : Option LineForm) → is_plain form ≡ true → form ≡ Some Plain
plain_form None h = cc
plain_form (Some InPieces) h = cc
plain_form (Some Plain) h = refl

-- a line that is as its card is that card
pub line_self : (part : Part) (line : List ℕ) → AllCoded line → stands part line ≡ true → card_of_bytes false part line ≡ Some line
unfolding card_of_line
line_self part line coded stood =
    ap (λ cs. option_map (card_by false (is_source part) cs) (form_of (is_data part) cs)) (characters_self line coded)
    ∙ ap (option_map (card_by false (is_source part) line)) (plain_form (form_of (is_data part) line) stood)
    ∙ ap Some (fold_self (is_source part) line [] coded)

-- ---- all lines
abbrev pub AllLinesCoded : List (List ℕ) → Type 0
AllLinesCoded [] = Unit {0}
AllLinesCoded (line ∷ ls) = AllCoded line × AllLinesCoded ls

all_coded : (line : List ℕ) → list_all has_code line ≡ true → AllCoded line
all_coded [] all = All-nil Coded
all_coded (c ∷ line) all = All-cons Coded c line (both_true _ _ all).0 (all_coded line (both_true _ _ all).1)

faultless_coded : (line : List ℕ) → fault_of line ≡ None → AllCoded line
unfolding fault_of
faultless_coded line sound = all_coded line (by (nat_lt 96 (length line)) (list_all has_code line) sound)
  where
    by : (wide all : Bool) → cond wide (Some TooWide) (cond all None (Some BadCharacter)) ≡ None → all ≡ true
    by true all h = cc
    by false true h = refl
    by false false h = cc

none_first : {X : Type 0} (a b : Option X) → option_or a b ≡ None → (a ≡ None) × (b ≡ None)
none_first None b h = (refl, h)
none_first (Some x) b h = cc

no_at : (n : ℕ) (o : Option CardFault) → option_map (λ fault. At n fault) o ≡ None → o ≡ None
no_at n None h = refl
no_at n (Some fault) h = cc

lines_coded : (n : ℕ) (ls : List (List ℕ)) → fault_from n ls ≡ None → AllLinesCoded ls
lines_coded n [] h = tt
lines_coded n (line ∷ ls) h =
    let both = none_first (option_map (λ fault. At n fault) (fault_of line)) (fault_from (n + 1) ls) h in
    (faultless_coded line (no_at n (fault_of line) both.0), lines_coded (n + 1) ls both.1)

found_by : (o : Option DeckFault) (many : Bool) (all cards : List (List ℕ)) (result : Result (List (List ℕ)) DeckFault) → result ≡ Ok cards → fault_from 1 (take 9999 all) ≡ o → nat_lt 9999 (length all) ≡ many → deck_cards all ≡ result
    → (fault_from 1 (take 9999 all) ≡ None) × (nat_lt 9999 (length all) ≡ false)
unfolding deck_cards
found_by (Some fault) many all cards result is o m d = let e : Err fault ≡ result = rw o at d in cc
found_by None true all cards result is o m d = let e : Err (At 9999 TooMany) ≡ result = rw (o, m) at d in cc
found_by None false all cards result is o m d = (o, m)

deck_coded : (text : List ℕ) → IsDeck text → AllLinesCoded (lines text)
deck_coded text deck =
    let found = found_by (fault_from 1 (take 9999 (lines text))) (nat_lt 9999 (length (lines text))) (lines text) deck.0 (deck_of text) deck.1 refl refl refl in
    let few : length (lines text) ≤ 9999 = grind (arith, nat_tests, found.1) in
    lines_coded 1 (lines text) (ap (fault_from 1) (sym (take_all 9999 (lines text) few)) ∙ found.0)

cards_self : (part : Part) (n : ℕ) (ls : List (List ℕ)) → AllLinesCoded ls → all_stand part ls ≡ true → cards_from false part n ls ≡ enumerate_from n ls
unfolding cards_from all_stand
cards_self part n [] coded stood = refl
cards_self part n (line ∷ ls) coded stood =
    let both = both_true (stands part line) (all_stand (part_behind part line) ls) stood in
    let is = line_self part line coded.0 both.0 in
    ap (λ card. numbered n card ++ cards_from false (part_after part card) (n + 1) ls) is
    ∙ ap (λ more. (n, line) ∷ more) (cards_self (part_behind part line) (n + 1) ls coded.1 both.1)

-- ---- the text
abbrev ended : List (List ℕ) → List ℕ
ended ls = flat_map (λ line. line ++ 10 ∷ []) ls

joined_self : (n : ℕ) (ls : List (List ℕ)) → joined (enumerate_from n ls) ≡ ended ls
joined_self n [] = refl
joined_self n (line ∷ ls) = ap (λ more. (line ++ 10 ∷ []) ++ more) (joined_self (n + 1) ls)

abbrev NoReturn : ℕ → Type 0
NoReturn byte = (byte == 13) ≡ false

no_returns : (text : List ℕ) → list_all (λ byte. not (byte == 13)) text ≡ true → All NoReturn text
no_returns [] all = All-nil NoReturn
no_returns (b ∷ text) all = All-cons NoReturn b text (negated (b == 13) (both_true _ _ all).0) (no_returns text (both_true _ _ all).1)
  where
    negated : (b : Bool) → not b ≡ true → b ≡ false
    negated true h = cc
    negated false h = refl

onto_keeps : (x : ℕ) (parts : List (List ℕ)) → NoReturn x → All (All NoReturn) parts → All (All NoReturn) (onto_first x parts)
onto_keeps x [] h all = All-cons (All NoReturn) (x ∷ []) [] (All-cons NoReturn x [] h (All-nil NoReturn)) (All-nil (All NoReturn))
onto_keeps x (part ∷ parts) h all =
    All-cons (All NoReturn) (x ∷ part) parts (All-cons NoReturn x part h (All-head (All NoReturn) part parts all)) (All-tail (All NoReturn) part parts all)

split_by : (b : Bool) (x : ℕ) (parts : List (List ℕ)) → NoReturn x → All (All NoReturn) parts → All (All NoReturn) (cond b ([] ∷ parts) (onto_first x parts))
split_by true x parts h all = All-cons (All NoReturn) [] parts (All-nil NoReturn) all
split_by false x parts h all = onto_keeps x parts h all

split_keeps : (text : List ℕ) → All NoReturn text → All (All NoReturn) (slice_split (λ b. b == 10) text)
split_keeps [] h = All-cons (All NoReturn) [] [] (All-nil NoReturn) (All-nil (All NoReturn))
split_keeps (x ∷ text) h =
    split_by (x == 10) x (slice_split (λ b. b == 10) text) (All-head NoReturn x text h) (split_keeps text (All-tail NoReturn x text h))

strip_self : (part : List ℕ) → All NoReturn part → strip_carriage_return part ≡ part
strip_self [] h = refl
strip_self (x ∷ part) h = ap (λ (b : Bool). cond b (take (length (x ∷ part) - 1) (x ∷ part)) (x ∷ part)) (h (length (x ∷ part) - 1) 0 (omega arith))

-- what ends a text whose last line lacks its end
abbrev lacking : Bool → List ℕ
lacking true = 10 ∷ []
lacking false = []

open_card : (x : ℕ) (line : List ℕ) → AllCoded (x ∷ line) → is_open (x ∷ line) ≡ true
open_card x line coded =
    let last : (get_or (x ∷ line) (length (x ∷ line) - 1) 0 == 10) ≡ false = no_newline (get_or (x ∷ line) (length (x ∷ line) - 1) 0) (coded (length (x ∷ line) - 1) 0 (omega arith)) in
    let some : nat_lt 0 (length (x ∷ line)) ≡ true = lt-ltb 0 (length (x ∷ line)) (omega arith) in
    rw (some, last) refl

open_behind : (line text : List ℕ) → is_open (line ++ 10 ∷ text) ≡ is_open text
open_behind line [] =
    let e : length (line ++ 10 ∷ []) - 1 ≡ length line + 0 = omega (arith, length-append line (10 ∷ [])) in
    let last : get_or (line ++ 10 ∷ []) (length (line ++ 10 ∷ []) - 1) 0 ≡ 10 = ap (λ k. get_or (line ++ 10 ∷ []) k 0) e ∙ get_or-append-add line (10 ∷ []) 0 0 in
    ap (λ byte. nat_lt 0 (length (line ++ 10 ∷ [])) && not (byte == 10)) last ∙ never (nat_lt 0 (length (line ++ 10 ∷ [])))
  where
    never : (b : Bool) → (b && not (10 == 10)) ≡ false
    never true = refl
    never false = refl
open_behind line (x ∷ text) =
    let e : length (line ++ 10 ∷ x ∷ text) - 1 ≡ length line + suc (length (x ∷ text) - 1) = omega (arith, length-append line (10 ∷ x ∷ text)) in
    let last : get_or (line ++ 10 ∷ x ∷ text) (length (line ++ 10 ∷ x ∷ text) - 1) 0 ≡ get_or (x ∷ text) (length (x ∷ text) - 1) 0 =
    ap (λ k. get_or (line ++ 10 ∷ x ∷ text) k 0) e ∙ get_or-append-add line (10 ∷ x ∷ text) (suc (length (x ∷ text) - 1)) 0 in
    let some : nat_lt 0 (length (line ++ 10 ∷ x ∷ text)) ≡ true = lt-ltb 0 _ (omega (arith, length-append line (10 ∷ x ∷ text))) in
    let more : nat_lt 0 (length (x ∷ text)) ≡ true = lt-ltb 0 _ (omega arith) in
    rw (some, last, more) refl

one_part : (x : ℕ) (card : List ℕ) → lines_of_parts ((x ∷ card) ∷ []) ≡ (x ∷ card) ∷ []
one_part x card = grind arith

parts_back : (parts : List (List ℕ)) → 0 < length parts → All (All NoReturn) parts → AllLinesCoded (lines_of_parts parts)
    → ended (lines_of_parts parts) ≡ join_with_byte 10 parts ++ lacking (is_open (join_with_byte 10 parts))
parts_back [] some keeps coded = absurd (omega arith)
parts_back ([] ∷ []) some keeps coded = refl
parts_back ((x ∷ line) ∷ []) some keeps coded =
    let here : AllCoded (x ∷ line) = (subst AllLinesCoded (one_part x line) coded).0 in
    ap ended (one_part x line) ∙ append-nil ((x ∷ line) ++ 10 ∷ []) ∙ ap (λ b. (x ∷ line) ++ lacking b) (sym (open_card x line here))
parts_back (line ∷ next ∷ parts) some keeps coded =
    let rest = join_with_byte 10 (next ∷ parts) in
    let more = parts_back (next ∷ parts) (omega arith) (All-tail (All NoReturn) line (next ∷ parts) keeps) coded.1 in
    ap (λ first. (first ++ 10 ∷ []) ++ ended (lines_of_parts (next ∷ parts))) (strip_self line (All-head (All NoReturn) line (next ∷ parts) keeps))
    ∙ append_assoc line (10 ∷ []) (ended (lines_of_parts (next ∷ parts)))
    ∙ ap (λ text. line ++ 10 ∷ text) more
    ∙ sym (append_assoc line (10 ∷ rest) (lacking (is_open rest)))
    ∙ ap (λ b. (line ++ 10 ∷ rest) ++ lacking b) (sym (open_behind line rest))

text_back : (text : List ℕ) → list_all (λ byte. not (byte == 13)) text ≡ true → AllLinesCoded (lines text) → ended (lines text) ≡ text ++ lacking (is_open text)
text_back text keeps coded =
    let same : join_with_byte 10 (slice_split (λ b. b == 10) text) ≡ text = join_with_byte-slice_split 10 text in
    parts_back (slice_split (λ b. b == 10) text) (parts_are text) (split_keeps text (no_returns text keeps)) coded ∙ ap (λ t. t ++ lacking (is_open t)) same
  where
    onto_some : (x : ℕ) (parts : List (List ℕ)) → 0 < length (onto_first x parts)
    onto_some x [] = omega arith
    onto_some x (part ∷ parts) = omega arith

    cut_some : (b : Bool) (x : ℕ) (parts : List (List ℕ)) → 0 < length (cond b ([] ∷ parts) (onto_first x parts))
    cut_some true x parts = omega arith
    cut_some false x parts = onto_some x parts

    parts_are : (text : List ℕ) → 0 < length (slice_split (λ b. b == 10) text)
    parts_are [] = omega arith
    parts_are (x ∷ text) = cut_some (x == 10) x (slice_split (λ b. b == 10) text)

-- a text with the end of its last line, without it
without_self : (text : List ℕ) → is_open text ≡ true → without_end (text ++ 10 ∷ []) ≡ text
without_self text opened =
    let both = both_true (nat_lt 0 (length text)) (not (get_or text (length text - 1) 0 == 10)) opened in
    let some : 0 < length text = ltb-true _ _ both.0 in
    let long : nat_lt 1 (length (text ++ 10 ∷ [])) ≡ true = lt-ltb 1 _ (omega (arith, length-append text (10 ∷ []))) in
    let e : length (text ++ 10 ∷ []) - 2 ≡ length text - 1 = omega (arith, length-append text (10 ∷ [])) in
    let last : get_or (text ++ 10 ∷ []) (length (text ++ 10 ∷ []) - 2) 0 ≡ get_or text (length text - 1) 0 = ap (λ k. get_or (text ++ 10 ∷ []) k 0) e ∙ get_or_append_left text (10 ∷ []) 0 (length text - 1) (omega arith) in
    let f : length (text ++ 10 ∷ []) - 1 ≡ length text = omega (arith, length-append text (10 ∷ [])) in
    let whole : take (length (text ++ 10 ∷ []) - 1) (text ++ 10 ∷ []) ≡ text = ap (λ k. take k (text ++ 10 ∷ [])) f ∙ take-append-le (length text) text (10 ∷ []) (omega arith) ∙ take_all (length text) text (omega arith) in
    rw (long, last, both.1) whole

first_true : (a b : Bool) → a ≡ true → (a || b) ≡ true
first_true true b h = refl
first_true false b h = cc

last_line : (n : ℕ) (ls : List (List ℕ)) (k : ℕ) → 0 < length ls → k + 1 ≡ n + length ls → list_any (λ number. number == k) (map (λ (card : NumberedCard). card.0) (enumerate_from n ls)) ≡ true
last_line n [] k some is = absurd (omega arith)
last_line n (line ∷ []) k some is = let e : n ≡ k = omega arith in first_true (n == k) _ (eq-eqb n k e)
last_line n (line ∷ next ∷ ls) k some is = or_true (n == k) (last_line (n + 1) (next ∷ ls) k (omega arith) (omega arith))
  where
    or_true : (a : Bool) {b : Bool} → b ≡ true → (a || b) ≡ true
    or_true true h = refl
    or_true false h = h

open_some : (text : List ℕ) → is_open text ≡ true → ended (lines text) ≡ text ++ 10 ∷ [] → 0 < length (lines text)
open_some text opened back = by (lines text) back
  where
    by : (ls : List (List ℕ)) → ended ls ≡ text ++ 10 ∷ [] → 0 < length ls
    by [] e = absurd (omega (arith, ap length e, length-append text (10 ∷ [])))
    by (line ∷ ls) e = omega arith

text_self : (text : List ℕ) (test : Bool) → is_open text ≡ test → ended (lines text) ≡ text ++ lacking test → text_with text (enumerate_from 1 (lines text)) ≡ text
text_self text true opened back =
    let last : has_card (length (lines text)) (enumerate_from 1 (lines text)) ≡ true = last_line 1 (lines text) (length (lines text)) (open_some text opened back) (omega arith) in
    rw (opened, last) (ap without_end (joined_self 1 (lines text) ∙ back) ∙ without_self text opened)
text_self text false opened back = rw opened (joined_self 1 (lines text) ∙ back ∙ append-nil text)

-- a deck that is punched already comes out as it was
pub comes_out : (begun : Begun) (text : List ℕ) → begun.blanks_remarks ≡ false → IsPunched begun.part text → deck_text begun text ≡ text
comes_out begun text keeps punched =
    let coded = deck_coded text punched.is_deck in
    ap (λ b. text_with text (cards_from b begun.part 1 (lines text))) keeps
    ∙ ap (text_with text) (cards_self begun.part 1 (lines text) coded punched.stands_as_cards)
    ∙ text_self text (is_open text) refl (text_back text punched.has_no_returns coded)
