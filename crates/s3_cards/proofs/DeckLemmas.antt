-- Lemmas on decks.
use Rattle.std.proofs.Common.{◌≡◌, ℕ, ◌+◌, ◌-◌, ◌<◌, ◌≤◌, ◌≢◌, List, [], ◌∷◌, ◌++◌, Bool, true, false, cond, refl, sym, ◌∙◌, ap, arith, subst, inl, inr, length, take, drop, replicate, ltb-true, zero, eqb-true, le-ltb, lt-ltb, add-zero, append_assoc, length-append, suc, get_or, set}
use Rattle.std.specs.Prelude.{Option, Some, None, unwrap_or, is_some, not, Ok, Err, ◌==◌, ◌&&◌, map, position, nat_lt}
use Rattle.std.specs.List.{list_all, list_any, slice_split, position_or_len}
use Rattle.std.specs.Option.{option_map, option_or}
use Rattle.std.specs.Str.Lines.{lines, lines_of_parts, strip_carriage_return}
use Rattle.std.proofs.lemmas.Bool.{cases_Bool, cases_lt}
use Rattle.std.proofs.lemmas.Option.{cond_some}
use Rattle.std.proofs.lemmas.List.{take-append-le, take_all, length-map, map-append, append-nil, take_more, set-append_right, length-take-le, get_or-take}
use Rattle.std.proofs.lemmas.List.Folds.{list_all_at}
use Rattle.std.proofs.lemmas.List.Sums.{fails_before_first, position_or_len_is}
use Rattle.std.proofs.Math.Seq.{take-append-add}
use Rattle.std.proofs.lemmas.List.Splits.{slice_split_first, length-slice_split, slice_split_none}
use Rattle.s3_cards.specs.Deck.{fault_of, fault_from, cards_of, card_of, has_code}
use Rattle.s3_cards.specs.Inner.Deck.{codes_and_blanks, StartsWithCard, StartsWithFault}
use Rattle.memchr.specs.Find.{IsFirstByte, is_byte}
use Rattle.s3_cards.specs.Codes.{code_page, ebcdic_of}
use Rattle.s3_cards.proofs.CodeLemmas.{no_code}
use Rattle.s3_cards.specs.declared.deck.CardFault.{CardFault}
use Rattle.s3_cards.specs.declared.deck.CardFault.TheVariants.{TooMany, TooWide, BadCharacter}
use Rattle.s3_cards.specs.declared.deck.DeckFault.TheVariants.{At}

lines_of_parts-cons : (x : List ℕ) (parts : List (List ℕ)) → 0 < length parts → lines_of_parts (x ∷ parts) ≡ strip_carriage_return x ∷ lines_of_parts parts
lines_of_parts-cons x [] h = absurd (omega arith)
lines_of_parts-cons x (y ∷ more) h = refl

abbrev is_newline : ℕ → Bool
is_newline byte = byte == 10

position-is : (w : List ℕ) (end : ℕ) → position is_newline w ≡ Some end → (position_or_len is_newline w < length w) × (position_or_len is_newline w ≡ end)
position-is w end h =
    let both = cond_some (nat_lt (position_or_len is_newline w) (length w)) (position_or_len is_newline w) end h in
    (ltb-true _ _ both.0, both.1)

split_at_end : (w : List ℕ) (end : ℕ) → position is_newline w ≡ Some end → slice_split is_newline w ≡ take end w ∷ slice_split is_newline (drop (end + 1) w)
split_at_end w end h =
    let p = position-is w end h in
    subst (λ (e : ℕ). slice_split is_newline w ≡ take e w ∷ slice_split is_newline (drop (e + 1) w)) p.1 (slice_split_first is_newline w 0 p.0)

pub lines_at_newline : (w : List ℕ) (end : ℕ) → position is_newline w ≡ Some end → lines w ≡ strip_carriage_return (take end w) ∷ lines (drop (end + 1) w)
lines_at_newline w end h =
    ap lines_of_parts (split_at_end w end h)
    ∙ lines_of_parts-cons (take end w) (slice_split is_newline (drop (end + 1) w)) (omega (arith, length-slice_split is_newline (drop (end + 1) w)))

position-none : (w : List ℕ) → position is_newline w ≡ None → length w ≤ position_or_len is_newline w
position-none w h = elim (cases_lt (position_or_len is_newline w) (length w)) [
  | inl lt ↦ absurd (let e : nat_lt (position_or_len is_newline w) (length w) ≡ true = lt-ltb _ _ lt in let f : cond (nat_lt (position_or_len is_newline w) (length w)) (Some (position_or_len is_newline w)) None ≡ None = h in let g : Some (position_or_len is_newline w) ≡ None = rw e at f in cc)
  | inr ge ↦ ge
]

pub lines_last : (w : List ℕ) → position is_newline w ≡ None → lines w ≡ lines_of_parts (w ∷ [])
lines_last w h =
    ap lines_of_parts (slice_split_none is_newline w (λ k d below. fails_before_first is_newline w k d (let e = position-none w h in omega arith)))

-- what has been read of a list of lines: the cards so far, and the lines that are left
pub record ReadSoFar (cards all left : List (List ℕ)) : Type 0 where
  pub passed : List (List ℕ)
  pub split : all ≡ passed ++ left
  pub spelled : cards ≡ map card_of passed
  pub faultless : fault_from 1 passed ≡ None
  pub room : length cards ≤ 9999

-- the first of three options
pub option_or_assoc : {X : Type 0} (a b c : Option X) → option_or (option_or a b) c ≡ option_or a (option_or b c)
option_or_assoc None b c = refl
option_or_assoc (Some x) b c = refl

fault_from-append : (n : ℕ) (a b : List (List ℕ)) → fault_from n (a ++ b) ≡ option_or (fault_from n a) (fault_from (n + length a) b)
fault_from-append n [] b = simp add-zero
fault_from-append n (x ∷ a) b =
    let e : n + 1 + length a ≡ n + suc (length a) = omega arith in
    ap (λ r. option_or (option_map (λ fault. At n fault) (fault_of x)) r) (fault_from-append (n + 1) a b ∙ ap (λ m. option_or (fault_from (n + 1) a) (fault_from m b)) e)
    ∙ sym (option_or_assoc (option_map (λ fault. At n fault) (fault_of x)) (fault_from (n + 1) a) (fault_from (n + suc (length a)) b))

fault_within : (m n : ℕ) (passed rest : List (List ℕ)) (line : List ℕ) (fault : CardFault) → length passed < m → fault_from n passed ≡ None → fault_of line ≡ Some fault → fault_from n (take m (passed ++ line ∷ rest)) ≡ Some (At (n + length passed) fault)
fault_within m n passed rest line fault room faultless bad =
    let k : ℕ = m - length passed - 1 in
    let e : m ≡ length passed + suc k = omega arith in
    let front : take m (passed ++ line ∷ rest) ≡ passed ++ line ∷ take k rest = ap (λ j. take j (passed ++ line ∷ rest)) e ∙ take-append-add passed (line ∷ rest) (suc k) in
    ap (λ x. fault_from n x) front ∙ (fault_from-append n passed (line ∷ take k rest) ∙ (rw (faultless, bad) refl))

pub none_read : (all : List (List ℕ)) → ReadSoFar [] all all
none_read all = record { passed = []; split = refl; spelled = refl; faultless = refl; room = omega arith }

length-passed : (cards all left : List (List ℕ)) (so_far : ReadSoFar cards all left) → length so_far.passed ≡ length cards
length-passed cards all left so_far = sym (ap length so_far.spelled ∙ length-map so_far.passed card_of)

pub one_more : (cards all left : List (List ℕ)) (line : List ℕ) → ReadSoFar cards all (line ∷ left) → length cards < 9999 → fault_of line ≡ None → ReadSoFar (cards ++ card_of line ∷ []) all left
one_more cards all left line so_far room ok = record {
  passed = so_far.passed ++ line ∷ [];
  split = so_far.split ∙ sym (append_assoc so_far.passed (line ∷ []) left);
  spelled = ap (λ x. x ++ card_of line ∷ []) so_far.spelled ∙ sym (map-append card_of so_far.passed (line ∷ []));
  faultless = fault_from-append 1 so_far.passed (line ∷ []) ∙ rw (so_far.faultless, ok) refl;
  room = omega (arith, length-append cards (card_of line ∷ []));
}

pub fault_found : (cards all left : List (List ℕ)) (line : List ℕ) (fault : CardFault) → ReadSoFar cards all (line ∷ left) → length cards < 9999 → fault_of line ≡ Some fault → cards_of all ≡ Err (At (length cards + 1) fault)
unfolding cards_of
fault_found cards all left line fault so_far room bad =
    let n = length-passed cards all (line ∷ left) so_far in
    let short : length so_far.passed < 9999 = omega arith in
    let e : fault_from 1 (take 9999 all) ≡ Some (At (1 + length so_far.passed) fault) =
    ap (λ x. fault_from 1 (take 9999 x)) so_far.split ∙ fault_within 9999 1 so_far.passed left line fault short so_far.faultless bad in
    let number : 1 + length so_far.passed ≡ length cards + 1 = omega arith in
    rw (e, number) refl

pub too_many : (cards all left : List (List ℕ)) (line : List ℕ) → ReadSoFar cards all (line ∷ left) → length cards ≡ 9999 → cards_of all ≡ Err (At 9999 TooMany)
unfolding cards_of
too_many cards all left line so_far full =
    let n = length-passed cards all (line ∷ left) so_far in
    let front : take 9999 all ≡ so_far.passed =
    ap (take 9999) so_far.split ∙ (take-append-le 9999 so_far.passed (line ∷ left) (omega arith) ∙ take_all 9999 so_far.passed (omega arith)) in
    let e : fault_from 1 (take 9999 all) ≡ None = ap (fault_from 1) front ∙ so_far.faultless in
    let more : nat_lt 9999 (length all) ≡ true = lt-ltb _ _ (omega (arith, ap length so_far.split, length-append so_far.passed (line ∷ left))) in
    rw (e, more) refl

pub all_read : (cards all : List (List ℕ)) → ReadSoFar cards all [] → cards_of all ≡ Ok cards
unfolding cards_of
all_read cards all so_far =
    let n = length-passed cards all [] so_far in
    let whole : all ≡ so_far.passed = so_far.split ∙ append-nil so_far.passed in
    let front : take 9999 all ≡ so_far.passed = ap (take 9999) whole ∙ take_all 9999 so_far.passed (omega arith) in
    let e : fault_from 1 (take 9999 all) ≡ None = ap (fault_from 1) front ∙ so_far.faultless in
    let more : nat_lt 9999 (length all) ≡ false = le-ltb _ _ (omega (arith, ap length whole)) in
    rw (e, more) (ap Ok (ap (map card_of) whole ∙ sym so_far.spelled))

-- the code of a byte, and 0 where it has none
abbrev code : ℕ → ℕ
code byte = unwrap_or (ebcdic_of byte) 0

-- one more byte of a line
pub byte_more : (line card : List ℕ) (i b : ℕ) → i < length line → length line ≤ 96 → card ≡ map code (take i line) ++ replicate (96 - i) 0x40
    → code (get_or line i 0) ≡ b → set card i b ≡ map code (take (i + 1) line) ++ replicate (96 - (i + 1)) 0x40
byte_more line card i b in' short so_far is_code =
    let k : ℕ = 96 - (i + 1) in
    let e : 96 - i ≡ suc k = omega arith in
    let n : length (map code (take i line)) ≡ i = length-map (take i line) code ∙ length-take-le i line (omega arith) in
    let zero' : i - i ≡ 0 = omega arith in
    let tail : set (replicate (96 - i) 0x40) (i - i) b ≡ b ∷ replicate k 0x40 = rw (zero', e) refl in
    let front : map code (take (i + 1) line) ≡ map code (take i line) ++ b ∷ [] =
    ap (map code) (take_more line i 0 in') ∙ (map-append code (take i line) (get_or line i 0 ∷ []) ∙ ap (λ x. map code (take i line) ++ x ∷ []) is_code) in
    ap (λ x. set x i b) so_far
    ∙ (set-append_right (map code (take i line)) (replicate (96 - i) 0x40) i i b n (omega arith)
    ∙ (ap (λ x. map code (take i line) ++ x) tail
    ∙ (sym (append_assoc (map code (take i line)) (b ∷ []) (replicate k 0x40)) ∙ sym (ap (λ x. x ++ replicate k 0x40) front))))

not_true : (b : Bool) → (b ≡ true → ⊥) → b ≡ false
not_true true h = absurd (h refl)
not_true false h = refl

place_where : (test : ℕ → Bool) (w : List ℕ) (i : ℕ) → i ≤ length w → ((k : ℕ) → k < i → test (get_or w k 0) ≡ false) → (i < length w → test (get_or w i 0) ≡ true)
    → position test w ≡ cond (nat_lt i (length w)) (Some i) None
place_where test w i within before at =
    ap (λ (n : ℕ). cond (nat_lt n (length w)) (Some n) None) (position_or_len_is test w i 0 within before at)

-- the first place by a search is the first place by recursion
pub first_place : (byte : ℕ) (w : List ℕ) (r : Option ℕ) → IsFirstByte (is_byte byte) w r → r ≡ position (λ x. x == byte) w
first_place byte w None nowhere =
    sym (place_where (is_byte byte) w (length w) (omega arith) (λ k below. not_true _ (nowhere k (omega arith) below)) (λ h. absurd (omega arith))
    ∙ ap (λ (b : Bool). cond b (Some (length w)) None) (le-ltb (length w) (length w) (omega arith)))
first_place byte w (Some i) found =
    sym (place_where (is_byte byte) w i (omega (arith, found.0.high)) (λ k below. not_true _ (found.0.before k (omega arith) below)) (λ h. found.1)
    ∙ ap (λ (b : Bool). cond b (Some i) None) (lt-ltb i (length w) found.0.high))

abbrev is_zero : ℕ → Bool
is_zero code = code == 0

no_zero_blank : (n : ℕ) → list_any is_zero (replicate n 0x40) ≡ false
no_zero_blank zero = refl
no_zero_blank (suc n) = no_zero_blank n

-- among the codes of a line there is a 0 where a byte of it has no code, and there alone
zero_coded : (line : List ℕ) (n : ℕ) → list_any is_zero (map code line ++ replicate n 0x40) ≡ not (list_all has_code line)
zero_coded [] n = no_zero_blank n
zero_coded (x ∷ line) n = by (ebcdic_of x) refl (zero_coded line n)
  where
    by : (o : Option ℕ) → ebcdic_of x ≡ o → list_any is_zero (map code line ++ replicate n 0x40) ≡ not (list_all has_code line)
        → list_any is_zero (map code (x ∷ line) ++ replicate n 0x40) ≡ not (list_all has_code (x ∷ line))
    by None e more = rw e refl
    by (Some c) e more = elim (cases_Bool (is_zero c)) [
      | inl h ↦ absurd (let none : ebcdic_of x ≡ None = no_code x (ap (λ (o : Option ℕ). unwrap_or o 0) e ∙ eqb-true c 0 h) in cc)
      | inr h ↦ rw (e, h) more
    ]

all_coded : (line : List ℕ) → list_all has_code line ≡ true → map code line ≡ map (λ byte. unwrap_or (ebcdic_of byte) 0x40) line
all_coded [] h = refl
all_coded (x ∷ line) h = go (ebcdic_of x) (λ rest. all_coded line rest) h
  where
    go : (o : Option ℕ) → (list_all has_code line ≡ true → map code line ≡ map (λ byte. unwrap_or (ebcdic_of byte) 0x40) line) → (is_some o && list_all has_code line) ≡ true → unwrap_or o 0 ∷ map code line ≡ unwrap_or o 0x40 ∷ map (λ byte. unwrap_or (ebcdic_of byte) 0x40) line
    go None more h = cc
    go (Some c) more h = ap (λ xs. c ∷ xs) (more h)

-- the same three, where an equation says what is left
pub fault_at : (cards all left after : List (List ℕ)) (line : List ℕ) (fault : CardFault) → ReadSoFar cards all left → left ≡ line ∷ after → length cards < 9999 → fault_of line ≡ Some fault → cards_of all ≡ Err (At (length cards + 1) fault)
fault_at cards all left after line fault so_far e room bad = fault_found cards all after line fault (subst (λ (x : List (List ℕ)). ReadSoFar cards all x) e so_far) room bad

pub too_many_at : (cards all left after : List (List ℕ)) (line : List ℕ) → ReadSoFar cards all left → left ≡ line ∷ after → length cards ≡ 9999 → cards_of all ≡ Err (At 9999 TooMany)
too_many_at cards all left after line so_far e full = too_many cards all after line (subst (λ (x : List (List ℕ)). ReadSoFar cards all x) e so_far) full

pub all_read_at : (cards all left : List (List ℕ)) → ReadSoFar cards all left → left ≡ [] → cards_of all ≡ Ok cards
all_read_at cards all left so_far e = all_read cards all (subst (λ (x : List (List ℕ)). ReadSoFar cards all x) e so_far)

pub lines_after_newline : (w line after : List ℕ) (end : ℕ) → position is_newline w ≡ Some end → line ≡ strip_carriage_return (take end w) → after ≡ drop (end + 1) w → lines w ≡ line ∷ lines after
lines_after_newline w line after end h e f = rw (e, f) (lines_at_newline w end h)

not_twice : (a b : Bool) → a ≡ not b → b ≡ not a
not_twice a true h = sym (ap not h)
not_twice a false h = sym (ap not h)

-- the codes of a line have a 0 exactly where the line has a bad character
coded : (line card : List ℕ) (any : Bool) → card ≡ codes_and_blanks line → any ≡ list_any is_zero card → list_all has_code line ≡ not any
coded line card any is found = not_twice any (list_all has_code line) (found ∙ ap (list_any is_zero) is ∙ zero_coded line (96 - length line))

pub clean_line : (line card : List ℕ) (any : Bool) → card ≡ codes_and_blanks line → any ≡ list_any is_zero card → any ≡ false → list_all has_code line ≡ true
clean_line line card any is found none = coded line card any is found ∙ ap not none

pub spoiled_line : (line card : List ℕ) (any : Bool) → card ≡ codes_and_blanks line → any ≡ list_any is_zero card → any ≡ true → list_all has_code line ≡ false
spoiled_line line card any is found one = coded line card any is found ∙ ap not one

pub clean_card : (line card : List ℕ) (any : Bool) → card ≡ codes_and_blanks line → any ≡ list_any is_zero card → any ≡ false → card ≡ card_of line
unfolding card_of
clean_card line card any is found none = is ∙ ap (λ x. x ++ replicate (96 - length line) 0x40) (all_coded line (clean_line line card any is found none))

-- ---- a line whose width is likely
all_sound : (line : List ℕ) → fault_of line ≡ None → list_all has_code line ≡ true
unfolding fault_of
all_sound line h = go (nat_lt 96 (length line)) (list_all has_code line) h
  where
    go : (wide all : Bool) → cond wide (Some TooWide) (cond all None (Some BadCharacter)) ≡ None → all ≡ true
    go true all h = cc
    go false true h = refl
    go false false h = cc

newline_has_none : has_code 10 ≡ false
unfolding code_page
newline_has_none = refl

carriage_return_has_none : has_code 13 ≡ false
unfolding code_page
carriage_return_has_none = refl

-- a line without a fault has no byte without a code
stands_not : (line : List ℕ) (k byte : ℕ) → fault_of line ≡ None → k < length line → has_code byte ≡ false → (get_or line k 0 == byte) ≡ false
stands_not line k byte sound within none = elim (cases_Bool (get_or line k 0 == byte)) [
  | inl h ↦ absurd
      (let lacks : list_all has_code line ≡ false = list_all_at has_code line k 0 within (ap has_code (eqb-true _ _ h) ∙ none) in let all = all_sound line sound in cc)
  | inr h ↦ h
]

keeps_whole : (line : List ℕ) → fault_of line ≡ None → strip_carriage_return line ≡ line
keeps_whole [] sound = refl
keeps_whole (x ∷ line) sound =
    ap (λ (b : Bool). cond b (take (length (x ∷ line) - 1) (x ∷ line)) (x ∷ line))
    (stands_not (x ∷ line) (length (x ∷ line) - 1) 13 sound (omega arith) carriage_return_has_none)

newline_at : (w : List ℕ) (width : ℕ) → width < length w → get_or w width 0 ≡ 10 → fault_of (take width w) ≡ None → position is_newline w ≡ Some width
newline_at w width within ends sound =
    place_where is_newline w width (omega arith)
    (λ k below. ap is_newline (sym (get_or-take width w k 0 below)) ∙ stands_not (take width w) k 10 sound (omega (arith, length-take-le width w (omega arith))) newline_has_none)
    (λ h. ap is_newline ends)
    ∙ ap (λ (b : Bool). cond b (Some width) None) (lt-ltb width (length w) within)

-- the text before a newline is the first line, if it has no fault
pub likely_line : (w card after : List ℕ) (width : ℕ) → width < length w → get_or w width 0 ≡ 10 → fault_of (take width w) ≡ None → card ≡ card_of (take width w)
    → after ≡ drop (width + 1) w → StartsWithCard w card after
likely_line w card after width within ends sound is left =
    (take width w, lines_at_newline w width (newline_at w width within ends sound) ∙ rw (keeps_whole (take width w) sound, left) refl, sound, is)

-- a text that isn't empty has a first line
pub has_first : (w : List ℕ) → w ≢ [] → (line : List ℕ) × (left : List (List ℕ)) × (lines w ≡ line ∷ left)
has_first w some = by (position is_newline w) refl
  where
    by : (o : Option ℕ) → position is_newline w ≡ o → (line : List ℕ) × (left : List (List ℕ)) × (lines w ≡ line ∷ left)
    by (Some end) e = (strip_carriage_return (take end w), lines (drop (end + 1) w), lines_at_newline w end e)
    by None e = (w, [], lines_last w e ∙ whole w some)
      where
        whole : (x : List ℕ) → x ≢ [] → lines_of_parts (x ∷ []) ≡ x ∷ []
        whole [] some = absurd (some refl)
        whole (y ∷ x) some = grind arith

-- the steps of reading a text
pub one_more_at : (cards all : List (List ℕ)) (text card after : List ℕ) → ReadSoFar cards all (lines text) → length cards < 9999 → StartsWithCard text card after
    → ReadSoFar (cards ++ card ∷ []) all (lines after)
one_more_at cards all text card after so_far room first =
    subst (λ c. ReadSoFar (cards ++ c ∷ []) all (lines after)) (sym first.3) (one_more cards all (lines after) first.0 (subst (λ x. ReadSoFar cards all x) first.1 so_far) room first.2)

pub fault_first : (cards all : List (List ℕ)) (text : List ℕ) (fault : CardFault) → ReadSoFar cards all (lines text) → length cards < 9999 → StartsWithFault text fault
    → cards_of all ≡ Err (At (length cards + 1) fault)
fault_first cards all text fault so_far room first = fault_at cards all (lines text) first.1 first.0 fault so_far first.2 room first.3

pub too_many_left : (cards all : List (List ℕ)) (text : List ℕ) → ReadSoFar cards all (lines text) → text ≢ [] → length cards ≡ 9999 → cards_of all ≡ Err (At 9999 TooMany)
too_many_left cards all text so_far some full = let first = has_first text some in too_many_at cards all (lines text) first.1 first.0 so_far first.2 full
