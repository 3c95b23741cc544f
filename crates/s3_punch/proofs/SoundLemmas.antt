-- Where nothing is reported, the text that comes out is a deck.
use Rattle.std.proofs.Common.{◌≡◌, ℕ, ◌+◌, ◌-◌, ◌≤◌, List, [], ◌∷◌, ◌++◌, Bool, true, false, cond, not, Option, Some, None, length, map, take, get_or, refl, ap, ◌∙◌, arith, subst, inl, inr, ◌==◌, ◌&&◌, le-ltb}
use Rattle.std.specs.Prelude.{Ok, nat_lt}
use Rattle.std.proofs.lemmas.Bool.{cases_lt}
use Rattle.std.proofs.lemmas.List.{length-map, take_all}
use Rattle.std.proofs.lemmas.List.Elements.{All-tail}
use Rattle.std.specs.List.{list_all}
use Rattle.std.specs.Option.{option_map}
use Rattle.std.specs.Str.Lines.{lines}
use Rattle.bstr.specs.Utf8.{lossy_chars}
use Rattle.s3_cards.specs.Deck.{card_of, cards_of as deck_cards, fault_from, fault_of, has_code}
use Rattle.s3_punch.proofs.CodedLemmas.{AllCoded, Coded, line_coded}
use Rattle.s3_punch.proofs.LineLemmas.{AllSound, IsCut, lines_cut, lines_joined, texts}
use Rattle.s3_punch.specs.Inner.Cards.{card_by, card_of_line, form_of}
use Rattle.s3_punch.specs.Inner.Decks.{IsDeck, NumberedCard, card_of_bytes, cards_after, cards_from, cards_of, deck_text, has_card, faults_from, faults_of, is_open, joined, numbered, part_after, surplus_fault, without_end}
use Rattle.s3_punch.specs.Inner.Faults.{card_faults, character_faults, fault_if, faults_of_line, form_faults, width_fault}
use Rattle.s3_punch.specs.Inner.Parts.{is_data, is_source}
use Rattle.s3_punch.specs.declared.deck.Begun.{Begun}
use Rattle.s3_punch.specs.declared.fault.PunchReason.{PunchReason}
use Rattle.s3_punch.specs.declared.form.LineForm.{LineForm}
use Rattle.s3_punch.specs.declared.form.LineForm.TheVariants.{InPieces, Plain}
use Rattle.s3_punch.specs.declared.part.Part.{Part}

both_empty : {X : Type 0} (xs ys : List X) → xs ++ ys ≡ [] → (xs ≡ []) × (ys ≡ [])
both_empty [] ys h = (refl, h)
both_empty (x ∷ xs) ys h = cc

not_told : (test : Bool) (line column : ℕ) (reason : PunchReason) → fault_if test line column reason ≡ [] → test ≡ false
not_told true line column reason h = cc
not_told false line column reason h = refl

-- ---- one card
all_true : (card : List ℕ) → AllCoded card → list_all has_code card ≡ true
all_true [] coded = refl
all_true (x ∷ card) coded =
    let first : has_code x ≡ true = coded 0 0 (omega arith) in
    let more : list_all has_code card ≡ true = all_true card (All-tail Coded x card coded) in
    rw (first, more) refl

sound_card : (card : List ℕ) → AllCoded card → nat_lt 96 (length card) ≡ false → fault_of card ≡ None
unfolding fault_of
sound_card card coded narrow = rw (narrow, all_true card coded) refl

narrow_card : (line : ℕ) (cs card : List ℕ) (form : LineForm) → card_faults line cs card form ≡ [] → nat_lt 96 (length card) ≡ false
narrow_card line cs card InPieces h = not_told (nat_lt 96 (length card)) line 97 _ (both_empty _ (width_fault line card) h).1
narrow_card line cs card Plain h = not_told (nat_lt 96 (length card)) line 97 _ (both_empty (character_faults line cs) (width_fault line card) h).1

narrow_form : (blanks : Bool) (part : Part) (line : ℕ) (cs card : List ℕ) (form : Option LineForm) → form_faults blanks part line cs form ≡ [] → option_map (card_by blanks (is_source part) cs) form ≡ Some card
    → nat_lt 96 (length card) ≡ false
narrow_form blanks part line cs card None h is = cc
narrow_form blanks part line cs card (Some form) h is =
    let e : card_by blanks (is_source part) cs form ≡ card = cc in
    subst (λ x. nat_lt 96 (length x) ≡ false) e (narrow_card line cs (card_by blanks (is_source part) cs form) form h)

-- a card of a line about which nothing is reported has no fault
line_sound : (blanks : Bool) (part : Part) (line : ℕ) (cs card : List ℕ) → faults_of_line blanks part line cs ≡ [] → card_of_line blanks part cs ≡ Some card → fault_of card ≡ None
unfolding card_of_line faults_of_line
line_sound blanks part line cs card h is =
    sound_card card (line_coded blanks part cs card is) (narrow_form blanks part line cs card (form_of (is_data part) cs) h is)

-- ---- all cards
abbrev pub AllFaultless : List NumberedCard → Type 0
AllFaultless [] = Unit {0}
AllFaultless (card ∷ cards) = (fault_of card.1 ≡ None) × AllFaultless cards

no_fault_from : (n : ℕ) (cards : List NumberedCard) → AllFaultless cards → fault_from n (texts cards) ≡ None
no_fault_from n [] h = refl
no_fault_from n (card ∷ cards) h = rw h.0 (no_fault_from (n + 1) cards h.1)

-- cards without a fault, of which there are not too many, are a deck
deck_with : (all : List (List ℕ)) → fault_from 1 all ≡ None → length all ≤ 9999 → deck_cards all ≡ Ok (map card_of all)
unfolding deck_cards
deck_with all sound few =
    let e : fault_from 1 (take 9999 all) ≡ None = ap (fault_from 1) (take_all 9999 all few) ∙ sound in
    let more : nat_lt 9999 (length all) ≡ false = le-ltb _ _ few in
    rw (e, more) refl

-- what is known of cards from some line on
pub record AreCards (cards : ℕ) (all : List NumberedCard) : Type 0 where
  pub coded : AllSound all
  pub faultless : AllFaultless all
  pub few : cards + length all ≤ 9999

one_more : (blanks : Bool) (part : Part) (cards line : ℕ) (bytes : List ℕ) (all : List NumberedCard) (card : Option (List ℕ)) → card_of_bytes blanks part bytes ≡ card
    → faults_of_line blanks part line (lossy_chars bytes) ++ surplus_fault cards line card ≡ [] → AreCards (cards_after cards card) all → AreCards cards (numbered line card ++ all)
one_more blanks part cards line bytes all None is told rest = record { coded = rest.coded; faultless = rest.faultless; few = rest.few }
one_more blanks part cards line bytes all (Some card) is told rest =
    let both = both_empty (faults_of_line blanks part line (lossy_chars bytes)) (surplus_fault cards line (Some card)) told in
    record {
      coded = (line_coded blanks part (lossy_chars bytes) card is, rest.coded);
      faultless = (line_sound blanks part line (lossy_chars bytes) card both.0 is, rest.faultless);
      few = let f = rest.few in omega arith;
    }

room_after : (cards line : ℕ) (card : Option (List ℕ)) → surplus_fault cards line card ≡ [] → cards ≤ 9999 → cards_after cards card ≤ 9999
room_after cards line None h few = few
room_after cards line (Some card) h few =
    let other : ((cards == 9999) && true) ≡ false = not_told ((cards == 9999) && true) line 1 _ h in
    elim (cases_lt cards 9999) [
      | inl lt ↦ omega arith
      | inr ge ↦ let e : cards ≡ 9999 = omega arith in absurd (let f : ((9999 == 9999) && true) ≡ false = subst (λ (n : ℕ). ((n == 9999) && true) ≡ false) e other in cc)
    ]

cards_sound : (blanks : Bool) (part : Part) (cards line : ℕ) (ls : List (List ℕ)) → cards ≤ 9999 → faults_from blanks part cards line ls ≡ [] → AreCards cards (cards_from blanks part line ls)
unfolding faults_from cards_from
cards_sound blanks part cards line [] few told = record { coded = tt; faultless = tt; few = omega arith }
cards_sound blanks part cards line (bytes ∷ more) few told =
    let card = card_of_bytes blanks part bytes in
    let both = both_empty (faults_of_line blanks part line (lossy_chars bytes) ++ surplus_fault cards line card) (faults_from blanks (part_after part card) (cards_after cards card) (line + 1) more) told in
    let here = both_empty (faults_of_line blanks part line (lossy_chars bytes)) (surplus_fault cards line card) both.0 in
    one_more blanks part cards line bytes (cards_from blanks (part_after part card) (line + 1) more) card refl both.0
    (cards_sound blanks (part_after part card) (cards_after cards card) (line + 1) more (room_after cards line card here.1 few) both.1)

-- ---- the text
cut_by : (a b : Bool) (text : List ℕ) → (nat_lt 1 (length text) && not (get_or text (length text - 2) 0 == 10)) ≡ true → IsCut text
cut_by a b text h = grind arith

lines_without : (cards : List NumberedCard) (test : Bool) → (nat_lt 1 (length (joined cards)) && not (get_or (joined cards) (length (joined cards) - 2) 0 == 10)) ≡ test → AllSound cards
    → lines (cond test (take (length (joined cards) - 1) (joined cards)) (joined cards)) ≡ texts cards
lines_without cards true is sound = lines_cut cards sound (cut_by true true (joined cards) is)
lines_without cards false is sound = lines_joined cards sound

lines_with : (test : Bool) (cards : List NumberedCard) → AllSound cards → lines (cond test (without_end (joined cards)) (joined cards)) ≡ texts cards
lines_with true cards sound = lines_without cards (nat_lt 1 (length (joined cards)) && not (get_or (joined cards) (length (joined cards) - 2) 0 == 10)) refl sound
lines_with false cards sound = lines_joined cards sound

-- where nothing is reported, `Deck::read` takes what comes out
pub is_deck : (begun : Begun) (text : List ℕ) → begun.cards ≤ 9999 → faults_of begun text ≡ [] → IsDeck (deck_text begun text)
is_deck begun text few told =
    let cards = cards_of begun text in
    let known = cards_sound begun.blanks_remarks begun.part begun.cards 1 (lines text) few told in
    let same : lines (deck_text begun text) ≡ texts cards = lines_with (is_open text && has_card (length (lines text)) cards) cards known.coded in
    let short : length (texts cards) ≤ 9999 = let f = known.few in omega (arith, length-map cards (λ (card : NumberedCard). card.1)) in
    (map card_of (texts cards), ap deck_cards same ∙ deck_with (texts cards) (no_fault_from 1 cards known.faultless) short)
