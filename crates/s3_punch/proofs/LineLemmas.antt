-- The lines of the text of cards.
use Rattle.std.proofs.Common.{◌≡◌, ◌≢◌, ℕ, zero, suc, ◌+◌, ◌-◌, ◌<◌, List, [], ◌∷◌, ◌++◌, Bool, true, false, cond, length, map, take, get_or, refl, sym, ap, ◌∙◌, arith, subst, eqb-true, inl, inr, ◌==◌, append_assoc, length-append, ◌⊎◌}
use Rattle.std.proofs.lemmas.Bool.{cases_Bool}
use Rattle.std.proofs.lemmas.List.{append-nil, get_or-append-add}
use Rattle.std.proofs.lemmas.List.Elements.{All-weaker}
use Rattle.std.proofs.lemmas.List.Splits.{length-slice_split, slice_split_at, slice_split_none}
use Rattle.std.proofs.Math.Seq.{take-append-add}
use Rattle.std.specs.List.{slice_split}
use Rattle.std.specs.Str.Lines.{lines, lines_of_parts, strip_carriage_return}
use Rattle.s3_cards.specs.Codes.{code_page}
use Rattle.s3_cards.specs.Deck.{has_code}
use Rattle.s3_punch.proofs.CodedLemmas.{AllCoded, Coded}
use Rattle.s3_punch.specs.Inner.Decks.{NumberedCard, joined}

abbrev is_newline : ℕ → Bool
is_newline byte = byte == 10

newline_has_none : has_code 10 ≡ false
unfolding code_page
newline_has_none = refl

return_has_none : has_code 13 ≡ false
unfolding code_page
return_has_none = refl

-- a byte without a code is no card character
pub coded_other : (b other : ℕ) → has_code other ≡ false → Coded b → (b == other) ≡ false
coded_other b other none coded = elim (cases_Bool (b == other)) [
  | inl same ↦ absurd (let e : has_code b ≡ has_code other = ap has_code (eqb-true b other same) in let f : true ≡ false = sym coded ∙ e ∙ none in cc)
  | inr differs ↦ differs
]

pub no_newline : (b : ℕ) → Coded b → (b == 10) ≡ false
no_newline b = coded_other b 10 newline_has_none

pub no_return : (b : ℕ) → Coded b → (b == 13) ≡ false
no_return b = coded_other b 13 return_has_none

lines_cons : (x : List ℕ) (parts : List (List ℕ)) → 0 < length parts → lines_of_parts (x ∷ parts) ≡ strip_carriage_return x ∷ lines_of_parts parts
lines_cons x [] h = absurd (omega arith)
lines_cons x (y ∷ more) h = refl

-- a card ends in no carriage return
pub keeps : (card : List ℕ) → AllCoded card → strip_carriage_return card ≡ card
keeps [] coded = refl
keeps (x ∷ card) coded =
    ap (λ (b : Bool). cond b (take (length (x ∷ card) - 1) (x ∷ card)) (x ∷ card)) (no_return (get_or (x ∷ card) (length (x ∷ card) - 1) 0) (coded (length (x ∷ card) - 1) 0 (omega arith)))

-- the first line of a text that begins with a card
pub lines_card : (card rest : List ℕ) → AllCoded card → lines (card ++ 10 ∷ rest) ≡ card ∷ lines rest
lines_card card rest coded =
    ap lines_of_parts (slice_split_at is_newline card 10 rest (All-weaker Coded (λ b. is_newline b ≡ false) no_newline card coded) refl)
    ∙ lines_cons card (slice_split is_newline rest) (omega (arith, length-slice_split is_newline rest))
    ∙ ap (λ line. line ∷ lines rest) (keeps card coded)

one_part : (x : ℕ) (card : List ℕ) → lines_of_parts ((x ∷ card) ∷ []) ≡ (x ∷ card) ∷ []
one_part x card = grind arith

-- a card without an end is a line
pub lines_last : (card : List ℕ) → AllCoded card → 0 < length card → lines card ≡ card ∷ []
lines_last [] coded some = absurd (omega arith)
lines_last (x ∷ card) coded some =
    ap lines_of_parts (slice_split_none is_newline (x ∷ card) (All-weaker Coded (λ b. is_newline b ≡ false) no_newline (x ∷ card) coded)) ∙ one_part x card

-- cards that have card characters alone
abbrev pub AllSound : List NumberedCard → Type 0
AllSound [] = Unit {0}
AllSound (card ∷ cards) = AllCoded card.1 × AllSound cards

abbrev pub texts : List NumberedCard → List (List ℕ)
texts cards = map (λ card. card.1) cards

regroup : (card rest : List ℕ) → (card ++ 10 ∷ []) ++ rest ≡ card ++ 10 ∷ rest
regroup card rest = append_assoc card (10 ∷ []) rest

pub lines_joined : (cards : List NumberedCard) → AllSound cards → lines (joined cards) ≡ texts cards
lines_joined [] sound = refl
lines_joined (card ∷ cards) sound =
    ap lines (regroup card.1 (joined cards)) ∙ lines_card card.1 (joined cards) sound.0 ∙ ap (λ more. card.1 ∷ more) (lines_joined cards sound.1)

-- ---- without the last end
-- a text whose last line is not empty and has its end
abbrev pub IsCut : List ℕ → Type 0
IsCut text = (1 < length text) × (get_or text (length text - 2) 0 ≢ 10)

some_text : (card : NumberedCard) (cards : List NumberedCard) → 0 < length (joined (card ∷ cards))
some_text card cards = omega (arith, length-append (card.1 ++ 10 ∷ []) (joined cards), length-append card.1 (10 ∷ []))

cut_front : (card rest : List ℕ) (n : ℕ) → length rest ≡ suc n → take (length (card ++ 10 ∷ rest) - 1) (card ++ 10 ∷ rest) ≡ card ++ 10 ∷ take n rest
cut_front card rest n long =
    let e : length (card ++ 10 ∷ rest) - 1 ≡ length card + suc n = omega (arith, length-append card (10 ∷ rest)) in
    ap (λ k. take k (card ++ 10 ∷ rest)) e ∙ take-append-add card (10 ∷ rest) (suc n)

cut_behind : (card rest : List ℕ) → IsCut (card ++ 10 ∷ rest) → 0 < length rest → IsCut rest
cut_behind card rest cut some = elim (cases_one (length rest) some) [
  | inl one ↦ absurd (cut.1 (ap (λ k. get_or (card ++ 10 ∷ rest) k 0) (let e : length (card ++ 10 ∷ rest) - 2 ≡ length card + 0 = omega (arith, length-append card (10 ∷ rest)) in e) ∙ get_or-append-add card (10 ∷ rest) 0 0))
  | inr more ↦ (more, λ h. cut.1 (ap (λ k. get_or (card ++ 10 ∷ rest) k 0) (let e : length (card ++ 10 ∷ rest) - 2 ≡ length card + suc (length rest - 2) = omega (arith, length-append card (10 ∷ rest)) in e) ∙ get_or-append-add card (10 ∷ rest) (suc (length rest - 2)) 0 ∙ h))
]
  where
    cases_one : (n : ℕ) → 0 < n → (n ≡ 1) ⊎ (1 < n)
    cases_one zero h = absurd (omega arith)
    cases_one (suc zero) h = inl refl
    cases_one (suc (suc n)) h = inr (omega arith)

last_cut : (card : List ℕ) → AllCoded card → IsCut (card ++ 10 ∷ []) → lines (take (length (card ++ 10 ∷ []) - 1) (card ++ 10 ∷ [])) ≡ card ∷ []
last_cut card coded cut =
    let some : 0 < length card = omega (arith, cut.0, length-append card (10 ∷ [])) in
    let e : length (card ++ 10 ∷ []) - 1 ≡ length card + 0 = omega (arith, length-append card (10 ∷ [])) in
    ap lines (ap (λ k. take k (card ++ 10 ∷ [])) e ∙ take-append-add card (10 ∷ []) 0 ∙ append-nil card) ∙ lines_last card coded some

-- the lines of the text of cards, of which the last one has no end
pub lines_cut : (cards : List NumberedCard) → AllSound cards → IsCut (joined cards) → lines (take (length (joined cards) - 1) (joined cards)) ≡ texts cards
lines_cut [] sound cut = absurd (omega (arith, cut.0))
lines_cut (card ∷ []) sound cut =
    let same : joined (card ∷ []) ≡ card.1 ++ 10 ∷ [] = append-nil (card.1 ++ 10 ∷ []) in
    ap (λ text. lines (take (length text - 1) text)) same ∙ last_cut card.1 sound.0 (subst IsCut same cut)
lines_cut (card ∷ next ∷ cards) sound cut =
    let rest = joined (next ∷ cards) in
    let same : joined (card ∷ next ∷ cards) ≡ card.1 ++ 10 ∷ rest = regroup card.1 rest in
    let some : 0 < length rest = some_text next cards in
    ap (λ text. lines (take (length text - 1) text)) same
    ∙ ap lines (cut_front card.1 rest (length rest - 1) (omega arith))
    ∙ lines_card card.1 (take (length rest - 1) rest) sound.0
    ∙ ap (λ more. card.1 ∷ more) (lines_cut (next ∷ cards) sound.1 (cut_behind card.1 rest (subst IsCut same cut) some))
