-- Lemmas about the parameters of statements.
use Rattle.std.proofs.Common.{◌≡◌, ℕ, ◌+◌, ◌-◌, ◌<◌, ◌≤◌, List, [], ◌∷◌, ◌++◌, Bool, true, false, refl, sym, ◌∙◌, ap, subst, arith, length, drop, append_assoc, length-append, suc, inl, inr, add-one}
use Rattle.std.specs.Prelude.{Option, Some, None, ◌&&◌, slice_get, unwrap_or}
use Rattle.std.proofs.lemmas.Option.{slice_get_within, slice_get_cases, get_or_from_slice_get}
use Rattle.std.proofs.Math.Seq.{drop-cons}
use Rattle.std.specs.List.{before_first, last_or, slice_split}
use Rattle.std.proofs.lemmas.List.{append-nil, drop_all}
use Rattle.s3_ocl.specs.declared.parameters.Verb.{Verb}
use Rattle.s3_ocl.specs.declared.statements.Piece.{Piece}
use Rattle.s3_ocl.specs.Signs.{is_comma}
use Rattle.s3_ocl.specs.Cards.{is_continuation, first_word, second_word}
use Rattle.s3_ocl.specs.Parameters.{verb_of, goes_on, parts_of}
use Rattle.s3_ocl.specs.Statements.{piece_of, texts_behind, pieces_in, pieces_from, pieces_of, statement_at}
use Rattle.s3_ocl.specs.Inner.Steps.{pieces_more}

-- an empty text adds no parameters
pub no_parts : (verb : Verb) (number : ℕ) (pieces : List Piece) (text : List ℕ) → length text ≡ 0 → pieces ++ pieces_in verb number (length pieces) (parts_of text) ≡ pieces
unfolding pieces_in
no_parts verb number pieces [] e = append-nil pieces
no_parts verb number pieces (x ∷ text) e = absurd (omega arith)

-- these parameters, with those of the remaining text, are all parameters
abbrev pub Leaves : Verb → ℕ → List Piece → List Piece → List ℕ → Type 0
Leaves verb number all pieces left = all ≡ pieces ++ pieces_in verb number (length pieces) (slice_split is_comma left)

add_one : (verb : Verb) (number : ℕ) (pieces : List Piece) (part : List ℕ) (parts : List (List ℕ))
    → pieces ++ pieces_in verb number (length pieces) (part ∷ parts)
    ≡ (pieces ++ piece_of verb number (length pieces) part ∷ [])
    ++ pieces_in verb number (length (pieces ++ piece_of verb number (length pieces) part ∷ [])) parts
unfolding pieces_in
add_one verb number pieces part parts =
    let piece : Piece = piece_of verb number (length pieces) part in
    let n : length (pieces ++ piece ∷ []) ≡ length pieces + 1 = length-append pieces (piece ∷ []) in
    rw n (sym (append_assoc pieces (piece ∷ []) (pieces_in verb number (length pieces + 1) parts)))

pub one_more_piece : (verb : Verb) (number : ℕ) (all pieces new : List Piece) (left part after : List ℕ) → Leaves verb number all pieces left
    → slice_split is_comma left ≡ before_first is_comma left ∷ slice_split is_comma after → part ≡ before_first is_comma left
    → new ≡ pieces ++ piece_of verb number (length pieces) part ∷ [] → Leaves verb number all new after
one_more_piece verb number all pieces new left part after so_far split is added =
    rw (added, is) (so_far ∙ (ap (λ parts. pieces ++ pieces_in verb number (length pieces) parts) split ∙ add_one verb number pieces (before_first is_comma left) (slice_split is_comma after)))

pub last_piece : (verb : Verb) (number : ℕ) (all pieces new : List Piece) (left part : List ℕ) → Leaves verb number all pieces left
    → slice_split is_comma left ≡ before_first is_comma left ∷ [] → part ≡ before_first is_comma left
    → new ≡ pieces ++ piece_of verb number (length pieces) part ∷ [] → all ≡ new
unfolding pieces_in
last_piece verb number all pieces new left part so_far split is added =
    rw (added, is) (so_far ∙ ap (λ parts. pieces ++ pieces_in verb number (length pieces) parts) split)

not_open : (text : List ℕ) (left : List (List ℕ)) → goes_on text ≡ false → texts_behind text left ≡ []
unfolding texts_behind
not_open text [] h = refl
not_open text (card ∷ left) h = rw h refl

-- a statement whose text doesn't end with a comma isn't continued
pub text_ends : (text : List ℕ) (cards : List (List ℕ)) (place : ℕ) → goes_on text ≡ false → texts_behind text (drop place cards) ≡ []
text_ends text cards place h = not_open text (drop place cards) h

pub past : (cards : List (List ℕ)) (place : ℕ) → slice_get cards place ≡ None → length cards ≤ place
past cards place h = elim (slice_get_cases cards place).1 [
  | inl within ↦ absurd (let e : Some within.0 ≡ None = sym within.2 ∙ h in cc)
  | inr beyond ↦ beyond.0
]

-- a statement isn't continued after the last card
pub cards_end : (text : List ℕ) (cards : List (List ℕ)) (place : ℕ) → slice_get cards place ≡ None → texts_behind text (drop place cards) ≡ []
unfolding texts_behind
cards_end text cards place h = rw (drop_all place cards (past cards place h)) refl

pub at_card : (cards : List (List ℕ)) (place : ℕ) (card : List ℕ) → slice_get cards place ≡ Some card → drop place cards ≡ card ∷ drop (place + 1) cards
at_card cards place card h =
    drop-cons cards place [] (slice_get_within cards place card h) ∙ rw (get_or_from_slice_get cards place card [] h, sym (add-one place)) refl

and_no : (b : Bool) → (b && false) ≡ false
and_no true = refl
and_no false = refl

-- a statement isn't continued by a card that isn't a continuation
pub other_card : (text : List ℕ) (cards : List (List ℕ)) (place : ℕ) (card : List ℕ) → slice_get cards place ≡ Some card → is_continuation card ≡ false
    → texts_behind text (drop place cards) ≡ []
unfolding texts_behind
other_card text cards place card h other = rw (at_card cards place card h, other, and_no (goes_on text)) refl

pub text_goes_on : (text next : List ℕ) (cards : List (List ℕ)) (place : ℕ) (card : List ℕ) → goes_on text ≡ true → slice_get cards place ≡ Some card
    → is_continuation card ≡ true → next ≡ first_word card
    → texts_behind text (drop place cards) ≡ next ∷ texts_behind next (drop (place + 1) cards)
unfolding texts_behind
text_goes_on text next cards place card goes h continues is = rw (at_card cards place card h, goes, continues, is) refl

-- the parameters of the remaining texts, after these
abbrev pub pieces_left : Option Verb → ℕ → List Piece → List (List ℕ) → List Piece
pieces_left None number pieces texts = []
pieces_left (Some verb) number pieces texts = pieces_from verb number (length pieces) texts

-- the cards read so far of the statement at a place; `text` is the text of the last one
pub record CardsSoFar (verb : Option Verb) (cards : List (List ℕ)) (place end : ℕ) (first text : List ℕ) (pieces : List Piece) : Type 0 where
  pub passed : List (List ℕ)
  pub split : first ∷ texts_behind first (drop (place + 1) cards) ≡ passed ++ texts_behind text (drop end cards)
  pub count : length passed + place ≡ end
  pub within : end ≤ length cards
  pub begun : place < end
  pub last : last_or (Some first) (texts_behind first (drop (place + 1) cards)) ≡ last_or (Some text) (texts_behind text (drop end cards))
  pub read : pieces_of verb (place + 1) (first ∷ texts_behind first (drop (place + 1) cards)) ≡ pieces ++ pieces_left verb (end + 1) pieces (texts_behind text (drop end cards))

length-pieces_in : (verb : Verb) (number place : ℕ) (parts : List (List ℕ)) → length (pieces_in verb number place parts) ≡ length parts
unfolding pieces_in
length-pieces_in verb number place [] = refl
length-pieces_in verb number place (part ∷ parts) = ap suc (length-pieces_in verb number (place + 1) parts)

-- one more of the remaining texts is read
read_more : (verb : Option Verb) (number : ℕ) (pieces new : List Piece) (text : List ℕ) (texts : List (List ℕ))
    → new ≡ pieces ++ pieces_more verb number pieces text → pieces ++ pieces_left verb number pieces (text ∷ texts) ≡ new ++ pieces_left verb (number + 1) new texts
unfolding pieces_from
read_more None number pieces new text texts is = rw is (ap (λ x. x ++ []) (sym (append-nil pieces)))
read_more (Some verb) number pieces new text texts is =
    let n : length new ≡ length pieces + length (parts_of text) =
    ap length is ∙ (length-append pieces (pieces_in verb number (length pieces) (parts_of text)) ∙ ap (λ m. length pieces + m) (length-pieces_in verb number (length pieces) (parts_of text))) in
    rw n (rw is (sym (append_assoc pieces (pieces_in verb number (length pieces) (parts_of text)) (pieces_from verb (number + 1) (length pieces + length (parts_of text)) texts))))

pub first_card_read : (verb : Option Verb) (cards : List (List ℕ)) (place number : ℕ) (text : List ℕ) (pieces new : List Piece) → place < length cards → number ≡ place + 1
    → pieces ≡ [] → new ≡ pieces ++ pieces_more verb number pieces text → CardsSoFar verb cards place (place + 1) text text new
first_card_read verb cards place number text pieces new in' is none added =
    let rest : List (List ℕ) = texts_behind text (drop (place + 1) cards) in
    record {
      passed = text ∷ [];
      split = refl;
      count = omega arith;
      within = omega arith;
      begun = omega arith;
      last = refl;
      read = first_pieces verb (place + 1) text rest ∙ read_more verb (place + 1) [] new text rest (subst (λ (xs : List Piece). new ≡ xs ++ pieces_more verb (place + 1) xs text) none (subst (λ (n : ℕ). new ≡ pieces ++ pieces_more verb n pieces text) is added));
    }
  where
    first_pieces : (verb : Option Verb) (number : ℕ) (text : List ℕ) (rest : List (List ℕ)) → pieces_of verb number (text ∷ rest) ≡ [] ++ pieces_left verb number [] (text ∷ rest)
    first_pieces None number text rest = refl
    first_pieces (Some verb) number text rest = refl

pub one_more_card : (verb : Option Verb) (cards : List (List ℕ)) (place end number : ℕ) (first text next : List ℕ) (pieces new : List Piece) → CardsSoFar verb cards place end first text pieces
    → texts_behind text (drop end cards) ≡ next ∷ texts_behind next (drop (end + 1) cards) → end < length cards → number ≡ end + 1
    → new ≡ pieces ++ pieces_more verb number pieces next → CardsSoFar verb cards place (end + 1) first next new
one_more_card verb cards place end number first text next pieces new so_far more in' is added =
    let rest : List (List ℕ) = texts_behind next (drop (end + 1) cards) in
    record {
      passed = so_far.passed ++ next ∷ [];
      split = so_far.split ∙ (ap (λ x. so_far.passed ++ x) more ∙ sym (append_assoc so_far.passed (next ∷ []) rest));
      count = omega (arith, so_far.count, length-append so_far.passed (next ∷ []));
      within = omega arith;
      begun = omega (arith, so_far.begun);
      last = so_far.last ∙ ap (last_or (Some text)) more;
      read = so_far.read ∙ (ap (λ x. pieces ++ pieces_left verb (end + 1) pieces x) more ∙ read_more verb (end + 1) pieces new next rest (subst (λ (n : ℕ). new ≡ pieces ++ pieces_more verb n pieces next) is added));
    }

pieces_left-nil : (verb : Option Verb) (number : ℕ) (pieces : List Piece) → pieces_left verb number pieces [] ≡ []
unfolding pieces_from
pieces_left-nil None number pieces = refl
pieces_left-nil (Some verb) number pieces = refl

pub statement_read : (verb : Option Verb) (cards : List (List ℕ)) (place end number count : ℕ) (card text : List ℕ) (pieces : List Piece) (is_open : Bool) → CardsSoFar verb cards place end (second_word card) text pieces
    → texts_behind text (drop end cards) ≡ [] → verb ≡ verb_of (first_word card) → number ≡ place + 1 → count ≡ end - place → is_open ≡ goes_on text
    → record { number = number; verb = verb; pieces = pieces; cards = count; is_open = is_open } ≡ statement_at (place + 1) card (drop (place + 1) cards)
unfolding statement_at
statement_read verb cards place end number count card text pieces is_open so_far done known is counted opens =
    let texts : List (List ℕ) = second_word card ∷ texts_behind (second_word card) (drop (place + 1) cards) in
    let all : pieces ≡ pieces_of (verb_of (first_word card)) (place + 1) texts =
    sym (ap (λ v. pieces_of v (place + 1) texts) (sym known)
    ∙ (so_far.read ∙ (ap (λ x. pieces ++ pieces_left verb (end + 1) pieces x) done
    ∙ (ap (λ x. pieces ++ x) (pieces_left-nil verb (end + 1) pieces) ∙ append-nil pieces)))) in
    let long : count ≡ length texts =
    omega (arith, counted, so_far.count, ap length so_far.split, length-append so_far.passed (texts_behind text (drop end cards)), ap length done) in
    let last : is_open ≡ goes_on (unwrap_or (last_or None texts) []) =
    opens ∙ sym (ap (λ (o : Option (List ℕ)). goes_on (unwrap_or o [])) (so_far.last ∙ ap (last_or (Some text)) done)) in
    λ i. record { number = is i; verb = known i; pieces = all i; cards = long i; is_open = last i }
