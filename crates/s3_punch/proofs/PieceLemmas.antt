-- Texts that are parted, one character after another, and their first parts.
use Rattle.std.proofs.Common.{◌≡◌, ℕ, ◌+◌, ◌-◌, ◌<◌, ◌≤◌, List, [], ◌∷◌, ◌++◌, Bool, true, not, cond, length, map, take, drop, replicate, get_or, sym, ap, ◌∙◌, subst, inl, inr, append_assoc, add-one, drop-cons, lt-ltb, ltb-true, ◌==◌, ◌&&◌, if◌then◌else◌, arith}
use Rattle.std.specs.Prelude.{Some, None, nat_lt, position}
use Rattle.std.specs.List.{fold, position_or_len, slice_split}
use Rattle.std.proofs.lemmas.Bool.{cases_lt}
use Rattle.std.proofs.lemmas.List.{append-nil, take_all}
use Rattle.std.proofs.lemmas.Option.{cond_some}
use Rattle.std.proofs.lemmas.List.Sums.{fails_before_first}
use Rattle.std.proofs.lemmas.List.Splits.{slice_split_first, slice_split_none}
use Rattle.s3_punch.specs.Inner.Cards.{is_zero, parted, piece_character, piece_of, with_piece}

-- one more character of a text that is parted
pub one_more_parted : (text all : List ℕ) (quoted : Bool) (xs : List ℕ) (n d : ℕ) → text ++ parted quoted (map piece_character (drop n xs)) ≡ all → n < length xs
    → (text ++ (if piece_character (get_or xs n d) == 32 && not quoted then 0 else piece_character (get_or xs n d)) ∷ [])
    ++ parted (if piece_character (get_or xs n d) == 39 then not quoted else quoted) (map piece_character (drop (n + 1) xs)) ≡ all
one_more_parted text all quoted xs n d so_far within =
    append_assoc text ((if piece_character (get_or xs n d) == 32 && not quoted then 0 else piece_character (get_or xs n d)) ∷ [])
    (parted (if piece_character (get_or xs n d) == 39 then not quoted else quoted) (map piece_character (drop (n + 1) xs)))
    ∙ ap (λ k. text ++ ((if piece_character (get_or xs n d) == 32 && not quoted then 0 else piece_character (get_or xs n d)) ∷ parted (if piece_character (get_or xs n d) == 39 then not quoted else quoted) (map piece_character (drop k xs)))) (add-one n)
    ∙ ap (λ rest. text ++ parted quoted (map piece_character rest)) (sym (drop-cons xs n d within))
    ∙ so_far

-- ---- the first part of a text
place_is : (text : List ℕ) (end : ℕ) → position is_zero text ≡ Some end → (position_or_len is_zero text < length text) × (position_or_len is_zero text ≡ end)
place_is text end found =
    let both = cond_some (nat_lt (position_or_len is_zero text) (length text)) (position_or_len is_zero text) end found in
    (ltb-true _ _ both.0, both.1)

pub first_split : (text : List ℕ) (end : ℕ) → position is_zero text ≡ Some end → slice_split is_zero text ≡ take end text ∷ slice_split is_zero (drop (end + 1) text)
first_split text end found =
    let place = place_is text end found in
    subst (λ (e : ℕ). slice_split is_zero text ≡ take e text ∷ slice_split is_zero (drop (e + 1) text)) place.1 (slice_split_first is_zero text 0 place.0)

pub first_split_at : (text part rest : List ℕ) (end : ℕ) → position is_zero text ≡ Some end → part ≡ take end text → rest ≡ drop (end + 1) text → slice_split is_zero text ≡ part ∷ slice_split is_zero rest
first_split_at text part rest end found is left = rw (is, left) (first_split text end found)

no_place : (text : List ℕ) → position is_zero text ≡ None → length text ≤ position_or_len is_zero text
no_place text none = elim (cases_lt (position_or_len is_zero text) (length text)) [
  | inl lt ↦ absurd (let e : nat_lt (position_or_len is_zero text) (length text) ≡ true = lt-ltb _ _ lt in let f : cond (nat_lt (position_or_len is_zero text) (length text)) (Some (position_or_len is_zero text)) None ≡ None = none in let g : Some (position_or_len is_zero text) ≡ None = rw e at f in cc)
  | inr ge ↦ ge
]

pub one_split : (text : List ℕ) → position is_zero text ≡ None → slice_split is_zero text ≡ text ∷ []
one_split text none = slice_split_none is_zero text (λ k d below. fails_before_first is_zero text k d (let e = no_place text none in omega arith))

-- ---- cards that are filled up
pub wider : (card : List ℕ) (n x : ℕ) → length card < n → take n card ++ replicate (n - length card) x ≡ card ++ replicate (n - length card) x
wider card n x narrow = ap (λ front. front ++ replicate (n - length card) x) (take_all n card (omega arith))

pub as_wide : (card : List ℕ) (n x : ℕ) → n ≤ length card → card ≡ card ++ replicate (n - length card) x
as_wide card n x wide = let e : n - length card ≡ 0 = omega arith in rw e (sym (append-nil card))

-- ---- the parts of a text, one after another
-- one more part is laid onto a card
pub one_part_laid : (card laid all part : List ℕ) (left parts : List (List ℕ)) → fold (λ card part. with_piece card (piece_of part)) card left ≡ all → left ≡ part ∷ parts → laid ≡ with_piece card (piece_of part)
    → fold (λ card part. with_piece card (piece_of part)) laid parts ≡ all
one_part_laid card laid all part left parts so_far is lays =
    ap (λ c. fold (λ card part. with_piece card (piece_of part)) c parts) lays ∙ ap (fold (λ card part. with_piece card (piece_of part)) card) (sym is) ∙ so_far
