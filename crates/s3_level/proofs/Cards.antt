-- A job's data cards: those of its deck from one place to another.
use Rattle.std.proofs.Common.{◌≡◌, ℕ, suc, ◌+◌, ◌-◌, ◌<◌, ◌≤◌, List, [], ◌∷◌, Some, None, take, drop, slice_get, slice_range, sym, ◌∙◌, ap, arith, add-one, inl, inr, drop-cons}
use Rattle.std.proofs.Math.Seq.{take-nil}
use Rattle.std.proofs.lemmas.List.{drop_all}
use Rattle.std.proofs.lemmas.Option.{none-some, slice_get_cases, slice_get_within, get_or_from_slice_get}

pub first_card : {X : Type 0} (deck : List X) (from to : ℕ) (card : X) → from < to → slice_get deck from ≡ Some card
    → slice_range deck from to ≡ card ∷ slice_range deck (from + 1) to
first_card deck from to card before is_card =
    let count : to - from ≡ suc (to - (from + 1)) = omega arith in
    let cards : drop from deck ≡ card ∷ drop (from + 1) deck =
    drop-cons deck from card (slice_get_within deck from card is_card)
    ∙ ap (λ first. first ∷ drop (suc from) deck) (get_or_from_slice_get deck from card card is_card)
    ∙ ap (λ place. card ∷ drop place deck) (sym (add-one from)) in
    ap (λ n. take n (drop from deck)) count ∙ ap (take (suc (to - (from + 1)))) cards

pub no_card_left : {X : Type 0} (deck : List X) (from to : ℕ) → to ≤ from → slice_range deck from to ≡ []
no_card_left deck from to past = let none : to - from ≡ 0 = omega arith in ap (λ n. take n (drop from deck)) none

pub no_card : {X : Type 0} (deck : List X) (from to : ℕ) → slice_get deck from ≡ None → slice_range deck from to ≡ []
no_card deck from to is_none =
    elim ((slice_get_cases deck from).1) [
      | inl found ↦ absurd (none-some found.0 (sym is_none ∙ found.2))
      | inr past ↦ ap (take (to - from)) (drop_all from deck past.0) ∙ take-nil (to - from)
    ]
