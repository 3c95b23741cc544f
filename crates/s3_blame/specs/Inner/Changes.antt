-- Sources that are alike but for an entry of one card.
use Rattle.std.specs.Prelude.{ℕ, ◌+◌, ◌-◌, List, ◌∷◌, ◌++◌, length, take, drop}

-- an entry, by its first and its last column
abbrev pub Entry : Type 0
Entry = ℕ × ℕ

-- a source in which one card has other codes in the columns of an entry
pub record Change : Type 0 where
  pub above : List (List ℕ)
  pub card : List ℕ
  pub below : List (List ℕ)
  pub from : ℕ
  pub to : ℕ
  pub other : List ℕ

-- the source as it was, and as it is with the other codes
abbrev pub first_source : Change → List (List ℕ)
first_source change = change.above ++ change.card ∷ change.below

abbrev pub other_card : Change → List ℕ
other_card change = take (change.from - 1) change.card ++ change.other ++ drop change.to change.card

abbrev pub other_source : Change → List (List ℕ)
other_source change = change.above ++ other_card change ∷ change.below

-- the number of the card
abbrev pub card_changed : Change → ℕ
card_changed change = length change.above + 1
