-- Ranges of cards that are looked at from the first card to the last.
use Rattle.std.specs.Prelude.{◌≡◌, ◌≤◌, ℕ, List, [], ◌∷◌, Bool, true, ◌&&◌, nat_le}
use Rattle.s3_decks.specs.declared.deck_text.CardRange.{CardRange}
use Rattle.s3_decks.specs.declared.gaps.Gaps.{Gaps}
use Rattle.s3_decks.specs.Inner.Decks.{is_left_out}

-- whether ranges begin in ascending order, from a place on
unfoldable pub begin_in_order : ℕ → List CardRange → Bool
begin_in_order place [] = true
begin_in_order place (range ∷ more) = nat_le place range.from && begin_in_order range.from more

-- the ranges that are ahead say of each card from a place on whether it is left out
pub record AreAhead (all : List CardRange) (place : ℕ) (gaps : Gaps) : Type 0 where
  pub same : (p : ℕ) → place ≤ p → is_left_out gaps.ranges.now p ≡ is_left_out all p
  pub order : gaps.is_ordered ≡ true → begin_in_order 0 gaps.ranges.now ≡ true
