-- Steps of the loop over the characters of a line, and lines without tabs.
use Rattle.std.proofs.Common.{◌≡◌, ℕ, zero, suc, ◌+◌, ◌-◌, ◌<◌, ◌≤◌, List, [], ◌∷◌, ◌++◌, Bool, true, false, ◌&&◌, not, cond, length, take, get_or, refl, sym, ap, ◌∙◌, arith, length-append, nat_lt}
use Rattle.std.proofs.lemmas.Bool.{and_parts, ltb-false, ltb-true, not-true}
use Rattle.std.proofs.lemmas.List.Sums.{fold_more}
use Rattle.std.specs.List.{fold}
use Rattle.s3_punch.specs.Inner.Characters.{is_tab, shown}
use Rattle.s3_punch.specs.Inner.Cards.{with_character}
use Rattle.s3_punch.specs.Inner.Stops.{tabbed}
use Rattle.s3_punch.specs.Inner.Typed.{column_typed, fill_next, filled_by, is_without_tabs, more_before}

pub filled_more : (is_of_source : Bool) (column : ℕ) (characters : List ℕ) (i d : ℕ) → i < length characters
    → filled_by is_of_source column (take (i + 1) characters) ≡ fill_next is_of_source column (filled_by is_of_source column (take i characters)) (get_or characters i d)
filled_more is_of_source column characters i d within = fold_more (fill_next is_of_source column) ([], 0) characters i d within

-- one column more of a card that ends before a column, or not
one_more_if : (width column before : ℕ) (ends_before : Bool) → nat_lt (width + 1) column ≡ ends_before
    → cond ends_before (before + 1) before + (column - 1 - (width + 1)) ≡ before + (column - 1 - width)
one_more_if width column before true test = omega (arith, ltb-true (width + 1) column test)
one_more_if width column before false test = omega (arith, ltb-false (width + 1) column test)

one_more : (width column before : ℕ) → more_before (width + 1) column before + (column - 1 - (width + 1)) ≡ before + (column - 1 - width)
one_more width column before = one_more_if width column before (nat_lt (width + 1) column) refl

-- a character that is no tab fills one column
filled_one : (is_of_source : Bool) (card : List ℕ) (character : ℕ) → is_tab character ≡ false → with_character is_of_source card character ≡ card ++ shown character ∷ []
filled_one is_of_source card character no_tab = ap (λ (b : Bool). cond b (tabbed is_of_source card) (card ++ shown character ∷ [])) no_tab

unmoved_from : (is_of_source : Bool) (column : ℕ) (characters card : List ℕ) (before : ℕ) → is_without_tabs characters ≡ true
    → (fold (fill_next is_of_source column) (card, before) characters).1 + (column - 1 - length (fold (fill_next is_of_source column) (card, before) characters).0)
    ≡ before + (column - 1 - length card)
unmoved_from is_of_source column [] card before none = refl
unmoved_from is_of_source column (x ∷ characters) card before none =
    let parts = and_parts (not (is_tab x)) (is_without_tabs characters) none in
    unmoved_from is_of_source column characters (with_character is_of_source card x) (more_before (length (with_character is_of_source card x)) column before) parts.1
    ∙ ap (λ (laid : List ℕ). more_before (length laid) column before + (column - 1 - length laid)) (filled_one is_of_source card x (not-true (is_tab x) parts.0))
    ∙ ap (λ width. more_before width column before + (column - 1 - width)) (length-append card (shown x ∷ []))
    ∙ one_more (length card) column before

from_start : (column : ℕ) → 1 ≤ column → 0 + (column - 1 - 0) + 1 ≡ column
from_start column within = omega arith

pub unmoved : (is_of_source : Bool) (column : ℕ) (characters : List ℕ) → is_without_tabs characters ≡ true → 1 ≤ column
    → column_typed is_of_source column characters ≡ column
unmoved is_of_source column characters none within = ap (λ n. n + 1) (unmoved_from is_of_source column characters [] 0 none) ∙ from_start column within
