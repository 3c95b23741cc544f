-- Texts over each other.
use Rattle.std.proofs.Common.{◌≡◌, ℕ, true, false, List, [], ◌∷◌, ◌++◌, refl, ap}
use Rattle.std.specs.List.{flat_map}
use Rattle.s3_pages.specs.Inner.PageTexts.{overprinted, overprinted_behind}

behind_one : (texts : List (List ℕ)) → overprinted_behind true texts ≡ flat_map (λ over. 13 ∷ over) texts
behind_one [] = refl
behind_one (text ∷ texts) = ap (λ more. (13 ∷ text) ++ more) (behind_one texts)

-- the first text is over nothing
pub overprinted_is : (texts : List (List ℕ)) → overprinted_behind false texts ≡ overprinted texts
overprinted_is [] = refl
overprinted_is (text ∷ texts) = ap (λ more. text ++ more) (behind_one texts)
