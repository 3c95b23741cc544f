-- Pages that grow part by part.
use Rattle.std.proofs.Common.{◌≡◌, ℕ, List, [], ◌∷◌, ◌++◌, refl, sym, ap, ◌∙◌, map}
use Rattle.std.specs.List.{flat_map}

-- the texts of values
flat_map_of_map : {X Y : Type 0} (text : Y → List ℕ) (value : X → Y) (xs : List X) → flat_map text (map value xs) ≡ flat_map (λ x. text (value x)) xs
flat_map_of_map text value [] = refl
flat_map_of_map text value (x ∷ xs) = ap (λ more. text (value x) ++ more) (flat_map_of_map text value xs)

-- the texts of all, if those that were appended are all
pub all_of : {X : Type 0} (text : X → List ℕ) (xs front : List X) (old new : List ℕ) → front ≡ xs → new ≡ old ++ flat_map text front → new ≡ old ++ flat_map text xs
all_of text xs front old new whole so_far = so_far ∙ ap (λ ys. old ++ flat_map text ys) whole

-- the same of the values of all
pub all_values_of : {X Y : Type 0} (text : Y → List ℕ) (value : X → Y) (xs front : List X) (old new : List ℕ) → front ≡ xs
    → new ≡ old ++ flat_map (λ x. text (value x)) front → new ≡ old ++ flat_map text (map value xs)
all_values_of text value xs front old new whole so_far =
    all_of (λ x. text (value x)) xs front old new whole so_far ∙ ap (λ t. old ++ t) (sym (flat_map_of_map text value xs))
