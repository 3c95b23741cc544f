-- Lemmas about dates.
use Rattle.std.proofs.Common.{◌≡◌, ℕ, List, [], ◌∷◌, refl, length, get_or}
use Rattle.s3_ocl.specs.Values.{without_slashes}

-- eight codes without the third and the sixth, code by code
pub six_of_eight : (text : List ℕ) → length text ≡ 8
    → get_or text 0 0 ∷ get_or text 1 0 ∷ get_or text 3 0 ∷ get_or text 4 0 ∷ get_or text 6 0 ∷ get_or text 7 0 ∷ [] ≡ without_slashes text
six_of_eight [] h = cc
six_of_eight (a ∷ []) h = cc
six_of_eight (a ∷ b ∷ []) h = cc
six_of_eight (a ∷ b ∷ c ∷ []) h = cc
six_of_eight (a ∷ b ∷ c ∷ d ∷ []) h = cc
six_of_eight (a ∷ b ∷ c ∷ d ∷ e ∷ []) h = cc
six_of_eight (a ∷ b ∷ c ∷ d ∷ e ∷ f ∷ []) h = cc
six_of_eight (a ∷ b ∷ c ∷ d ∷ e ∷ f ∷ g ∷ []) h = cc
six_of_eight (a ∷ b ∷ c ∷ d ∷ e ∷ f ∷ g ∷ i ∷ []) h = refl
six_of_eight (a ∷ b ∷ c ∷ d ∷ e ∷ f ∷ g ∷ i ∷ j ∷ text) h = cc
