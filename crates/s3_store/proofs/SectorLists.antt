-- An element of a list after a write.
use Rattle.std.proofs.Common.{◌≡◌, ◌≢◌, ℕ, zero, suc, ◌<◌, List, [], ◌∷◌, length, slice_get, slice_set, Some, refl, ap, arith}

module _ {X : Type 0} where
  pub slice_get_set_same : (xs : List X) (i : ℕ) (v : X) → i < length xs → slice_get (slice_set xs i v) i ≡ Some v
  slice_get_set_same [] i v h = absurd (omega arith)
  slice_get_set_same (x ∷ xs) zero v h = refl
  slice_get_set_same (x ∷ xs) (suc i) v h = slice_get_set_same xs i v (omega arith)

  pub slice_get_set_other : (xs : List X) (i j : ℕ) (v : X) → j ≢ i → slice_get (slice_set xs i v) j ≡ slice_get xs j
  slice_get_set_other [] i j v h = refl
  slice_get_set_other (x ∷ xs) zero zero v h = absurd (h refl)
  slice_get_set_other (x ∷ xs) zero (suc j) v h = refl
  slice_get_set_other (x ∷ xs) (suc i) zero v h = refl
  slice_get_set_other (x ∷ xs) (suc i) (suc j) v h = slice_get_set_other xs i j v (λ e. h (ap suc e))

  -- an element written over itself
  pub slice_set_known : (xs : List X) (i : ℕ) (v : X) → slice_get xs i ≡ Some v → slice_set xs i v ≡ xs
  slice_set_known [] i v h = refl
  slice_set_known (x ∷ xs) zero v h = cc
  slice_set_known (x ∷ xs) (suc i) v h = ap (λ ys. x ∷ ys) (slice_set_known xs i v h)

  pub slice_set_set_same : (xs : List X) (i : ℕ) (v w : X) → slice_set (slice_set xs i v) i w ≡ slice_set xs i w
  slice_set_set_same [] i v w = refl
  slice_set_set_same (x ∷ xs) zero v w = refl
  slice_set_set_same (x ∷ xs) (suc i) v w = ap (λ ys. x ∷ ys) (slice_set_set_same xs i v w)

  pub slice_set_set_other : (xs : List X) (i j : ℕ) (v w : X) → j ≢ i → slice_set (slice_set xs i v) j w ≡ slice_set (slice_set xs j w) i v
  slice_set_set_other [] i j v w h = refl
  slice_set_set_other (x ∷ xs) zero zero v w h = absurd (h refl)
  slice_set_set_other (x ∷ xs) zero (suc j) v w h = refl
  slice_set_set_other (x ∷ xs) (suc i) zero v w h = refl
  slice_set_set_other (x ∷ xs) (suc i) (suc j) v w h = ap (λ ys. x ∷ ys) (slice_set_set_other xs i j v w (λ e. h (ap suc e)))
