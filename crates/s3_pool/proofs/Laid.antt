-- Buffers laid over the sectors of a store.
use Rattle.std.proofs.Common.{◌≡◌, ◌≢◌, ℕ, zero, suc, ◌<◌, List, [], ◌∷◌, ◌++◌, length, slice_get, slice_set, Some, refl, sym, ap, ◌∙◌, arith, length-set, ◌⊎◌, inl, inr}
use Rattle.std.proofs.lemmas.Bool.Decides.{eqb_tells}
use Rattle.s3_store.proofs.SectorLists.{slice_get_set_same, slice_get_set_other, slice_set_known, slice_set_set_other}
use Rattle.s3_pool.specs.declared.buffers.Buffer.{Buffer}
use Rattle.s3_pool.specs.Inner.Buffers.{laid, IsMissed}

pub length_laid : (xs : List Buffer) (b : List (List ℕ)) → length (laid xs b) ≡ length b
length_laid [] b = refl
length_laid (x ∷ xs) b = length-set (laid xs b) x.sector x.bytes.value ∙ length_laid xs b

-- ---- a sector that no buffer holds

pub laid_missed : (n : ℕ) (xs : List Buffer) (b : List (List ℕ)) → IsMissed n xs → slice_get (laid xs b) n ≡ slice_get b n
laid_missed n [] b m = refl
laid_missed n (x ∷ xs) b m =
    slice_get_set_other (laid xs b) x.sector n x.bytes.value (λ e. m 0 x refl (sym e)) ∙ laid_missed n xs b (λ j z on. m (suc j) z on)

-- which the store has anew
pub laid_written : (n : ℕ) (xs : List Buffer) (b : List (List ℕ)) (v : List ℕ) → IsMissed n xs → laid xs (slice_set b n v) ≡ slice_set (laid xs b) n v
laid_written n [] b v m = refl
laid_written n (x ∷ xs) b v m =
    ap (λ l. slice_set l x.sector x.bytes.value) (laid_written n xs b v (λ j z on. m (suc j) z on))
    ∙ slice_set_set_other (laid xs b) n x.sector v x.bytes.value (λ e. m 0 x refl e)

pub laid_append : (xs : List Buffer) (y : Buffer) (b : List (List ℕ)) → laid (xs ++ y ∷ []) b ≡ laid xs (slice_set b y.sector y.bytes.value)
laid_append [] y b = refl
laid_append (x ∷ xs) y b = ap (λ l. slice_set l x.sector x.bytes.value) (laid_append xs y b)

-- ---- one slot and the others

-- no other slot has sector n
abbrev pub IsElsewhere : ℕ → ℕ → List Buffer → Type 0
IsElsewhere k n xs = (j : ℕ) (z : Buffer) → j ≢ k → slice_get xs j ≡ Some z → z.sector ≢ n

pub but : ℕ → List Buffer → List Buffer
but k [] = []
but zero (x ∷ xs) = xs
but (suc k) (x ∷ xs) = x ∷ but k xs

pub but_missed : (k n : ℕ) (xs : List Buffer) → IsElsewhere k n xs → IsMissed n (but k xs)
unfolding but
but_missed k n [] other j z on = absurd cc
but_missed zero n (x ∷ xs) other j z on = other (suc j) z (λ e. absurd (omega (arith, e))) on
but_missed (suc k) n (x ∷ xs) other zero z on = other 0 z (λ e. absurd (omega (arith, e))) on
but_missed (suc k) n (x ∷ xs) other (suc j) z on = but_missed k n xs (λ i w differ at. other (suc i) w (λ e. differ (omega (arith, e))) at) j z on

pub but_set : (k : ℕ) (xs : List Buffer) (y : Buffer) → but k (slice_set xs k y) ≡ but k xs
unfolding but
but_set k [] y = refl
but_set zero (x ∷ xs) y = refl
but_set (suc k) (x ∷ xs) y = ap (λ l. x ∷ l) (but_set k xs y)

-- a slot's buffer lies over the others
pub laid_over : (k : ℕ) (xs : List Buffer) (x : Buffer) (b : List (List ℕ)) → slice_get xs k ≡ Some x → IsElsewhere k x.sector xs → laid xs b ≡ slice_set (laid (but k xs) b) x.sector x.bytes.value
unfolding but
laid_over k [] x b on other = cc
laid_over zero (y ∷ ys) x b on other = let same : y ≡ x = cc in ap (λ z. slice_set (laid ys b) z.sector z.bytes.value) same
laid_over (suc k) (y ∷ ys) x b on other =
    ap (λ l. slice_set l y.sector y.bytes.value) (laid_over k ys x b on (λ i w differ at. other (suc i) w (λ e. differ (omega (arith, e))) at))
    ∙ slice_set_set_other (laid (but k ys) b) x.sector y.sector x.bytes.value y.bytes.value (other 0 y (λ e. absurd (omega (arith, e))) refl)

-- a sector that a slot has
pub laid_held : (k : ℕ) (xs : List Buffer) (x : Buffer) (b : List (List ℕ)) → slice_get xs k ≡ Some x → IsElsewhere k x.sector xs → x.sector < length b → slice_get (laid xs b) x.sector ≡ Some x.bytes.value
laid_held k xs x b on other within =
    ap (λ l. slice_get l x.sector) (laid_over k xs x b on other) ∙ slice_get_set_same (laid (but k xs) b) x.sector x.bytes.value (omega (arith, within, length_laid (but k xs) b))

-- ---- changed slots

pub set_tells : (xs : List Buffer) (k : ℕ) (y : Buffer) → k < length xs → (j : ℕ) (z : Buffer) → slice_get (slice_set xs k y) j ≡ Some z → ((j ≡ k) × (y ≡ z)) ⊎ ((j ≢ k) × (slice_get xs j ≡ Some z))
set_tells xs k y within j z on = elim (eqb_tells j k) [
  | inl same ↦ let is = sym (slice_get_set_same xs k y within) ∙ ap (slice_get (slice_set xs k y)) (sym same.1) ∙ on in inl (same.1, cc)
  | inr other ↦ inr (other.1, sym (slice_get_set_other xs k j y other.1) ∙ on)
]

pub append_tells : (xs : List Buffer) (y : Buffer) (j : ℕ) (z : Buffer) → slice_get (xs ++ y ∷ []) j ≡ Some z → ((j ≡ length xs) × (y ≡ z)) ⊎ ((j ≢ length xs) × (slice_get xs j ≡ Some z))
append_tells [] y zero z on = inl (refl, cc)
append_tells [] y (suc j) z on = absurd cc
append_tells (x ∷ xs) y zero z on = inr (λ e. absurd (omega (arith, e)), on)
append_tells (x ∷ xs) y (suc j) z on = elim (append_tells xs y j z on) [
  | inl same ↦ inl (ap suc same.0, same.1)
  | inr other ↦ inr (λ e. other.0 (omega (arith, e)), other.1)
]

-- a slot's buffer gives way to another
pub laid_set : (k : ℕ) (xs : List Buffer) (y : Buffer) (b : List (List ℕ)) → k < length xs → IsElsewhere k y.sector xs → laid (slice_set xs k y) b ≡ slice_set (laid (but k xs) b) y.sector y.bytes.value
laid_set k xs y b within other =
    laid_over k (slice_set xs k y) y b (slice_get_set_same xs k y within) (λ j z differ on. other j z differ (sym (slice_get_set_other xs k j y differ) ∙ on))
    ∙ ap (λ l. slice_set (laid l b) y.sector y.bytes.value) (but_set k xs y)

-- where the store has what each buffer holds, nothing lies over it
pub laid_nothing : (xs : List Buffer) (b : List (List ℕ)) → ((j : ℕ) (z : Buffer) → slice_get xs j ≡ Some z → slice_get b z.sector ≡ Some z.bytes.value) → laid xs b ≡ b
laid_nothing [] b is = refl
laid_nothing (x ∷ xs) b is =
    ap (λ l. slice_set l x.sector x.bytes.value) (laid_nothing xs b (λ j z on. is (suc j) z on)) ∙ slice_set_known b x.sector x.bytes.value (is 0 x refl)
