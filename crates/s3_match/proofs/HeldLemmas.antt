-- What is held as a job begins.
use Rattle.std.proofs.Common.{◌≡◌, ◌+◌, ◌<◌, ◌≤◌, ℕ, List, [], ◌∷◌, ◌++◌, length, set, length-set, ◌∙◌, zero, suc, inl, inr, refl, arith}
use Rattle.std.proofs.lemmas.Bool.{cases_lt}
use Rattle.std.specs.Prelude.{None, option_and_then, slice_get}
use Rattle.s3_match.specs.declared.held.HeldField.{HeldField}
use Rattle.s3_match.specs.Inner.Controls.{held_in}
use Rattle.s3_match.specs.Inner.Keys.{held_key}

none_there : (fields : List HeldField) (field : HeldField) → ((n : ℕ) → option_and_then held_key (slice_get fields n) ≡ None) → held_key field ≡ None
    → (n : ℕ) → option_and_then held_key (slice_get (fields ++ field ∷ []) n) ≡ None
none_there [] field none one zero = one
none_there [] field none one (suc n) = refl
none_there (first ∷ fields) field none one zero = none zero
none_there (first ∷ fields) field none one (suc n) = none_there fields field (λ m. none (suc m)) one n

-- one level more, of which nothing is held
pub none_more : (fields : List HeldField) (field : HeldField) → ((level : ℕ) → held_in fields level ≡ None) → held_key field ≡ None → (level : ℕ) → held_in (fields ++ field ∷ []) level ≡ None
none_more fields field none one zero = refl
none_more fields field none one (suc n) = none_there fields field (λ m. none (suc m)) one n

-- ---- nothing is held any more
pub record AreForgotten (count : ℕ) (fields : List HeldField) : Type 0 where
  pub many : length fields ≡ 9
  pub each : (n : ℕ) → n < count → option_and_then held_key (slice_get fields n) ≡ None

pub none_forgotten : (fields : List HeldField) → length fields ≡ 9 → AreForgotten 0 fields
none_forgotten fields many = record { many = many; each = λ n below. absurd (omega (arith, below)) }

set_get : (fields : List HeldField) (place : ℕ) (field : HeldField) (n : ℕ) → held_key field ≡ None → (n < place → option_and_then held_key (slice_get fields n) ≡ None) → n < place + 1
    → option_and_then held_key (slice_get (set fields place field) n) ≡ None
set_get [] place field n none before below = refl
set_get (first ∷ fields) zero field zero none before below = none
set_get (first ∷ fields) zero field (suc n) none before below = absurd (omega (arith, below))
set_get (first ∷ fields) (suc place) field zero none before below = before (omega arith)
set_get (first ∷ fields) (suc place) field (suc n) none before below = set_get fields place field n none (λ under. before (omega (arith, under))) (omega (arith, below))

pub one_forgotten : (fields : List HeldField) (place : ℕ) (field : HeldField) → held_key field ≡ None → AreForgotten place fields → AreForgotten (place + 1) (set fields place field)
one_forgotten fields place field none before = record {
  many = length-set fields place field ∙ before.many;
  each = λ n below. set_get fields place field n none (before.each n) below;
}

pub all_forgotten : (fields : List HeldField) (count : ℕ) → 9 ≤ count → AreForgotten count fields → (level : ℕ) → held_in fields level ≡ None
all_forgotten fields count all forgotten zero = refl
all_forgotten fields count all forgotten (suc n) = elim (cases_lt n count) [
  | inl below ↦ forgotten.each n below
  | inr past ↦ nothing fields n (omega (arith, all, past, forgotten.many))
]
  where
    nothing : (fields : List HeldField) (n : ℕ) → length fields ≤ n → option_and_then held_key (slice_get fields n) ≡ None
    nothing [] n past = refl
    nothing (field ∷ fields) zero past = absurd (omega (arith, past))
    nothing (field ∷ fields) (suc n) past = nothing fields n (omega (arith, past))
