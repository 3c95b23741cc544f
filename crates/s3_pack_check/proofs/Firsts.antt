-- The first of the entries from one on with which something is wrong.
use Rattle.std.proofs.Common.{◌≡◌, ℕ, ◌+◌, ◌-◌, ◌<◌, ◌≤◌, Option, Some, None, sym, ap, ◌∙◌, arith}
use Rattle.std.specs.List.{range_with_len}
use Rattle.s3_slots.proofs.Ranges.{range_more}
use Rattle.s3_pack_check.specs.Inner.Entries.{first_of, first_or}

-- it is this one
pub first_here : {A : Type 0} (f : ℕ → Option A) (all : Option A) (i n : ℕ) (x : A) → i < n → f i ≡ Some x → first_of f (range_with_len i (n - i)) ≡ all → Some x ≡ all
first_here f all i n x few is so = sym (ap (λ y. first_or y (first_of f (range_with_len (i + 1) (n - (i + 1))))) is) ∙ sym (ap (first_of f) (range_more i n few)) ∙ so

-- it is a later one
pub first_later : {A : Type 0} (f : ℕ → Option A) (all : Option A) (i n : ℕ) → i < n → f i ≡ None → first_of f (range_with_len i (n - i)) ≡ all → first_of f (range_with_len (i + 1) (n - (i + 1))) ≡ all
first_later f all i n few none so = sym (ap (λ y. first_or y (first_of f (range_with_len (i + 1) (n - (i + 1))))) none) ∙ sym (ap (first_of f) (range_more i n few)) ∙ so

-- none is left
pub first_none : {A : Type 0} (f : ℕ → Option A) (all : Option A) (i n : ℕ) → n ≤ i → first_of f (range_with_len i (n - i)) ≡ all → None ≡ all
first_none f all i n none so = let e : n - i ≡ 0 = omega (arith, none) in sym (ap (λ m. first_of f (range_with_len i m)) e) ∙ so
