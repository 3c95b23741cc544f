-- The sectors of runs, one by one.
use Rattle.std.proofs.Common.{◌≡◌, ℕ, zero, suc, ◌+◌, ◌-◌, ◌<◌, ◌≤◌, Bool, true, false, List, [], ◌∷◌, slice_get, Some, refl, sym, ap, ◌∙◌, arith, inl, inr}
use Rattle.std.proofs.lemmas.Bool.{and_parts, or_parts}
use Rattle.std.proofs.lemmas.List.Elements.{Contains-append_cases, Contains-append_left, Contains-append_right}
use Rattle.std.proofs.lemmas.List.FromFn.{length-range_with_len, get_or-range_with_len}
use Rattle.std.specs.List.{list_all, list_any, range_with_len, Contains}
use Rattle.s3_store.specs.Stretches.{sectors_in}
use Rattle.s3_store.specs.declared.stretch.Stretch.{Stretch}
use Rattle.s3_slots.specs.Stretches.{IsIn}

pub range_in : (i n m : ℕ) → Contains (range_with_len i n) m → (i ≤ m) × (m < i + n)
range_in i n m h =
    let l : h.0 < n = omega (arith, length-range_with_len i n, h.1) in
    let e : i + h.0 ≡ m = sym (get_or-range_with_len i n h.0 m l) ∙ h.2 in
    (omega (arith, e), omega (arith, e, l))

pub in_range : (i n m : ℕ) → i ≤ m → m < i + n → Contains (range_with_len i n) m
in_range i n m low high =
    let l : m - i < n = omega (arith, low, high) in
    (m - i, omega (arith, length-range_with_len i n, l), get_or-range_with_len i n (m - i) m l ∙ omega (arith, low))

-- the run of a sector
pub record IsOfRun (runs : List Stretch) (n : ℕ) : Type 0 where
  pub at : ℕ
  pub run : Stretch
  pub is : slice_get runs at ≡ Some run
  pub inside : IsIn run n

pub of_run : (runs : List Stretch) (n : ℕ) → Contains (sectors_in runs) n → IsOfRun runs n
of_run [] n h = absurd (omega (arith, h.1))
of_run (run ∷ runs) n h = elim (Contains-append_cases (range_with_len run.start run.sectors) (sectors_in runs) n h) [
  | inl here ↦ record { at = 0; run = run; is = refl; inside = range_in run.start run.sectors n here }
  | inr later ↦ let rest = of_run runs n later in record { at = suc rest.at; run = rest.run; is = rest.is; inside = rest.inside }
]

pub in_first : (run : Stretch) (runs : List Stretch) (n : ℕ) → IsIn run n → Contains (sectors_in (run ∷ runs)) n
in_first run runs n h = Contains-append_left (range_with_len run.start run.sectors) (sectors_in runs) n (in_range run.start run.sectors n h.0 h.1)

pub in_rest : (run : Stretch) (runs : List Stretch) (n : ℕ) → Contains (sectors_in runs) n → Contains (sectors_in (run ∷ runs)) n
in_rest run runs n h = Contains-append_right (range_with_len run.start run.sectors) (sectors_in runs) n h

pub all_at : {X : Type 0} (p : X → Bool) (xs : List X) (i : ℕ) (x : X) → list_all p xs ≡ true → slice_get xs i ≡ Some x → p x ≡ true
all_at p [] i x h e = absurd cc
all_at p (y ∷ xs) zero x h e = let same : y ≡ x = cc in ap p (sym same) ∙ (and_parts (p y) (list_all p xs) h).0
all_at p (y ∷ xs) (suc i) x h e = all_at p xs i x (and_parts (p y) (list_all p xs) h).1 e

pub none_at : {X : Type 0} (p : X → Bool) (xs : List X) (i : ℕ) (x : X) → list_any p xs ≡ false → slice_get xs i ≡ Some x → p x ≡ false
none_at p [] i x h e = absurd cc
none_at p (y ∷ xs) zero x h e = let same : y ≡ x = cc in ap p (sym same) ∙ (or_parts (p y) (list_any p xs) h).0
none_at p (y ∷ xs) (suc i) x h e = none_at p xs i x (or_parts (p y) (list_any p xs) h).1 e
