-- The slots of the primary and secondary files: each occurs once, in order.
use Rattle.std.proofs.Common.{◌≡◌, ℕ, ◌+◌, ◌<◌, ◌≤◌, ◌==◌, ◌++◌, length, get_or, List, [], ◌∷◌, Bool, true, false, cond, refl, sym, ◌∙◌, ap, subst, inl, inr, zero, suc, arith}
use Rattle.std.specs.Prelude.{filter}
use Rattle.std.specs.List.{range_with_len}
use Rattle.std.proofs.lemmas.Bool.{cases_Bool, true≢false}
use Rattle.std.proofs.lemmas.Bool.Decides.{nat_tests}
use Rattle.s3_meaning.specs.Source.{is_input}
use Rattle.s3_program.specs.declared.program.Program.{Program}
use Rattle.s3_match.specs.Inner.Heads.{file_at}
use Rattle.s3_match.specs.Inner.Reading.{is_input_slot, input_slots}

-- ---- kept numbers of a range, in order
abbrev kept_of : (ℕ → Bool) → ℕ → ℕ → List ℕ
kept_of p a n = filter p (range_with_len a n)

record Within (p : ℕ → Bool) (a n k : ℕ) (x : ℕ) : Type 0 where
  low : a ≤ x
  high : x < a + n
  passes : p x ≡ true

each_kept : (p : ℕ → Bool) (a n k : ℕ) → k < length (kept_of p a n) → Within p a n k (get_or (kept_of p a n) k 0)
each_kept p a zero k within = absurd (omega (arith, within))
each_kept p a (suc n) k within = by (p a) refl k within (λ j h. later j (each_kept p (a + 1) n j h))
  where
    later : (j : ℕ) → Within p (a + 1) n j (get_or (kept_of p (a + 1) n) j 0) → Within p a (suc n) k (get_or (kept_of p (a + 1) n) j 0)
    later j w = record { low = omega (arith, w.low); high = omega (arith, w.high); passes = w.passes }

    by : (b : Bool) → p a ≡ b → (j : ℕ) → j < length (cond b (a ∷ kept_of p (a + 1) n) (kept_of p (a + 1) n))
        → ((j : ℕ) → j < length (kept_of p (a + 1) n) → Within p a (suc n) k (get_or (kept_of p (a + 1) n) j 0))
        → Within p a (suc n) k (get_or (cond b (a ∷ kept_of p (a + 1) n) (kept_of p (a + 1) n)) j 0)
    by true e zero h each = record { low = omega arith; high = omega arith; passes = e }
    by true e (suc j) h each = each j (omega (arith, h))
    by false e j h each = each j h

rises : (p : ℕ → Bool) (a n j k : ℕ) → j < k → k < length (kept_of p a n) → get_or (kept_of p a n) j 0 < get_or (kept_of p a n) k 0
rises p a zero j k less within = absurd (omega (arith, within))
rises p a (suc n) j k less within = by (p a) j k less within (λ j k l h. rises p (a + 1) n j k l h)
  where
    by : (b : Bool) (j k : ℕ) → j < k → k < length (cond b (a ∷ kept_of p (a + 1) n) (kept_of p (a + 1) n))
        → ((j k : ℕ) → j < k → k < length (kept_of p (a + 1) n) → get_or (kept_of p (a + 1) n) j 0 < get_or (kept_of p (a + 1) n) k 0)
        → get_or (cond b (a ∷ kept_of p (a + 1) n) (kept_of p (a + 1) n)) j 0 < get_or (cond b (a ∷ kept_of p (a + 1) n) (kept_of p (a + 1) n)) k 0
    by true zero zero l h later = absurd (omega (arith, l))
    by true zero (suc k) l h later = let w : a + 1 ≤ get_or (kept_of p (a + 1) n) k 0 = (each_kept p (a + 1) n k (omega (arith, h))).low in omega (arith, w)
    by true (suc j) zero l h later = absurd (omega (arith, l))
    by true (suc j) (suc k) l h later = later j k (omega (arith, l)) (omega (arith, h))
    by false j k l h later = later j k l h

-- two places have one number only where they are one
pub same_place : (p : ℕ → Bool) (n j k : ℕ) → j < length (kept_of p 0 n) → k < length (kept_of p 0 n) → (get_or (kept_of p 0 n) j 0 == get_or (kept_of p 0 n) k 0) ≡ (j == k)
same_place p n j k one two = elim (cases_Bool (j == k)) [
  | inl same ↦
      let e : j ≡ k = number j k same in
      equal (get_or (kept_of p 0 n) j 0) (get_or (kept_of p 0 n) k 0) (ap (λ (m : ℕ). get_or (kept_of p 0 n) m 0) e) ∙ sym same
  | inr other ↦ elim (cases_Bool (get_or (kept_of p 0 n) j 0 == get_or (kept_of p 0 n) k 0)) [
    | inl hit ↦ absurd (apart j k one two other (number (get_or (kept_of p 0 n) j 0) (get_or (kept_of p 0 n) k 0) hit))
    | inr miss ↦ miss ∙ sym other
  ]
]
  where
    equal : (m n : ℕ) → m ≡ n → (m == n) ≡ true
    equal m n h = grind (arith, nat_tests, h)

    number : (m n : ℕ) → (m == n) ≡ true → m ≡ n
    number m n h = grind (arith, nat_tests, h)

    order : (j k : ℕ) → (j == k) ≡ false → (k ≤ j → ⊥) → (j ≤ k → ⊥) → ⊥
    order j k other up down = elim (cases_Bool (j == k)) [
      | inl same ↦ true≢false (sym same ∙ other)
      | inr not_it ↦ grind (arith, nat_tests, other, up, down)
    ]

    apart : (j k : ℕ) → j < length (kept_of p 0 n) → k < length (kept_of p 0 n) → (j == k) ≡ false → get_or (kept_of p 0 n) j 0 ≡ get_or (kept_of p 0 n) k 0 → ⊥
    apart j k h h' other e = grind (arith, nat_tests, rises p 0 n j k, rises p 0 n k j)

-- ---- one number more
one_at_end : (p : ℕ → Bool) (a n : ℕ) → kept_of p a (suc n) ≡ kept_of p a n ++ cond (p (a + n)) ((a + n) ∷ []) []
one_at_end p a zero = ap (λ (x : ℕ). cond (p x) (x ∷ []) []) (omega arith)
one_at_end p a (suc n) = by (p a) (one_at_end p (a + 1) n ∙ ap (λ (x : ℕ). kept_of p (a + 1) n ++ cond (p x) (x ∷ []) []) (omega arith))
  where
    by : (b : Bool) → kept_of p (a + 1) (suc n) ≡ kept_of p (a + 1) n ++ cond (p (a + suc n)) ((a + suc n) ∷ []) []
        → cond b (a ∷ kept_of p (a + 1) (suc n)) (kept_of p (a + 1) (suc n)) ≡ cond b (a ∷ kept_of p (a + 1) n) (kept_of p (a + 1) n) ++ cond (p (a + suc n)) ((a + suc n) ∷ []) []
    by true later = ap (λ (xs : List ℕ). a ∷ xs) later
    by false later = later

pub one_more_kept : (p : ℕ → Bool) (a n m : ℕ) → m ≡ a + n → kept_of p a (n + 1) ≡ kept_of p a n ++ cond (p m) (m ∷ []) []
one_more_kept p a n m e =
    subst (λ (x : ℕ). kept_of p a (n + 1) ≡ kept_of p a n ++ cond (p x) (x ∷ []) []) (sym e)
    (let one : n + 1 ≡ suc n = omega arith in ap (λ (k : ℕ). kept_of p a k) one ∙ one_at_end p a n)

-- ---- the slots of a program
pub slot_kept : (program : Program) (slots : List ℕ) (k : ℕ) → slots ≡ input_slots program → k < length slots
    → (get_or slots k 0 < length program.files.items) × (is_input (file_at program (get_or slots k 0)) ≡ true)
slot_kept program slots k e within =
    let w = each_kept (is_input_slot program) 0 (length program.files.items) k (subst (λ (xs : List ℕ). k < length xs) e within) in
    subst (λ (xs : List ℕ). (get_or xs k 0 < length program.files.items) × (is_input (file_at program (get_or xs k 0)) ≡ true)) (sym e) (omega (arith, w.high), w.passes)

pub slot_once : (program : Program) (slots : List ℕ) (j k : ℕ) → slots ≡ input_slots program → j < length slots → k < length slots → (get_or slots j 0 == get_or slots k 0) ≡ (j == k)
slot_once program slots j k e one two =
    subst (λ (xs : List ℕ). (get_or xs j 0 == get_or xs k 0) ≡ (j == k)) (sym e)
    (same_place (is_input_slot program) (length program.files.items) j k (subst (λ (xs : List ℕ). j < length xs) e one) (subst (λ (xs : List ℕ). k < length xs) e two))
