-- The depth of calls: if no call is a ninth nested one, calls are nested at most eight deep.
use Rattle.std.proofs.Common.{◌≡◌, ℕ, ◌<◌, ◌≤◌, List, [], ◌∷◌, Bool, true, false, ◌||◌, refl, sym, ◌∙◌, ap, arith, zero, suc, ◌+◌, ◌-◌, inl, inr}
use Rattle.std.specs.Prelude.{nat_lt}
use Rattle.std.proofs.lemmas.Bool.Decides.{nat_tests}
use Rattle.std.specs.List.{list_any}
use Rattle.std.proofs.lemmas.Bool.{and_parts, cases_Bool, true≢false}
use Rattle.s3_program.specs.declared.call.Call.{Call}
use Rattle.s3_program.specs.Jumps.{ends_chain}
use Rattle.s3_program.proofs.SoundLemmas.{both}

any_more : {X : Type 0} (p q : X → Bool) → ((x : X) → p x ≡ true → q x ≡ true) → (xs : List X) → list_any p xs ≡ true → list_any q xs ≡ true
any_more p q so [] any = any
any_more {X} p q so (x ∷ xs) any = step (p x) (q x) (so x) any (any_more p q so xs)
  where
    step : (a b : Bool) → (a ≡ true → b ≡ true) → (a || list_any p xs) ≡ true → (list_any p xs ≡ true → list_any q xs ≡ true) → (b || list_any q xs) ≡ true
    step true b here any later = rw (here refl) refl
    step false true here any later = refl
    step false false here any later = later any

-- nested calls without the first are nested calls too
pub shorter : (calls : List Call) (n : ℕ) (to : _) → ends_chain calls (suc n) to ≡ true → ends_chain calls n to ≡ true
shorter calls zero to chain = refl
shorter calls (suc n) to chain =
    any_more _ _ (λ call both_hold. let parts = and_parts _ _ both_hold in both _ _ parts.0 (shorter calls n call.caller parts.1)) calls chain

down : (calls : List Call) (m k : ℕ) (to : _) → ends_chain calls (m + k) to ≡ true → ends_chain calls k to ≡ true
down calls zero k to chain = let e : 0 + k ≡ k = omega arith in ap (λ n. ends_chain calls n to) (sym e) ∙ chain
down calls (suc m) k to chain =
    let e : suc m + k ≡ suc (m + k) = omega arith in
    down calls m k to (shorter calls (m + k) to (ap (λ n. ends_chain calls n to) (sym e) ∙ chain))

-- if no eight nested calls end in a subroutine, nested calls that end there are fewer than eight
pub room_left : (calls : List Call) (n : ℕ) (to : _) → ends_chain calls 8 to ≡ false → ends_chain calls n to ≡ true → n < 8
room_left calls n to most chain = elim (cases_Bool (nat_lt n 8)) [
  | inl below ↦ grind (arith, nat_tests, below)
  | inr not_below ↦
      let past : 8 ≤ n = grind (arith, nat_tests, not_below) in
      let e : n - 8 + 8 ≡ n = omega (arith, past) in
      absurd (true≢false (sym (down calls (n - 8) 8 to (ap (λ k. ends_chain calls k to) e ∙ chain)) ∙ most))
]
