-- Names are the same exactly where they are equal.
use Rattle.std.proofs.Common.{◌≡◌, ℕ, nat_eq, Bool, true, false, ◌&&◌, List, [], ◌∷◌, refl, ap, sym, ◌∙◌, arith}
use Rattle.std.specs.Cmp.Lexicographic.{pointwise}
use Rattle.std.proofs.lemmas.Bool.{eqb-true, true≢false, and_parts}
use Rattle.std.proofs.lemmas.Bool.Decides.{nat_tests}
use Rattle.s3_cards.specs.declared.name.Name.{Name}
use Rattle.s3_cards.specs.Names.{same_name}

pub same_codes : (codes : List ℕ) → pointwise nat_eq codes codes ≡ true
same_codes [] = refl
same_codes (code ∷ codes) = both (nat_eq code code) (grind (arith, nat_tests)) (same_codes codes)
  where
    both : (a : Bool) {b : Bool} → a ≡ true → b ≡ true → (a && b) ≡ true
    both true p q = q
    both false p q = p

-- a name is the same as itself
pub same_name-self : (name : Name) → same_name name name ≡ true
same_name-self name = same_codes name.codes

pub equal_codes : (a b : List ℕ) → pointwise nat_eq a b ≡ true → a ≡ b
equal_codes [] [] h = refl
equal_codes [] (y ∷ ys) h = absurd (true≢false (sym h))
equal_codes (x ∷ xs) [] h = absurd (true≢false (sym h))
equal_codes (x ∷ xs) (y ∷ ys) h =
    let parts : (nat_eq x y ≡ true) × (pointwise nat_eq xs ys ≡ true) = and_parts (nat_eq x y) (pointwise nat_eq xs ys) h in
    ap (λ z. z ∷ xs) (eqb-true x y parts.0) ∙ ap (λ zs. y ∷ zs) (equal_codes xs ys parts.1)

-- names that are the same are equal
pub same_name-equal : (a b : Name) → same_name a b ≡ true → a ≡ b
same_name-equal a b h = ap (λ codes. let name : Name = record { codes = codes } in name) (equal_codes a.codes b.codes h)
