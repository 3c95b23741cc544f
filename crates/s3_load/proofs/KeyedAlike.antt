-- Records in the order of their keys: the same records have the same order.
use Rattle.std.proofs.Common.{◌≡◌, ℕ, zero, suc, ◌<◌, ◌⊎◌, inl, inr, refl, arith, sym, ◌∙◌, ap, subst, List, [], ◌∷◌, length, get_or}
use Rattle.std.specs.Prelude.{None, Option, Some, IsPermutation}
use Rattle.std.specs.Cmp.Lexicographic.{slice_cmp}
use Rattle.std.specs.List.{AllPairs}
use Rattle.std.specs.Ordering.{nat_cmp, ordering_reverse}
use Rattle.std.specs.declared.cmp.Ordering.TheVariants.{Greater, Less}
use Rattle.std.proofs.lemmas.Cmp.{nat_list_cmp_total}
use Rattle.std.proofs.lemmas.List.Sorted.{All-permutation, IsPermutation-sym}
use Rattle.s3_lines.specs.declared.sheet.KeyField.{KeyField}
use Rattle.s3_load.specs.Inner.KeyOrder.{key_in}
use Rattle.s3_load.specs.Inner.RoundTrip.{AreByKey}

unfoldable In : List ℕ → List (List ℕ) → Type 0
In x [] = ⊥
In x (y ∷ ys) = (x ≡ y) ⊎ In x ys

in_at : (xs : List (List ℕ)) (k : ℕ) (d : List ℕ) → k < length xs → In (get_or xs k d) xs
unfolding In
in_at [] k d low = absurd (omega (arith, low))
in_at (x ∷ xs) zero d low = inl refl
in_at (x ∷ xs) (suc k) d low = inr (in_at xs k d (omega (arith, low)))

all_in : (P : List ℕ → Type 0) (xs : List (List ℕ)) (z : List ℕ) → ((k : ℕ) (d : List ℕ) → k < length xs → P (get_or xs k d)) → In z xs → P z
unfolding In
all_in P [] z all on = absurd on
all_in P (x ∷ xs) z all on = elim on [ inl same ↦ subst P (sym same) (all 0 x (omega arith)) | inr later ↦ all_in P xs z (λ k d low. all (suc k) d (omega (arith, low))) later ]

moved_in : (xs ys : List (List ℕ)) (z : List ℕ) → IsPermutation xs ys → In z ys → In z xs
moved_in xs ys z moved on = all_in (λ x. In x xs) ys z (All-permutation (λ x. In x xs) xs ys moved (λ k d low. in_at xs k d low)) on

module _ (R : List ℕ → List ℕ → Type 0) (irreflexive : (x : List ℕ) → R x x → ⊥) (transitive : (x y z : List ℕ) → R x y → R y z → R x z) where
  unfoldable Front : List ℕ → List (List ℕ) → Type 0
  Front x [] = Unit {0}
  Front x (y ∷ ys) = R x y × Front x ys

  unfoldable Strict : List (List ℕ) → Type 0
  Strict [] = Unit {0}
  Strict (x ∷ xs) = Front x xs × Strict xs

  front_in : (x : List ℕ) (ys : List (List ℕ)) (z : List ℕ) → Front x ys → In z ys → R x z
  unfolding In Front
  front_in x [] z h on = absurd on
  front_in x (y ∷ ys) z h on = elim on [ inl same ↦ subst (R x) (sym same) h.0 | inr later ↦ front_in x ys z h.1 later ]

  front_from : (x : List ℕ) (xs : List (List ℕ)) → ((j : ℕ) (d : List ℕ) → j < length xs → R x (get_or xs j d)) → Front x xs
  unfolding Front
  front_from x [] h = tt
  front_from x (y ∷ ys) h = (h 0 y (omega arith), front_from x ys (λ j d low. h (suc j) d (omega (arith, low))))

  strict_from : (xs : List (List ℕ)) → AllPairs R xs → Strict xs
  unfolding Strict
  strict_from [] h = tt
  strict_from (x ∷ xs) h = (front_from x xs (λ j d low. h 0 (suc j) d (omega arith) (omega (arith, low))), strict_from xs (λ i j d less low. h (suc i) (suc j) d (omega (arith, less)) (omega (arith, low))))

  same_lists : (xs ys : List (List ℕ)) → Strict xs → Strict ys → ((z : List ℕ) → In z xs → In z ys) → ((z : List ℕ) → In z ys → In z xs) → xs ≡ ys
  unfolding In Strict
  same_lists [] [] one other to back = refl
  same_lists [] (y ∷ ys) one other to back = absurd (back y (inl refl))
  same_lists (x ∷ xs) [] one other to back = absurd (to x (inl refl))
  same_lists (x ∷ xs) (y ∷ ys) one other to back =
      let head : x ≡ y = elim (to x (inl refl)) [
        | inl same ↦ same
        | inr later ↦ elim (back y (inl refl)) [ inl same ↦ sym same | inr deep ↦ absurd (irreflexive x (transitive x y x (front_in x xs y one.0 deep) (front_in y ys x other.0 later))) ]
      ] in
      let tail : xs ≡ ys = same_lists xs ys one.1 other.1
      (λ z on. elim (to z (inr on)) [ inl same ↦ absurd (irreflexive x (subst (R x) (same ∙ sym head) (front_in x xs z one.0 on))) | inr there ↦ there ])
      (λ z on. elim (back z (inr on)) [ inl same ↦ absurd (irreflexive y (subst (R y) (same ∙ head) (front_in y ys z other.0 on))) | inr there ↦ there ]) in
      ap (λ h. h ∷ xs) head ∙ ap (λ l. y ∷ l) tail

  pub same_order : (xs ys : List (List ℕ)) → IsPermutation xs ys → AllPairs R xs → AllPairs R ys → xs ≡ ys
  same_order xs ys moved one other = same_lists xs ys (strict_from xs one) (strict_from ys other) (λ z on. moved_in ys xs z (IsPermutation-sym xs ys moved) on) (λ z on. moved_in xs ys z moved on)

key_itself : (text : List ℕ) → slice_cmp nat_cmp text text ≡ Less → ⊥
key_itself text h = let other : Less ≡ Greater = sym h ∙ nat_list_cmp_total.antisymm text text ∙ ap ordering_reverse h in cc

pub keyed_alike : (key : KeyField) (xs ys : List (List ℕ)) → IsPermutation xs ys → AreByKey (Some key) xs → AreByKey (Some key) ys → xs ≡ ys
keyed_alike key xs ys moved one other =
    same_order (λ x y. slice_cmp nat_cmp (key_in key x) (key_in key y) ≡ Less) (λ x h. key_itself (key_in key x) h) (λ x y z h k. nat_list_cmp_total.trans (key_in key x) (key_in key y) (key_in key z) h k) xs ys moved one other

pub as_they_stood : (key : Option KeyField) (records got : List (List ℕ)) → IsPermutation records got → (key ≡ None → got ≡ records) → AreByKey key got → AreByKey key records → got ≡ records
as_they_stood None records got moved unkeyed keyed stand = unkeyed refl
as_they_stood (Some key) records got moved unkeyed keyed stand = sym (keyed_alike key records got moved stand keyed)
