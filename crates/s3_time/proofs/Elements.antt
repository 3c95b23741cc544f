-- What holds of each element of a list.
use Rattle.std.proofs.Common.{◌≡◌, Bool, true, false, List, [], ◌∷◌, ◌++◌, refl, sym, ◌∙◌, ap, subst}
use Rattle.std.specs.Prelude.{Option, Some, None, cond, filter, find, filter_map, map}
use Rattle.std.specs.List.{AllByRecursion as Each, cons_option, list_any}
use Rattle.std.proofs.lemmas.Bool.{or_from}

pub found_one : {X : Type 0} (P : X → Type 0) (test : X → Bool) (xs : List X) (x : X) → Each P xs → find test xs ≡ Some x → P x × (test x ≡ true)
found_one P test [] x each is = absurd cc
found_one {X} P test (y ∷ xs) x each is = by (test y) refl is (found_one P test xs x each.1)
  where
    by : (b : Bool) → test y ≡ b → cond b (Some y) (find test xs) ≡ Some x → (find test xs ≡ Some x → P x × (test x ≡ true)) → P x × (test x ≡ true)
    by true passes is later = let same : y ≡ x = cc in (subst P same each.0, ap test (sym same) ∙ passes)
    by false fails is later = later is

pub each_filtered : {X : Type 0} (P Q : X → Type 0) (test : X → Bool) (xs : List X) → Each P xs → ((x : X) → P x → test x ≡ true → Q x) → Each Q (filter test xs)
each_filtered P Q test [] each go = tt
each_filtered P Q test (x ∷ xs) each go = by (test x) refl (each_filtered P Q test xs each.1 go)
  where
    by : (b : Bool) → test x ≡ b → Each Q (filter test xs) → Each Q (cond b (x ∷ filter test xs) (filter test xs))
    by true passes more = (go x each.0 passes, more)
    by false fails more = more

pub each_mapped : {X Y : Type 0} (P : X → Type 0) (Q : Y → Type 0) (f : X → Y) (xs : List X) → Each P xs → ((x : X) → P x → Q (f x)) → Each Q (map f xs)
each_mapped P Q f [] each go = tt
each_mapped P Q f (x ∷ xs) each go = (go x each.0, each_mapped P Q f xs each.1 go)

pub each_other : {X : Type 0} (P Q : X → Type 0) (xs : List X) → Each P xs → ((x : X) → P x → Q x) → Each Q xs
each_other P Q [] each go = tt
each_other P Q (x ∷ xs) each go = (go x each.0, each_other P Q xs each.1 go)

pub each_taken : {X Y : Type 0} (P : X → Type 0) (Q : Y → Type 0) (f : X → Option Y) (xs : List X) → Each P xs → ((x : X) (y : Y) → P x → f x ≡ Some y → Q y) → Each Q (filter_map f xs)
each_taken P Q f [] each go = tt
each_taken {X} {Y} P Q f (x ∷ xs) each go = by (f x) refl (each_taken P Q f xs each.1 go)
  where
    by : (o : Option Y) → f x ≡ o → Each Q (filter_map f xs) → Each Q (cons_option o (filter_map f xs))
    by None none more = more
    by (Some y) some more = (go x y each.0 some, more)

pub each_joined : {X : Type 0} (P : X → Type 0) (xs ys : List X) → Each P xs → Each P ys → Each P (xs ++ ys)
each_joined P [] ys one other = other
each_joined P (x ∷ xs) ys one other = (one.0, each_joined P xs ys one.1 other)

pub none_passes : {X : Type 0} (P : X → Type 0) (test : X → Bool) (xs : List X) → Each P xs → ((x : X) → P x → test x ≡ false) → list_any test xs ≡ false
none_passes P test [] each go = refl
none_passes P test (x ∷ xs) each go = or_from (test x) (list_any test xs) (go x each.0) (none_passes P test xs each.1 go)

pub each_both : {X : Type 0} (P Q : X → Type 0) (xs : List X) → Each P xs → Each Q xs → Each (λ x. P x × Q x) xs
each_both P Q [] one other = tt
each_both P Q (x ∷ xs) one other = ((one.0, other.0), each_both P Q xs one.1 other.1)
