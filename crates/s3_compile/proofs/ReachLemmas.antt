-- A backward search from a subroutine, level by level of callers.
use Rattle.std.proofs.Common.{◌≡◌, ℕ, ◌≤◌, ◌<◌, ◌-◌, List, [], ◌∷◌, ◌++◌, length, take, get_or, Bool, true, false, ◌||◌, ◌&&◌, not, refl, sym, ◌∙◌, ap, arith, zero, suc, ◌+◌, nat_eq, subst, inl, inr, Vec}
use Rattle.std.specs.List.{list_any, flat_map}
use Rattle.std.proofs.Math.Path.{fun_ext}
use Rattle.std.proofs.lemmas.Bool.{and_parts, and_from, or_cases, or_left, or_right, cases_Bool, eqb-true, eq-eqb}
use Rattle.std.proofs.lemmas.List.{take_more, flat_map_more}
use Rattle.std.proofs.lemmas.List.Folds.{Any-from_list_any, list_any-from_Any, list_any-append}
use Rattle.indexmap.specs.IndexMap.{IndexMap}
use Rattle.indexmap.specs.IndexSet.{IndexSet, contains}
use Rattle.s3_program.specs.declared.call.Call.{Call}
use Rattle.s3_program.specs.Jumps.{is_place, reaches}
use Rattle.s3_compile.specs.Inner.Reaching.{calls_it, callers_in, HasCallers, Adds}
use Rattle.s3_compile.proofs.ChainLemmas.{alike, or_none}

-- The set has the subroutines that reach `to` by at most n calls. Each caller of one is in the set, except callers of those at the last
-- level.
pub record Level {S : Type 0} (calls : List Call) (n to : ℕ) (reaching : IndexSet ℕ S) (level : List ℕ) : Type 0 where
  pub at : (from : ℕ) → contains nat_eq reaching from ≡ reaches calls n from to
  pub within : (from : ℕ) → list_any (nat_eq from) level ≡ true → contains nat_eq reaching from ≡ true
  pub closed : (callee caller : ℕ) → contains nat_eq reaching callee ≡ true → calls_it calls caller callee ≡ true
      → (list_any (nat_eq callee) level || contains nat_eq reaching caller) ≡ true

-- ---- lists
number_at : (test : ℕ → Bool) (xs : List ℕ) (x : ℕ) → list_any (nat_eq x) xs ≡ true → test x ≡ true → list_any test xs ≡ true
number_at test xs x has passes =
    let found = Any-from_list_any (nat_eq x) xs has in
    list_any-from_Any test xs (found.0, found.1, found.2, found.3, ap test (sym (eqb-true x found.1 found.4)) ∙ passes)

any_flat : {X Y : Type 0} (test : Y → Bool) (f : X → List Y) (xs : List X) → list_any test (flat_map f xs) ≡ list_any (λ x. list_any test (f x)) xs
any_flat test f [] = refl
any_flat test f (x ∷ xs) = list_any-append test (f x) (flat_map f xs) ∙ ap (λ b. list_any test (f x) || b) (any_flat test f xs)

-- ---- added subroutines
pub adds_nothing : {S : Type 0} (set : IndexSet ℕ S) (list : List ℕ) → Adds set set list list []
adds_nothing set list = record {
  all = λ subroutine. sym (or_none (contains nat_eq set subroutine));
  fresh = λ subroutine. nothing (list_any (nat_eq subroutine) list) (contains nat_eq set subroutine);
}
  where
    nothing : (b o : Bool) → b ≡ (b || (not o && false))
    nothing true o = refl
    nothing false true = refl
    nothing false false = refl

or_joined : (o x y : Bool) → ((o || x) || y) ≡ (o || (x || y))
or_joined true x y = refl
or_joined false x y = refl

fresh_joined : (b o x y : Bool) → ((b || (not o && x)) || (not (o || x) && y)) ≡ (b || (not o && (x || y)))
fresh_joined true o x y = refl
fresh_joined false true x y = refl
fresh_joined false false true y = refl
fresh_joined false false false y = refl

adds_joined : {S : Type 0} (old mid new : IndexSet ℕ S) (before between after xs ys : List ℕ) → Adds old mid before between xs → Adds mid new between after ys → Adds old new before after (xs ++ ys)
adds_joined old mid new before between after xs ys first second = record {
  all = λ subroutine.
      second.all subroutine
      ∙ (ap (λ b. b || list_any (nat_eq subroutine) ys) (first.all subroutine)
      ∙ (or_joined (contains nat_eq old subroutine) (list_any (nat_eq subroutine) xs) (list_any (nat_eq subroutine) ys)
      ∙ ap (λ b. contains nat_eq old subroutine || b) (sym (list_any-append (nat_eq subroutine) xs ys))));
  fresh = λ subroutine.
      second.fresh subroutine
      ∙ (ap (λ b. b || (not (contains nat_eq mid subroutine) && list_any (nat_eq subroutine) ys)) (first.fresh subroutine)
      ∙ (ap (λ b. (list_any (nat_eq subroutine) before || (not (contains nat_eq old subroutine) && list_any (nat_eq subroutine) xs)) || (not b && list_any (nat_eq subroutine) ys)) (first.all subroutine)
      ∙ (fresh_joined (list_any (nat_eq subroutine) before) (contains nat_eq old subroutine) (list_any (nat_eq subroutine) xs) (list_any (nat_eq subroutine) ys)
      ∙ ap (λ b. list_any (nat_eq subroutine) before || (not (contains nat_eq old subroutine) && b)) (sym (list_any-append (nat_eq subroutine) xs ys)))));
}

pub adds_more : {S : Type 0} (old mid new : IndexSet ℕ S) (before between after xs : List ℕ) (i : ℕ) → i < length xs
    → Adds old mid before between (take i xs) → Adds mid new between after (get_or xs i 0 ∷ []) → Adds old new before after (take (i + 1) xs)
adds_more old mid new before between after xs i within first second =
    subst (λ (added : List ℕ). Adds old new before after added) (sym (take_more xs i 0 within)) (adds_joined old mid new before between after (take i xs) (get_or xs i 0 ∷ []) first second)

pub adds_flat : {S : Type 0} (f : ℕ → List ℕ) (old mid new : IndexSet ℕ S) (before between after xs here : List ℕ) (i : ℕ) → i < length xs → here ≡ f (get_or xs i 0)
    → Adds old mid before between (flat_map f (take i xs)) → Adds mid new between after here → Adds old new before after (flat_map f (take (i + 1) xs))
adds_flat f old mid new before between after xs here i within is first second =
    subst (λ (added : List ℕ). Adds old new before after added) (flat_map_more f [] (take i xs) (get_or xs i 0) ∙ ap (λ (ys : List ℕ). flat_map f ys) (sym (take_more xs i 0 within)))
    (adds_joined old mid new before between after (flat_map f (take i xs)) (f (get_or xs i 0)) first (subst (λ (added : List ℕ). Adds mid new between after added) is second))

-- ---- nested calls
itself : (calls : List Call) (n from to : ℕ) → nat_eq from to ≡ true → reaches calls n from to ≡ true
itself calls zero from to same = same
itself calls (suc n) from to same = or_left _ _ same

farther : (calls : List Call) (n from to : ℕ) → reaches calls n from to ≡ true → reaches calls (suc n) from to ≡ true
farther calls zero from to same = or_left _ _ same
farther calls (suc n) from to reached =
    elim (or_cases (nat_eq from to) (list_any (λ call. is_place call.caller from && reaches calls n call.callee to) calls) reached) [
      | inl same ↦ itself calls (suc (suc n)) from to same
      | inr through ↦
          let found = Any-from_list_any (λ call. is_place call.caller from && reaches calls n call.callee to) calls through in
          let call = found.1 in
          let parts = and_parts (is_place call.caller from) (reaches calls n call.callee to) found.4 in
          or_right (nat_eq from to) _
          (list_any-from_Any (λ other. is_place other.caller from && reaches calls (suc n) other.callee to) calls
          (found.0, call, found.2, found.3, and_from _ _ parts.0 (farther calls n call.callee to parts.1)))
    ]

-- ---- levels
pub level_next : {A S R : Type 0} (calls : List Call) (table : IndexMap ℕ (Vec ℕ A) R) (n to : ℕ) (old new : IndexSet ℕ S) (level next : List ℕ) → HasCallers table calls → Level calls n to old level
    → Adds old new [] next (flat_map (callers_in table) level) → Level calls (n + 1) to new next
level_next {A} {S} {R} calls table n to old new level next has before adds =
    let further : suc n ≡ n + 1 = omega arith in
    record {
      at = λ from. alike (contains nat_eq new from) (reaches calls (suc n) from to) (forth from) (back from) ∙ ap (λ k. reaches calls k from to) further;
      within = λ from there. grown from (or_right (contains nat_eq old from) (stepped from) (and_parts (not (contains nat_eq old from)) (stepped from) (sym (freshly from) ∙ there)).1);
      closed = closed_now;
    }
  where
    -- whether it calls a subroutine of the level
    stepped : ℕ → Bool
    stepped from = list_any (calls_it calls from) level

    adds_step : (from : ℕ) → list_any (nat_eq from) (flat_map (callers_in table) level) ≡ stepped from
    adds_step from = any_flat (nat_eq from) (callers_in table) level ∙ ap (λ (f : ℕ → Bool). list_any f level) (fun_ext (λ callee. has.at callee from))

    grows : (from : ℕ) → contains nat_eq new from ≡ (contains nat_eq old from || stepped from)
    grows from = adds.all from ∙ ap (λ b. contains nat_eq old from || b) (adds_step from)

    grown : (from : ℕ) → (contains nat_eq old from || stepped from) ≡ true → contains nat_eq new from ≡ true
    grown from e = grows from ∙ e

    freshly : (from : ℕ) → list_any (nat_eq from) next ≡ (not (contains nat_eq old from) && stepped from)
    freshly from = adds.fresh from ∙ ap (λ b. not (contains nat_eq old from) && b) (adds_step from)

    called_back : (callee caller : ℕ) → contains nat_eq old callee ≡ true → calls_it calls caller callee ≡ true → contains nat_eq new caller ≡ true
    called_back callee caller known calls_so =
        elim (or_cases (list_any (nat_eq callee) level) (contains nat_eq old caller) (before.closed callee caller known calls_so)) [
          | inl last ↦ grown caller (or_right (contains nat_eq old caller) (stepped caller) (number_at (calls_it calls caller) level callee last calls_so))
          | inr earlier ↦ grown caller (or_left (contains nat_eq old caller) (stepped caller) earlier)
        ]

    forth : (from : ℕ) → contains nat_eq new from ≡ true → reaches calls (suc n) from to ≡ true
    forth from there =
        elim (or_cases (contains nat_eq old from) (stepped from) (sym (grows from) ∙ there)) [
          | inl earlier ↦ farther calls n from to (sym (before.at from) ∙ earlier)
          | inr through ↦
              let found = Any-from_list_any (calls_it calls from) level through in
              let callee = found.1 in
              let known : contains nat_eq old callee ≡ true = before.within callee (list_any-from_Any (nat_eq callee) level (found.0, callee, found.2, found.3, eq-eqb callee callee refl)) in
              let call = Any-from_list_any (λ call. is_place call.caller from && nat_eq callee call.callee) calls found.4 in
              let parts = and_parts (is_place call.1.caller from) (nat_eq callee call.1.callee) call.4 in
              let onward : reaches calls n call.1.callee to ≡ true = ap (λ s. reaches calls n s to) (sym (eqb-true callee call.1.callee parts.1)) ∙ (sym (before.at callee) ∙ known) in
              or_right (nat_eq from to) (list_any (λ other. is_place other.caller from && reaches calls n other.callee to) calls)
              (list_any-from_Any (λ other. is_place other.caller from && reaches calls n other.callee to) calls (call.0, call.1, call.2, call.3, and_from _ _ parts.0 onward))
        ]

    back : (from : ℕ) → reaches calls (suc n) from to ≡ true → contains nat_eq new from ≡ true
    back from reached =
        elim (or_cases (nat_eq from to) (list_any (λ call. is_place call.caller from && reaches calls n call.callee to) calls) reached) [
          | inl same ↦ grown from (or_left (contains nat_eq old from) (stepped from) (before.at from ∙ itself calls n from to same))
          | inr through ↦
              let found = Any-from_list_any (λ call. is_place call.caller from && reaches calls n call.callee to) calls through in
              let callee = found.1.callee in
              let parts = and_parts (is_place found.1.caller from) (reaches calls n callee to) found.4 in
              let calls_so : calls_it calls from callee ≡ true = list_any-from_Any (λ other. is_place other.caller from && nat_eq callee other.callee) calls (found.0, found.1, found.2, found.3, and_from _ _ parts.0 (eq-eqb callee callee refl)) in
              called_back callee from (before.at callee ∙ parts.1) calls_so
        ]

    closed_now : (callee caller : ℕ) → contains nat_eq new callee ≡ true → calls_it calls caller callee ≡ true → (list_any (nat_eq callee) next || contains nat_eq new caller) ≡ true
    closed_now callee caller there calls_so =
        elim (cases_Bool (contains nat_eq old callee)) [
          | inl known ↦ or_right (list_any (nat_eq callee) next) (contains nat_eq new caller) (called_back callee caller known calls_so)
          | inr unknown ↦
              let through : stepped callee ≡ true = sym (ap (λ b. b || stepped callee) unknown) ∙ (sym (grows callee) ∙ there) in
              or_left (list_any (nat_eq callee) next) (contains nat_eq new caller) (freshly callee ∙ and_from _ _ (ap not unknown) through)
        ]

-- an empty level is the last one
stays : {A S R : Type 0} (calls : List Call) (table : IndexMap ℕ (Vec ℕ A) R) (n to : ℕ) (reaching : IndexSet ℕ S) → HasCallers table calls → Level calls n to reaching []
    → (k : ℕ) → Level calls (k + n) to reaching []
stays calls table n to reaching has last zero = let e : n ≡ 0 + n = omega arith in subst (λ (m : ℕ). Level calls m to reaching []) e last
stays calls table n to reaching has last (suc k) =
    let e : k + n + 1 ≡ suc k + n = omega arith in
    subst (λ (m : ℕ). Level calls m to reaching []) e (level_next calls table (k + n) to reaching reaching [] [] has (stays calls table n to reaching has last k) (adds_nothing reaching []))

pub level_last : {A S R : Type 0} (calls : List Call) (table : IndexMap ℕ (Vec ℕ A) R) (n m to : ℕ) (reaching : IndexSet ℕ S) (level : List ℕ) → HasCallers table calls → Level calls n to reaching level
    → length level ≡ 0 → n ≤ m → (from : ℕ) → contains nat_eq reaching from ≡ reaches calls m from to
level_last calls table n m to reaching [] has last empty most from =
    let e : m - n + n ≡ m = omega (arith, most) in
    (stays calls table n to reaching has last (m - n)).at from ∙ ap (λ k. reaches calls k from to) e
level_last calls table n m to reaching (x ∷ xs) has last empty most from = absurd (omega (arith, empty))
