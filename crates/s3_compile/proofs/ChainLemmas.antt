-- Nested calls: the calls with a number of calls before them; a recursive call has any number before it.
use Rattle.std.proofs.Common.{◌≡◌, ℕ, ◌<◌, List, [], ◌∷◌, ◌++◌, take, get_or, length, Bool, true, false, cond, ◌||◌, ◌&&◌, refl, sym, ◌∙◌, ap, arith, zero, suc, ◌+◌, nat_eq, filter, inl, inr}
use Rattle.std.specs.Prelude.{Option, Some, None}
use Rattle.std.specs.List.{list_any}
use Rattle.std.proofs.lemmas.Bool.{and_parts, and_from, false≢true, eqb-true, eq-eqb, or_cases, cond-false, false_from_ne_true}
use Rattle.std.proofs.lemmas.List.{append-nil}
use Rattle.std.proofs.lemmas.List.Elements.{filter_agree, filter_more}
use Rattle.std.proofs.lemmas.List.Folds.{Any-from_list_any, list_any-from_Any}
use Rattle.s3_program.specs.declared.call.Call.{Call}
use Rattle.s3_program.specs.Jumps.{is_place, ends_chain, reaches}
use Rattle.s3_program.proofs.CallLemmas.{shorter}
use Rattle.s3_compile.specs.Inner.Chains.{is_called, is_among}

-- ---- tests
pub alike : (a b : Bool) → (a ≡ true → b ≡ true) → (b ≡ true → a ≡ true) → a ≡ b
alike true b forth back = sym (forth refl)
alike false true forth back = back refl
alike false false forth back = refl

pub or_none : (a : Bool) → (a || false) ≡ a
or_none true = refl
or_none false = refl

-- ---- lists
all_kept : {X : Type 0} (xs : List X) → filter (λ x. true) xs ≡ xs
all_kept [] = refl
all_kept (x ∷ xs) = ap (λ ys. x ∷ ys) (all_kept xs)

none_passes : {X : Type 0} (xs : List X) → list_any (λ x. false) xs ≡ false
none_passes [] = refl
none_passes (x ∷ xs) = none_passes xs

either_kept : (p a b : Bool) → a ≡ b → (p || a) ≡ ((p && true) || b)
either_kept true a b same = refl
either_kept false a b same = same

other_kept : (p a b : Bool) → a ≡ b → a ≡ ((p && false) || b)
other_kept true a b same = same
other_kept false a b same = same

pub any_kept : {X : Type 0} (test keeps : X → Bool) (xs : List X) → list_any test (filter keeps xs) ≡ list_any (λ x. test x && keeps x) xs
any_kept test keeps [] = refl
any_kept {X} test keeps (x ∷ xs) = step (keeps x) (any_kept test keeps xs)
  where
    step : (kept : Bool) → list_any test (filter keeps xs) ≡ list_any (λ y. test y && keeps y) xs
        → list_any test (cond kept (x ∷ filter keeps xs) (filter keeps xs)) ≡ ((test x && kept) || list_any (λ y. test y && keeps y) xs)
    step true later = either_kept (test x) _ _ later
    step false later = other_kept (test x) _ _ later

kept_twice : {X : Type 0} (more less : X → Bool) → ((x : X) → less x ≡ true → more x ≡ true) → (xs : List X) → filter less (filter more xs) ≡ filter less xs
kept_twice more less so [] = refl
kept_twice {X} more less so (x ∷ xs) = step (more x) (so x) (kept_twice more less so xs)
  where
    step : (kept : Bool) → (less x ≡ true → kept ≡ true) → filter less (filter more xs) ≡ filter less xs
        → filter less (cond kept (x ∷ filter more xs) (filter more xs)) ≡ cond (less x) (x ∷ filter less xs) (filter less xs)
    step true here later = ap (λ ys. cond (less x) (x ∷ ys) ys) later
    step false here later = later ∙ sym (cond-false (less x) _ _ (false_from_ne_true (less x) (λ passes. false≢true (here passes))))

pub passes_one : {X : Type 0} (keeps : X → Bool) (xs old new : List X) (i : ℕ) (d : X) → i < length xs → old ≡ filter keeps (take i xs) → keeps (get_or xs i d) ≡ true → new ≡ old ++ (get_or xs i d ∷ [])
    → new ≡ filter keeps (take (i + 1) xs)
passes_one {X} keeps xs old new i d within so_far passes is =
    is
    ∙ (ap (λ (ys : List X). ys ++ (get_or xs i d ∷ [])) so_far
    ∙ (ap (λ b. filter keeps (take i xs) ++ cond b (get_or xs i d ∷ []) []) (sym passes) ∙ sym (filter_more keeps xs i d within)))

pub passes_none : {X : Type 0} (keeps : X → Bool) (xs old : List X) (i : ℕ) (d : X) → i < length xs → old ≡ filter keeps (take i xs) → keeps (get_or xs i d) ≡ false → old ≡ filter keeps (take (i + 1) xs)
passes_none keeps xs old i d within so_far fails =
    so_far
    ∙ (sym (append-nil (filter keeps (take i xs)))
    ∙ (ap (λ b. filter keeps (take i xs) ++ cond b (get_or xs i d ∷ []) []) (sym fails) ∙ sym (filter_more keeps xs i d within)))

-- ---- one more call
pub within_same : (subroutines others : ℕ → Bool) → ((subroutine : ℕ) → subroutines subroutine ≡ others subroutine) → (calls : List Call)
    → filter (λ call. is_among subroutines call.caller) calls ≡ filter (λ call. is_among others call.caller) calls
within_same subroutines others same calls = filter_agree (λ call. is_among subroutines call.caller) (λ call. is_among others call.caller) (λ call. at call.caller) calls
  where
    at : (o : Option ℕ) → is_among subroutines o ≡ is_among others o
    at None = refl
    at (Some subroutine) = same subroutine

grown : (calls : List Call) (n : ℕ) (subroutine : Option ℕ)
    → is_among (is_called (filter (λ call. ends_chain calls n call.caller) calls)) subroutine ≡ ends_chain calls (suc n) subroutine
grown calls n None = sym (none_passes calls)
grown calls n (Some subroutine) = any_kept (λ call. nat_eq subroutine call.callee) (λ call. ends_chain calls n call.caller) calls

pub later_next : (calls left later : List Call) (n : ℕ) → left ≡ filter (λ call. ends_chain calls n call.caller) calls
    → later ≡ filter (λ call. is_among (is_called left) call.caller) left → later ≡ filter (λ call. ends_chain calls (n + 1) call.caller) calls
later_next calls left later n is next =
    let before : Call → Bool = λ call. ends_chain calls n call.caller in
    let behind : Call → Bool = λ call. ends_chain calls (suc n) call.caller in
    let further : suc n ≡ n + 1 = omega arith in
    next
    ∙ (ap (λ (cs : List Call). filter (λ call. is_among (is_called cs) call.caller) cs) is
    ∙ (filter_agree (λ call. is_among (is_called (filter before calls)) call.caller) behind (λ call. grown calls n call.caller) (filter before calls)
    ∙ (kept_twice before behind (λ call chain. shorter calls n call.caller chain) calls
    ∙ ap (λ k. filter (λ call. ends_chain calls k call.caller) calls) further)))

pub later_first : (calls later : List Call) → later ≡ filter (λ call. is_among (is_called calls) call.caller) calls → later ≡ filter (λ call. ends_chain calls 1 call.caller) calls
later_first calls later next = later_next calls calls later 0 (sym (all_kept calls)) next

-- ---- recursive calls
place_is : (o : Option ℕ) (place : ℕ) → is_place o place ≡ true → o ≡ Some place
place_is None place is = absurd (false≢true is)
place_is (Some other) place is = ap (λ (p : ℕ). Some p) (eqb-true other place is)

one_more : (calls : List Call) (n k : ℕ) (call : Call) → k < length calls → get_or calls k call ≡ call → ends_chain calls n call.caller ≡ true → ends_chain calls (suc n) (Some call.callee) ≡ true
one_more calls n k call within at chain =
    list_any-from_Any (λ other. nat_eq call.callee other.callee && ends_chain calls n other.caller) calls
    (k, call, within, at, and_from _ _ (eq-eqb call.callee call.callee refl) chain)

-- a subroutine reached from another has as many calls before it
reached_chain : (calls : List Call) (m n from to : ℕ) → reaches calls m from to ≡ true → ends_chain calls n (Some from) ≡ true → ends_chain calls n (Some to) ≡ true
reached_chain calls zero n from to same chain = ap (λ (s : ℕ). ends_chain calls n (Some s)) (sym (eqb-true from to same)) ∙ chain
reached_chain calls (suc m) n from to reached chain =
    elim (or_cases _ _ reached) [
      | inl same ↦ ap (λ (s : ℕ). ends_chain calls n (Some s)) (sym (eqb-true from to same)) ∙ chain
      | inr through ↦
          let found = Any-from_list_any (λ call. is_place call.caller from && reaches calls m call.callee to) calls through in
          let call = found.1 in
          let parts = and_parts (is_place call.caller from) (reaches calls m call.callee to) found.4 in
          let here : ends_chain calls n call.caller ≡ true = ap (λ o. ends_chain calls n o) (place_is call.caller from parts.0) ∙ chain in
          reached_chain calls m n call.callee to parts.1 (shorter calls n (Some call.callee) (one_more calls n found.0 call found.2 found.3 here))
    ]

pub circle_chain : (calls : List Call) (m n k : ℕ) (call : Call) (caller : ℕ) → k < length calls → get_or calls k call ≡ call → call.caller ≡ Some caller
    → reaches calls m call.callee caller ≡ true → ends_chain calls n (Some caller) ≡ true
circle_chain calls m zero k call caller within at is back = refl
circle_chain calls m (suc n) k call caller within at is back =
    let here : ends_chain calls n call.caller ≡ true = ap (λ o. ends_chain calls n o) is ∙ circle_chain calls m n k call caller within at is back in
    reached_chain calls m (suc n) call.callee caller back (one_more calls n k call within at here)
