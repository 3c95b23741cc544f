-- Recursive calls: each is also a ninth nested call.
use Rattle.std.proofs.Common.{◌≡◌, ℕ, ◌<◌, List, [], ◌∷◌, get_or, length, Bool, true, false, cond, ◌||◌, ◌&&◌, refl, sym, ◌∙◌, ap, arith, ◌+◌, nat_eq, filter, take, subst}
use Rattle.std.specs.Prelude.{Option, Some, None}
use Rattle.std.specs.Option.{option_eq}
use Rattle.std.specs.List.{list_any}
use Rattle.std.proofs.lemmas.Bool.{and_parts, and_from, and_right, or_right, false≢true, eqb-true, eq-eqb, false_from_ne_true, cond-true, cond-false}
use Rattle.std.proofs.lemmas.List.Folds.{Any-from_list_any, list_any-from_Any, list_any_more}
use Rattle.indexmap.specs.IndexSet.{IndexSet, contains}
use Rattle.s3_program.specs.declared.call.Call.{Call}
use Rattle.s3_program.specs.Jumps.{is_place, ends_chain, reaches, same_call, is_in_circle, has_circle, is_forbidden}
use Rattle.s3_compile.proofs.ChainLemmas.{alike, or_none, any_kept, circle_chain}

-- ---- tests
implied : (a b : Bool) → (b ≡ true → a ≡ true) → (a && b) ≡ b
implied true b so = refl
implied false true so = so refl
implied false false so = refl

exchanged : (a b c : Bool) → (a && (b && c)) ≡ (b && (a && c))
exchanged true true c = refl
exchanged true false c = refl
exchanged false true c = refl
exchanged false false c = refl

and_all : (a : Bool) → (a && true) ≡ a
and_all true = refl
and_all false = refl

or_assoc : (a b c : Bool) → ((a || b) || c) ≡ (a || (b || c))
or_assoc true b c = refl
or_assoc false b c = refl

-- ---- the same call
option_is : (a b : Option ℕ) → option_eq nat_eq a b ≡ true → a ≡ b
option_is None None same = refl
option_is None (Some b) same = absurd (false≢true same)
option_is (Some a) None same = absurd (false≢true same)
option_is (Some a) (Some b) same = ap (λ (p : ℕ). Some p) (eqb-true a b same)

option_self : (a : Option ℕ) → option_eq nat_eq a a ≡ true
option_self None = refl
option_self (Some a) = eq-eqb a a refl

same_is : (a b : Call) → same_call a b ≡ true → a ≡ b
same_is a b same =
    let parts = and_parts (option_eq nat_eq a.caller b.caller) (nat_eq a.callee b.callee) same in
    let callers : a.caller ≡ b.caller = option_is a.caller b.caller parts.0 in
    let callees : a.callee ≡ b.callee = eqb-true a.callee b.callee parts.1 in
    λ i. record { caller = callers i; callee = callees i }

same_self : (a : Call) → same_call a a ≡ true
same_self a = and_from _ _ (option_self a.caller) (eq-eqb a.callee a.callee refl)

same_step : (same here test left all : Bool) → (same ≡ true → here ≡ test) → left ≡ (all && test) → ((same && here) || left) ≡ ((same || all) && test)
same_step false here test left all is later = later
same_step true here test left all is later = at test (is refl) later
  where
    at : (t : Bool) → here ≡ t → left ≡ (all && t) → (here || left) ≡ t
    at true e l = ap (λ b. b || left) e
    at false e l = ap (λ b. b || left) e ∙ (l ∙ and_right all false refl)

any_same : (test : Call → Bool) (calls : List Call) (call : Call) → list_any (λ other. same_call call other && test other) calls ≡ (list_any (same_call call) calls && test call)
any_same test [] call = refl
any_same test (other ∷ calls) call = same_step (same_call call other) (test other) (test call) _ _ (λ same. ap test (sym (same_is call other same))) (any_same test calls call)

-- ---- calls added to a set
same_turned : (a b : Call) → same_call a b ≡ same_call b a
same_turned a b = alike (same_call a b) (same_call b a) (λ same. turned a b (same_is a b same)) (λ same. turned b a (same_is b a same))
  where
    turned : (x y : Call) → x ≡ y → same_call y x ≡ true
    turned x y is = ap (λ z. same_call z x) (sym is) ∙ same_self x

-- the set with one more call
pub record HasOneMore {S : Type 0} (old new : IndexSet Call S) (call : Call) : Type 0 where
  pub at : (other : Call) → contains same_call new other ≡ cond (same_call call other) true (contains same_call old other)

pub one_added : {S : Type 0} (old new : IndexSet Call S) (call : Call) → HasOneMore old new call → (other : Call) → contains same_call new other ≡ (contains same_call old other || same_call other call)
one_added old new call more other = more.at other ∙ step (same_call call other) (same_call other call) (contains same_call old other) (same_turned call other)
  where
    step : (a b had : Bool) → a ≡ b → cond a true had ≡ (had || b)
    step true b had same = sym (or_right had b (sym same))
    step false b had same = sym (ap (λ t. had || t) (sym same) ∙ or_none had)

pub known_more : {S : Type 0} (old new : IndexSet Call S) (calls : List Call) (i : ℕ) (d : Call) → i < length calls → HasOneMore old new (get_or calls i d)
    → ((call : Call) → contains same_call old call ≡ list_any (same_call call) (take i calls)) → (call : Call) → contains same_call new call ≡ list_any (same_call call) (take (i + 1) calls)
known_more old new calls i d within more so_far call =
    one_added old new (get_or calls i d) more call ∙ (ap (λ b. b || same_call call (get_or calls i d)) (so_far call) ∙ sym (list_any_more (same_call call) calls i d within))

-- the calls that pass a test are added
pub record AddsPassing {S : Type 0} (test : Call → Bool) (initial new : IndexSet Call S) (calls : List Call) : Type 0 where
  pub at : (call : Call) → contains same_call new call ≡ (contains same_call initial call || list_any (λ other. same_call call other && test other) calls)

adds_more : {S : Type 0} (test : Call → Bool) (initial old new : IndexSet Call S) (calls : List Call) (i : ℕ) (d : Call) → i < length calls
    → ((call : Call) → contains same_call new call ≡ (contains same_call old call || (same_call call (get_or calls i d) && test (get_or calls i d))))
    → AddsPassing test initial old (take i calls) → AddsPassing test initial new (take (i + 1) calls)
adds_more test initial old new calls i d within more so_far = record {
  at = λ call.
      more call
      ∙ (ap (λ b. b || (same_call call (get_or calls i d) && test (get_or calls i d))) (so_far.at call)
      ∙ (or_assoc (contains same_call initial call) (list_any (λ other. same_call call other && test other) (take i calls)) (same_call call (get_or calls i d) && test (get_or calls i d))
      ∙ ap (λ b. contains same_call initial call || b) (sym (list_any_more (λ other. same_call call other && test other) calls i d within))));
}

pub adds_one : {S : Type 0} (test : Call → Bool) (initial old new : IndexSet Call S) (calls : List Call) (i : ℕ) (d : Call) → i < length calls → test (get_or calls i d) ≡ true
    → HasOneMore old new (get_or calls i d) → AddsPassing test initial old (take i calls) → AddsPassing test initial new (take (i + 1) calls)
adds_one test initial old new calls i d within passes more =
    adds_more test initial old new calls i d within (λ call.
    one_added old new (get_or calls i d) more call
    ∙ ap (λ b. contains same_call old call || b) (sym (ap (λ b. same_call call (get_or calls i d) && b) passes ∙ and_all (same_call call (get_or calls i d)))))

pub adds_none : {S : Type 0} (test : Call → Bool) (initial old : IndexSet Call S) (calls : List Call) (i : ℕ) (d : Call) → i < length calls → test (get_or calls i d) ≡ false
    → AddsPassing test initial old (take i calls) → AddsPassing test initial old (take (i + 1) calls)
adds_none test initial old calls i d within fails =
    adds_more test initial old old calls i d within (λ call.
    sym (ap (λ b. contains same_call old call || b) (and_right (same_call call (get_or calls i d)) (test (get_or calls i d)) fails) ∙ or_none (contains same_call old call)))

-- ---- recursive calls
back_is : (calls : List Call) (caller : ℕ) (call : Call) → (is_place call.caller caller && reaches calls (length calls) call.callee caller) ≡ (is_place call.caller caller && is_in_circle calls call)
back_is calls caller call = at call.caller call.callee
  where
    at : (o : Option ℕ) (callee : ℕ) → (is_place o caller && reaches calls (length calls) callee caller) ≡ (is_place o caller && is_in_circle calls (record { caller = o; callee = callee }))
    at None callee = refl
    at (Some other) callee = step (nat_eq other caller) (eqb-true other caller)
      where
        step : (b : Bool) → (b ≡ true → other ≡ caller) → (b && reaches calls (length calls) callee caller) ≡ (b && reaches calls (length calls) callee other)
        step true is = ap (λ s. reaches calls (length calls) callee s) (sym (is refl))
        step false is = refl

leading_back : (calls : List Call) (caller : ℕ) (reaching : ℕ → Bool) → ((from : ℕ) → reaching from ≡ reaches calls (length calls) from caller) → (call : Call)
    → list_any (λ other. same_call call other && (is_place other.caller caller && reaching other.callee)) calls ≡ (is_place call.caller caller && (list_any (same_call call) calls && is_in_circle calls call))
leading_back calls caller reaching all call =
    any_same (λ other. is_place other.caller caller && reaching other.callee) calls call
    ∙ (ap (λ b. list_any (same_call call) calls && (is_place call.caller caller && b)) (all call.callee)
    ∙ (ap (λ b. list_any (same_call call) calls && b) (back_is calls caller call)
    ∙ exchanged (list_any (same_call call) calls) (is_place call.caller caller) (is_in_circle calls call)))

pub noted : {S R : Type 0} (calls : List Call) (caller : ℕ) (reaching : IndexSet ℕ R) (old new : IndexSet Call S)
    → ((from : ℕ) → contains nat_eq reaching from ≡ reaches calls (length calls) from caller)
    → AddsPassing (λ other. is_place other.caller caller && contains nat_eq reaching other.callee) old new calls
    → (call : Call) → contains same_call new call ≡ (contains same_call old call || (is_place call.caller caller && (list_any (same_call call) calls && is_in_circle calls call)))
noted calls caller reaching old new all more call =
    more.at call ∙ ap (λ b. contains same_call old call || b) (leading_back calls caller (contains nat_eq reaching) all call)

in_circle_is : (calls : List Call) (call : Call) → is_in_circle calls call ≡ true → (caller : ℕ) × ((call.caller ≡ Some caller) × (reaches calls (length calls) call.callee caller ≡ true))
in_circle_is calls call = at call.caller call.callee
  where
    at : (o : Option ℕ) (callee : ℕ) → is_in_circle calls (record { caller = o; callee = callee }) ≡ true
        → (caller : ℕ) × ((o ≡ Some caller) × (reaches calls (length calls) callee caller ≡ true))
    at None callee is = absurd (false≢true is)
    at (Some caller) callee is = (caller, (refl, is))

-- a recursive call is among the ninth nested calls
circle_is_ninth : (calls : List Call) (call : Call) → list_any (same_call call) calls ≡ true → (caller : ℕ) → call.caller ≡ Some caller → reaches calls (length calls) call.callee caller ≡ true
    → list_any (λ other. is_place other.caller caller) (filter (λ other. ends_chain calls 8 other.caller) calls) ≡ true
circle_is_ninth calls call known caller is back =
    let found = Any-from_list_any (same_call call) calls known in
    let same : found.1 ≡ call = sym (same_is call found.1 found.4) in
    let at : get_or calls found.0 call ≡ call = subst (λ (c : Call). get_or calls found.0 c ≡ c) same found.3 in
    let chain : ends_chain calls 8 call.caller ≡ true = ap (λ o. ends_chain calls 8 o) is ∙ circle_chain calls (length calls) 8 found.0 call caller found.2 at is back in
    let here : is_place call.caller caller ≡ true = ap (λ o. is_place o caller) is ∙ eq-eqb caller caller refl in
    any_kept (λ other. is_place other.caller caller) (λ other. ends_chain calls 8 other.caller) calls
    ∙ list_any-from_Any (λ other. is_place other.caller caller && ends_chain calls 8 other.caller) calls (found.0, call, found.2, at, and_from _ _ here chain)

pub all_tried : (calls ninth : List Call) (tried : List ℕ) → ninth ≡ filter (λ call. ends_chain calls 8 call.caller) calls
    → ((subroutine : ℕ) → list_any (nat_eq subroutine) tried ≡ list_any (λ call. is_place call.caller subroutine) ninth) → (call : Call)
    → (list_any (is_place call.caller) tried && (list_any (same_call call) calls && is_in_circle calls call)) ≡ (list_any (same_call call) calls && is_in_circle calls call)
all_tried calls ninth tried is all call =
    implied _ _ (λ circling.
    let parts = and_parts (list_any (same_call call) calls) (is_in_circle calls call) circling in
    let from = in_circle_is calls call parts.1 in
    let caller = from.0 in
    ap (λ o. list_any (is_place o) tried) from.1.0
    ∙ (all caller ∙ (ap (λ cs. list_any (λ other. is_place other.caller caller) cs) is ∙ circle_is_ninth calls call parts.0 caller from.1.0 from.1.1)))

pub none_tried : {S : Type 0} (calls ninth : List Call) (circling : IndexSet Call S) → ninth ≡ filter (λ call. ends_chain calls 8 call.caller) calls
    → length ninth ≡ 0 → circling.keys ≡ [] → (call : Call) → contains same_call circling call ≡ (list_any (same_call call) calls && is_in_circle calls call)
none_tried calls [] circling is empty none call = ap (list_any (same_call call)) none ∙ all_tried calls [] [] is (λ subroutine. refl) call
none_tried calls (x ∷ xs) circling is empty none call = absurd (omega (arith, empty))

-- ---- forbidden calls
first_known : (calls : List Call) (call : Call) (k : ℕ) → k < length calls → get_or calls k call ≡ call → list_any (same_call call) calls ≡ true
first_known calls call k within at = list_any-from_Any (same_call call) calls (k, call, within, at, same_self call)

pub no_circle : {S : Type 0} (calls : List Call) (circling : IndexSet Call S) → ((call : Call) → contains same_call circling call ≡ (list_any (same_call call) calls && is_in_circle calls call))
    → length circling.keys ≡ 0 → has_circle calls ≡ false
no_circle calls circling all empty = false_from_ne_true (has_circle calls) (λ has.
    let found = Any-from_list_any (is_in_circle calls) calls has in
    let call = found.1 in
    let known = first_known calls call found.0 found.2 found.3 in
    let held : contains same_call circling call ≡ true = all call ∙ and_from _ _ known found.4 in
    none circling.keys empty (same_call call) held)
  where
    none : (keys : List Call) → length keys ≡ 0 → (test : Call → Bool) → list_any test keys ≡ true → ⊥
    none [] e test held = false≢true held
    none (key ∷ keys) e test held = omega (arith, e)

pub some_circle : {S : Type 0} (calls : List Call) (circling : IndexSet Call S) → ((call : Call) → contains same_call circling call ≡ (list_any (same_call call) calls && is_in_circle calls call))
    → (length circling.keys ≡ 0 → ⊥) → has_circle calls ≡ true
some_circle calls circling all some = at circling.keys (λ call held. sym (all call) ∙ held) some
  where
    at : (keys : List Call) → ((call : Call) → list_any (same_call call) keys ≡ true → (list_any (same_call call) calls && is_in_circle calls call) ≡ true) → (length keys ≡ 0 → ⊥) → has_circle calls ≡ true
    at [] so some = absurd (some refl)
    at (key ∷ keys) so some =
        let parts = and_parts _ _ (so key (ap (λ b. b || list_any (same_call key) keys) (same_self key))) in
        let found = Any-from_list_any (same_call key) calls parts.0 in
        let circling : is_in_circle calls found.1 ≡ true = ap (is_in_circle calls) (sym (same_is key found.1 found.4)) ∙ parts.1 in
        list_any-from_Any (is_in_circle calls) calls (found.0, found.1, found.2, found.3, circling)

pub ninth_forbidden : {S : Type 0} (calls ninth : List Call) (distinct : IndexSet Call S) → ninth ≡ filter (λ call. ends_chain calls 8 call.caller) calls
    → ((call : Call) → contains same_call distinct call ≡ list_any (same_call call) ninth) → has_circle calls ≡ false → (call : Call) → contains same_call distinct call ≡ is_forbidden calls call
ninth_forbidden calls ninth distinct is all none call =
    all call
    ∙ (ap (λ cs. list_any (same_call call) cs) is
    ∙ (any_kept (same_call call) (λ other. ends_chain calls 8 other.caller) calls
    ∙ (any_same (λ other. ends_chain calls 8 other.caller) calls call
    ∙ ap (λ b. list_any (same_call call) calls && b) (sym (cond-false (has_circle calls) (is_in_circle calls call) (ends_chain calls 8 call.caller) none)))))

pub circling_forbidden : {S : Type 0} (calls : List Call) (circling : IndexSet Call S) → ((call : Call) → contains same_call circling call ≡ (list_any (same_call call) calls && is_in_circle calls call))
    → has_circle calls ≡ true → (call : Call) → contains same_call circling call ≡ is_forbidden calls call
circling_forbidden calls circling all some call =
    all call ∙ ap (λ b. list_any (same_call call) calls && b) (sym (cond-true (has_circle calls) (is_in_circle calls call) (ends_chain calls 8 call.caller) some))
