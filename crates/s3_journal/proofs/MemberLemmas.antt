-- Members found by their names, and what their values are.
use Rattle.std.proofs.Common.{◌≡◌, ◌⊎◌, inl, inr, Global, ℕ, ◌<◌, ◌^◌, nat_lt, Bool, true, false, cond, ◌&&◌, List, [], ◌∷◌, ◌++◌, length, ◌+◌, take, get_or, Option, Some, None, refl, ap, sym, subst, ◌∙◌}
use Rattle.std.specs.Borrow.{Bor}
use Rattle.std.specs.Str.{bytes_eq}
use Rattle.std.specs.List.{list_all}
use Rattle.std.specs.Result.{OkIff}
use Rattle.std.specs.Char.{digit_value}
use Rattle.std.specs.Str.Parse.{IsNumeral, AllDigits, digits_value, without_leading_plus, ParsesUnsigned}
use Rattle.std.specs.Option.{ok_or}
use Rattle.std.proofs.lemmas.Bool.{true≢false, and_parts, ltb-true, lt-ltb}
use Rattle.std.proofs.lemmas.List.{take_more}
use Rattle.json.specs.Json.{Json}
use Rattle.json.specs.Value.{value_view, members_view}
use Rattle.json.specs.declared.value.Value.{Value}
use Rattle.s3_journal.specs.declared.members.Found.{Found}
use Rattle.s3_journal.specs.declared.members.Found.TheVariants.{Nothing, One, Several}
use Rattle.s3_journal.specs.Inner.Members.{values_of, is_decimal_digit, is_numeral, below}
use Rattle.s3_journal.specs.Inner.Views.{IsFound}

pub values_push : {A : Type 0} → (name : List ℕ) (ms : List (Bor (List ℕ) × Value A)) (m : Bor (List ℕ) × Value A)
    → values_of name (members_view (ms ++ m ∷ [])) ≡ cond (bytes_eq m.0.now name) (values_of name (members_view ms) ++ value_view m.1 ∷ []) (values_of name (members_view ms))
values_push {A} name [] m = by (bytes_eq m.0.now name)
  where
    by : (b : Bool) → cond b (value_view m.1 ∷ []) [] ≡ cond b (value_view m.1 ∷ []) []
    by b = refl
values_push {A} name (n ∷ ms) m = ap (λ vs. cond (bytes_eq n.0.now name) (value_view n.1 ∷ vs) vs) (values_push name ms m) ∙ by (bytes_eq n.0.now name) (bytes_eq m.0.now name)
  where
    by : (b c : Bool) → cond b (value_view n.1 ∷ cond c (values_of name (members_view ms) ++ value_view m.1 ∷ []) (values_of name (members_view ms))) (cond c (values_of name (members_view ms) ++ value_view m.1 ∷ []) (values_of name (members_view ms)))
        ≡ cond c (cond b (value_view n.1 ∷ values_of name (members_view ms)) (values_of name (members_view ms)) ++ value_view m.1 ∷ []) (cond b (value_view n.1 ∷ values_of name (members_view ms)) (values_of name (members_view ms)))
    by true true = refl
    by true false = refl
    by false true = refl
    by false false = refl

-- ---- numerals
are_digits : (ds : List ℕ) → AllDigits 10 ds → list_all is_decimal_digit ds ≡ true
are_digits [] all = refl
are_digits (d ∷ ds) all = rw (lt-ltb (digit_value d) 10 all.0) (are_digits ds all.1)

digits_are : (ds : List ℕ) → list_all is_decimal_digit ds ≡ true → AllDigits 10 ds
digits_are [] all = tt
digits_are (d ∷ ds) all = let parts = and_parts (nat_lt (digit_value d) 10) (list_all is_decimal_digit ds) all in (ltb-true (digit_value d) 10 parts.0, digits_are ds parts.1)

numeral_is : (ds : List ℕ) → IsNumeral 10 ds → is_numeral ds ≡ true
numeral_is ds is = rw (lt-ltb 0 (length ds) is.0) (are_digits ds is.1)

is_numeral_is : (ds : List ℕ) → is_numeral ds ≡ true → IsNumeral 10 ds
is_numeral_is ds is = let parts = and_parts (nat_lt 0 (length ds)) (list_all is_decimal_digit ds) is in (ltb-true 0 (length ds) parts.0, digits_are ds parts.1)

-- what is read of digits below a bound
pub below_yes : (bound : ℕ) (ds : List ℕ) → IsNumeral 10 ds → digits_value 10 ds < bound → below bound ds ≡ Some (digits_value 10 ds)
below_yes bound ds is under = rw (numeral_is ds is, lt-ltb (digits_value 10 ds) bound under) refl

pub below_no : (bound : ℕ) (ds : List ℕ) → (IsNumeral 10 ds × (digits_value 10 ds < bound) → ⊥) → below bound ds ≡ None
below_no bound ds isnt = by (is_numeral ds) refl (nat_lt (digits_value 10 ds) bound) refl
  where
    by : (a : Bool) → is_numeral ds ≡ a → (b : Bool) → nat_lt (digits_value 10 ds) bound ≡ b → cond (a && b) (Some (digits_value 10 ds)) None ≡ None
    by true is true under = absurd (isnt (is_numeral_is ds is, ltb-true (digits_value 10 ds) bound under))
    by true is false under = refl
    by false is b under = refl

pub whole_is : (text : List ℕ) (result : Option ℕ) → ParsesUnsigned 64 10 text (ok_or result text) → result ≡ below (2 ^ 64) (without_leading_plus text)
whole_is text None parses = sym (below_no (2 ^ 64) (without_leading_plus text) parses)
whole_is text (Some n) parses = ap Some parses.1 ∙ sym (below_yes (2 ^ 64) (without_leading_plus text) parses.0.0 parses.0.1)

pub below_parses : (text : List ℕ) → ParsesUnsigned 64 10 text (ok_or (below (2 ^ 64) (without_leading_plus text)) text)
below_parses text = by (is_numeral ds) refl (nat_lt (digits_value 10 ds) (2 ^ 64)) refl
  where
    ds : List ℕ
    ds = without_leading_plus text

    by : (a : Bool) → is_numeral ds ≡ a → (b : Bool) → nat_lt (digits_value 10 ds) (2 ^ 64) ≡ b
        → OkIff (ok_or (cond (a && b) (Some (digits_value 10 ds)) None) text) (IsNumeral 10 ds × (digits_value 10 ds < 2 ^ 64)) (digits_value 10 ds)
    by true is true under = ((is_numeral_is ds is, ltb-true (digits_value 10 ds) (2 ^ 64) under), refl)
    by true is false over = λ h. true≢false (sym (lt-ltb (digits_value 10 ds) (2 ^ 64) h.1) ∙ over)
    by false isnt b under = λ h. true≢false (sym (numeral_is ds h.0) ∙ isnt)

pub values_more : {A : Type 0} → (name : List ℕ) (ms : List (Bor (List ℕ) × Value A)) (i : ℕ) (d : Bor (List ℕ) × Value A) → i < length ms
    → values_of name (members_view (take (i + 1) ms)) ≡ cond (bytes_eq (get_or ms i d).0.now name) (values_of name (members_view (take i ms)) ++ value_view (get_or ms i d).1 ∷ []) (values_of name (members_view (take i ms)))
values_more name ms i d within = ap (λ xs. values_of name (members_view xs)) (take_more ms i d within) ∙ values_push name (take i ms) (get_or ms i d)

-- a further value makes several of one or more
pub found_several : (found : Found) (values : List Json) (x : Json) → (found ≡ Nothing → ⊥) → IsFound values found → IsFound (values ++ x ∷ []) Several
found_several Nothing values x isnt is = absurd (isnt refl)
found_several (One v) values x isnt is = (value_view v.now, x, [], ap (λ vs. vs ++ x ∷ []) is)
found_several Several values x isnt (first, second, rest, is) = (first, second, rest ++ x ∷ [], ap (λ vs. vs ++ x ∷ []) is)

pub one_or_several : (found : Found) → ((v : Bor (Value Global)) × (found ≡ One v)) ⊎ (found ≡ Several) → found ≡ Nothing → ⊥
one_or_several found (inl (v, is)) nothing = let no : Nothing ≡ One v = sym nothing ∙ is in absurd cc
one_or_several found (inr is) nothing = let no : Nothing ≡ Several = sym nothing ∙ is in absurd cc

-- ---- members that are gone through
module _ {A : Type 0} (name : List ℕ) (ms : List (Bor (List ℕ) × Value A)) (i : ℕ) (m : Bor (List ℕ) × Value A) (within : i < length ms) (at : m ≡ get_or ms i m) where
  abbrev pub found_so_far : List Json
  found_so_far = values_of name (members_view (take i ms))

  one_further : values_of name (members_view (take (i + 1) ms)) ≡ cond (bytes_eq m.0.now name) (found_so_far ++ value_view m.1 ∷ []) found_so_far
  one_further = values_more name ms i m within ∙ ap (λ (n : Bor (List ℕ) × Value A). cond (bytes_eq n.0.now name) (found_so_far ++ value_view n.1 ∷ []) found_so_far) (sym at)

  -- a member of the name
  pub found_further : (next result : Found) → bytes_eq m.0.now name ≡ true → next ≡ result → IsFound (found_so_far ++ value_view m.1 ∷ []) result → IsFound (values_of name (members_view (take (i + 1) ms))) next
  found_further next result named same is =
      subst (λ f. IsFound (values_of name (members_view (take (i + 1) ms))) f) (sym same)
      (subst (λ vs. IsFound vs result) (sym (one_further ∙ ap (λ b. cond b (found_so_far ++ value_view m.1 ∷ []) found_so_far) named)) is)

  -- another one
  pub found_other : (next found : Found) → bytes_eq m.0.now name ≡ false → next ≡ found → IsFound found_so_far found → IsFound (values_of name (members_view (take (i + 1) ms))) next
  found_other next found unnamed same is =
      subst (λ f. IsFound (values_of name (members_view (take (i + 1) ms))) f) (sym same)
      (subst (λ vs. IsFound vs found) (sym (one_further ∙ ap (λ b. cond b (found_so_far ++ value_view m.1 ∷ []) found_so_far) unnamed)) is)
