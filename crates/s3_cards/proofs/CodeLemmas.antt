-- Lemmas on the code page.
use Rattle.std.proofs.Common.{◌≡◌, ℕ, List, [], ◌∷◌, Bool, true, false, refl, sym, ◌∙◌, ap, arith, eqb-true, subst, inl, inr, cond, ltb-true, get_or, ◌<◌, ◌≤◌, ◌≢◌}
use Rattle.std.specs.Prelude.{Option, Some, None, ◌==◌, ◌&&◌, find, ◌↔◌, unwrap_or, nat_lt}
use Rattle.std.specs.List.{list_all}
use Rattle.std.specs.Option.{option_map}
use Rattle.std.proofs.lemmas.Bool.{cases_Bool}
use Rattle.s3_cards.specs.Codes.{code_page, ebcdic_of, host_of}
use Rattle.s3_cards.specs.Inner.Codes.{codes_of_bytes, hosts_of_codes}
use Rattle.std.proofs.lemmas.List.FromFn.{get_or-map-range_with_len}

-- whether an option holds this number
abbrev pub holds : Option ℕ → ℕ → Bool
holds None n = false
holds (Some m) n = m == n

holds-true : (o : Option ℕ) (n : ℕ) → holds o n ≡ true → o ≡ Some n
holds-true None n h = cc
holds-true (Some m) n h = ap (λ x. Some x) (eqb-true m n h)

cond_pair : (a b : Bool) → (a && b) ≡ true → (a ≡ true) × (b ≡ true)
cond_pair true b h = (refl, h)
cond_pair false b h = cc

found_at : {X : Type 0} (p q : X → Bool) (y : X) (ys : List X) (x : X) → ((find p ys ≡ Some x) → (list_all q ys ≡ true) → (q x ≡ true) × (p x ≡ true)) → find p (y ∷ ys) ≡ Some x → list_all q (y ∷ ys) ≡ true → (q x ≡ true) × (p x ≡ true)
found_at p q y ys x rest found all = elim (cases_Bool (p y)) [
  | inl found_here ↦ let e : y ≡ x = (let f : cond (p y) (Some y) (find p ys) ≡ Some x = found in let g : Some y ≡ Some x = rw found_here at f in cc) in
      (subst (λ (z : _). q z ≡ true) e (cond_pair _ _ all).0, subst (λ (z : _). p z ≡ true) e found_here)
  | inr not_here ↦ let f : cond (p y) (Some y) (find p ys) ≡ Some x = found in rest (rw not_here at f) (cond_pair _ _ all).1
]

-- what a test finds passes each test that the whole list passes, and the test itself
found_passes : {X : Type 0} (p q : X → Bool) (xs : List X) (x : X) → find p xs ≡ Some x → list_all q xs ≡ true → (q x ≡ true) × (p x ≡ true)
found_passes p q [] x found all = cc
found_passes p q (y ∷ ys) x found all = found_at p q y ys x (found_passes p q ys x) found all

abbrev pub page_goes_back : Bool
page_goes_back = list_all (λ e. holds (host_of e.0) e.1) code_page

abbrev pub page_comes_again : Bool
page_comes_again = list_all (λ e. holds (ebcdic_of e.1) e.0) code_page

page-back : page_goes_back ≡ true
unfolding code_page
page-back = refl

page-again : page_comes_again ≡ true
unfolding code_page
page-again = refl

mapped : {X : Type 0} (f : X → ℕ) (o : Option X) (n : ℕ) → option_map f o ≡ Some n → (x : X) × (o ≡ Some x) × (f x ≡ n)
mapped f None n h = cc
mapped f (Some x) n h = (x, refl, cc)

pub there : (character code : ℕ) → ebcdic_of character ≡ Some code → host_of code ≡ Some character
there character code h =
    let m = mapped (λ (e : ℕ × ℕ). e.0) (find (λ e. e.1 == character) code_page) code h in
    let p = found_passes (λ (e : ℕ × ℕ). e.1 == character) (λ e. holds (host_of e.0) e.1) code_page m.0 m.1 page-back in
    let a : m.0.1 ≡ character = eqb-true _ _ p.1 in
    let b : host_of m.0.0 ≡ Some m.0.1 = holds-true (host_of m.0.0) m.0.1 p.0 in
    subst (λ (x : ℕ). host_of x ≡ Some character) m.2 (subst (λ (x : ℕ). host_of m.0.0 ≡ Some x) a b)

back : (character code : ℕ) → host_of code ≡ Some character → ebcdic_of character ≡ Some code
back character code h =
    let m = mapped (λ (e : ℕ × ℕ). e.1) (find (λ e. e.0 == code) code_page) character h in
    let p = found_passes (λ (e : ℕ × ℕ). e.0 == code) (λ e. holds (ebcdic_of e.1) e.0) code_page m.0 m.1 page-again in
    let a : m.0.0 ≡ code = eqb-true _ _ p.1 in
    let b : ebcdic_of m.0.1 ≡ Some m.0.0 = holds-true (ebcdic_of m.0.1) m.0.0 p.0 in
    subst (λ (x : ℕ). ebcdic_of x ≡ Some code) m.2 (subst (λ (x : ℕ). ebcdic_of m.0.1 ≡ Some x) a b)

pub both_ways : (character code : ℕ) → (ebcdic_of character ≡ Some code) ↔ (host_of code ≡ Some character)
both_ways character code = (there character code, back character code)

pub none_at_zero : (character : ℕ) → host_of 0 ≡ Some character → ⊥
unfolding code_page
none_at_zero character h = cc

none_at_code_zero : (code : ℕ) → ebcdic_of 0 ≡ Some code → ⊥
unfolding code_page
none_at_code_zero code h = cc

-- what a table with 0 for none says
pub some_or_none : (o : Option ℕ) → (o ≡ Some 0 → ⊥) → unwrap_or o 0 ≡ 0 → o ≡ None
some_or_none None not_zero h = refl
some_or_none (Some n) not_zero h = absurd (not_zero (ap (λ x. Some x) h))

some_or_zero : (o : Option ℕ) (n : ℕ) → unwrap_or o 0 ≡ n → (n ≡ 0 → ⊥) → o ≡ Some n
some_or_zero None n h not_zero = absurd (not_zero (sym h))
some_or_zero (Some m) n h not_zero = ap (λ x. Some x) h

pub its_code_or_zero : (byte : ℕ) → byte < 256 → get_or codes_of_bytes byte 0 ≡ unwrap_or (ebcdic_of byte) 0
unfolding codes_of_bytes
its_code_or_zero byte small = get_or-map-range_with_len (λ byte. unwrap_or (ebcdic_of byte) 0) 0 256 byte byte 0 small (omega arith)

host_of_code : (code : ℕ) → code < 256 → get_or hosts_of_codes code 0 ≡ unwrap_or (host_of code) 0
unfolding hosts_of_codes
host_of_code code small = get_or-map-range_with_len (λ code. unwrap_or (host_of code) 0) 0 256 code code 0 small (omega arith)

-- no character has the code 0
pub not_code_zero : (byte : ℕ) → ebcdic_of byte ≡ Some 0 → ⊥
not_code_zero byte h = none_at_zero byte (there byte 0 h)

pub no_code : (byte : ℕ) → unwrap_or (ebcdic_of byte) 0 ≡ 0 → ebcdic_of byte ≡ None
no_code byte zero' = some_or_none (ebcdic_of byte) (not_code_zero byte) zero'

pub its_code : (byte code : ℕ) → unwrap_or (ebcdic_of byte) 0 ≡ code → code ≢ 0 → ebcdic_of byte ≡ Some code
its_code byte code e not_zero = some_or_zero (ebcdic_of byte) code e not_zero

pub no_host : (code : ℕ) → code < 256 → get_or hosts_of_codes code 0 ≡ 0 → host_of code ≡ None
no_host code small zero' =
    some_or_none (host_of code) (λ h. none_at_code_zero code (back 0 code h)) (sym (host_of_code code small) ∙ zero')

pub its_host : (code character : ℕ) → code < 256 → get_or hosts_of_codes code 0 ≡ character → character ≢ 0 → host_of code ≡ Some character
its_host code character small e not_zero =
    some_or_zero (host_of code) character (sym (host_of_code code small) ∙ e) not_zero

page_is_ascii : list_all (λ e. nat_lt e.1 128) code_page ≡ true
unfolding code_page
page_is_ascii = refl

-- a character past 127 has no code
pub no_code_past : (character : ℕ) → 128 ≤ character → ebcdic_of character ≡ None
no_code_past character large = go (ebcdic_of character) refl
  where
    go : (o : Option ℕ) → ebcdic_of character ≡ o → ebcdic_of character ≡ None
    go None e = e
    go (Some code) e =
        let m = mapped (λ (e : ℕ × ℕ). e.0) (find (λ e. e.1 == character) code_page) code e in
        let p = found_passes (λ (e : ℕ × ℕ). e.1 == character) (λ e. nat_lt e.1 128) code_page m.0 m.1 page_is_ascii in
        absurd (let small = ltb-true _ _ p.0 in let same = eqb-true _ _ p.1 in omega arith)
