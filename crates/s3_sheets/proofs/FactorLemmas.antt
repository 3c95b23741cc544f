-- A factor that is read is in range.
use Rattle.std.proofs.Common.{◌≡◌, ◌≢◌, ℕ, zero, suc, ◌+◌, ◌^◌, ◌<◌, ◌≤◌, List, [], ◌∷◌, ◌++◌, Bool, true, false, refl, sym, ◌∙◌, arith, subst, inl, inr, length, take, drop, length-append, length-drop}
use Rattle.std.specs.Prelude.{Option, Some, None, option_map, map, nat_lt, ◌==◌, ◌&&◌, unsigned_abs}
use Rattle.std.specs.List.{list_all, prefix_len}
use Rattle.std.specs.Option.{option_or}
use Rattle.std.specs.Int.Digits.{number_from_digits, AllBelowBase}
use Rattle.std.proofs.lemmas.Bool.{cases_Bool}
use Rattle.std.proofs.lemmas.Bool.Decides.{nat_tests}
use Rattle.std.proofs.lemmas.List.{length-take-le, length-map}
use Rattle.std.proofs.lemmas.List.Sums.{prefix_len-le-length}
use Rattle.std.proofs.lemmas.Int.Digits.{number_lt}
use Rattle.s3_cards.specs.Names.{is_digit}
use Rattle.s3_cards.specs.declared.name.Name.{Name}
use Rattle.s3_lines.specs.Ranges.{is_between, if_given}
use Rattle.s3_lines.specs.Inner.Ranges.{factor_in_range}
use Rattle.s3_lines.specs.declared.sheet.Factor.{Factor}
use Rattle.s3_lines.specs.declared.sheet.Factor.TheVariants.{Named, Number, Text}
use Rattle.s3_sheets.specs.Columns.{are_blank, digit}
use Rattle.s3_sheets.specs.Entries.{constant_text, text_literal, without_sign, without_point, is_negative, signed, number_literal_of, name_within, factor_of}
use Rattle.s3_sheets.proofs.ConstantLemmas.{written_constant}
use Rattle.s3_sheets.proofs.EntryLemmas.{text_shorter, digits_in_front}
use Rattle.s3_sheets.proofs.NumberLemmas.{digit_small}
use Rattle.s3_sheets.proofs.RangeLemmas.{both}

-- ---- texts
filled : (text : List ℕ) → text ≢ [] → 0 < length text
filled [] some = absurd (some refl)
filled (code ∷ text) some = omega arith

pub text_length : (entry text : List ℕ) → constant_text entry ≡ Some text → (1 ≤ length text) × (length text + 2 ≤ length entry)
text_length entry text e = (filled text (written_constant entry text e).0, text_shorter entry text e)

pub between : (low high n : ℕ) → low ≤ n → n ≤ high → is_between low high n ≡ true
between low high n a b = grind (arith, nat_tests)

text_ranged : (entry : List ℕ) (o : Option (List ℕ)) → constant_text entry ≡ o → length entry ≤ 10
    → if_given (factor_in_range {N = Name}) (option_map (λ text. Text (text_literal text)) o) ≡ true
text_ranged entry None e short = refl
text_ranged entry (Some text) e short =
    let n = text_length entry text e in
    between 1 8 (length text) n.0 (omega (arith, n.1, short))

-- ---- numbers
below_base : (codes : List ℕ) → list_all is_digit codes ≡ true → AllBelowBase 10 (map digit codes)
below_base [] all = tt
below_base (code ∷ codes) all = elim (cases_Bool (is_digit code)) [
  | inl good ↦ (let rest : list_all is_digit codes ≡ true = rw good at all in (omega (arith, digit_small code good), below_base codes rest))
  | inr bad ↦ absurd (let f = rw bad at all in cc)
]

both_below : (xs ys : List ℕ) → AllBelowBase 10 xs → AllBelowBase 10 ys → AllBelowBase 10 (xs ++ ys)
both_below [] ys a b = b
both_below (x ∷ xs) ys a b = (a.0, both_below xs ys a.1 b)

sign_shorter : (entry : List ℕ) → length (without_sign entry) ≤ length entry
sign_shorter [] = omega arith
sign_shorter (code ∷ codes) = grind (arith, nat_tests)

point_shorter : (entry : List ℕ) → length (without_point entry) ≤ length entry
point_shorter [] = omega arith
point_shorter (code ∷ codes) = grind (arith, nat_tests)

-- a decimal point without digits before it takes one column
decimals_fewer : (unsigned : List ℕ) → prefix_len is_digit unsigned ≡ 0 → length unsigned ≤ 10 → prefix_len is_digit (without_point unsigned) ≤ 9
decimals_fewer [] none short = omega arith
decimals_fewer (code ∷ codes) none short = elim (cases_Bool (code == 0x4b)) [
  | inl is ↦ rw is (omega (arith, prefix_len-le-length is_digit codes))
  | inr other ↦ rw other (omega (arith, none))
]

abs_signed : (negative : Bool) (n : ℕ) → unsigned_abs (signed negative n) ≡ n
abs_signed true zero = refl
abs_signed true (suc n) = refl
abs_signed false n = refl

literal_ranged : (whole decimals n : ℕ) (negative : Bool) → 0 < whole + decimals → whole + decimals ≤ 10 → decimals ≤ 9 → n < 10 ^ (whole + decimals)
    → factor_in_range {N = Name} (Number (record { value = signed negative n; digits = whole + decimals; decimals = decimals })) ≡ true
literal_ranged whole decimals n negative some few fewer small =
    let tests : nat_lt (unsigned_abs (signed negative n)) (10 ^ (whole + decimals)) ≡ true = rw (abs_signed negative n) (grind (arith, nat_tests)) in
    both (both (both (between 1 10 (whole + decimals) some few) (grind (arith, nat_tests))) (grind (arith, nat_tests))) tests

decimals_few : (unsigned : List ℕ) (whole : ℕ) → whole ≡ prefix_len is_digit unsigned → length unsigned ≤ 10
    → (prefix_len is_digit (without_point (drop whole unsigned)) ≤ 9) × (whole + prefix_len is_digit (without_point (drop whole unsigned)) ≤ 10)
decimals_few unsigned zero e short =
    (decimals_fewer unsigned (sym e) short, omega (arith, decimals_fewer unsigned (sym e) short))
decimals_few unsigned (suc whole) e short =
    let fraction = without_point (drop (suc whole) unsigned) in
    let some : prefix_len is_digit fraction ≤ length fraction = prefix_len-le-length is_digit fraction in
    let shorter : length fraction ≤ length (drop (suc whole) unsigned) = point_shorter (drop (suc whole) unsigned) in
    let inside : suc whole ≤ length unsigned = omega (arith, prefix_len-le-length is_digit unsigned, e) in
    (omega (arith, length-drop (suc whole) unsigned), omega (arith, length-drop (suc whole) unsigned))

number_ranged : (entry : List ℕ) → length entry ≤ 10 → if_given (factor_in_range {N = Name}) (option_map (λ literal. Number literal) (number_literal_of entry)) ≡ true
unfolding number_literal_of
number_ranged entry short =
    let unsigned : List ℕ = without_sign entry in
    let whole : ℕ = prefix_len is_digit unsigned in
    let fraction : List ℕ = without_point (drop whole unsigned) in
    let decimals : ℕ = prefix_len is_digit fraction in
    let n : ℕ = number_from_digits 10 (map digit (take whole unsigned) ++ map digit (take decimals fraction)) in
    elim (cases_Bool (nat_lt 0 (whole + decimals) && are_blank (drop decimals fraction))) [
      | inl good ↦
          let some : 0 < whole + decimals = grind (arith, nat_tests) in
          let few = decimals_few unsigned whole refl (omega (arith, sign_shorter entry, short)) in
          let a : length (map digit (take whole unsigned)) ≡ whole =
          length-map (take whole unsigned) digit ∙ length-take-le whole unsigned (prefix_len-le-length is_digit unsigned) in
          let b : length (map digit (take decimals fraction)) ≡ decimals =
          length-map (take decimals fraction) digit ∙ length-take-le decimals fraction (prefix_len-le-length is_digit fraction) in
          let count : length (map digit (take whole unsigned) ++ map digit (take decimals fraction)) ≡ whole + decimals =
          length-append (map digit (take whole unsigned)) (map digit (take decimals fraction)) ∙ λ i. a i + b i in
          let small : n < 10 ^ (whole + decimals) = subst (λ (m : ℕ). n < 10 ^ m) count
          (number_lt 10 (map digit (take whole unsigned) ++ map digit (take decimals fraction))
          (both_below (map digit (take whole unsigned)) (map digit (take decimals fraction)) (below_base (take whole unsigned) (digits_in_front unsigned))
          (below_base (take decimals fraction) (digits_in_front fraction)))) in
          rw good (literal_ranged whole decimals n (is_negative entry) some few.1 few.0 small)
      | inr bad ↦ rw bad refl
    ]

-- ---- names
name_ranged : (o : Option Name) → if_given (factor_in_range {N = Name}) (option_map (λ name. Named name) o) ≡ true
name_ranged None = refl
name_ranged (Some name) = refl

either : (o p : Option (Factor Name)) → if_given factor_in_range o ≡ true → if_given factor_in_range p ≡ true → if_given factor_in_range (option_or o p) ≡ true
either None p first second = second
either (Some x) p first second = first

pub factor_passes : (longest : ℕ) (entry : List ℕ) → length entry ≤ 10 → if_given factor_in_range (factor_of longest entry) ≡ true
unfolding factor_of
factor_passes longest entry short =
    either (option_map (λ text. Text (text_literal text)) (constant_text entry))
    (option_or (option_map (λ literal. Number literal) (number_literal_of entry)) (option_map (λ name. Named name) (name_within longest entry)))
    (text_ranged entry (constant_text entry) refl short)
    (either (option_map (λ literal. Number literal) (number_literal_of entry)) (option_map (λ name. Named name) (name_within longest entry))
    (number_ranged entry short) (name_ranged (name_within longest entry)))
