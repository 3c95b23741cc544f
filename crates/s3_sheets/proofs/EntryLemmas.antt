-- Lemmas about factors.
use Rattle.std.proofs.Common.{◌≡◌, ℕ, suc, ◌+◌, ◌-◌, ◌*◌, ◌^◌, ◌<◌, ◌≤◌, List, [], ◌∷◌, ◌++◌, true, refl, sym, ◌∙◌, ap, arith, inl, inr, length, take, drop, replicate, lit<, length-append}
use Rattle.std.specs.Prelude.{Option, Some, None, option_map, map, nat_lt, ◌==◌}
use Rattle.std.specs.List.{list_all, prefix_len}
use Rattle.std.specs.Int.Digits.{number_from_digits_after, number_from_digits}
use Rattle.std.proofs.Math.Nat.{pow-le-pow_right, mul-le-mul_right}
use Rattle.std.proofs.lemmas.Nat.{pow-add}
use Rattle.std.proofs.Math.Seq.{take-append-add}
use Rattle.std.proofs.lemmas.Bool.{cases_Bool}
use Rattle.std.proofs.lemmas.Bool.Decides.{nat_tests}
use Rattle.std.proofs.lemmas.Int.Digits.{number_after_append}
use Rattle.std.proofs.lemmas.List.{take-replicate}
use Rattle.s3_cards.specs.Names.{is_digit}
use Rattle.s3_lines.specs.declared.sheet.Constant.{Constant}
use Rattle.s3_lines.specs.declared.sheet.TextLiteral.{TextLiteral}
use Rattle.s3_lines.specs.declared.sheet.Factor.TheVariants.{Text}
use Rattle.s3_sheets.specs.Columns.{are_blank, digit}
use Rattle.s3_sheets.specs.Entries.{constant, constant_text, text_literal, factor_of, without_sign, without_point, is_negative, signed, number_literal_of}
use Rattle.s3_sheets.specs.Inner.Literals.{doubled, written, IsConstant}
use Rattle.s3_sheets.proofs.ConstantLemmas.{written_constant}

-- ---- texts
-- the first eight codes of a constant with at most eight
pub shortened : (text : List ℕ) → length text ≤ 8 → take 8 (text ++ replicate (24 - length text) 0x40) ≡ text ++ replicate (8 - length text) 0x40
shortened text short =
    let e : 8 ≡ length text + (8 - length text) = omega arith in
    ap (λ n. take n (text ++ replicate (24 - length text) 0x40)) e
    ∙ (take-append-add text (replicate (24 - length text) 0x40) (8 - length text)
    ∙ ap (λ xs. text ++ xs) (take-replicate (8 - length text) (24 - length text) 0x40 (omega arith)))

doubled_longer : (text : List ℕ) → length text ≤ length (doubled text)
doubled_longer [] = omega arith
doubled_longer (code ∷ text) = elim (cases_Bool (code == 0x7d)) [
  | inl is ↦ rw is (let more = doubled_longer text in omega arith)
  | inr other ↦ rw other (let more = doubled_longer text in omega arith)
]

-- a constant's text is two codes shorter than its columns, because of the apostrophes
pub text_shorter : (columns text : List ℕ) → constant_text columns ≡ Some text → length text + 2 ≤ length columns
text_shorter columns text e =
    let is : IsConstant columns text = written_constant columns text e in
    let n : length columns ≡ length (written text is.1.0) = ap length is.1.1 in
    omega (arith, n, length-append (doubled text) (0x7d ∷ replicate is.1.0 0x40), doubled_longer text)

text_from : (longest : ℕ) (columns : List ℕ) (text : Constant) (literal : TextLiteral) (o : Option (List ℕ)) → constant_text columns ≡ o
    → Some text ≡ option_map constant o → length columns ≤ 10
    → ((codes : List ℕ) → text ≡ constant codes → length codes ≤ 8 → literal ≡ text_literal codes) → Some (Text literal) ≡ factor_of longest columns
unfolding factor_of
text_from longest columns text literal None e found short made = absurd cc
text_from longest columns text literal (Some codes) e found short made =
    let is : text ≡ constant codes = cc in
    let few : length codes ≤ 8 = (let s = text_shorter columns codes e in omega arith) in
    rw (e, made codes is few) refl

pub text_factor : (longest : ℕ) (columns : List ℕ) (text : Constant) (literal : TextLiteral)
    → Some text ≡ option_map constant (constant_text columns) → length columns ≤ 10
    → ((codes : List ℕ) → text ≡ constant codes → length codes ≤ 8 → literal ≡ text_literal codes) → Some (Text literal) ≡ factor_of longest columns
text_factor longest columns text literal found short made = text_from longest columns text literal (constant_text columns) refl found short made

-- ---- numbers
pub digits_in_front : (codes : List ℕ) → list_all is_digit (take (prefix_len is_digit codes) codes) ≡ true
digits_in_front [] = refl
digits_in_front (code ∷ codes) = elim (cases_Bool (is_digit code)) [
  | inl good ↦ (let e : 1 + prefix_len is_digit codes ≡ suc (prefix_len is_digit codes) = omega arith in rw (good, e, good) (digits_in_front codes))
  | inr bad ↦ rw bad refl
]

-- the digits of both parts stay below the largest number of ten digits
pub room_behind : (w a b : ℕ) → w < (0 + 1) * 10 ^ a → a + b ≤ 10 → (w + 1) * 10 ^ b ≤ 10 ^ 10
room_behind w a b below few =
    let one : w + 1 ≤ 10 ^ a = omega arith in
    let all : 10 ^ (a + b) ≤ 10 ^ 10 = pow-le-pow_right {n = 10} (lit< tt) {i = a + b} {j = 10} few in
    omega (arith, mul-le-mul_right (10 ^ b) one, pow-add 10 a b, all)

pub literal_read : (entry unsigned fraction : List ℕ) (whole decimals w n : ℕ) → unsigned ≡ without_sign entry → whole ≡ prefix_len is_digit unsigned
    → fraction ≡ without_point (drop whole unsigned) → decimals ≡ prefix_len is_digit fraction
    → 0 < whole + decimals → are_blank (drop decimals fraction) ≡ true
    → w ≡ number_from_digits_after 10 0 (map digit (take whole unsigned)) → n ≡ number_from_digits_after 10 w (map digit (take decimals fraction))
    → Some (record { value = signed (is_negative entry) n; digits = whole + decimals; decimals = decimals }) ≡ number_literal_of entry
unfolding number_literal_of
literal_read entry unsigned fraction whole decimals w n u p f d some blank first second =
    let u' : without_sign entry ≡ unsigned = sym u in
    let p' : prefix_len is_digit unsigned ≡ whole = sym p in
    let f' : without_point (drop whole unsigned) ≡ fraction = sym f in
    let d' : prefix_len is_digit fraction ≡ decimals = sym d in
    let positive : nat_lt 0 (whole + decimals) ≡ true = grind (arith, nat_tests) in
    let value : number_from_digits 10 (map digit (take whole unsigned) ++ map digit (take decimals fraction)) ≡ n =
    number_after_append 10 0 (map digit (take whole unsigned)) (map digit (take decimals fraction))
    ∙ (ap (λ x. number_from_digits_after 10 x (map digit (take decimals fraction))) (sym first) ∙ sym second) in
    rw (u', p', f', d', positive, blank, value) refl
