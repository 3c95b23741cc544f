-- A printed line has no line end inside.
use Rattle.std.proofs.Common.{◌≡◌, ℕ, ◌+◌, ◌^◌, ◌<◌, ◌%◌, ◌/◌, ◌==◌, nat_lt, Bool, true, false, cond, ◌&&◌, ◌||◌, List, [], ◌∷◌, ◌++◌, refl, ap, sym, subst, ◌∙◌, arith}
use Rattle.std.specs.Prelude.{not, decimal, ⊤}
use Rattle.std.specs.Char.{digit_char, digit_value}
use Rattle.std.specs.List.{list_all}
use Rattle.std.specs.Str.Parse.{AllDigits}
use Rattle.std.proofs.lemmas.Bool.{ne_eqb, eqb-true}
use Rattle.std.proofs.lemmas.Fmt.{decimal_is_IsNumeral}
use Rattle.std.proofs.lemmas.List.Folds.{list_all-append}
use Rattle.json.specs.Token.{Token}
use Rattle.json.specs.Json.{Json, Items, no_items, item, Members, no_members, member}
use Rattle.json.specs.Json as json
use Rattle.json.specs.Print.{escape, escape_byte, escape_letter, ends, print, print_from, quoted, separator, token_text, begins, IsNumber}
use Rattle.json.specs.Tree.{json_tokens, items_tokens, members_tokens, HasNumbers, ItemsHaveNumbers, MembersHaveNumbers}
use Rattle.json.proofs.Printed.Decimals.{IsNumber-decimal}
use Rattle.s3_journal.specs.Inner.Journals.{is_line_end}

abbrev pub is_inside : ℕ → Bool
is_inside byte = not (is_line_end byte)

abbrev pub IsInside : List ℕ → Type 0
IsInside text = list_all is_inside text ≡ true

pub both_inside : (xs ys : List ℕ) → IsInside xs → IsInside ys → IsInside (xs ++ ys)
both_inside xs ys a b = list_all-append is_inside xs ys ∙ (ap (λ v. v && list_all is_inside ys) a ∙ b)

either_inside : (b : Bool) (xs ys : List ℕ) → IsInside xs → IsInside ys → IsInside (cond b xs ys)
either_inside true xs ys a b = a
either_inside false xs ys a b = b

one_inside : (x : ℕ) (xs : List ℕ) → is_line_end x ≡ false → IsInside xs → IsInside (x ∷ xs)
one_inside x xs a b = ap (λ v. not v && list_all is_inside xs) a ∙ b

isnt_ten : (x : ℕ) → (x ≡ 10 → ⊥) → is_line_end x ≡ false
isnt_ten x isnt = ne_eqb x 10 isnt

-- ---- the bytes that stand for a byte
letter_inside : (a b c d e f : Bool) (x : ℕ) → is_line_end x ≡ false → is_line_end (cond a x (cond b 98 (cond c 102 (cond d 110 (cond e 114 (cond f 116 0)))))) ≡ false
letter_inside true b c d e f x h = h
letter_inside false true c d e f x h = refl
letter_inside false false true d e f x h = refl
letter_inside false false false true e f x h = refl
letter_inside false false false false true f x h = refl
letter_inside false false false false false true x h = refl
letter_inside false false false false false false x h = refl

digit_inside : (d : ℕ) → is_line_end (digit_char d) ≡ false
digit_inside d = by (nat_lt d 10)
  where
    by : (b : Bool) → is_line_end (cond b (48 + d) (87 + d)) ≡ false
    by true = isnt_ten (48 + d) (λ e. omega (arith, e))
    by false = isnt_ten (87 + d) (λ e. omega (arith, e))

letters_inside : (x : ℕ) → is_line_end x ≡ false → IsInside (92 ∷ escape_letter x ∷ [])
letters_inside x h = one_inside (escape_letter x) [] (letter_inside ((x == 34) || (x == 92)) (x == 8) (x == 12) (x == 10) (x == 13) (x == 9) x h) refl

digits_of_inside : (h l : ℕ) → IsInside (92 ∷ 117 ∷ 48 ∷ 48 ∷ digit_char h ∷ digit_char l ∷ [])
digits_of_inside h l = one_inside (digit_char h) (digit_char l ∷ []) (digit_inside h) (one_inside (digit_char l) [] (digit_inside l) refl)

other_inside : (x : ℕ) → is_line_end x ≡ false → IsInside (escape_byte x)
unfolding escape_byte
other_inside x h =
    either_inside (nat_lt 0 (escape_letter x)) (92 ∷ escape_letter x ∷ []) (cond (nat_lt x 32) (92 ∷ 117 ∷ 48 ∷ 48 ∷ digit_char (x / 16) ∷ digit_char (x % 16) ∷ []) (x ∷ [])) (letters_inside x h)
    (either_inside (nat_lt x 32) (92 ∷ 117 ∷ 48 ∷ 48 ∷ digit_char (x / 16) ∷ digit_char (x % 16) ∷ []) (x ∷ []) (digits_of_inside (x / 16) (x % 16)) (one_inside x [] h refl))

ten_inside : IsInside (escape_byte 10)
unfolding escape_byte
ten_inside = refl

byte_inside : (x : ℕ) → IsInside (escape_byte x)
byte_inside x = by (is_line_end x) refl
  where
    by : (b : Bool) → is_line_end x ≡ b → IsInside (escape_byte x)
    by true is = subst (λ y. IsInside (escape_byte y)) (sym (eqb-true x 10 is)) ten_inside
    by false isnt = other_inside x isnt

escape_inside : (s : List ℕ) → IsInside (escape s)
escape_inside [] = refl
escape_inside (x ∷ s) = both_inside (escape_byte x) (escape s) (byte_inside x) (escape_inside s)

quoted_inside : (s : List ℕ) → IsInside (quoted s)
quoted_inside s = one_inside 34 (escape s ++ 34 ∷ []) refl (both_inside (escape s) (34 ∷ []) (escape_inside s) refl)

-- ---- numbers
digits_inside : (ds : List ℕ) → AllDigits 10 ds → IsInside ds
digits_inside [] all = refl
digits_inside (d ∷ ds) all = one_inside d ds (isnt_ten d (λ e. high d e all.0)) (digits_inside ds all.1)
  where
    high : (d : ℕ) → d ≡ 10 → digit_value d < 10 → ⊥
    high d e low = let at : digit_value 10 < 10 = subst (λ y. digit_value y < 10) e low in omega (arith, at)

-- the text of a number of 64 bits
abbrev pub IsDecimal : List ℕ → Type 0
IsDecimal s = (n : ℕ) × (n < 2 ^ 64) × (s ≡ decimal n)

decimal_inside : (s : List ℕ) → IsDecimal s → IsInside s
decimal_inside s (n, small, is) = rw is (digits_inside (decimal n) (decimal_is_IsNumeral n small).0.1)

decimal_number : (s : List ℕ) → IsDecimal s → IsNumber s
decimal_number s (n, small, is) = rw is (IsNumber-decimal n small)

-- ---- each number of a value is such a text
abbrev mutual
  pub HasDecimals : Json → Type 0
  HasDecimals json.null = ⊤
  HasDecimals (json.boolean b) = ⊤
  HasDecimals (json.number s) = IsDecimal s
  HasDecimals (json.string s) = ⊤
  HasDecimals (json.array js) = ItemsHaveDecimals js
  HasDecimals (json.object ms) = MembersHaveDecimals ms

  pub ItemsHaveDecimals : Items → Type 0
  ItemsHaveDecimals no_items = ⊤
  ItemsHaveDecimals (item j js) = HasDecimals j × ItemsHaveDecimals js

  pub MembersHaveDecimals : Members → Type 0
  MembersHaveDecimals no_members = ⊤
  MembersHaveDecimals (member k j ms) = HasDecimals j × MembersHaveDecimals ms

mutual
  pub numbers_of_decimals : (j : Json) → HasDecimals j → HasNumbers j
  numbers_of_decimals json.null h = tt
  numbers_of_decimals (json.boolean b) h = tt
  numbers_of_decimals (json.number s) h = decimal_number s h
  numbers_of_decimals (json.string s) h = tt
  numbers_of_decimals (json.array js) h = items_numbers js h
  numbers_of_decimals (json.object ms) h = members_numbers ms h

  items_numbers : (js : Items) → ItemsHaveDecimals js → ItemsHaveNumbers js
  items_numbers no_items h = tt
  items_numbers (item j js) h = (numbers_of_decimals j h.0, items_numbers js h.1)

  members_numbers : (ms : Members) → MembersHaveDecimals ms → MembersHaveNumbers ms
  members_numbers no_members h = tt
  members_numbers (member k j ms) h = (numbers_of_decimals j h.0, members_numbers ms h.1)

-- ---- the text of tokens
abbrev pub IsClean : Token → Type 0
IsClean t = IsInside (token_text t)

abbrev pub AreClean : List Token → Type 0
AreClean [] = ⊤
AreClean (t ∷ ts) = IsClean t × AreClean ts

clean_append : (ts us : List Token) → AreClean ts → AreClean us → AreClean (ts ++ us)
clean_append [] us a b = b
clean_append (t ∷ ts) us a b = (a.0, clean_append ts us a.1 b)

mutual
  pub clean_tokens : (j : Json) → HasDecimals j → AreClean (json_tokens j)
  clean_tokens json.null h = (refl, tt)
  clean_tokens (json.boolean true) h = (refl, tt)
  clean_tokens (json.boolean false) h = (refl, tt)
  clean_tokens (json.number s) h = (decimal_inside s h, tt)
  clean_tokens (json.string s) h = (quoted_inside s, tt)
  clean_tokens (json.array js) h = (refl, clean_items js h)
  clean_tokens (json.object ms) h = (refl, clean_members ms h)

  clean_items : (js : Items) → ItemsHaveDecimals js → AreClean (items_tokens js)
  clean_items no_items h = (refl, tt)
  clean_items (item j js) h = clean_append (json_tokens j) (items_tokens js) (clean_tokens j h.0) (clean_items js h.1)

  clean_members : (ms : Members) → MembersHaveDecimals ms → AreClean (members_tokens ms)
  clean_members no_members h = (refl, tt)
  clean_members (member k j ms) h = (both_inside (quoted k) (58 ∷ []) (quoted_inside k) refl, clean_append (json_tokens j) (members_tokens ms) (clean_tokens j h.0) (clean_members ms h.1))

separator_inside : (b : Bool) → IsInside (cond b (44 ∷ []) [])
separator_inside true = refl
separator_inside false = refl

print_from_inside : (b : Bool) (ts : List Token) → AreClean ts → IsInside (print_from b ts)
unfolding print_from
print_from_inside b [] h = refl
print_from_inside b (t ∷ ts) h =
    both_inside (separator b t) (token_text t ++ print_from (ends t) ts) (separator_inside (b && begins t)) (both_inside (token_text t) (print_from (ends t) ts) h.0 (print_from_inside (ends t) ts h.1))

pub print_inside : (j : Json) → HasDecimals j → IsInside (print (json_tokens j))
print_inside j h = print_from_inside false (json_tokens j) (clean_tokens j h)
