-- What numbers, their bytes and their texts make of each other.
use Rattle.std.proofs.Common.{◌≡◌, ℕ, ℤ, pos, negsuc, ◌+◌, ◌-◌, ◌*◌, ◌%◌, ◌^◌, ◌<◌, ◌≤◌, refl, arith, sym, ◌∙◌, ap, ap₂, Bool, true, false, ◌&&◌, not, cond, suc, zero, List, [], ◌∷◌, ◌++◌, map, length, take, drop, replicate, nat_le, nat_lt, unsigned_abs, inl, inr, subst}
use Rattle.std.specs.Prelude.{Some}
use Rattle.std.specs.Option.{option_map}
use Rattle.std.specs.Bool.{◌==◌}
use Rattle.std.specs.List.{after_first, before_first, list_all, position_or_len}
use Rattle.std.proofs.lemmas.Bool.{and_parts, cases_Bool, eqb-true, ltb-true, lt-ltb, le-leb, ne_eqb}
use Rattle.std.proofs.lemmas.List.{append-nil, length-drop, length-map, length-take-le, map-append, take-append-drop}
use Rattle.std.proofs.lemmas.List.Folds.{list_all-append, list_all-map}
use Rattle.std.proofs.Math.Nat.{mod-eq_of_lt}
use Rattle.s3_decimal.specs.Exact.{is_negative, signed}
use Rattle.s3_decimal.specs.Records.{cleaned, digit_at, number_of, packed_digits, packed_number, zoned_bytes, zoned_digits, zoned_number}
use Rattle.s3_decimal.proofs.Bounds.{unsigned_abs-signed}
use Rattle.s3_decimal.proofs.DigitsRead.{length-zoned_digits, number_below, packed_below}
use Rattle.s3_decimal.proofs.DigitsWritten.{digits, length-zoned_bytes, number_of_digits, zoned_digits_written}
use Rattle.s3_cells.specs.Inner.Numbers.{decimals_text, digit_character, digit_value, fifteen, has_minus, is_digit, is_point, magnitude_in, magnitude_read, number_read, number_text, sign_text, significant, without_sign}
use Rattle.s3_cells.proofs.TextLemmas.{drop_behind, some_length, take_behind}

-- ---- digits
abbrev is_good : ℕ → Bool
is_good byte = nat_lt (byte % 16) 10

signed_back : (z : ℤ) → signed (is_negative z) (unsigned_abs z) ≡ z
signed_back (pos n) = refl
signed_back (negsuc n) = refl

digit_below : (p v : ℕ) → digit_at p v < 10
digit_below p v = omega arith

digits_small : (n v : ℕ) → list_all (λ d. nat_lt d 10) (digits n v) ≡ true
digits_small zero v = refl
digits_small (suc n) v = ap₂ (λ a b. a && b) (lt-ltb (digit_at n v) 10 (digit_below n v)) (digits_small n v)

good_bytes : (n v : ℕ) → list_all is_good (zoned_bytes false n v) ≡ true
good_bytes n v = sym (list_all-map (λ d. nat_lt d 10) (λ b. b % 16) (zoned_bytes false n v)) ∙ ap (list_all (λ d. nat_lt d 10)) (zoned_digits_written false n v) ∙ digits_small n v

good_parts : (n : ℕ) (zs : List ℕ) → list_all is_good zs ≡ true → (list_all is_good (take n zs) ≡ true) × (list_all is_good (drop n zs) ≡ true)
good_parts n zs h =
    and_parts (list_all is_good (take n zs)) (list_all is_good (drop n zs)) (sym (list_all-append is_good (take n zs) (drop n zs)) ∙ ap (list_all is_good) (take-append-drop n zs) ∙ h)

good_significant : (zs : List ℕ) → list_all is_good zs ≡ true → list_all is_good (significant zs) ≡ true
unfolding significant
good_significant [] h = h
good_significant (z ∷ []) h = h
good_significant (z ∷ y ∷ zs) h =
    let parts = and_parts (is_good z) (list_all is_good (y ∷ zs)) h in
    elim (z == 240) as (λ b. list_all is_good (cond b (significant (y ∷ zs)) (z ∷ y ∷ zs)) ≡ true) [ true ↦ good_significant (y ∷ zs) parts.1 | false ↦ h ]

digit_good : (b : ℕ) → is_good b ≡ true → is_digit (digit_character b) ≡ true
digit_good b h =
    let low : 48 ≤ 48 + b % 16 = omega arith in
    let high : 48 + b % 16 ≤ 57 = omega (arith, ltb-true (b % 16) 10 h) in
    ap₂ (λ a c. a && c) (le-leb 48 (48 + b % 16) low) (le-leb (48 + b % 16) 57 high)

all_good : (zs : List ℕ) → list_all is_good zs ≡ true → list_all is_digit (map digit_character zs) ≡ true
all_good [] h = refl
all_good (z ∷ zs) h =
    let parts = and_parts (is_good z) (list_all is_good zs) h in
    ap₂ (λ a b. a && b) (digit_good z parts.0) (all_good zs parts.1)

values_back : (zs : List ℕ) → map digit_value (map digit_character zs) ≡ zoned_digits zs
values_back [] = refl
values_back (z ∷ zs) = let one : (48 + z % 16) % 16 ≡ z % 16 = omega arith in ap₂ (λ a b. a ∷ b) one (values_back zs)

zero_in_front : (ds : List ℕ) → number_of (0 ∷ ds) ≡ number_of ds
zero_in_front ds = omega arith

significant_number : (zs ds : List ℕ) → number_of (zoned_digits (significant zs) ++ ds) ≡ number_of (zoned_digits zs ++ ds)
unfolding significant
significant_number [] ds = refl
significant_number (z ∷ []) ds = refl
significant_number (z ∷ y ∷ zs) ds = elim (cases_Bool (z == 240)) [
  | inl is ↦
      let zero_digit : z % 16 ≡ 0 = ap (λ n. n % 16) (eqb-true z 240 is) in
      ap (λ b. number_of (zoned_digits (cond b (significant (y ∷ zs)) (z ∷ y ∷ zs)) ++ ds)) is
      ∙ significant_number (y ∷ zs) ds
      ∙ sym (zero_in_front (zoned_digits (y ∷ zs) ++ ds))
      ∙ sym (ap (λ d. number_of (d ∷ (zoned_digits (y ∷ zs) ++ ds))) zero_digit)
  | inr other ↦ ap (λ b. number_of (zoned_digits (cond b (significant (y ∷ zs)) (z ∷ y ∷ zs)) ++ ds)) other
]

-- there is one
record HasFirst (zs : List ℕ) : Type 0 where
  pub first : ℕ
  pub rest : List ℕ
  pub is : zs ≡ first ∷ rest

first_significant : (zs : List ℕ) → 0 < length zs → HasFirst (significant zs)
unfolding significant
first_significant [] h = absurd (omega arith)
first_significant (z ∷ []) h = record { first = z; rest = []; is = refl }
first_significant (z ∷ y ∷ zs) h = elim (z == 240) as (λ b. HasFirst (cond b (significant (y ∷ zs)) (z ∷ y ∷ zs))) [ true ↦ first_significant (y ∷ zs) (omega arith) | false ↦ record { first = z; rest = y ∷ zs; is = refl } ]

-- ---- the sign
not_sign : (b c : ℕ) → c < 48 → (48 + b % 16 == c) ≡ false
not_sign b c h = ne_eqb (48 + b % 16) c (λ e. omega arith)

no_minus : (b : ℕ) (rest : List ℕ) → has_minus (digit_character b ∷ rest) ≡ false
no_minus b rest = not_sign b 45 (omega arith)

no_sign : (b : ℕ) (rest : List ℕ) → without_sign (digit_character b ∷ rest) ≡ digit_character b ∷ rest
no_sign b rest = rw (not_sign b 45 (omega arith), not_sign b 43 (omega arith)) refl

sign_told : (negative : Bool) (zs tail : List ℕ) → HasFirst zs → has_minus (sign_text negative ++ (map digit_character zs ++ tail)) ≡ negative
sign_told true zs tail some = refl
sign_told false zs tail some = ap (λ xs. has_minus (map digit_character xs ++ tail)) some.is ∙ no_minus some.first (map digit_character some.rest ++ tail)

sign_dropped : (negative : Bool) (zs tail : List ℕ) → HasFirst zs → without_sign (sign_text negative ++ (map digit_character zs ++ tail)) ≡ map digit_character zs ++ tail
sign_dropped true zs tail some = refl
sign_dropped false zs tail some =
    ap (λ xs. without_sign (map digit_character xs ++ tail)) some.is ∙ no_sign some.first (map digit_character some.rest ++ tail) ∙ sym (ap (λ xs. map digit_character xs ++ tail) some.is)

-- ---- the point
no_point : (b : ℕ) → is_point (digit_character b) ≡ false
no_point b = not_sign b 46 (omega arith)

point_behind : (zs rest : List ℕ) → position_or_len is_point (map digit_character zs ++ 46 ∷ rest) ≡ length (map digit_character zs)
point_behind [] rest = refl
point_behind (z ∷ zs) rest =
    let more : 1 + length (map digit_character zs) ≡ suc (length (map digit_character zs)) = omega arith in
    ap (λ b. cond (not b) (1 + position_or_len is_point (map digit_character zs ++ 46 ∷ rest)) 0) (no_point z) ∙ ap (λ n. 1 + n) (point_behind zs rest) ∙ more

no_point_at_all : (zs : List ℕ) → position_or_len is_point (map digit_character zs ++ []) ≡ length (map digit_character zs)
no_point_at_all [] = refl
no_point_at_all (z ∷ zs) =
    let more : 1 + length (map digit_character zs) ≡ suc (length (map digit_character zs)) = omega arith in
    ap (λ b. cond (not b) (1 + position_or_len is_point (map digit_character zs ++ [])) 0) (no_point z) ∙ ap (λ n. 1 + n) (no_point_at_all zs) ∙ more

whole_read : (zs ys : List ℕ) → before_first is_point (map digit_character zs ++ decimals_text ys) ≡ map digit_character zs
whole_read zs [] =
    take_behind (map digit_character zs) [] 0 _ (no_point_at_all zs ∙ omega arith) ∙ append-nil (map digit_character zs)
whole_read zs (y ∷ ys) =
    take_behind (map digit_character zs) (46 ∷ map digit_character (y ∷ ys)) 0 _ (point_behind zs (map digit_character (y ∷ ys)) ∙ omega arith) ∙ append-nil (map digit_character zs)

decimals_read : (zs ys : List ℕ) → after_first is_point (map digit_character zs ++ decimals_text ys) ≡ map digit_character ys
decimals_read zs [] = drop_behind (map digit_character zs) [] 1 _ (ap (λ n. n + 1) (no_point_at_all zs))
decimals_read zs (y ∷ ys) = drop_behind (map digit_character zs) (46 ∷ map digit_character (y ∷ ys)) 1 _ (ap (λ n. n + 1) (point_behind zs (map digit_character (y ∷ ys))))

-- ---- the magnitude
nothing_added : (d : ℕ) (zs ys : List ℕ) → length ys ≡ d → (map digit_value (map digit_character zs) ++ map digit_value (map digit_character ys)) ++ replicate (d - length (map digit_character ys)) 0 ≡ zoned_digits zs ++ zoned_digits ys
nothing_added d zs ys long =
    let none : d - length (map digit_character ys) ≡ 0 = omega (arith, length-map ys digit_character) in
    ap (λ n. (map digit_value (map digit_character zs) ++ map digit_value (map digit_character ys)) ++ replicate n 0) none
    ∙ append-nil (map digit_value (map digit_character zs) ++ map digit_value (map digit_character ys))
    ∙ ap₂ (λ a b. a ++ b) (values_back zs) (values_back ys)

some_digits : (zs : List ℕ) → HasFirst zs → not (length (map digit_character zs) == 0) ≡ true
some_digits zs some = ap (λ xs. not (length (map digit_character xs) == 0)) some.is ∙ ap not (some_length (digit_character some.first) (map digit_character some.rest))

read_in : (d : ℕ) (zs ys : List ℕ) → HasFirst zs → list_all is_good zs ≡ true → list_all is_good ys ≡ true → length ys ≡ d
    → magnitude_in d (map digit_character zs) (map digit_character ys) ≡ Some (number_of (zoned_digits zs ++ zoned_digits ys))
read_in d zs ys some good fine long =
    let within : nat_le (length (map digit_character ys)) d ≡ true = le-leb (length (map digit_character ys)) d (omega (arith, length-map ys digit_character)) in
    rw (some_digits zs some, all_good zs good, all_good ys fine, within) (ap (λ ds. Some (number_of ds)) (nothing_added d zs ys long))

magnitude_back : (d : ℕ) (zs ys : List ℕ) → HasFirst zs → list_all is_good zs ≡ true → list_all is_good ys ≡ true → length ys ≡ d
    → magnitude_read d (map digit_character zs ++ decimals_text ys) ≡ Some (number_of (zoned_digits zs ++ zoned_digits ys))
unfolding magnitude_read
magnitude_back d zs ys some good fine long =
    ap₂ (λ w f. magnitude_in d w f) (whole_read zs ys) (decimals_read zs ys) ∙ read_in d zs ys some good fine long

-- the fifteen digits
fifteen_number : (v : ℕ) → v < 10 ^ 15 → number_of (zoned_digits (fifteen v)) ≡ v
unfolding fifteen
fifteen_number v h = ap number_of (zoned_digits_written false 15 v) ∙ number_of_digits 15 v ∙ mod-eq_of_lt h

fifteen_good : (v : ℕ) → list_all is_good (fifteen v) ≡ true
unfolding fifteen
fifteen_good v = good_bytes 15 v

fifteen_long : (v : ℕ) → length (fifteen v) ≡ 15
unfolding fifteen
fifteen_long v = length-zoned_bytes false 15 v

number_again : (k : ℕ) (zs : List ℕ) → number_of (zoned_digits (significant (take k zs)) ++ zoned_digits (drop k zs)) ≡ number_of (zoned_digits zs)
number_again k zs =
    significant_number (take k zs) (zoned_digits (drop k zs))
    ∙ ap number_of (sym (map-append (λ b. b % 16) (take k zs) (drop k zs)) ∙ ap zoned_digits (take-append-drop k zs))

read_again : (d : ℕ) (negative : Bool) (v : ℕ) → d ≤ 9 → v < 10 ^ 15
    → number_read d (sign_text negative ++ (map digit_character (significant (take (15 - d) (fifteen v))) ++ decimals_text (drop (15 - d) (fifteen v)))) ≡ Some (signed negative v)
read_again d negative v few small =
    let parts = good_parts (15 - d) (fifteen v) (fifteen_good v) in
    let long : length (drop (15 - d) (fifteen v)) ≡ d = omega (arith, length-drop (15 - d) (fifteen v), fifteen_long v) in
    let more : 15 - d ≤ length (fifteen v) = omega (arith, fifteen_long v) in
    let there : 0 < length (take (15 - d) (fifteen v)) = omega (arith, length-take-le (15 - d) (fifteen v) more) in
    let some = first_significant (take (15 - d) (fifteen v)) there in
    ap₂ (λ n t. option_map (signed n) (magnitude_read d t))
    (sign_told negative (significant (take (15 - d) (fifteen v))) (decimals_text (drop (15 - d) (fifteen v))) some)
    (sign_dropped negative (significant (take (15 - d) (fifteen v))) (decimals_text (drop (15 - d) (fifteen v))) some)
    ∙ ap (option_map (signed negative)) (magnitude_back d (significant (take (15 - d) (fifteen v))) (drop (15 - d) (fifteen v)) some (good_significant (take (15 - d) (fifteen v)) parts.0) parts.1 long)
    ∙ ap (λ n. Some (signed negative n)) (number_again (15 - d) (fifteen v) ∙ fifteen_number v small)

pub text_back : (d : ℕ) (z : ℤ) → d ≤ 9 → unsigned_abs z < 10 ^ 15 → number_read d (number_text d z) ≡ Some z
unfolding number_text
text_back d z few small = read_again d (is_negative z) (unsigned_abs z) few small ∙ ap Some (signed_back z)

-- ---- what bytes hold
pub zoned_held : (bytes : List ℕ) → nat_lt (unsigned_abs (zoned_number bytes)) (10 ^ length bytes) ≡ true
zoned_held bytes =
    let below : number_of (map cleaned (zoned_digits bytes)) < 10 ^ length bytes = subst (λ n. number_of (map cleaned (zoned_digits bytes)) < 10 ^ n) (length-zoned_digits bytes) (number_below (zoned_digits bytes)) in
    lt-ltb (unsigned_abs (zoned_number bytes)) (10 ^ length bytes) (rw (unsigned_abs-signed _ (number_of (map cleaned (zoned_digits bytes)))) below)

pub packed_held : (bytes : List ℕ) → 1 ≤ length bytes → nat_lt (unsigned_abs (packed_number bytes)) (10 ^ (2 * length bytes - 1)) ≡ true
packed_held bytes some =
    lt-ltb (unsigned_abs (packed_number bytes)) (10 ^ (2 * length bytes - 1)) (rw (unsigned_abs-signed _ (number_of (map cleaned (packed_digits bytes)))) (packed_below bytes some))
