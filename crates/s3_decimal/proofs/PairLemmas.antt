-- The digits of numbers, two at a time.
use Rattle.std.proofs.Common.{◌≡◌, ℕ, zero, suc, ◌+◌, ◌-◌, ◌*◌, ◌/◌, ◌%◌, ◌^◌, ◌<◌, ◌≤◌, Bool, List, [], ◌∷◌, sym, ◌∙◌, ap, arith, length, drop, get_or, slice_set}
use Rattle.std.specs.Prelude.{◌==◌, ◌&&◌, if◌then◌else◌, false}
use Rattle.std.proofs.lemmas.List.{length-set}
use Rattle.std.proofs.lemmas.Bool.Decides.{nat_tests}
use Rattle.s3_decimal.specs.Records.{low_half, packed_byte, zone_at, zoned_bytes}
use Rattle.s3_decimal.proofs.DigitsWritten.{back_written, next_digit, next_low}

-- ---- pairs of digits
-- of so many numbers, from a first one on
abbrev pub pairs_from : (count first : ℕ) → List ℕ
pairs_from zero first = []
pairs_from (suc count) first = (0xf0 + first / 10) ∷ (0xf0 + first % 10) ∷ pairs_from count (first + 1)

tens_from : (count first place : ℕ) → place < count → get_or (pairs_from count first) (2 * place) 0 ≡ 0xf0 + (first + place) / 10
tens_from zero first place h = absurd (omega (arith, h))
tens_from (suc count) first zero h = ap (λ n. 0xf0 + n / 10) (omega arith)
tens_from (suc count) first (suc place) h =
    let further : 2 * suc place ≡ suc (suc (2 * place)) = omega arith in
    ap (λ i. get_or (pairs_from (suc count) first) i 0) further ∙ tens_from count (first + 1) place (omega (arith, h)) ∙ ap (λ n. 0xf0 + n / 10) (omega arith)

units_from : (count first place : ℕ) → place < count → get_or (pairs_from count first) (2 * place + 1) 0 ≡ 0xf0 + (first + place) % 10
units_from zero first place h = absurd (omega (arith, h))
units_from (suc count) first zero h = ap (λ n. 0xf0 + n % 10) (omega arith)
units_from (suc count) first (suc place) h =
    let further : 2 * suc place + 1 ≡ suc (suc (2 * place + 1)) = omega arith in
    ap (λ i. get_or (pairs_from (suc count) first) i 0) further ∙ units_from count (first + 1) place (omega (arith, h)) ∙ ap (λ n. 0xf0 + n % 10) (omega arith)

-- the table has those of all numbers below 100
pub tens_at : (n : ℕ) → n < 100 → get_or (pairs_from 100 0) (2 * n) 0 ≡ 0xf0 + n / 10
tens_at n h = tens_from 100 0 n h ∙ ap (λ k. 0xf0 + k / 10) (omega arith)

pub units_at : (n : ℕ) → n < 100 → get_or (pairs_from 100 0) (2 * n + 1) 0 ≡ 0xf0 + n % 10
units_at n h = units_from 100 0 n h ∙ ap (λ k. 0xf0 + k % 10) (omega arith)

-- ---- bytes of a zoned field, from the right
-- only the last one has the sign
no_sign : (b : Bool) (k : ℕ) → zone_at b (suc k) ≡ 0xf0
no_sign b k =
    let other : (suc k == 0) ≡ false = grind (arith, nat_tests) in
    ap (λ (t : Bool). if t && b then 0xd0 else 0xf0) other

-- what the code writes before it
pub zoned_one : (b : Bool) (k v r y : ℕ) → r ≡ v / 10 ^ suc k → y ≡ 0xf0 + r % 10 → y ∷ zoned_bytes b (suc k) v ≡ zoned_bytes b (suc (suc k)) v
zoned_one b k v r y left is = let one : y ≡ zone_at b (suc k) + v / 10 ^ suc k % 10 = is ∙ ap (λ n. 0xf0 + n % 10) left ∙ ap (λ z. z + v / 10 ^ suc k % 10) (sym (no_sign b k)) in ap (λ t. t ∷ zoned_bytes b (suc k) v) one

pub zoned_pair : (b : Bool) (k v r tens units : ℕ) → r ≡ v / 10 ^ suc k → tens ≡ 0xf0 + r % 100 / 10 → units ≡ 0xf0 + r % 100 % 10 → tens ∷ units ∷ zoned_bytes b (suc k) v ≡ zoned_bytes b (suc (suc (suc k))) v
zoned_pair b k v r tens units left t u =
    let further : suc k + 1 ≡ suc (suc k) = omega arith in
    let next : r / 10 ≡ v / 10 ^ suc (suc k) = ap (λ n. n / 10) left ∙ next_digit v (suc k) ∙ ap (λ n. v / 10 ^ n) further in
    let one : units ≡ 0xf0 + r % 10 = u ∙ ap (λ n. 0xf0 + n) (omega arith) in
    let two : tens ≡ 0xf0 + r / 10 % 10 = t ∙ ap (λ n. 0xf0 + n) (omega arith) in
    ap (λ bytes. tens ∷ bytes) (zoned_one b k v r units left one) ∙ zoned_one b (suc k) v (r / 10) tens next two

pub next_two : (v k : ℕ) → v / 10 ^ suc k / 100 ≡ v / 10 ^ suc (suc (suc k))
next_two v k =
    let once : suc k + 1 ≡ suc (suc k) = omega arith in
    let twice : suc (suc k) + 1 ≡ suc (suc (suc k)) = omega arith in
    let both : v / 10 ^ suc k / 100 ≡ v / 10 ^ suc k / 10 / 10 = omega arith in
    both ∙ ap (λ n. n / 10) (next_digit v (suc k) ∙ ap (λ n. v / 10 ^ n) once) ∙ next_digit v (suc (suc k)) ∙ ap (λ n. v / 10 ^ n) twice

pub pair_written : (bytes : List ℕ) (len place tens units : ℕ) (written : List ℕ) → length bytes ≡ len → place + 2 ≤ len → drop (len - place) bytes ≡ written
    → drop (len - (place + 2)) (slice_set (slice_set bytes (len - place - 1) units) (len - place - 2) tens) ≡ tens ∷ units ∷ written
pair_written bytes len place tens units written same room is =
    let at : len - place - 1 ≡ len - 1 - place = omega arith in
    let at' : len - place - 2 ≡ len - 1 - (place + 1) = omega arith in
    let to : len - (place + 2) ≡ len - (place + 1 + 1) = omega arith in
    let one : drop (len - (place + 1)) (slice_set bytes (len - place - 1) units) ≡ units ∷ written = ap (λ i. drop (len - (place + 1)) (slice_set bytes i units)) at ∙ back_written bytes len place units written same (omega arith) is in
    ap (λ i. drop (len - (place + 2)) (slice_set (slice_set bytes (len - place - 1) units) i tens)) at'
    ∙ ap (λ n. drop n (slice_set (slice_set bytes (len - place - 1) units) (len - 1 - (place + 1)) tens)) to
    ∙ back_written (slice_set bytes (len - place - 1) units) len (place + 1) tens (units ∷ written) (length-set bytes (len - place - 1) units ∙ same) (omega arith) one

-- ---- bytes of a packed field, from the right
-- the byte before those that are written
pub packed_two : (b : Bool) (p v r byte : ℕ) → r ≡ v / 10 ^ (2 * p + 1) → byte ≡ r % 100 / 10 * 16 + r % 100 % 10 → byte ≡ packed_byte b (p + 1) v
packed_two b p v r byte left is =
    let tens : r % 100 / 10 ≡ r / 10 % 10 = omega arith in
    let units : r % 100 % 10 ≡ r % 10 = omega arith in
    let further : 2 * p + 1 + 1 ≡ 2 * (p + 1) = omega arith in
    let high : r / 10 % 10 ≡ v / 10 ^ (2 * (p + 1)) % 10 = ap (λ n. n / 10 % 10) left ∙ ap (λ n. n % 10) (next_digit v (2 * p + 1) ∙ ap (λ n. v / 10 ^ n) further) in
    let low : r % 10 ≡ low_half b (p + 1) v = ap (λ n. n % 10) (left ∙ sym (next_digit v (2 * p))) ∙ next_low b p v in
    is ∙ ap (λ n. n * 16 + r % 100 % 10) (tens ∙ high) ∙ ap (λ n. v / 10 ^ (2 * (p + 1)) % 10 * 16 + n) (units ∙ low)

pub packed_next : (v p : ℕ) → v / 10 ^ (2 * p + 1) / 100 ≡ v / 10 ^ (2 * (p + 1) + 1)
packed_next v p =
    let from : 2 * p + 1 ≡ suc (2 * p) = omega arith in
    let to : suc (suc (suc (2 * p))) ≡ 2 * (p + 1) + 1 = omega arith in
    ap (λ n. v / 10 ^ n / 100) from ∙ next_two v (2 * p) ∙ ap (λ n. v / 10 ^ n) to
