-- Digits moved over a number's own.
use Rattle.std.proofs.Common.{◌≡◌, ℕ, ◌+◌, ◌-◌, ◌*◌, ◌/◌, ◌%◌, ◌^◌, ◌<◌, ◌≤◌, refl, arith, sym, ◌∙◌, ap, Bool, true, false, suc, zero, List, ◌∷◌, map, length, drop, take, get_or, min, ℤ, unsigned_abs, nat_lt, if◌then◌else◌}
use Rattle.std.proofs.Math.Nat.{mod-eq_of_lt, div-eq_of_lt, mul-add-div_right}
use Rattle.std.proofs.Math.Seq.{drop-cons}
use Rattle.std.proofs.lemmas.Bool.Decides.{nat_tests}
use Rattle.std.proofs.lemmas.List.{drop_all, length-drop, take_all}
use Rattle.std.proofs.lemmas.Nat.{div_below, mul-le, mod_below}
use Rattle.s3_decimal.specs.Records.{cleaned, digit_at, moved_digit, moved_digits, number_of, zoned_bytes, zoned_digits}
use Rattle.s3_decimal.proofs.Powers.{ten_pos, ten_split}
use Rattle.s3_decimal.proofs.DigitsWritten.{cleaned_digits, number_of_digits, split_digit, zoned_digits_written, length-zoned_bytes}

-- low digits laid over a number's fit where the number did
pub replaced_below : (low t k n : ℕ) → k ≤ n → t < 10 ^ n → low < 10 ^ k → t / 10 ^ k * 10 ^ k + low < 10 ^ n
replaced_below low t k n h l m =
    let split : 10 ^ n ≡ 10 ^ (n - k) * 10 ^ k = ten_split k n h in
    let high : t / 10 ^ k < 10 ^ (n - k) = div_below t (10 ^ k) (10 ^ (n - k)) (ten_pos k) (omega arith) in
    let room : (t / 10 ^ k + 1) * 10 ^ k ≤ 10 ^ (n - k) * 10 ^ k = mul-le (t / 10 ^ k + 1) (10 ^ k) (10 ^ (n - k)) (10 ^ k) (omega arith) (omega arith) in
    omega arith

is_below : (a b : ℕ) → a < b → nat_lt a b ≡ true
is_below a b h = grind (arith, nat_tests)

is_past : (a b : ℕ) → b ≤ a → nat_lt a b ≡ false
is_past a b h = grind (arith, nat_tests)

byte_digit : (from : List ℕ) (old : ℤ) (place : ℕ) → place < length from → moved_digit from old place ≡ cleaned (get_or from (length from - 1 - place) 0 % 16)
byte_digit from old place h =
    ap (λ b. if b then cleaned (get_or from (length from - 1 - place) 0 % 16) else digit_at place (unsigned_abs old)) (is_below place (length from) h)

own_digit : (from : List ℕ) (old : ℤ) (place : ℕ) → length from ≤ place → moved_digit from old place ≡ digit_at place (unsigned_abs old)
own_digit from old place h =
    ap (λ b. if b then cleaned (get_or from (length from - 1 - place) 0 % 16) else digit_at place (unsigned_abs old)) (is_past place (length from) h)

length-moved_digits : (from : List ℕ) (q : ℕ) (old : ℤ) → length (moved_digits from q old) ≡ q
length-moved_digits from zero old = refl
length-moved_digits from (suc q) old = ap suc (length-moved_digits from q old)

-- where the bytes reach the leftmost place, the digits are those of the last bytes
digits_within : (from : List ℕ) (q : ℕ) (old : ℤ) → q ≤ length from → moved_digits from q old ≡ map cleaned (zoned_digits (drop (length from - q) from))
digits_within from zero old h = sym (ap (λ bs. map cleaned (zoned_digits bs)) (drop_all (length from - 0) from (omega arith)))
digits_within from (suc q) old h =
    let at : length from - 1 - q ≡ length from - suc q = omega arith in
    let next : suc (length from - suc q) ≡ length from - q = omega arith in
    ap (λ d. d ∷ moved_digits from q old) (byte_digit from old q (omega arith) ∙ ap (λ i. cleaned (get_or from i 0 % 16)) at)
    ∙ ap (λ ds. cleaned (get_or from (length from - suc q) 0 % 16) ∷ ds) (digits_within from q old (omega arith))
    ∙ sym (ap (λ bs. map cleaned (zoned_digits bs)) (drop-cons from (length from - suc q) 0 (omega arith) ∙ ap (λ i. get_or from (length from - suc q) 0 ∷ drop i from) next))

-- one digit more left of a place
higher : (v m n : ℕ) → n ≤ m → digit_at m v * 10 ^ m + v % 10 ^ m / 10 ^ n * 10 ^ n ≡ v % 10 ^ suc m / 10 ^ n * 10 ^ n
higher v m n h =
    let power : 10 ^ m ≡ 10 ^ (m - n) * 10 ^ n = ten_split n m h in
    let whole : v % 10 ^ suc m ≡ digit_at m v * 10 ^ (m - n) * 10 ^ n + v % 10 ^ m =
    split_digit m v ∙ ap (λ t. t + v % 10 ^ m) (ap (λ t. digit_at m v * t) power ∙ omega arith) in
    let high : v % 10 ^ suc m / 10 ^ n ≡ digit_at m v * 10 ^ (m - n) + v % 10 ^ m / 10 ^ n =
    ap (λ t. t / 10 ^ n) whole ∙ mul-add-div_right (ten_pos n) (digit_at m v * 10 ^ (m - n)) (v % 10 ^ m) in
    let product : digit_at m v * 10 ^ m ≡ digit_at m v * 10 ^ (m - n) * 10 ^ n = ap (λ t. digit_at m v * t) power ∙ omega arith in
    omega (arith, product, ap (λ t. t * 10 ^ n) high)

-- left of the bytes the digits are the number's own
digits_beyond : (k : ℕ) (from : List ℕ) (old : ℤ) (q : ℕ) → q ≡ k + length from → number_of (moved_digits from q old) ≡ unsigned_abs old % 10 ^ q / 10 ^ length from * 10 ^ length from + number_of (moved_digits from (length from) old)
digits_beyond zero from old q e =
    let same : q ≡ length from = omega arith in
    let none : unsigned_abs old % 10 ^ q / 10 ^ length from ≡ 0 =
    ap (λ k. unsigned_abs old % 10 ^ k / 10 ^ length from) same ∙ div-eq_of_lt (mod_below (unsigned_abs old) (10 ^ length from) (ten_pos (length from))) in
    let own : number_of (moved_digits from q old) ≡ number_of (moved_digits from (length from) old) = ap (λ k. number_of (moved_digits from k old)) same in
    omega (arith, own, ap (λ t. t * 10 ^ length from) none)
digits_beyond (suc k) from old q e =
    let m : ℕ = k + length from in
    let same : q ≡ suc (k + length from) = omega arith in
    let before = digits_beyond k from old (k + length from) refl in
    let power : 10 ^ length (moved_digits from (k + length from) old) ≡ 10 ^ (k + length from) = ap (λ t. 10 ^ t) (length-moved_digits from (k + length from) old) in
    let digit : moved_digit from old (k + length from) ≡ digit_at (k + length from) (unsigned_abs old) = own_digit from old (k + length from) (omega arith) in
    let one : number_of (moved_digits from (suc (k + length from)) old) ≡ digit_at (k + length from) (unsigned_abs old) * 10 ^ (k + length from) + number_of (moved_digits from (k + length from) old) =
    ap (λ t. t * 10 ^ length (moved_digits from (k + length from) old) + number_of (moved_digits from (k + length from) old)) digit
    ∙ ap (λ t. digit_at (k + length from) (unsigned_abs old) * t + number_of (moved_digits from (k + length from) old)) power in
    let up = higher (unsigned_abs old) (k + length from) (length from) (omega arith) in
    ap (λ t. number_of (moved_digits from t old)) same ∙ one
    ∙ ap (λ t. digit_at (k + length from) (unsigned_abs old) * 10 ^ (k + length from) + t) before
    ∙ omega (arith, up)
    ∙ ap (λ t. unsigned_abs old % 10 ^ t / 10 ^ length from * 10 ^ length from + number_of (moved_digits from (length from) old)) (sym same)

below_is : (a b : ℕ) → nat_lt a b ≡ true → a < b
below_is a b h = grind (arith, nat_tests)

past_is : (a b : ℕ) → nat_lt a b ≡ false → b ≤ a
past_is a b h = grind (arith, nat_tests)

low_digits : (from : List ℕ) (old : ℤ) (p low : ℕ) → p ≤ length from → low ≡ number_of (map cleaned (zoned_digits (drop (length from - p) from))) → low ≡ number_of (moved_digits from p old)
low_digits from old p low h l = l ∙ sym (ap number_of (digits_within from p old h))

moved_by : (b : Bool) (from : List ℕ) (g : ℕ) (old : ℤ) (p low : ℕ) → p ≡ min (length from) g → unsigned_abs old < 10 ^ g → low ≡ number_of (map cleaned (zoned_digits (drop (length from - p) from))) → nat_lt (length from) g ≡ b → unsigned_abs old / 10 ^ p * 10 ^ p + low ≡ number_of (moved_digits from g old)
moved_by true from g old p low e h l t =
    let less : length from < g = below_is (length from) g t in
    let same : p ≡ length from = omega arith in
    let own : unsigned_abs old % 10 ^ g ≡ unsigned_abs old = mod-eq_of_lt h in
    let low_is : low ≡ number_of (moved_digits from (length from) old) = low_digits from old p low (omega arith) l ∙ ap (λ k. number_of (moved_digits from k old)) same in
    ap (λ k. unsigned_abs old / 10 ^ k * 10 ^ k + low) same
    ∙ ap (λ n. unsigned_abs old / 10 ^ length from * 10 ^ length from + n) low_is
    ∙ ap (λ n. n / 10 ^ length from * 10 ^ length from + number_of (moved_digits from (length from) old)) (sym own)
    ∙ sym (digits_beyond (g - length from) from old g (omega arith))
moved_by false from g old p low e h l t =
    let more : g ≤ length from = past_is (length from) g t in
    let same : p ≡ g = omega arith in
    let none : unsigned_abs old / 10 ^ p ≡ 0 = div-eq_of_lt (rw same h) in
    let low_is : low ≡ number_of (moved_digits from g old) = low_digits from old p low (omega arith) l ∙ ap (λ k. number_of (moved_digits from k old)) same in
    omega (arith, ap (λ n. n * 10 ^ p) none, low_is)

-- what the code computes is the digit at every place
pub moved_is : (from : List ℕ) (g : ℕ) (old : ℤ) (p low : ℕ) → p ≡ min (length from) g → unsigned_abs old < 10 ^ g → low ≡ number_of (map cleaned (zoned_digits (drop (length from - p) from))) → unsigned_abs old / 10 ^ p * 10 ^ p + low ≡ number_of (moved_digits from g old)
moved_is from g old p low e h l = moved_by (nat_lt (length from) g) from g old p low e h l refl

drop_zoned : (k : ℕ) (b : Bool) (p v n : ℕ) → n ≡ k + p → drop k (zoned_bytes b n v) ≡ zoned_bytes b p v
drop_zoned zero b p v n e = ap (λ i. zoned_bytes b i v) (omega arith)
drop_zoned (suc k) b p v n e =
    let same : n ≡ suc (k + p) = omega arith in
    ap (λ i. drop (suc k) (zoned_bytes b i v)) same ∙ drop_zoned k b p v (k + p) refl

-- the last of a number's zoned bytes are those of its low digits
pub low_zoned : (b : Bool) (n p v : ℕ) → p ≤ n → v % 10 ^ p ≡ number_of (map cleaned (zoned_digits (drop (length (zoned_bytes b n v) - p) (zoned_bytes b n v))))
low_zoned b n p v h =
    let count : length (zoned_bytes b n v) - p ≡ n - p = ap (λ k. k - p) (length-zoned_bytes b n v) in
    sym (ap (λ k. number_of (map cleaned (zoned_digits (drop k (zoned_bytes b n v))))) count
    ∙ ap (λ bs. number_of (map cleaned (zoned_digits bs))) (drop_zoned (n - p) b p v n (omega arith))
    ∙ ap (λ ds. number_of (map cleaned ds)) (zoned_digits_written b p v)
    ∙ ap number_of (cleaned_digits p v) ∙ number_of_digits p v)

-- what is left of a list from a place, up to its end
pub rest_of : (from : List ℕ) (k : ℕ) → take (length from - k) (drop k from) ≡ drop k from
rest_of from k = take_all (length from - k) (drop k from) (omega (arith, length-drop k from))
