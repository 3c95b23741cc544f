-- Keys compared as bytes and as numbers.
use Rattle.std.proofs.Common.{◌≡◌, true, ◌-◌, ◌/◌, append-nil, ℕ, zero, suc, ◌+◌, ◌*◌, ◌^◌, ◌<◌, ◌≤◌, ◌⊎◌, inl, inr, List, [], ◌∷◌, ◌++◌, length, take, drop, replicate, slice_index, refl, sym, ap, subst, ◌∙◌, arith, length-append, length-drop, length-take-le}
use Rattle.std.proofs.Math.Nat.{mul-le-mul_left}
use Rattle.std.proofs.lemmas.Bool.Decides.{nat_tests}
use Rattle.std.proofs.lemmas.List.{take_all, drop_all, take-replicate, length-replicate, take-append-drop, take-take}
use Rattle.std.proofs.lemmas.Nat.{pow-add, div-mul-add}
use Rattle.std.proofs.Math.Seq.{drop-cons}
use Rattle.std.proofs.lemmas.Slice.{put_mid-paste}
use borrow.Rule.Slice.PartMut.{put_mid}
use native.Mathlib.Numerals.{unary_clauses}
use Rattle.std.specs.declared.cmp.Ordering.{Ordering}
use Rattle.std.specs.declared.cmp.Ordering.TheVariants.{Less, Equal, Greater}
use Rattle.std.specs.Ordering.{nat_cmp, ordering_then, is_ne}
use Rattle.std.specs.Cmp.Lexicographic.{slice_cmp}
use Rattle.byteorder.specs.Endian.{big_from, big_number, big_bytes}
use Rattle.byteorder.specs.Numbers.{big_number-reads_back}
use Rattle.s3_keyed.specs.KeyOrder.{number_of}

unfoldable pub AreBytes : List ℕ → Type 0
AreBytes [] = Unit {0}
AreBytes (b ∷ bs) = (b < 256) × AreBytes bs

pub bytes_from_index : (xs : List ℕ) → ((i : ℕ) → slice_index xs i < 256) → AreBytes xs
unfolding AreBytes
bytes_from_index [] h = tt
bytes_from_index (x ∷ xs) h = (h zero, bytes_from_index xs (λ i. h (suc i)))

-- parts of bytes are bytes
pub bytes_taken : (n : ℕ) (xs : List ℕ) → AreBytes xs → AreBytes (take n xs)
unfolding AreBytes
bytes_taken zero xs h = tt
bytes_taken (suc n) [] h = tt
bytes_taken (suc n) (x ∷ xs) h = (h.0, bytes_taken n xs h.1)

pub bytes_dropped : (n : ℕ) (xs : List ℕ) → AreBytes xs → AreBytes (drop n xs)
unfolding AreBytes
bytes_dropped zero xs h = h
bytes_dropped (suc n) [] h = tt
bytes_dropped (suc n) (x ∷ xs) h = bytes_dropped n xs h.1

pub number_of-fits : (xs : List ℕ) → AreBytes xs → number_of xs < 256 ^ length xs
unfolding number_of AreBytes
number_of-fits [] h = omega arith
number_of-fits (x ∷ xs) h =
    let rest = number_of-fits xs h.1 in
    let p = 256 ^ length xs in
    let byte : x + 1 ≤ 256 = omega (arith, h.0) in
    let top = mul-le-mul_left p byte in
    let whole : 256 ^ suc (length xs) ≡ p * 256 = simp unary_clauses (omega arith) in
    omega (arith, top, whole, rest)

pub cmp-less : (a b : ℕ) → a < b → nat_cmp a b ≡ Less
cmp-less a b h = grind (arith, nat_tests)

pub cmp-greater : (a b : ℕ) → b < a → nat_cmp a b ≡ Greater
cmp-greater a b h = grind (arith, nat_tests)

pub cmp-equal : (a b : ℕ) → a ≡ b → nat_cmp a b ≡ Equal
cmp-equal a b h = grind (arith, nat_tests)

pub split : (a b : ℕ) → (a < b) ⊎ ((a ≡ b) ⊎ (b < a))
split zero zero = inr (inl refl)
split zero (suc b) = inl (omega arith)
split (suc a) zero = inr (inr (omega arith))
split (suc a) (suc b) = elim (split a b) [ inl l ↦ inl (omega arith) | inr r ↦ elim r [ inl e ↦ inr (inl (ap suc e)) | inr g ↦ inr (inr (omega arith)) ] ]

leads : (x y p u v : ℕ) → x < y → u < p → x * p + u < y * p + v
leads x y p u v h fits = let up : x + 1 ≤ y = omega arith in omega (arith, mul-le-mul_left p up)

pub digit_cmp : (x y p u v : ℕ) → u < p → v < p → ordering_then (nat_cmp x y) (nat_cmp u v) ≡ nat_cmp (x * p + u) (y * p + v)
digit_cmp x y p u v fu fv = elim (split x y) [
  | inl lt ↦ let a = cmp-less x y lt in let b = cmp-less (x * p + u) (y * p + v) (leads x y p u v lt fu) in rw (a, b) refl
  | inr rest ↦ elim rest [
    | inl e ↦ let a = cmp-equal x y e in rw (a, e) (elim (split u v) [
      | inl lt ↦ cmp-less u v lt ∙ sym (cmp-less (y * p + u) (y * p + v) (omega arith))
      | inr r ↦ elim r [
        | inl same ↦ cmp-equal u v same ∙ sym (cmp-equal (y * p + u) (y * p + v) (omega arith))
        | inr gt ↦ cmp-greater u v gt ∙ sym (cmp-greater (y * p + u) (y * p + v) (omega arith))
      ]
    ])
    | inr gt ↦ let a = cmp-greater x y gt in let b = cmp-greater (x * p + u) (y * p + v) (leads y x p v u gt fv) in rw (a, b) refl
  ]
]

-- bytes of one length compare as their numbers do
pub compared : (xs ys : List ℕ) → length xs ≡ length ys → AreBytes xs → AreBytes ys → slice_cmp nat_cmp xs ys ≡ nat_cmp (number_of xs) (number_of ys)
unfolding number_of AreBytes
compared [] [] len h k = refl
compared [] (y ∷ ys) len h k = absurd (omega arith)
compared (x ∷ xs) [] len h k = absurd (omega arith)
compared (x ∷ xs) (y ∷ ys) len h k =
    let same : length xs ≡ length ys = omega arith in
    let fits = number_of-fits xs h.1 in
    let fits_too : number_of ys < 256 ^ length xs = subst (λ n. number_of ys < 256 ^ n) (sym same) (number_of-fits ys k.1) in
    ap (ordering_then (nat_cmp x y)) (compared xs ys same h.1 k.1)
    ∙ digit_cmp x y (256 ^ length xs) (number_of xs) (number_of ys) fits fits_too
    ∙ ap (λ n. nat_cmp (x * 256 ^ length xs + number_of xs) (y * 256 ^ n + number_of ys)) same

-- leading zeros
pub number_of-padded : (n : ℕ) (xs : List ℕ) → number_of (replicate n 0 ++ xs) ≡ number_of xs
unfolding number_of
number_of-padded zero xs = refl
number_of-padded (suc n) xs = let rest = number_of-padded n xs in omega arith

-- a key written over the end of zeros
pub zeros-over : (n k : ℕ) (key : List ℕ) → length key ≡ k → k ≤ n → put_mid (n - k) (n - (n - k)) (replicate n 0) key ≡ replicate (n - k) 0 ++ key
zeros-over n k key len fits =
    put_mid-paste (n - k) (n - (n - k)) (replicate n 0) key key k refl (omega arith) (sym len)
    ∙ ap (λ l. (l ++ take k key) ++ drop (n - k + k) (replicate n 0)) (take-replicate (n - k) n 0 (omega arith))
    ∙ ap (λ l. (replicate (n - k) 0 ++ l) ++ drop (n - k + k) (replicate n 0)) (take_all k key (omega arith))
    ∙ ap (λ l. (replicate (n - k) 0 ++ key) ++ l) (let zeros : List ℕ = replicate n 0 in drop_all (n - k + k) zeros (omega (arith, length-replicate {A = ℕ} n 0)))
    ∙ append-nil (replicate (n - k) 0 ++ key)

pub number_of-over : (n k : ℕ) (key v : List ℕ) → v ≡ key → length key ≡ k → k ≤ n → number_of (put_mid (n - k) (n - (n - k)) (replicate n 0) v) ≡ number_of key
number_of-over n k key v is len fits = ap (λ l. number_of (put_mid (n - k) (n - (n - k)) (replicate n 0) l)) is ∙ ap number_of (zeros-over n k key len fits) ∙ number_of-padded (n - k) key

fits-append : (xs ys : List ℕ) → ((i : ℕ) → slice_index xs i < 256) → ((i : ℕ) → slice_index ys i < 256) → (i : ℕ) → slice_index (xs ++ ys) i < 256
fits-append [] ys h k i = k i
fits-append (x ∷ xs) ys h k zero = h zero
fits-append (x ∷ xs) ys h k (suc i) = fits-append xs ys (λ j. h (suc j)) k i

fits-zeros : (n i : ℕ) → slice_index (replicate n 0) i < 256
fits-zeros zero i = omega arith
fits-zeros (suc n) zero = omega arith
fits-zeros (suc n) (suc i) = fits-zeros n i

pub fits-over : (n k : ℕ) (key v : List ℕ) → v ≡ key → length key ≡ k → k ≤ n → ((i : ℕ) → slice_index key i < 256) → (i : ℕ) → slice_index (put_mid (n - k) (n - (n - k)) (replicate n 0) v) i < 256
fits-over n k key v is len fits h i = subst (λ l. slice_index l i < 256) (sym (ap (λ l. put_mid (n - k) (n - (n - k)) (replicate n 0) l) is ∙ zeros-over n k key len fits)) (fits-append (replicate (n - k) 0) key (fits-zeros (n - k)) h i)

powers : (n k : ℕ) → 256 ^ k ≤ 256 ^ (n + k)
powers zero k = let z : zero + k ≡ k = omega arith in rw z (omega arith)
powers (suc n) k =
    let z : suc n + k ≡ suc (n + k) = omega arith in
    let whole : 256 ^ suc (n + k) ≡ 256 ^ (n + k) * 256 = simp unary_clauses (omega arith) in
    let rest = powers n k in
    rw z (omega (arith, whole, rest))

-- a key of so many bytes has zeros before them
pub short_drop : (n k : ℕ) (xs : List ℕ) → length xs ≡ n + k → number_of xs < 256 ^ k → number_of (drop n xs) ≡ number_of xs
unfolding number_of
short_drop zero k xs len short = refl
short_drop (suc n) k [] len short = absurd (omega arith)
short_drop (suc n) k (x ∷ xs) len short =
    let long : length xs ≡ n + k = omega arith in
    let none : x ≡ 0 = none_of x (number_of xs) n k (subst (λ m. x * 256 ^ m + number_of xs < 256 ^ k) long short) in
    let head : x * 256 ^ length xs + number_of xs ≡ number_of xs = ap (λ y. y * 256 ^ length xs + number_of xs) none ∙ omega arith in
    short_drop n k xs long (subst (λ m. m < 256 ^ k) head short) ∙ sym head
  where
    none_of : (x m n k : ℕ) → x * 256 ^ (n + k) + m < 256 ^ k → x ≡ 0
    none_of zero m n k h = refl
    none_of (suc x) m n k h = let p = powers n k in let up : 1 ≤ suc x = omega arith in let least = mul-le-mul_left (256 ^ (n + k)) up in absurd (omega (arith, p, least))

-- ---- the number of a part of bytes

pub length_fits : (n : ℕ) (xs ys : List ℕ) → length xs ≡ length ys → length (drop n xs) ≡ length (drop n ys)
length_fits n xs ys same = length-drop n xs ∙ ap (λ m. m - n) same ∙ sym (length-drop n ys)

-- of bytes in two parts
pub number_of-append : (xs ys : List ℕ) → number_of (xs ++ ys) ≡ number_of xs * 256 ^ length ys + number_of ys
unfolding number_of
number_of-append [] ys = omega arith
number_of-append (x ∷ xs) ys =
    let rest = number_of-append xs ys in
    let long : 256 ^ length (xs ++ ys) ≡ 256 ^ length xs * 256 ^ length ys = ap (λ n. 256 ^ n) (length-append xs ys) ∙ pow-add 256 (length xs) (length ys) in
    joined x (256 ^ length (xs ++ ys)) (256 ^ length xs) (256 ^ length ys) (number_of xs) (number_of (xs ++ ys)) (number_of ys) long rest
  where
    joined : (x whole p q a b c : ℕ) → whole ≡ p * q → b ≡ a * q + c → x * whole + b ≡ (x * p + a) * q + c
    joined x whole p q a b c is rest = rw (is, rest) (omega arith)

pub number_of-split : (n : ℕ) (xs : List ℕ) → number_of xs ≡ number_of (take n xs) * 256 ^ length (drop n xs) + number_of (drop n xs)
number_of-split n xs = ap number_of (sym (take-append-drop n xs)) ∙ number_of-append (take n xs) (drop n xs)

-- the number in 32 bytes, and in their halves
pub number_of-halves : (xs : List ℕ) (high low : ℕ) → length xs ≡ 32 → high ≡ number_of (take 16 xs) → low ≡ number_of (drop 16 xs) → high * 256 ^ 16 + low ≡ number_of xs
number_of-halves xs high low long is_high is_low =
    let half : length (drop 16 xs) ≡ 16 = omega (arith, length-drop 16 xs) in
    rw (is_high, is_low) (sym (number_of-split 16 xs ∙ ap (λ n. number_of (take 16 xs) * 256 ^ n + number_of (drop 16 xs)) half))

big_from-number : (i n : ℕ) (xs : List ℕ) → i + n ≤ length xs → big_from i n xs ≡ number_of (take n (drop i xs))
unfolding number_of
big_from-number i zero xs fits = refl
big_from-number i (suc n) xs fits =
    let rest = big_from-number (suc i) n xs (omega arith) in
    let long : length (take n (drop (suc i) xs)) ≡ n = length-take-le n (drop (suc i) xs) (omega (arith, length-drop (suc i) xs)) in
    let inside : i < length xs = omega arith in
    let front : take (suc n) (drop i xs) ≡ slice_index xs i ∷ take n (drop (suc i) xs) = ap (take (suc n)) (drop-cons xs i 0 inside) in
    rw (front, long, rest) refl

-- the number in the first bytes
pub big_number-first : (n : ℕ) (xs : List ℕ) → n ≤ length xs → big_number n xs ≡ number_of (take n xs)
big_number-first n xs fits = big_from-number 0 n xs (omega arith)

pub big_number-all : (n : ℕ) (xs : List ℕ) → length xs ≡ n → big_number n xs ≡ number_of xs
big_number-all n xs long = big_number-first n xs (omega arith) ∙ ap number_of (take_all n xs (omega arith))

-- bytes of one length compare as their first ones do, and then as the others
pub headed : (n : ℕ) (xs ys : List ℕ) → length xs ≡ length ys → AreBytes xs → AreBytes ys → ordering_then (nat_cmp (number_of (take n xs)) (number_of (take n ys))) (nat_cmp (number_of (drop n xs)) (number_of (drop n ys))) ≡ nat_cmp (number_of xs) (number_of ys)
headed n xs ys same h k =
    let p = 256 ^ length (drop n xs) in
    let fits = number_of-fits (drop n xs) (bytes_dropped n xs h) in
    let even = length_fits n xs ys same in
    let fits_too : number_of (drop n ys) < p = subst (λ m. number_of (drop n ys) < 256 ^ m) (sym even) (number_of-fits (drop n ys) (bytes_dropped n ys k)) in
    let whole = number_of-split n xs in
    let other : number_of ys ≡ number_of (take n ys) * p + number_of (drop n ys) = number_of-split n ys ∙ ap (λ m. number_of (take n ys) * 256 ^ m + number_of (drop n ys)) (sym even) in
    digit_cmp (number_of (take n xs)) (number_of (take n ys)) p (number_of (drop n xs)) (number_of (drop n ys)) fits fits_too
    ∙ sym (rw (whole, other) refl)

-- ---- a key of at most eight bytes in a number of 64 bits

two_pow : (m : ℕ) → 2 ^ (8 * m) ≡ 256 ^ m
two_pow zero = refl
two_pow (suc m) =
    let rest = two_pow m in
    let more : 8 * suc m ≡ 8 + 8 * m = omega arith in
    let whole : 256 ^ suc m ≡ 256 ^ m * 256 = simp unary_clauses (omega arith) in
    let high : 2 ^ (8 + 8 * m) ≡ 2 ^ 8 * 2 ^ (8 * m) = pow-add 2 8 (8 * m) in
    rw more (omega (arith, high, whole, rest))

-- the first eight bytes after those past the key are shifted out
pub shifted : (k : ℕ) (entry : List ℕ) → k ≤ 8 → 8 ≤ length entry → AreBytes entry → big_number 8 entry / 2 ^ (64 - 8 * k) ≡ number_of (take k entry)
shifted k entry few long h =
    let head = take 8 entry in
    let eight : length head ≡ 8 = length-take-le 8 entry long in
    let behind : length (drop k head) ≡ 8 - k = length-drop k head ∙ ap (λ n. n - k) eight in
    let fits : number_of (drop k head) < 256 ^ (8 - k) = subst (λ n. number_of (drop k head) < 256 ^ n) behind (number_of-fits (drop k head) (bytes_dropped k head (bytes_taken 8 entry h))) in
    let places : 2 ^ (64 - 8 * k) ≡ 256 ^ (8 - k) = ap (λ n. 2 ^ n) (omega arith) ∙ two_pow (8 - k) in
    let whole : number_of head ≡ number_of (take k head) * 256 ^ (8 - k) + number_of (drop k head) = number_of-split k head ∙ ap (λ n. number_of (take k head) * 256 ^ n + number_of (drop k head)) behind in
    rw (big_number-first 8 entry long, places, whole)
    (div-mul-add (number_of (take k head)) (256 ^ (8 - k)) (number_of (drop k head)) fits ∙ ap number_of (take-take k 8 entry few))

-- a key of at most eight bytes is a number of eight
pub fits_eight : (k n : ℕ) → k ≤ 8 → n < 256 ^ k → n < 256 ^ 8
fits_eight k n few short =
    let up : 8 - k + k ≡ 8 = omega arith in
    let within : 256 ^ k ≤ 256 ^ 8 = subst (λ m. 256 ^ k ≤ 256 ^ m) up (powers (8 - k) k) in
    omega (arith, short, within)

-- a key behind at least 24 zeros is its last eight bytes
pub last_eight : (k : ℕ) (bytes : List ℕ) → k ≤ 8 → length bytes ≡ 32 → number_of bytes < 256 ^ k → big_number 8 (drop 24 bytes) ≡ number_of bytes
last_eight k bytes few long short =
    big_number-all 8 (drop 24 bytes) (length-drop 24 bytes ∙ ap (λ n. n - 24) long)
    ∙ short_drop 24 8 bytes long (fits_eight k (number_of bytes) few short)

-- where the first bytes tell two apart
told_apart : (found rest whole : Ordering) → ordering_then found rest ≡ whole → is_ne found ≡ true → found ≡ whole
told_apart Less rest whole is apart = is
told_apart Equal rest whole is apart = absurd cc
told_apart Greater rest whole is apart = is

pub head_tells : (k : ℕ) (entry key : List ℕ) (x y : ℕ) → 8 ≤ k → length entry ≡ k + 4 → length key ≡ k → AreBytes entry → AreBytes key → x ≡ big_number 8 entry → y ≡ big_number 8 key → is_ne (nat_cmp x y) ≡ true → nat_cmp x y ≡ nat_cmp (number_of (take k entry)) (number_of key)
head_tells k entry key x y eight long same h g x_is y_is apart =
    let front : length (take k entry) ≡ length key = length-take-le k entry (omega (arith, long)) ∙ sym same in
    let first : x ≡ number_of (take 8 (take k entry)) = x_is ∙ big_number-first 8 entry (omega (arith, long, eight)) ∙ ap number_of (sym (take-take 8 k entry eight)) in
    let second : y ≡ number_of (take 8 key) = y_is ∙ big_number-first 8 key (omega (arith, same, eight)) in
    told_apart (nat_cmp x y) (nat_cmp (number_of (drop 8 (take k entry))) (number_of (drop 8 key))) (nat_cmp (number_of (take k entry)) (number_of key))
    (rw (first, second) (headed 8 (take k entry) key front (bytes_taken k entry h) g)) apart

-- ---- a number written in two halves

half_written : (n : ℕ) (xs rest : List ℕ) → xs ≡ big_bytes 16 n ++ rest → length xs ≡ 16 → n < 256 ^ 16 → number_of xs ≡ n
half_written n xs rest is long small = sym (big_number-all 16 xs long) ∙ ap (big_number 16) is ∙ big_number-reads_back 16 n rest small

pub halves_written : (high low : ℕ) (xs ys rest last : List ℕ) → xs ≡ big_bytes 16 high ++ rest → ys ≡ big_bytes 16 low ++ last → length xs ≡ 16 → length ys ≡ 16 → high < 256 ^ 16 → low < 256 ^ 16 → number_of (xs ++ ys) ≡ high * 256 ^ 16 + low
halves_written high low xs ys rest last is_high is_low long_high long_low small_high small_low =
    let a = half_written high xs rest is_high long_high small_high in
    let b = half_written low ys last is_low long_low small_low in
    number_of-append xs ys ∙ rw (a, b, long_low) refl
