-- A key that is read as a number and sought among a few entries.
use Rattle.std.proofs.Common.{◌≡◌, ℕ, zero, suc, ◌+◌, ◌-◌, ◌*◌, ◌/◌, ◌%◌, ◌^◌, ◌<◌, ◌≤◌, List, length, length-drop, length-take-le, take, drop, Option, None, Some, IfSome, refl, sym, ap, subst, ◌∙◌, arith}
use Rattle.std.proofs.Math.Nat.{mul-le-mul_left}
use Rattle.std.proofs.lemmas.List.{take-take}
use Rattle.std.proofs.lemmas.Nat.{pow-add, div-mul-add, mod-mul-add}
use native.Mathlib.Numerals.{unary_clauses}
use Rattle.byteorder.specs.Endian.{big_number}
use Rattle.s3_store.specs.Bytes.{part}
use Rattle.s3_slots.specs.Slots.{record_sectors, entries_per_sector}
use Rattle.s3_keyed.specs.KeyOrder.{number_of, Entry}
use Rattle.s3_keyed.specs.Index.{Layout, entry_in, entry_at, entry_place, index_in}
use Rattle.s3_keyed.specs.Inner.Shape.{entry_here}
use Rattle.s3_keyed.proofs.KeyNumbers.{AreBytes, bytes_taken, bytes_dropped, number_of-fits, number_of-split, big_number-first, big_number-all, fits_eight}
use Rattle.s3_keyed.proofs.Places.{part_part}
use Rattle.s3_keyed.proofs.Order.{In}
use Rattle.s3_keyed.proofs.Ordered.{index_hit}

-- ---- the number of a key of four to eight bytes

two_pow : (m : ℕ) → 2 ^ (8 * m) ≡ 256 ^ m
two_pow zero = refl
two_pow (suc m) =
    let rest = two_pow m in
    let more : 8 * suc m ≡ 8 + 8 * m = omega arith in
    let whole : 256 ^ suc m ≡ 256 ^ m * 256 = simp unary_clauses (omega arith) in
    let high : 2 ^ (8 + 8 * m) ≡ 2 ^ 8 * 2 ^ (8 * m) = pow-add 2 8 (8 * m) in
    rw more (omega (arith, high, whole, rest))

-- the first bytes after those past the key are shifted out
shifted_of : (n k : ℕ) (entry : List ℕ) → k ≤ n → n ≤ length entry → AreBytes entry → big_number n entry / 2 ^ (8 * (n - k)) ≡ number_of (take k entry)
shifted_of n k entry few long h =
    let head = take n entry in
    let whole_head : length head ≡ n = length-take-le n entry long in
    let behind : length (drop k head) ≡ n - k = length-drop k head ∙ ap (λ m. m - k) whole_head in
    let fits : number_of (drop k head) < 256 ^ (n - k) = subst (λ m. number_of (drop k head) < 256 ^ m) behind (number_of-fits (drop k head) (bytes_dropped k head (bytes_taken n entry h))) in
    let whole : number_of head ≡ number_of (take k head) * 256 ^ (n - k) + number_of (drop k head) = number_of-split k head ∙ ap (λ m. number_of (take k head) * 256 ^ m + number_of (drop k head)) behind in
    rw (big_number-first n entry long, two_pow (n - k), whole)
    (div-mul-add (number_of (take k head)) (256 ^ (n - k)) (number_of (drop k head)) fits ∙ ap number_of (take-take k n entry few))

-- a key of four to eight bytes, put together of its first four and its last four
pub two_ends : (k : ℕ) (key : List ℕ) (first last : ℕ) → 4 ≤ k → k ≤ 8 → length key ≡ k → AreBytes key → first ≡ big_number 4 key → last ≡ big_number 4 (drop (k - 4) key) → first / 2 ^ (8 * (8 - k)) * 4294967296 % 18446744073709551616 + last ≡ number_of key
two_ends k key first last some few long h first_is last_is =
    let front = k - 4 in
    let four : length (drop front key) ≡ 4 = length-drop front key ∙ omega (arith, some, long) in
    let places : 8 * (8 - k) ≡ 8 * (4 - front) = omega (arith, some, few) in
    let high : first / 2 ^ (8 * (8 - k)) ≡ number_of (take front key) = ap (λ n. n / 2 ^ (8 * (8 - k))) first_is ∙ ap (λ n. big_number 4 key / 2 ^ n) places ∙ shifted_of 4 front key (omega (arith, some, few)) (omega (arith, some, long)) h in
    let low : last ≡ number_of (drop front key) = last_is ∙ big_number-all 4 (drop front key) four in
    let whole : number_of key ≡ number_of (take front key) * 256 ^ 4 + number_of (drop front key) = number_of-split front key ∙ ap (λ n. number_of (take front key) * 256 ^ n + number_of (drop front key)) four in
    let below = fits_eight k (number_of key) few (subst (λ n. number_of key < 256 ^ n) long (number_of-fits key h)) in
    rw (high, low) (joined (number_of (take front key)) (number_of (drop front key)) (number_of key) whole below)
  where
    joined : (a b n : ℕ) → n ≡ a * 256 ^ 4 + b → n < 256 ^ 8 → a * 4294967296 % 18446744073709551616 + b ≡ n
    joined a b n is below = omega (arith, is, below)

-- ---- a few entries of a sector, from one of them on

pub rows_inside : (row count w : ℕ) → row + count ≤ 256 / w → row * w + count * w ≤ 256
rows_inside row count zero fits = omega arith
rows_inside row count (suc w) fits =
    let m = mul-le-mul_left (suc w) fits in
    let whole : suc w * (256 / suc w) ≤ 256 = omega arith in
    omega (arith, m, whole)

pub few_bytes : (count w : ℕ) → count ≤ 4 → w ≤ 12 → count * w ≤ 48
few_bytes count w few short = let m = mul-le-mul_left w few in omega (arith, m, short)

pub held_from : (layout : Layout) (first place row count k : ℕ) (file bytes : List ℕ) → k ≡ layout.key.length → place ≡ first / entries_per_sector layout.key.length → row ≡ first % entries_per_sector layout.key.length → row + count ≤ entries_per_sector layout.key.length → bytes ≡ part file (256 * (record_sectors layout.capacity layout.record_length + place) + row * (k + 4)) (count * (k + 4)) → (j : ℕ) → j < count → entry_here k bytes j ≡ entry_at layout file (first + j)
unfolding entry_at
held_from layout first place row count k file bytes k_is place_is row_is fits is j below =
    let w = k + 4 in
    let per = entries_per_sector layout.key.length in
    let start = 256 * (record_sectors layout.capacity layout.record_length + place) in
    let inside : row + j < per = omega (arith, fits, below) in
    let whole : first + j ≡ place * per + (row + j) = split first per place row j place_is row_is (omega (arith, inside)) in
    let sector : (first + j) / per ≡ place = ap (λ n. n / per) whole ∙ div-mul-add place per (row + j) inside in
    let column : (first + j) % per ≡ row + j = ap (λ n. n % per) whole ∙ mod-mul-add place per (row + j) inside in
    let up : j + 1 ≤ count = omega (arith, below) in
    let rows = mul-le-mul_left w up in
    let at : start + row * w + j * w ≡ entry_place layout (first + j) = rw (sector, column, ← k_is) (omega arith) in
    ap (entry_in k) (ap (λ l. part l (j * w) w) is ∙ part_part (start + row * w) (count * w) (j * w) w file (omega (arith, rows)) ∙ ap (λ a. part file a w) at)
    ∙ rw k_is refl
  where
    split : (first per place row j : ℕ) → place ≡ first / per → row ≡ first % per → 0 < per → first + j ≡ place * per + (row + j)
    split first per place row j place_is row_is some = rw (place_is, row_is) (omega arith)

pub found_from : (f g : ℕ → Entry) (first count n key : ℕ) (found : Option ℕ) → ((j : ℕ) → j < count → g j ≡ f (first + j)) → first + count ≤ n → IfSome found (λ number. (j : ℕ) × (j < count) × (g j ≡ record { key = key; number = number })) → IfSome found (λ number. (i : ℕ) × (i < n) × (f i ≡ record { key = key; number = number }))
found_from f g first count n key None same within s = tt
found_from f g first count n key (Some number) same within s = (first + s.0, omega (arith, within, s.1), sym (same s.0 s.1) ∙ s.2)

-- ---- an entry that was found

pub entry_hit : (layout : Layout) (n key k : ℕ) (bytes : List ℕ) (found : Option ℕ) (number : ℕ) → found ≡ Some number → key ≡ k
    → IfSome found (λ number. (i : ℕ) × (i < n) × (entry_at layout bytes i ≡ record { key = key; number = number }))
    → In (record { key = k; number = number }) (index_in layout n bytes)
entry_hit layout n key k bytes None number is same answer = absurd cc
entry_hit layout n key k bytes (Some other) number is same answer =
    subst (λ m. In (record { key = m; number = number }) (index_in layout n bytes)) same (index_hit layout n key bytes (Some other) number is answer)
