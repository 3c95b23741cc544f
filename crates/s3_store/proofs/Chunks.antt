-- Bytes as sectors of 256.
use Rattle.std.proofs.Common.{◌≡◌, ℕ, zero, suc, ◌+◌, ◌*◌, ◌/◌, ◌<◌, ◌≤◌, min, List, [], ◌∷◌, ◌++◌, length, take, drop, slice_get, slice_set, Some, refl, sym, ap, ◌∙◌, arith, length-drop, append_assoc, take_at, drop_at, drop-drop, take-take, take-add, length-take-le, take-append-drop}
use Rattle.std.proofs.lemmas.List.{drop-take, take_min}
use Rattle.std.specs.Simd.{first_chunks}
use Rattle.std.specs.List.{concat}
use Rattle.s3_store.specs.Contents.{sectors_of}

pub length-first_chunks : (k : ℕ) (xs : List ℕ) → length (first_chunks 256 k xs) ≡ k
length-first_chunks zero xs = refl
length-first_chunks (suc k) xs = ap suc (length-first_chunks k (drop 256 xs))

pub slice_get-first_chunks : (k i : ℕ) (xs : List ℕ) → i < k → slice_get (first_chunks 256 k xs) i ≡ Some (take 256 (drop (i * 256) xs))
slice_get-first_chunks zero i xs h = absurd (omega arith)
slice_get-first_chunks (suc k) zero xs h = refl
slice_get-first_chunks (suc k) (suc i) xs h =
    let next : suc i * 256 ≡ 256 + i * 256 = omega arith in
    rw next (slice_get-first_chunks k i (drop 256 xs) (omega arith) ∙ ap (λ l. Some (take 256 l)) (drop-drop (i * 256) 256 xs))

-- ---- all of them

pub concat-first_chunks : (k : ℕ) (xs : List ℕ) → length xs ≡ k * 256 → concat (first_chunks 256 k xs) ≡ xs
concat-first_chunks zero [] h = refl
concat-first_chunks zero (x ∷ xs) h = absurd (omega arith)
concat-first_chunks (suc k) xs h =
    ap (λ l. take 256 xs ++ l) (concat-first_chunks k (drop 256 xs) (omega (arith, length-drop 256 xs)))
    ∙ take-append-drop 256 xs

-- ---- the first of them

take-first_chunks : (j k : ℕ) (xs : List ℕ) → j ≤ k → take j (first_chunks 256 k xs) ≡ first_chunks 256 j xs
take-first_chunks zero k xs h = refl
take-first_chunks (suc j) zero xs h = absurd (omega arith)
take-first_chunks (suc j) (suc k) xs h = ap (λ l. take 256 xs ∷ l) (take-first_chunks j k (drop 256 xs) (omega arith))

first_chunks-take : (k : ℕ) (xs : List ℕ) → first_chunks 256 k (take (k * 256) xs) ≡ first_chunks 256 k xs
first_chunks-take zero xs = refl
first_chunks-take (suc k) xs =
    let m = k * 256 in
    let at : suc k * 256 ≡ 256 + m = omega arith in
    ap (λ n. first_chunks 256 (suc k) (take n xs)) at
    ∙ ap (λ l. l ∷ first_chunks 256 k (drop 256 (take (256 + m) xs))) (take-take 256 (256 + m) xs (omega arith))
    ∙ ap (λ l. take 256 xs ∷ first_chunks 256 k l) (drop-take 256 m xs)
    ∙ ap (λ l. take 256 xs ∷ l) (first_chunks-take k (drop 256 xs))

-- the bytes cut off after so many sectors
pub sectors_of-take : (limit count : ℕ) (xs : List ℕ) → count ≡ min (length xs / 256) limit → sectors_of (take (count * 256) xs) ≡ take limit (sectors_of xs)
sectors_of-take limit count xs is =
    let all = length xs / 256 in
    let long : length (take (count * 256) xs) / 256 ≡ count = omega (arith, length-take-le (count * 256) xs (omega arith)) in
    let least : min limit (length (sectors_of xs)) ≡ count = omega (arith, length-first_chunks all xs) in
    ap (λ n. first_chunks 256 n (take (count * 256) xs)) long
    ∙ first_chunks-take count xs
    ∙ sym (take-first_chunks count all xs (omega arith))
    ∙ ap (λ n. take n (sectors_of xs)) (sym least)
    ∙ take_min limit (sectors_of xs)

-- ---- a write

-- the bytes with these in the place of sector i's
abbrev pub with_sector : List ℕ → ℕ → List ℕ → List ℕ
with_sector xs i sector = (take (i * 256) xs ++ sector) ++ drop (i * 256 + 256) xs

-- a write goes past the first sector
with_sector-suc : (xs : List ℕ) (i : ℕ) (sector : List ℕ) → with_sector xs (suc i) sector ≡ take 256 xs ++ with_sector (drop 256 xs) i sector
with_sector-suc xs i sector =
    let m = i * 256 in
    let at : suc i * 256 ≡ 256 + m = omega arith in
    let end : suc i * 256 + 256 ≡ 256 + (m + 256) = omega arith in
    ap (λ n. (take n xs ++ sector) ++ drop (suc i * 256 + 256) xs) at
    ∙ ap (λ n. (take (256 + m) xs ++ sector) ++ drop n xs) end
    ∙ ap (λ l. (l ++ sector) ++ drop (256 + (m + 256)) xs) (take-add 256 m xs)
    ∙ ap (λ l. ((take 256 xs ++ take m (drop 256 xs)) ++ sector) ++ l) (sym (drop-drop (m + 256) 256 xs))
    ∙ ap (λ l. l ++ drop (m + 256) (drop 256 xs)) (append_assoc (take 256 xs) (take m (drop 256 xs)) sector)
    ∙ append_assoc (take 256 xs) (take m (drop 256 xs) ++ sector) (drop (m + 256) (drop 256 xs))

first_chunks-with_sector : (k i : ℕ) (xs sector : List ℕ) → i < k → length sector ≡ 256 → k * 256 ≤ length xs → first_chunks 256 k (with_sector xs i sector) ≡ slice_set (first_chunks 256 k xs) i sector
first_chunks-with_sector zero i xs sector h len fits = absurd (omega arith)
first_chunks-with_sector (suc k) zero xs sector h len fits = rw (take_at sector (drop 256 xs) 256 len, drop_at sector (drop 256 xs) 256 len) refl
first_chunks-with_sector (suc k) (suc i) xs sector h len fits =
    let front : length (take 256 xs) ≡ 256 = length-take-le 256 xs (omega arith) in
    let rest = with_sector (drop 256 xs) i sector in
    let later = first_chunks-with_sector k i (drop 256 xs) sector (omega arith) len (omega (arith, length-drop 256 xs)) in
    ap (λ l. first_chunks 256 (suc k) l) (with_sector-suc xs i sector)
    ∙ ap (λ l. l ∷ first_chunks 256 k (drop 256 (take 256 xs ++ rest))) (take_at (take 256 xs) rest 256 front)
    ∙ ap (λ l. take 256 xs ∷ first_chunks 256 k l) (drop_at (take 256 xs) rest 256 front)
    ∙ ap (λ l. take 256 xs ∷ l) later

-- sector n of a vector's first `len` elements is written through a slice of them
pub sectors_of-written : (items : List ℕ) (len : ℕ) (after : List ℕ) (n : ℕ) (sector : List ℕ) → after ≡ with_sector items n sector → length after ≡ length items → len ≡ length items → length sector ≡ 256 → n < length items / 256 → sectors_of (take len (after ++ drop (length after) items)) ≡ slice_set (sectors_of items) n sector
sectors_of-written items len after n sector is same whole long within =
    ap sectors_of (take_at after (drop (length after) items) len (same ∙ sym whole))
    ∙ ap (λ l. first_chunks 256 (length after / 256) l) is
    ∙ ap (λ k. first_chunks 256 (k / 256) (with_sector items n sector)) same
    ∙ first_chunks-with_sector (length items / 256) n items sector within long (omega arith)

-- a sector that is there is a whole one of the bytes
pub below_whole : (items : List ℕ) (contents : List (List ℕ)) (n : ℕ) → sectors_of items ≡ contents → n < length contents → n < length items / 256
below_whole items contents n is within = omega (arith, ap length is, length-first_chunks (length items / 256) items)
