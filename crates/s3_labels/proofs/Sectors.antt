-- Parts of some bytes, and the sectors that a mount sees in them.
use Rattle.std.proofs.Common.{◌≡◌, ℕ, zero, suc, ◌+◌, ◌-◌, ◌*◌, ◌/◌, ◌%◌, ◌<◌, ◌≤◌, List, [], ◌∷◌, length, map, take, drop, slice_get, slice_index, Some, refl, sym, ap, ap₂, ◌∙◌, arith}
use Rattle.std.specs.List.{range_with_len}
use Rattle.std.specs.Simd.{first_chunks}
use Rattle.std.proofs.Math.Seq.{drop-nil}
use Rattle.std.proofs.lemmas.List.{drop-take, get_or-take, get_or-drop, length-take-le, length-drop}
use Rattle.byteorder.specs.Endian.{big_number}
use Rattle.byteorder.specs.Numbers.{big_from-take}
use Rattle.s3_store.specs.Bytes.{sector_bytes, part}
use Rattle.s3_store.specs.declared.stretch.Stretch.{Stretch}
use Rattle.s3_slots.specs.Slots.{judged_behind, labels_at, slot_bytes, slots_of}
use Rattle.s3_slots.specs.declared.header.Format.{Format}
use Rattle.s3_labels.specs.Contents.{contents_of}
use Rattle.s3_labels.proofs.Ways.{sector_read}

-- ---- parts
pub drop_drop : (n m : ℕ) (xs : List ℕ) → drop n (drop m xs) ≡ drop (m + n) xs
drop_drop n zero xs = let e : zero + n ≡ n = omega arith in rw e refl
drop_drop n (suc m) [] = drop-nil n ∙ sym (drop-nil (suc m + n))
drop_drop n (suc m) (x ∷ xs) = let e : suc m + n ≡ suc (m + n) = omega arith in rw e (drop_drop n m xs)

pub short_take : {X : Type 0} (n : ℕ) (xs : List X) → length (take n xs) ≤ n
short_take zero xs = omega arith
short_take (suc n) [] = omega arith
short_take (suc n) (x ∷ xs) = let e = short_take n xs in omega (arith, e)

pub take_take : (n m : ℕ) (xs : List ℕ) → n ≤ m → take n (take m xs) ≡ take n xs
take_take zero m xs h = refl
take_take (suc n) zero xs h = absurd (omega (arith, h))
take_take (suc n) (suc m) [] h = refl
take_take (suc n) (suc m) (x ∷ xs) h = ap (λ l. x ∷ l) (take_take n m xs (omega (arith, h)))

pub part_part : (bytes : List ℕ) (at width low w : ℕ) → low + w ≤ width → part (part bytes at width) low w ≡ part bytes (at + low) w
part_part bytes at width low w h =
    let e : width ≡ low + (width - low) = omega (arith, h) in
    ap (λ n. take w (drop low (take n (drop at bytes)))) e
    ∙ ap (take w) (drop-take low (width - low) (drop at bytes))
    ∙ take_take w (width - low) (drop low (drop at bytes)) (omega (arith, h))
    ∙ ap (take w) (drop_drop low at bytes)

pub part_length : (bytes : List ℕ) (at w : ℕ) → at + w ≤ length bytes → length (part bytes at w) ≡ w
part_length bytes at w h = let e = length-drop at bytes in length-take-le w (drop at bytes) (omega (arith, e, h))

pub same_within : (a b : List ℕ) (low w at v : ℕ) → part a low w ≡ part b low w → low ≤ at → at + v ≤ low + w → part a at v ≡ part b at v
same_within a b low w at v same h l =
    let e : at ≡ low + (at - low) = omega (arith, h) in
    ap (λ n. part a n v) e ∙ sym (part_part a low w (at - low) v (omega (arith, h, l)))
    ∙ ap (λ xs. part xs (at - low) v) same
    ∙ part_part b low w (at - low) v (omega (arith, h, l)) ∙ sym (ap (λ n. part b n v) e)

pub same_number : (a b : List ℕ) (w at : ℕ) → part a at w ≡ part b at w → big_number w (drop at a) ≡ big_number w (drop at b)
same_number a b w at same =
    sym (big_from-take 0 w w (drop at a) (omega arith)) ∙ ap (big_number w) same ∙ big_from-take 0 w w (drop at b) (omega arith)

index_part : (a : List ℕ) (at : ℕ) → slice_index (part a at 1) 0 ≡ slice_index a at
index_part a at = let e : at + 0 ≡ at = omega arith in get_or-take 1 (drop at a) 0 0 (omega arith) ∙ get_or-drop at a 0 0 ∙ ap (slice_index a) e

pub same_index : (a b : List ℕ) (at : ℕ) → part a at 1 ≡ part b at 1 → slice_index a at ≡ slice_index b at
same_index a b at same = sym (index_part a at) ∙ ap (λ xs. slice_index xs 0) same ∙ index_part b at

-- ---- sectors
chunk_at : (k n : ℕ) (bytes : List ℕ) → n < k → slice_get (first_chunks 256 k bytes) n ≡ Some (part bytes (256 * n) 256)
chunk_at zero n bytes h = absurd (omega (arith, h))
chunk_at (suc k) zero bytes h = refl
chunk_at (suc k) (suc n) bytes h =
    let e : 256 + 256 * n ≡ 256 * suc n = omega arith in
    chunk_at k n (drop 256 bytes) (omega (arith, h)) ∙ ap (λ xs. Some (take 256 xs)) (drop_drop (256 * n) 256 bytes ∙ ap (λ m. drop m bytes) e)

get_taken : (m n : ℕ) (xs : List (List ℕ)) → n < m → slice_get (take m xs) n ≡ slice_get xs n
get_taken zero n xs h = absurd (omega (arith, h))
get_taken (suc m) n [] h = refl
get_taken (suc m) zero (x ∷ xs) h = refl
get_taken (suc m) (suc n) (x ∷ xs) h = get_taken m n xs (omega (arith, h))

pub sector_here : (bytes : List ℕ) (n : ℕ) → n < 65535 → n < length bytes / 256 → sector_bytes (contents_of bytes) n ≡ part bytes (256 * n) 256
sector_here bytes n few h =
    sym (sector_read (contents_of bytes) n (part bytes (256 * n) 256)
    (get_taken 65535 n (first_chunks 256 (length bytes / 256) bytes) few ∙ chunk_at (length bytes / 256) n bytes h)
    (part_length bytes (256 * n) 256 (omega (arith, h))))

pub same_count : (m k : ℕ) (a b : List ℕ) → length (take m (first_chunks 256 k a)) ≡ length (take m (first_chunks 256 k b))
same_count zero k a b = refl
same_count (suc m) zero a b = refl
same_count (suc m) (suc k) a b = ap suc (same_count m k (drop 256 a) (drop 256 b))

seen : (m k n : ℕ) (bytes : List ℕ) → n < length (take m (first_chunks 256 k bytes)) → (n < m) × (n < k)
seen zero k n bytes h = absurd (omega (arith, h))
seen (suc m) zero n bytes h = absurd (omega (arith, h))
seen (suc m) (suc k) zero bytes h = (omega arith, omega arith)
seen (suc m) (suc k) (suc n) bytes h = let e = seen m k n (drop 256 bytes) (omega (arith, h)) in (omega (arith, e.0), omega (arith, e.1))

-- a sector that a mount sees is a whole one of the bytes
pub seen_sector : (bytes : List ℕ) (n : ℕ) → n < length (contents_of bytes) → (n < 65535) × (n < length bytes / 256)
seen_sector bytes n h = seen 65535 (length bytes / 256) n bytes h

counted : (m k : ℕ) (bytes : List ℕ) → k ≤ m → length (take m (first_chunks 256 k bytes)) ≡ k
counted zero k bytes h = omega (arith, h)
counted (suc m) zero bytes h = refl
counted (suc m) (suc k) bytes h = ap suc (counted m k (drop 256 bytes) (omega (arith, h)))

pub counted_sectors : (bytes : List ℕ) (n : ℕ) → length bytes ≡ 256 * n → n ≤ 65535 → length (contents_of bytes) ≡ n
counted_sectors bytes n h few = let e : length bytes / 256 ≡ n = omega (arith, h) in counted 65535 (length bytes / 256) bytes (omega (arith, e, few)) ∙ e

-- ---- slots
pub slot_here : (bytes : List ℕ) (area i : ℕ) → area < 3 → i < 32 → 25 ≤ length bytes / 256 → slot_bytes area (contents_of bytes) i ≡ part bytes (64 * (4 + 32 * area + i)) 64
slot_here bytes area i a s h =
    let e : 256 * (labels_at area + i / 4) + i % 4 * 64 ≡ 64 * (4 + 32 * area + i) = omega arith in
    ap (λ xs. part xs (i % 4 * 64) 64) (sector_here bytes (labels_at area + i / 4) (omega (arith, a, s)) (omega (arith, a, s, h)))
    ∙ part_part bytes (256 * (labels_at area + i / 4)) 256 (i % 4 * 64) 64 (omega arith)
    ∙ ap (λ at. part bytes at 64) e

map_same : (f g : ℕ → List ℕ) (i n : ℕ) → ((j : ℕ) → i ≤ j → j < i + n → f j ≡ g j) → map f (range_with_len i n) ≡ map g (range_with_len i n)
map_same f g i zero each = refl
map_same f g i (suc n) each = ap₂ (λ x xs. x ∷ xs) (each i (omega arith) (omega arith)) (map_same f g (i + 1) n (λ j low high. each j (omega (arith, low)) (omega (arith, high))))

chunks_here : (bytes : List ℕ) (at i n : ℕ) → map (λ j. part bytes (64 * (at + j)) 64) (range_with_len i n) ≡ first_chunks 64 n (drop (64 * (at + i)) bytes)
chunks_here bytes at i zero = refl
chunks_here bytes at i (suc n) =
    let e : 64 * (at + (i + 1)) ≡ 64 * (at + i) + 64 = omega arith in
    ap (λ l. part bytes (64 * (at + i)) 64 ∷ l) (chunks_here bytes at (i + 1) n ∙ ap (λ m. first_chunks 64 n (drop m bytes)) e ∙ ap (first_chunks 64 n) (sym (drop_drop 64 (64 * (at + i)) bytes)))

-- the slots of an area are judged from its bytes, 64 by 64
pub slots_here : (format : Format) (region : Stretch) (bytes : List ℕ) (area : ℕ) → area < 3 → 25 ≤ length bytes / 256
    → slots_of format region area (contents_of bytes) ≡ judged_behind format region [] (first_chunks 64 32 (drop (64 * (4 + 32 * area)) bytes))
unfolding slots_of
slots_here format region bytes area few h =
    let e : 64 * (4 + 32 * area + 0) ≡ 64 * (4 + 32 * area) = omega arith in
    ap (judged_behind format region [])
    (map_same (slot_bytes area (contents_of bytes)) (λ j. part bytes (64 * (4 + 32 * area + j)) 64) 0 32 (λ j low high. slot_here bytes area j few high h)
    ∙ chunks_here bytes (4 + 32 * area) 0 32 ∙ ap (λ m. first_chunks 64 32 (drop m bytes)) e)
