-- A part of some bytes after another part was written.
use Rattle.std.proofs.Common.{◌≡◌, ◌≢◌, ℕ, zero, suc, ◌+◌, ◌*◌, ◌/◌, ◌%◌, ◌<◌, ◌≤◌, List, [], ◌∷◌, ◌++◌, length, take, drop, slice_get, slice_set, unwrap_or, replicate, refl, sym, ap, ◌∙◌, arith, inl, inr, ◌⊎◌, Result, Ok, Err, OnOk, OnErr, append_assoc, length-append, length-drop}
use Rattle.s3_store.proofs.SectorLists.{slice_get_set_same, slice_get_set_other}
use Rattle.s3_store.proofs.Frames.{within_weaker}
use Rattle.s3_store.specs.Inner.State.{PoolState, ChangesWithin}
use Rattle.byteorder.specs.Endian.{big_bytes}
use Rattle.s3_labels.specs.Areas.{IsLabelSector}
use Rattle.s3_labels.specs.Inner.Areas.{with_count_bytes}
use Rattle.s3_store.specs.Bytes.{sector_bytes, part}
use Rattle.s3_store.specs.Inner.Bytes.{with_piece}
use Rattle.s3_store.specs.declared.sector_fault.SectorFault.{SectorFault}
use Rattle.s3_slots.specs.Slots.{slot_bytes, labels_at}
use Rattle.s3_slots.proofs.Ranges.{take_all}
use Rattle.s3_labels.proofs.Ways.{sector_read}

abbrev pub put_in : ℕ → ℕ → List ℕ → List ℕ → List ℕ
put_in at w bytes new = (take at bytes ++ new) ++ drop (at + w) bytes

put_suc : (at w x : ℕ) (bytes new : List ℕ) → put_in (suc at) w (x ∷ bytes) new ≡ x ∷ put_in at w bytes new
put_suc at w x bytes new = let e : suc at + w ≡ suc (at + w) = omega arith in rw e refl

pub part_put : (at w : ℕ) (bytes new : List ℕ) → length new ≡ w → at ≤ length bytes → part (put_in at w bytes new) at w ≡ new
part_put zero w bytes new h l = take_all w new (drop (0 + w) bytes) h
part_put (suc at) w [] new h l = absurd (omega (arith, l))
part_put (suc at) w (x ∷ bytes) new h l = ap (λ xs. part xs (suc at) w) (put_suc at w x bytes new) ∙ part_put at w bytes new h (omega (arith, l))

take_front : (k at : ℕ) (bytes more : List ℕ) → k ≤ at → at ≤ length bytes → take k (take at bytes ++ more) ≡ take k bytes
take_front zero at bytes more h l = refl
take_front (suc k) zero bytes more h l = absurd (omega (arith, h))
take_front (suc k) (suc at) [] more h l = absurd (omega (arith, l))
take_front (suc k) (suc at) (x ∷ bytes) more h l = ap (λ xs. x ∷ xs) (take_front k at bytes more (omega (arith, h)) (omega (arith, l)))

pub part_before : (low at w v : ℕ) (bytes new : List ℕ) → low + v ≤ at → at ≤ length bytes → part (put_in at w bytes new) low v ≡ part bytes low v
part_before zero at w v bytes new h l = ap (take v) (append_assoc (take at bytes) new (drop (at + w) bytes)) ∙ take_front v at bytes (new ++ drop (at + w) bytes) (omega (arith, h)) l
part_before (suc low) zero w v bytes new h l = absurd (omega (arith, h))
part_before (suc low) (suc at) w v [] new h l = absurd (omega (arith, l))
part_before (suc low) (suc at) w v (x ∷ bytes) new h l = ap (λ xs. part xs (suc low) v) (put_suc at w x bytes new) ∙ part_before low at w v bytes new (omega (arith, h)) (omega (arith, l))

drop_over : (k w : ℕ) (bytes new : List ℕ) → length new ≡ w → w ≤ k → w ≤ length bytes → drop k (new ++ drop w bytes) ≡ drop k bytes
drop_over k zero bytes [] h m l = refl
drop_over k zero bytes (y ∷ new) h m l = absurd (omega (arith, h))
drop_over k (suc w) bytes [] h m l = absurd (omega (arith, h))
drop_over zero (suc w) bytes (y ∷ new) h m l = absurd (omega (arith, m))
drop_over (suc k) (suc w) [] (y ∷ new) h m l = absurd (omega (arith, l))
drop_over (suc k) (suc w) (x ∷ bytes) (y ∷ new) h m l = drop_over k w bytes new (omega (arith, h)) (omega (arith, m)) (omega (arith, l))

pub drop_behind : (high at w : ℕ) (bytes new : List ℕ) → length new ≡ w → at + w ≤ high → at + w ≤ length bytes → drop high (put_in at w bytes new) ≡ drop high bytes
drop_behind high zero w bytes new h m l = let e : 0 + w ≡ w = omega arith in rw e (drop_over high w bytes new h (omega (arith, m)) (omega (arith, l)))
drop_behind zero (suc at) w bytes new h m l = absurd (omega (arith, m))
drop_behind (suc high) (suc at) w [] new h m l = absurd (omega (arith, l))
drop_behind (suc high) (suc at) w (x ∷ bytes) new h m l = ap (drop (suc high)) (put_suc at w x bytes new) ∙ drop_behind high at w bytes new h (omega (arith, m)) (omega (arith, l))

-- a slot of a sector in which slot i was written
pub other_part : (i j : ℕ) (bytes new : List ℕ) → length new ≡ 64 → length bytes ≡ 256 → i < 4 → j < 4 → j ≢ i
    → part (put_in (i * 64) 64 bytes new) (j * 64) 64 ≡ part bytes (j * 64) 64
other_part i j bytes new h l hi hj differ = side (below i j differ)
  where
    below : (i j : ℕ) → j ≢ i → (j < i) ⊎ (i < j)
    below zero zero d = absurd (d refl)
    below zero (suc j) d = inr (omega arith)
    below (suc i) zero d = inl (omega arith)
    below (suc i) (suc j) d = elim (below i j (λ e. d (ap suc e))) [ inl a ↦ inl (omega (arith, a)) | inr b ↦ inr (omega (arith, b)) ]

    side : (j < i) ⊎ (i < j) → part (put_in (i * 64) 64 bytes new) (j * 64) 64 ≡ part bytes (j * 64) 64
    side (inl a) = part_before (j * 64) (i * 64) 64 64 bytes new (omega (arith, a)) (omega (arith, l, hi))
    side (inr b) = ap (take 64) (drop_behind (j * 64) (i * 64) 64 bytes new h (omega (arith, b)) (omega (arith, l, hi)))

sector_set : (contents : List (List ℕ)) (n : ℕ) (bytes : List ℕ) → n < length contents → length bytes ≡ 256 → sector_bytes (slice_set contents n bytes) n ≡ bytes
sector_set contents n bytes h l = sym (sector_read (slice_set contents n bytes) n bytes (slice_get_set_same contents n bytes h) l)

sector_other : (contents : List (List ℕ)) (n m : ℕ) (bytes : List ℕ) → m ≢ n → sector_bytes (slice_set contents n bytes) m ≡ sector_bytes contents m
unfolding sector_bytes
sector_other contents n m bytes h = ap (λ sector. take 256 (unwrap_or sector [] ++ replicate 256 0)) (slice_get_set_other contents n m bytes h)

-- the sector of a slot's area with the slot written
slot_written : (area i : ℕ) (contents : List (List ℕ)) (sector new : List ℕ) → labels_at area + i / 4 < length contents
    → length sector ≡ 256 → length (put_in (i % 4 * 64) 64 sector new) ≡ 256 → length new ≡ 64
    → slot_bytes area (slice_set contents (labels_at area + i / 4) (put_in (i % 4 * 64) 64 sector new)) i ≡ new
slot_written area i contents sector new there l long h =
    ap (λ bytes. part bytes (i % 4 * 64) 64) (sector_set contents (labels_at area + i / 4) (put_in (i % 4 * 64) 64 sector new) there long)
    ∙ part_put (i % 4 * 64) 64 sector new h (omega (arith, l))

slot_other : (area i j : ℕ) (contents : List (List ℕ)) (new : List ℕ) → labels_at area + i / 4 < length contents → length (sector_bytes contents (labels_at area + i / 4)) ≡ 256
    → length (put_in (i % 4 * 64) 64 (sector_bytes contents (labels_at area + i / 4)) new) ≡ 256 → length new ≡ 64 → j ≢ i
    → slot_bytes area (slice_set contents (labels_at area + i / 4) (put_in (i % 4 * 64) 64 (sector_bytes contents (labels_at area + i / 4)) new)) j ≡ slot_bytes area contents j
slot_other area i j contents new there l long h differ = same (nat_eq_or (j / 4) (i / 4))
  where
    nat_eq_or : (a b : ℕ) → (a ≡ b) ⊎ (a ≢ b)
    nat_eq_or zero zero = inl refl
    nat_eq_or zero (suc b) = inr (λ e. omega (arith, e))
    nat_eq_or (suc a) zero = inr (λ e. omega (arith, e))
    nat_eq_or (suc a) (suc b) = elim (nat_eq_or a b) [ inl e ↦ inl (ap suc e) | inr d ↦ inr (λ e. d (omega (arith, e))) ]

    same : (j / 4 ≡ i / 4) ⊎ (j / 4 ≢ i / 4)
        → slot_bytes area (slice_set contents (labels_at area + i / 4) (put_in (i % 4 * 64) 64 (sector_bytes contents (labels_at area + i / 4)) new)) j ≡ slot_bytes area contents j
    same (inl e) = rw e (ap (λ bytes. part bytes (j % 4 * 64) 64) (sector_set contents (labels_at area + i / 4) (put_in (i % 4 * 64) 64 (sector_bytes contents (labels_at area + i / 4)) new) there long)
        ∙ other_part (i % 4) (j % 4) (sector_bytes contents (labels_at area + i / 4)) new h l (omega arith) (omega arith) (λ q. differ (omega (arith, e, q))))
    same (inr d) = ap (λ bytes. part bytes (j % 4 * 64) 64) (sector_other contents (labels_at area + i / 4) (labels_at area + j / 4) (put_in (i % 4 * 64) 64 (sector_bytes contents (labels_at area + i / 4)) new) (λ q. d (omega (arith, q))))

take_length : (n : ℕ) (xs ys : List ℕ) → n ≤ length ys → length (take n (xs ++ ys)) ≡ n
take_length zero xs ys h = refl
take_length (suc n) [] [] h = absurd (omega (arith, h))
take_length (suc n) [] (y ∷ ys) h = let e = take_length n [] ys (omega (arith, h)) in omega (arith, e)
take_length (suc n) (x ∷ xs) ys h = let e = take_length n xs ys (omega (arith, h)) in omega (arith, e)

pub sector_length : (contents : List (List ℕ)) (n : ℕ) → length (sector_bytes contents n) ≡ 256
unfolding sector_bytes
sector_length contents n = take_length 256 (unwrap_or (slice_get contents n) []) (replicate 256 0) (omega arith)

put_length : (at w : ℕ) (bytes new : List ℕ) → length new ≡ w → at + w ≤ length bytes → length (put_in at w bytes new) ≡ length bytes
put_length zero w bytes new h l = omega (arith, length-append new (drop (0 + w) bytes), length-drop (0 + w) bytes, h, l)
put_length (suc at) w [] new h l = absurd (omega (arith, l))
put_length (suc at) w (x ∷ bytes) new h l = let e = put_length at w bytes new h (omega (arith, l)) in ap length (put_suc at w x bytes new) ∙ ap suc e

-- a sector read, changed in one slot and written
pub record IsRewritten (area i : ℕ) (old new : List (List ℕ)) (bytes : List ℕ) : Type 0 where
  pub there : labels_at area + i / 4 < length old
  pub width : length bytes ≡ 64
  pub set : new ≡ slice_set old (labels_at area + i / 4) (put_in (i % 4 * 64) 64 (sector_bytes old (labels_at area + i / 4)) bytes)

long : (area i : ℕ) (old new : List (List ℕ)) (bytes : List ℕ) → IsRewritten area i old new bytes → length (put_in (i % 4 * 64) 64 (sector_bytes old (labels_at area + i / 4)) bytes) ≡ 256
long area i old new bytes so =
    let l = sector_length old (labels_at area + i / 4) in
    put_length (i % 4 * 64) 64 (sector_bytes old (labels_at area + i / 4)) bytes so.width (omega (arith, l)) ∙ l

rewritten : (area i : ℕ) (old new : List (List ℕ)) (bytes : List ℕ) → IsRewritten area i old new bytes → slot_bytes area new i ≡ bytes
rewritten area i old new bytes so =
    rw so.set (slot_written area i old (sector_bytes old (labels_at area + i / 4)) bytes so.there (sector_length old (labels_at area + i / 4)) (long area i old new bytes so) so.width)

others_kept : (area i : ℕ) (old new : List (List ℕ)) (bytes : List ℕ) → IsRewritten area i old new bytes → (j : ℕ) → j ≢ i → slot_bytes area new j ≡ slot_bytes area old j
others_kept area i old new bytes so j differ =
    rw so.set (slot_other area i j old bytes so.there (sector_length old (labels_at area + i / 4)) (long area i old new bytes so) so.width differ)

is_rewritten : (area i at : ℕ) (old new : List (List ℕ)) (bytes : List ℕ) → labels_at area + i / 4 < length old → length bytes ≡ 64 → at ≡ i % 4
    → new ≡ with_piece old (labels_at area + i / 4) (at * 64) bytes → IsRewritten area i old new bytes
is_rewritten area i at old new bytes there width e set = record { there = there; width = width; set = rw (e, width) at set }

-- what a change of a slot's part of its sector leaves, refused or not
module _ (area i at : ℕ) (old new : List (List ℕ)) (bytes : List ℕ) (there : labels_at area + i / 4 < length old) (width : length bytes ≡ 64) (e : at ≡ i % 4) where
  pub slot_changed : {T : Type 0} (r : Result T SectorFault) → OnOk r (new ≡ with_piece old (labels_at area + i / 4) (at * 64) bytes) → OnOk r (slot_bytes area new i ≡ bytes)
  slot_changed (Ok x) set = rewritten area i old new bytes (is_rewritten area i at old new bytes there width e set)
  slot_changed (Err fault) set = tt

  pub others_stay : {T : Type 0} (r : Result T SectorFault) → OnOk r (new ≡ with_piece old (labels_at area + i / 4) (at * 64) bytes) → OnErr r (new ≡ old)
      → (j : ℕ) → j ≢ i → slot_bytes area new j ≡ slot_bytes area old j
  others_stay (Ok x) set same j differ = others_kept area i old new bytes (is_rewritten area i at old new bytes there width e set) j differ
  others_stay (Err fault) set same j differ = ap (λ contents. slot_bytes area contents j) same

-- the sector of a slot is one of its area's labels
pub slot_within : (area i : ℕ) (s t : PoolState) → i < 32 → ChangesWithin (λ n. n ≡ 1 + 8 * area + i / 4) s t → ChangesWithin (IsLabelSector area) s t
slot_within area i s t h c = within_weaker (λ n. n ≡ 1 + 8 * area + i / 4) (IsLabelSector area) s t (λ n e. (omega (arith, e), omega (arith, e, h))) c

pub count_written : (bytes put number : List ℕ) (n : ℕ) → put ≡ (take 24 bytes ++ number) ++ drop (24 + length number) bytes → length number ≡ 4 → number ≡ big_bytes 4 n → put ≡ with_count_bytes n bytes
count_written bytes put number n h l e = h ∙ (rw (l, e) refl)
