-- Bytes copied one after another.
use Rattle.std.proofs.Common.{◌≡◌, ℕ, zero, suc, ◌+◌, List, [], ◌∷◌, ◌++◌, drop, slice_get, Some, refl, sym, ap, ◌∙◌, arith, append_assoc}
use Rattle.std.proofs.lemmas.Grind.{flat_map-append}
use Rattle.std.specs.List.{range_with_len, flat_map}
use Rattle.s3_store.specs.Bytes.{sector_bytes, bytes_at}
use Rattle.s3_labels.specs.Inner.Images.{migrated_byte, migrated_bytes}

-- ---- the migrated bytes up to a place
pub record IsMigrating (bytes : List ℕ) (at : ℕ) (done : List ℕ) : Type 0 where
  pub rest : done ++ migrated_bytes at (drop at bytes) ≡ migrated_bytes 0 bytes

drop_here : (bytes : List ℕ) (at byte : ℕ) → slice_get bytes at ≡ Some byte → drop at bytes ≡ byte ∷ drop (at + 1) bytes
drop_here [] at byte h = absurd cc
drop_here (x ∷ bytes) zero byte h = let same : x ≡ byte = cc in rw same refl
drop_here (x ∷ bytes) (suc at) byte h = let e : suc at + 1 ≡ suc (at + 1) = omega arith in rw e (drop_here bytes at byte h)

pub migrating_on : (bytes : List ℕ) (at byte : ℕ) (done : List ℕ) → slice_get bytes at ≡ Some byte → IsMigrating bytes at done → IsMigrating bytes (at + 1) (done ++ migrated_byte at byte ∷ [])
migrating_on bytes at byte done here so = record {
  rest = append_assoc done (migrated_byte at byte ∷ []) (migrated_bytes (at + 1) (drop (at + 1) bytes))
      ∙ sym (ap (λ l. done ++ migrated_bytes at l) (drop_here bytes at byte here)) ∙ so.rest;
}

append_none : (xs : List ℕ) → xs ++ [] ≡ xs
append_none [] = refl
append_none (x ∷ xs) = ap (λ l. x ∷ l) (append_none xs)

-- ---- sectors
range_push : (a n : ℕ) → range_with_len a (n + 1) ≡ range_with_len a n ++ (a + n) ∷ []
range_push a zero = let e : a + 0 ≡ a = omega arith in rw e refl
range_push a (suc n) =
    let e : suc n + 1 ≡ suc (n + 1) = omega arith in
    let f : a + suc n ≡ a + 1 + n = omega arith in
    rw (e, f) (ap (λ l. a ∷ l) (range_push (a + 1) n))

pub sectors_on : (start i : ℕ) (contents : List (List ℕ)) (old done sector : List ℕ) → done ≡ old ++ bytes_at (range_with_len start i) contents → sector ≡ sector_bytes contents (start + i)
    → done ++ sector ≡ old ++ bytes_at (range_with_len start (i + 1)) contents
unfolding bytes_at
sectors_on start i contents old done sector h read =
    let pushed : flat_map (sector_bytes contents) (range_with_len start (i + 1)) ≡ flat_map (sector_bytes contents) (range_with_len start i) ++ flat_map (sector_bytes contents) ((start + i) ∷ []) =
    ap (flat_map (sector_bytes contents)) (range_push start i) ∙ flat_map-append (sector_bytes contents) (range_with_len start i) ((start + i) ∷ []) in
    let one : flat_map (sector_bytes contents) ((start + i) ∷ []) ≡ sector_bytes contents (start + i) = append_none (sector_bytes contents (start + i)) in
    ap (λ l. l ++ sector) h ∙ append_assoc old (flat_map (sector_bytes contents) (range_with_len start i)) sector
    ∙ ap (λ l. old ++ l) (ap (λ l. flat_map (sector_bytes contents) (range_with_len start i) ++ l) (read ∙ sym one) ∙ sym pushed)

pub sectors_start : (start : ℕ) (contents : List (List ℕ)) (old : List ℕ) → old ≡ old ++ bytes_at (range_with_len start 0) contents
unfolding bytes_at
sectors_start start contents old = sym (append_none old)
