-- Bytes of a pack that stay, by the sectors and slots that stay.
use Rattle.std.proofs.Common.{◌≡◌, ℕ, zero, suc, ◌+◌, ◌-◌, ◌*◌, ◌/◌, ◌%◌, ◌<◌, ◌≤◌, ◌⊎◌, min, inl, inr, List, [], ◌∷◌, ◌++◌, length, take, drop, slice_get, Some, None, Ok, refl, sym, ap, subst, ◌∙◌, arith, length-append, length-drop, length-take-le, take_at}
use Rattle.std.proofs.lemmas.List.{length-take}
use Rattle.std.specs.Prelude.{nat_lt}
use Rattle.std.specs.List.{Contains, concat}
use Rattle.std.proofs.lemmas.Bool.{cases_Bool, ltb-false, ltb-true}
use Rattle.s3_store.specs.Bytes.{part, sector_bytes}
use Rattle.s3_store.specs.Contents.{sectors_of as sectors_in_bytes}
use Rattle.s3_store.proofs.Chunks.{length-first_chunks, sectors_of-take, slice_get-first_chunks}
use Rattle.s3_store.proofs.SectorParts.{sector_bytes-same, sector_bytes-there}
use Rattle.s3_slots.specs.Slots.{labels_at, slot_bytes}
use Rattle.s3_labels.specs.Areas.{IsLabelSector}
use Rattle.s3_labels.specs.Contents.{contents_of}
use Rattle.std.specs.Simd.{first_chunks}
use Rattle.s3_cards.specs.declared.name.Name.{Name}
use Rattle.s3_slots.specs.Header.{mounted}
use Rattle.s3_slots.specs.Labels.{sectors_of}
use Rattle.s3_slots.specs.declared.slot.Slot.TheVariants.{Sound}
use Rattle.s3_pack_care.specs.Inner.Frames.{ChangesBytes, ChangesFile, ChangesRecords, IsInFile, IsInLabelled, IsInSlot}
use Rattle.s3_pack_care.specs.Inner.Kept.{slot_on}
use Rattle.s3_pack_care.proofs.Relabelled.{file_behind}

low_or : (n m : ℕ) → (n < m) ⊎ (m ≤ n)
low_or n m = elim (cases_Bool (nat_lt n m)) [ inl yes_so ↦ inl (ltb-true n m yes_so) | inr not_so ↦ inr (ltb-false n m not_so) ]

-- ---- one byte of a list
module _ {X : Type 0} where
  get_take : (n k : ℕ) (xs : List X) → k < n → slice_get (take n xs) k ≡ slice_get xs k
  get_take zero k xs h = absurd (omega (arith, h))
  get_take (suc n) k [] h = refl
  get_take (suc n) zero (x ∷ xs) h = refl
  get_take (suc n) (suc k) (x ∷ xs) h = get_take n k xs (omega (arith, h))

  get_none : (k : ℕ) → slice_get {X = X} [] k ≡ None
  get_none k = refl

  get_drop : (n k : ℕ) (xs : List X) → slice_get (drop n xs) k ≡ slice_get xs (n + k)
  get_drop zero k xs = let e : k ≡ 0 + k = omega arith in ap (slice_get xs) e
  get_drop (suc n) k [] = refl
  get_drop (suc n) k (x ∷ xs) = let e : suc (n + k) ≡ suc n + k = omega arith in get_drop n k xs ∙ ap (slice_get (x ∷ xs)) e

-- ---- sectors
sectors_long : (bytes : List ℕ) → length (contents_of bytes) ≡ min (length bytes / 256) 65535
sectors_long bytes = rw (length-take 65535 (sectors_in_bytes bytes), length-first_chunks (length bytes / 256) bytes) (omega arith)

take_rest : (n : ℕ) (xs : List ℕ) → length xs ≤ n → take n xs ≡ xs
take_rest zero [] h = refl
take_rest zero (x ∷ xs) h = absurd (omega (arith, h))
take_rest (suc n) [] h = refl
take_rest (suc n) (x ∷ xs) h = ap (λ l. x ∷ l) (take_rest n xs (omega (arith, h)))

-- the bytes after the last sector
pub after_is : (pack : List ℕ) (sectors : ℕ) → sectors ≡ min (length pack / 256) 65535 → take (length pack - sectors * 256) (drop (sectors * 256) pack) ≡ drop (256 * length (contents_of pack)) pack
after_is pack sectors is =
    let at : sectors * 256 ≡ 256 * length (contents_of pack) = omega (arith, is, sectors_long pack) in
    take_rest (length pack - sectors * 256) (drop (sectors * 256) pack) (omega (arith, length-drop (sectors * 256) pack)) ∙ ap (λ n. drop n pack) at

-- a sector that is seen is one of the bytes
pub sector_there : (bytes : List ℕ) (n : ℕ) → n < length (contents_of bytes) → slice_get (contents_of bytes) n ≡ Some (take 256 (drop (n * 256) bytes))
sector_there bytes n low =
    let long = sectors_long bytes in
    get_take 65535 n (sectors_in_bytes bytes) (omega (arith, low, long)) ∙ slice_get-first_chunks (length bytes / 256) n bytes (omega (arith, low, long))

pub byte_in_sector : (bytes : List ℕ) (k : ℕ) → k / 256 < length (contents_of bytes) → slice_get bytes k ≡ slice_get (sector_bytes (contents_of bytes) (k / 256)) (k % 256)
byte_in_sector bytes k low =
    let long = sectors_long bytes in
    let n = k / 256 in
    let v : List ℕ = take 256 (drop (n * 256) bytes) in
    let whole : length v ≡ 256 = length-take-le 256 (drop (n * 256) bytes) (omega (arith, length-drop (n * 256) bytes, low, long)) in
    let e : k ≡ n * 256 + k % 256 = omega arith in
    ap (slice_get bytes) e ∙ sym (get_drop (n * 256) (k % 256) bytes) ∙ sym (get_take 256 (k % 256) (drop (n * 256) bytes) (omega arith))
    ∙ ap (λ s. slice_get s (k % 256)) (sym (sector_bytes-there (contents_of bytes) n v (sector_there bytes n low) whole))

-- ---- the bytes of a changed pack
-- the bytes that are saved: those of the sectors, and the old ones after the last sector
pub record IsSaved (pack bytes : List ℕ) (store : List (List ℕ)) : Type 0 where
  pub seen : contents_of bytes ≡ store
  pub count : length store ≡ length (contents_of pack)
  pub long : length bytes ≡ length pack
  pub after : (k : ℕ) → 256 * length (contents_of pack) ≤ k → slice_get bytes k ≡ slice_get pack k

chunks_long : (k : ℕ) (xs : List ℕ) → 256 * k ≤ length xs → length (concat (first_chunks 256 k xs)) ≡ 256 * k
chunks_long zero xs h = refl
chunks_long (suc k) xs h =
    let rest = chunks_long k (drop 256 xs) (omega (arith, h, length-drop 256 xs)) in
    let front : length (take 256 xs) ≡ 256 = length-take-le 256 xs (omega (arith, h)) in
    omega (arith, length-append (take 256 xs) (concat (first_chunks 256 k (drop 256 xs))), rest, front)

get_past : (xs ys : List ℕ) (n : ℕ) → slice_get (xs ++ ys) (length xs + n) ≡ slice_get ys n
get_past [] ys n = let e : 0 + n ≡ n = omega arith in ap (slice_get ys) e
get_past (x ∷ xs) ys n = let e : length (x ∷ xs) + n ≡ suc (length xs + n) = omega arith in ap (slice_get ((x ∷ xs) ++ ys)) e ∙ get_past xs ys n

pub saved_is : (pack bytes rest : List ℕ) (store : List (List ℕ)) → sectors_in_bytes (concat store) ≡ store → bytes ≡ concat store ++ rest → rest ≡ drop (256 * length (contents_of pack)) pack → length store ≡ length (contents_of pack)
    → IsSaved pack bytes store
saved_is pack bytes rest store whole is behind count =
    let most = sectors_long pack in
    let stored = concat store in
    let held : length stored / 256 ≡ length store = sym (length-first_chunks (length stored / 256) stored) ∙ ap length whole in
    let fits : 256 * (length stored / 256) ≤ length stored = omega arith in
    let stored_long : length stored ≡ 256 * length store = ap (λ s. length (concat s)) (sym whole) ∙ chunks_long (length stored / 256) stored fits ∙ ap (λ n. 256 * n) held in
    let rest_long : length rest ≡ length pack - 256 * length (contents_of pack) = ap length behind ∙ length-drop (256 * length (contents_of pack)) pack in
    let long : length bytes ≡ length pack = omega (arith, ap length is, length-append stored rest, stored_long, rest_long, count, most) in
    let taken : take (length store * 256) bytes ≡ stored = ap (take (length store * 256)) is ∙ take_at stored rest (length store * 256) (omega (arith, stored_long)) in
    record {
      seen = sym (sectors_of-take 65535 (length store) bytes (omega (arith, long, count, most))) ∙ ap sectors_in_bytes taken ∙ whole;
      count = count;
      long = long;
      after = λ k high.
          let m = k - length stored in
          let at : k ≡ length stored + m = omega (arith, high, stored_long, count) in
          let place : 256 * length (contents_of pack) + m ≡ k = omega (arith, high, stored_long, count) in
          ap (slice_get bytes) at ∙ ap (λ l. slice_get l (length stored + m)) is ∙ get_past stored rest m ∙ ap (λ l. slice_get l m) behind
          ∙ get_drop (256 * length (contents_of pack)) m pack ∙ ap (slice_get pack) place;
    }

-- ---- what stays of the bytes
past_sectors : (n k : ℕ) → n ≤ k / 256 → 256 * n ≤ k
past_sectors n k h = omega (arith, h)

below_as_many : (a b c n : ℕ) → a ≡ b → b ≡ c → n < c → n < a
below_as_many a b c n one other h = omega (arith, one, other, h)

slot_sector : (area i k : ℕ) → IsInSlot area i k → k / 256 ≡ labels_at area + i / 4
slot_sector area i k within = omega (arith, within.0, within.1)

slot_place : (area i k : ℕ) → IsInSlot area i k → i % 4 * 64 + k % 64 ≡ k % 256
slot_place area i k within = omega (arith, within.0, within.1)

in_slot : (k : ℕ) → k % 64 < 64
in_slot k = omega arith

slot_of : (area k : ℕ) → IsLabelSector area (k / 256) → IsInSlot area ((k - (256 + 2048 * area)) / 64) k
slot_of area k within = (omega (arith, within.0, within.1), omega (arith, within.0, within.1))

slot_few : (area k : ℕ) → IsLabelSector area (k / 256) → (k - (256 + 2048 * area)) / 64 < 32
slot_few area k within = omega (arith, within.0, within.1)

module _ (pack bytes : List ℕ) (new : List (List ℕ)) (is : IsSaved pack bytes new) where
  abbrev old : List (List ℕ)
  old = contents_of pack

  -- a byte whose sector has the same byte
  byte_same : (k : ℕ) → (k / 256 < length old → slice_get (sector_bytes new (k / 256)) (k % 256) ≡ slice_get (sector_bytes old (k / 256)) (k % 256)) → slice_get bytes k ≡ slice_get pack k
  byte_same k same = elim (cases_Bool (nat_lt (k / 256) (length old))) [
    | inl yes_so ↦
        let low = ltb-true (k / 256) (length old) yes_so in
        byte_in_sector bytes k (below_as_many (length (contents_of bytes)) (length new) (length old) (k / 256) (ap length is.seen) is.count low) ∙ ap (λ c. slice_get (sector_bytes c (k / 256)) (k % 256)) is.seen ∙ same low ∙ sym (byte_in_sector pack k low)
    | inr not_so ↦ let high = ltb-false (k / 256) (length old) not_so in is.after k (past_sectors (length old) k high)
  ]

  sector_same : (k : ℕ) → slice_get new (k / 256) ≡ slice_get old (k / 256) → slice_get bytes k ≡ slice_get pack k
  sector_same k same = byte_same k (λ low. ap (λ s. slice_get s (k % 256)) (sector_bytes-same old new (k / 256) same))

  get_part : (sector : List ℕ) (at j : ℕ) → j < 64 → slice_get (part sector at 64) j ≡ slice_get sector (at + j)
  get_part sector at j few = get_take 64 j (drop at sector) few ∙ get_drop at j sector

  slot_same : (area i k : ℕ) → IsInSlot area i k → slot_bytes area new i ≡ slot_bytes area old i → slice_get bytes k ≡ slice_get pack k
  slot_same area i k within same =
      let sector : k / 256 ≡ labels_at area + i / 4 = slot_sector area i k within in
      let place : i % 4 * 64 + k % 64 ≡ k % 256 = slot_place area i k within in
      let few : k % 64 < 64 = in_slot k in
      byte_same k (λ low.
      ap (λ n. slice_get (sector_bytes new n) (k % 256)) sector ∙ ap (slice_get (sector_bytes new (labels_at area + i / 4))) (sym place)
      ∙ sym (get_part (sector_bytes new (labels_at area + i / 4)) (i % 4 * 64) (k % 64) few) ∙ ap (λ b. slice_get b (k % 64)) same
      ∙ get_part (sector_bytes old (labels_at area + i / 4)) (i % 4 * 64) (k % 64) few
      ∙ ap (slice_get (sector_bytes old (labels_at area + i / 4))) place ∙ ap (λ n. slice_get (sector_bytes old n) (k % 256)) (sym sector))

  -- only slots of one area and some sectors have changed
  pub changes_bytes : (area : ℕ) (IsSlot IsSector IsByte : ℕ → Type 0) → ((i : ℕ) → i < 32 → ¬ IsSlot i → slot_bytes area new i ≡ slot_bytes area old i)
      → ((n : ℕ) → ¬ IsLabelSector area n → ¬ IsSector n → slice_get new n ≡ slice_get old n) → ((i k : ℕ) → IsSlot i → IsInSlot area i k → IsByte k) → ((k : ℕ) → IsSector (k / 256) → IsByte k)
      → ChangesBytes IsByte pack bytes
  changes_bytes area IsSlot IsSector IsByte slots sectors own_slot own_sector = record { long = is.long; others = byte }
    where
      label : (k : ℕ) → ¬ IsByte k → IsLabelSector area (k / 256) → slice_get bytes k ≡ slice_get pack k
      label k out within =
          let i = (k - (256 + 2048 * area)) / 64 in
          let here : IsInSlot area i k = slot_of area k within in
          slot_same area i k here (slots i (slot_few area k within) (λ own. out (own_slot i k own here)))

      below : (k : ℕ) → ¬ IsByte k → (k / 256 < labels_at area + 8) ⊎ (labels_at area + 8 ≤ k / 256) → labels_at area ≤ k / 256 → slice_get bytes k ≡ slice_get pack k
      below k out (inl low) above = label k out (above, low)
      below k out (inr high) above = sector_same k (sectors (k / 256) (λ within. omega (arith, within.1, high)) (λ own. out (own_sector k own)))

      byte : (k : ℕ) → ¬ IsByte k → slice_get bytes k ≡ slice_get pack k
      byte k out = elim (cases_Bool (nat_lt (k / 256) (labels_at area))) [
        | inl yes_so ↦ let low = ltb-true (k / 256) (labels_at area) yes_so in sector_same k (sectors (k / 256) (λ within. omega (arith, within.0, low)) (λ own. out (own_sector k own)))
        | inr not_so ↦ below k out (low_or (k / 256) (labels_at area + 8)) (ltb-false (k / 256) (labels_at area) not_so)
      ]

-- ---- a file that was filled, and one whose records have changed
module _ (pack bytes : List ℕ) (area : ℕ) (name : Name) (new : List (List ℕ)) (area_in : area < 3) (saved : IsSaved pack bytes new) where
  pub file_only : (IsAlso IsByte : ℕ → Type 0) → ChangesFile area name IsAlso (contents_of pack) new → ((k : ℕ) → IsInLabelled area name (contents_of bytes) k → IsByte k) → ((i k : ℕ) → IsAlso i → IsInSlot area i k → IsByte k)
      → ChangesBytes IsByte pack bytes
  file_only IsAlso IsByte is labelled also =
      let mounts : mounted (contents_of bytes) ≡ Ok is.header = ap mounted saved.seen ∙ is.mounts in
      let there : slot_on is.header (contents_of bytes) area is.slot ≡ Some (Sound is.label) = ap (λ c. slot_on is.header c area is.slot) saved.seen ∙ is.there in
      changes_bytes pack bytes new saved area (λ i. (i ≡ is.slot) ⊎ IsAlso i) (Contains (sectors_of is.label)) IsByte
      (λ i few none. is.labels i few (λ e. none (inl e)) (λ own. none (inr own)))
      (λ n out none. is.sectors n out none)
      (λ i k own within. elim own [
        | inl e ↦ labelled k (record { header = is.header; mounts = mounts; slot = is.slot; label = is.label; there = there; named = is.named; so = inl (subst (λ j. IsInSlot area j k) e within) })
        | inr one ↦ also i k one within
      ])
      (λ k has. labelled k (record { header = is.header; mounts = mounts; slot = is.slot; label = is.label; there = there; named = is.named; so = inr has }))

  pub records_only : ChangesRecords area name (contents_of pack) new → ChangesBytes (IsInFile area name (contents_of pack)) pack bytes
  records_only is =
      changes_bytes pack bytes new saved area (λ i. ⊥) (Contains (sectors_of is.label)) (IsInFile area name (contents_of pack))
      (λ i few none. ap (λ sector. part sector (i % 4 * 64) 64) (sector_bytes-same (contents_of pack) new (labels_at area + i / 4) (is.sectors (labels_at area + i / 4) (λ has.
      let behind = file_behind is.header (contents_of pack) area is.slot is.label (labels_at area + i / 4) is.mounts area_in is.there has in omega (arith, behind, few, area_in)))))
      (λ n out none. is.sectors n none)
      (λ i k none within. absurd none)
      (λ k has. record { header = is.header; mounts = is.mounts; slot = is.slot; label = is.label; there = is.there; named = is.named; so = has })
