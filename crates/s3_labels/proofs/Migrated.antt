-- The bytes of a migrated pack, and the slots that they hold.
use Rattle.std.proofs.Common.{◌≡◌, ◌≢◌, ℕ, zero, suc, ◌+◌, ◌-◌, ◌*◌, ◌%◌, ◌<◌, ◌≤◌, ◌==◌, ◌&&◌, Bool, true, false, nat_le, List, [], ◌∷◌, ◌++◌, length, take, drop, map, slice_index, Option, Some, None, if◌then◌else◌, refl, sym, ap, ap₂, ◌∙◌, arith}
use Rattle.std.specs.Prelude.{nat_lt}
use Rattle.std.specs.List.{range_with_len}
use Rattle.std.proofs.lemmas.Bool.{le-ltb, lt-ltb, le-leb, lt-leb, ne_eqb, and_left, and_right}
use Rattle.std.proofs.lemmas.List.{get_or-drop, length-drop, take-append-drop, take_all}
use Rattle.byteorder.specs.Endian.{big_number}
use Rattle.s3_cards.specs.declared.name.Name.{Name}
use Rattle.s3_cards.specs.declared.retention.Retention.{Retention}
use Rattle.s3_store.specs.Bytes.{part}
use Rattle.s3_store.specs.declared.stretch.Stretch.{Stretch}
use Rattle.s3_slots.specs.Header.{stretch_at}
use Rattle.s3_slots.specs.Labels.{extents_in, is_unused, label_in, label_with, name_by, name_in, organization_by, retention_by, used}
use Rattle.s3_slots.specs.Slots.{judged, judged_behind, judged_label, slot_bytes}
use Rattle.s3_slots.specs.declared.header.Format.TheVariants.{First, Second}
use Rattle.s3_slots.specs.declared.label.Organization.{Organization}
use Rattle.s3_slots.specs.declared.slot.Slot.{Slot}
use Rattle.s3_slots.specs.declared.slot.Slot.TheVariants.{Damaged, Free}
use Rattle.s3_labels.specs.Inner.Images.{is_further_extent, migrated_byte, migrated_bytes}
use Rattle.s3_labels.proofs.Sectors.{part_part, short_take, same_within, same_number, same_index}

-- ---- one byte
kept_byte : (at byte : ℕ) → 8 ≤ at → at ≢ 22 → at ≢ 23 → is_further_extent at ≡ false → migrated_byte at byte ≡ byte
kept_byte at byte h a b further =
    let c : nat_lt at 8 ≡ false = le-ltb at 8 h in
    let d : (at == 22) ≡ false = ne_eqb at 22 a in
    let e : (at == 23) ≡ false = ne_eqb at 23 b in
    rw (c, d, e, further) refl

before_labels : (at : ℕ) → at < 256 → is_further_extent at ≡ false
before_labels at h = let a : nat_le 256 at ≡ false = lt-leb 256 at h in rw a refl

behind_labels : (at : ℕ) → 6400 ≤ at → is_further_extent at ≡ false
behind_labels at h = let a : nat_le 256 at ≡ true = le-leb 256 at (omega (arith, h)) in let b : nat_lt at 6400 ≡ false = le-ltb at 6400 h in rw (a, b) refl

before_further : (at : ℕ) → at % 64 < 34 → is_further_extent at ≡ false
before_further at h =
    let a : nat_le 34 (at % 64) ≡ false = lt-leb 34 (at % 64) h in
    and_left (nat_le 256 at && nat_lt at 6400 && nat_le 34 (at % 64)) (nat_lt (at % 64) 46) (and_right (nat_le 256 at && nat_lt at 6400) (nat_le 34 (at % 64)) a)

pub migrated_behind : (at byte : ℕ) → 6400 ≤ at → migrated_byte at byte ≡ byte
migrated_behind at byte h = kept_byte at byte (omega (arith, h)) (λ e. omega (arith, h, e)) (λ e. omega (arith, h, e)) (behind_labels at h)

-- no slot has more than one extent
further_gone : (at byte : ℕ) → 256 ≤ at → at < 6400 → 34 ≤ at % 64 → at % 64 < 46 → migrated_byte at byte ≡ 0
further_gone at byte low high from to =
    let a : nat_lt at 8 ≡ false = le-ltb at 8 (omega (arith, low)) in
    let b : (at == 22) ≡ false = ne_eqb at 22 (λ e. omega (arith, low, e)) in
    let c : (at == 23) ≡ false = ne_eqb at 23 (λ e. omega (arith, low, e)) in
    let d : nat_le 256 at ≡ true = le-leb 256 at low in
    let e : nat_lt at 6400 ≡ true = lt-ltb at 6400 high in
    let f : nat_le 34 (at % 64) ≡ true = le-leb 34 (at % 64) from in
    let g : nat_lt (at % 64) 46 ≡ true = lt-ltb (at % 64) 46 to in
    rw (a, b, c, d, e, f, g) refl

-- ---- parts
pub length_migrated : (at : ℕ) (bytes : List ℕ) → length (migrated_bytes at bytes) ≡ length bytes
length_migrated at [] = refl
length_migrated at (byte ∷ bytes) = ap suc (length_migrated (at + 1) bytes)

drop_migrated : (n at : ℕ) (bytes : List ℕ) → drop n (migrated_bytes at bytes) ≡ migrated_bytes (at + n) (drop n bytes)
drop_migrated zero at bytes = let e : at + zero ≡ at = omega arith in rw e refl
drop_migrated (suc n) at [] = refl
drop_migrated (suc n) at (byte ∷ bytes) = let e : at + suc n ≡ at + 1 + n = omega arith in rw e (drop_migrated n (at + 1) bytes)

take_migrated : (n at : ℕ) (bytes : List ℕ) → take n (migrated_bytes at bytes) ≡ migrated_bytes at (take n bytes)
take_migrated zero at bytes = refl
take_migrated (suc n) at [] = refl
take_migrated (suc n) at (byte ∷ bytes) = ap (λ l. migrated_byte at byte ∷ l) (take_migrated n (at + 1) bytes)

pub part_migrated : (bytes : List ℕ) (at w : ℕ) → part (migrated_bytes 0 bytes) at w ≡ migrated_bytes at (part bytes at w)
part_migrated bytes at w =
    let e : 0 + at ≡ at = omega arith in
    ap (take w) (drop_migrated at 0 bytes) ∙ take_migrated w (0 + at) (drop at bytes) ∙ ap (λ n. migrated_bytes n (part bytes at w)) e

kept_bytes : (at : ℕ) (bytes : List ℕ) → ((j byte : ℕ) → at ≤ j → j < at + length bytes → migrated_byte j byte ≡ byte) → migrated_bytes at bytes ≡ bytes
kept_bytes at [] each = refl
kept_bytes at (byte ∷ bytes) each = ap₂ (λ x xs. x ∷ xs) (each at byte (omega arith) (omega arith)) (kept_bytes (at + 1) bytes (λ j other low high. each j other (omega (arith, low)) (omega (arith, high))))

-- the bytes after the slots are the old ones
pub migrated_past_slots : (bytes : List ℕ) → migrated_bytes 0 (take 6400 bytes) ++ take (length bytes - 6400) (drop 6400 bytes) ≡ migrated_bytes 0 bytes
migrated_past_slots bytes =
    let behind : take (length bytes - 6400) (drop 6400 bytes) ≡ drop 6400 bytes = take_all (length bytes - 6400) (drop 6400 bytes) (omega (arith, length-drop 6400 bytes)) in
    ap₂ (λ front back. front ++ back) (sym (take_migrated 6400 0 bytes))
    (behind ∙ sym (kept_bytes 6400 (drop 6400 bytes) (λ j byte low high. migrated_behind j byte low)) ∙ sym (drop_migrated 6400 0 bytes))
    ∙ take-append-drop 6400 (migrated_bytes 0 bytes)

pub kept_part : (bytes : List ℕ) (at w : ℕ) → ((j byte : ℕ) → at ≤ j → j < at + w → migrated_byte j byte ≡ byte) → part (migrated_bytes 0 bytes) at w ≡ part bytes at w
kept_part bytes at w each =
    let few = short_take w (drop at bytes) in
    part_migrated bytes at w ∙ kept_bytes at (part bytes at w) (λ j byte low high. each j byte low (omega (arith, high, few)))

pub kept_behind : (bytes : List ℕ) (at w : ℕ) → 6400 ≤ at → part (migrated_bytes 0 bytes) at w ≡ part bytes at w
kept_behind bytes at w h = kept_part bytes at w (λ j byte low high. migrated_behind j byte (omega (arith, h, low)))

pub kept_header : (bytes : List ℕ) → part (migrated_bytes 0 bytes) 8 14 ≡ part bytes 8 14
kept_header bytes = kept_part bytes 8 14 (λ j byte low high. kept_byte j byte low (λ e. omega (arith, high, e)) (λ e. omega (arith, high, e)) (before_labels j (omega (arith, high))))

pub index_migrated : (at j : ℕ) (bytes : List ℕ) → j < length bytes → slice_index (migrated_bytes at bytes) j ≡ migrated_byte (at + j) (slice_index bytes j)
index_migrated at j [] h = absurd (omega (arith, h))
index_migrated at zero (byte ∷ bytes) h = let e : at + zero ≡ at = omega arith in rw e refl
index_migrated at (suc j) (byte ∷ bytes) h = let e : at + suc j ≡ at + 1 + j = omega arith in rw e (index_migrated (at + 1) j bytes (omega (arith, h)))

gone_at : (at j : ℕ) (bytes : List ℕ) → ((byte : ℕ) → migrated_byte (at + j) byte ≡ 0) → slice_index (migrated_bytes at bytes) j ≡ 0
gone_at at j [] h = refl
gone_at at zero (byte ∷ bytes) h = let e : at + zero ≡ at = omega arith in ap (λ n. migrated_byte n byte) (sym e) ∙ h byte
gone_at at (suc j) (byte ∷ bytes) h = let e : at + 1 + j ≡ at + suc j = omega arith in gone_at (at + 1) j bytes (λ other. ap (λ n. migrated_byte n other) e ∙ h other)

-- ---- one slot
abbrev nowhere : Stretch
nowhere = record { start = 0; sectors = 0 }

-- the bytes of a slot, and of the same slot with no extent but the first
pub record IsOfOne (new old : List ℕ) : Type 0 where
  pub front : part new 0 34 ≡ part old 0 34
  pub second : stretch_at 34 new ≡ nowhere
  pub third : stretch_at 38 new ≡ nowhere
  pub fourth : stretch_at 42 new ≡ nowhere

zero_number : (xs : List ℕ) (d : ℕ) → slice_index xs d ≡ 0 → slice_index xs (d + 1) ≡ 0 → big_number 2 (drop d xs) ≡ 0
zero_number xs d a b =
    let e : d + 0 ≡ d = omega arith in
    let f : slice_index (drop d xs) 0 ≡ 0 = get_or-drop d xs 0 0 ∙ ap (slice_index xs) e ∙ a in
    let g : slice_index (drop d xs) 1 ≡ 0 = get_or-drop d xs 1 0 ∙ b in
    rw (f, g) refl

nothing_at : (xs : List ℕ) (d : ℕ) → ((k : ℕ) → d ≤ k → k < d + 4 → slice_index xs k ≡ 0) → stretch_at d xs ≡ nowhere
nothing_at xs d gone =
    let a = zero_number xs d (gone d (omega arith) (omega arith)) (gone (d + 1) (omega arith) (omega arith)) in
    let b = zero_number xs (d + 2) (gone (d + 2) (omega arith) (omega arith)) (gone (d + 2 + 1) (omega arith) (omega arith)) in
    rw (a, b) refl

gone_in : (bytes : List ℕ) (m : ℕ) → 4 ≤ m → m < 100 → (d : ℕ) → 34 ≤ d → d < 46 → slice_index (part (migrated_bytes 0 bytes) (64 * m) 64) d ≡ 0
gone_in bytes m low high d from to =
    ap (λ l. slice_index l d) (part_migrated bytes (64 * m) 64)
    ∙ gone_at (64 * m) d (part bytes (64 * m) 64) (λ byte. further_gone (64 * m + d) byte (omega (arith, low)) (omega (arith, high, to)) (omega (arith, from, to)) (omega (arith, from, to)))

-- slots are counted through all three areas, from the header on
pub slot_of_one : (bytes : List ℕ) (m : ℕ) → 4 ≤ m → m < 100 → IsOfOne (part (migrated_bytes 0 bytes) (64 * m) 64) (part bytes (64 * m) 64)
slot_of_one bytes m low high = record {
  front = part_part (migrated_bytes 0 bytes) (64 * m) 64 0 34 (omega arith)
      ∙ kept_part bytes (64 * m + 0) 34 (λ j byte from to. kept_byte j byte (omega (arith, from, low)) (λ e. omega (arith, from, low, e)) (λ e. omega (arith, from, low, e)) (before_further j (omega (arith, from, to))))
      ∙ sym (part_part bytes (64 * m) 64 0 34 (omega arith));
  second = nothing_at (part (migrated_bytes 0 bytes) (64 * m) 64) 34 (λ k from to. gone_in bytes m low high k from (omega (arith, to)));
  third = nothing_at (part (migrated_bytes 0 bytes) (64 * m) 64) 38 (λ k from to. gone_in bytes m low high k (omega (arith, from)) (omega (arith, to)));
  fourth = nothing_at (part (migrated_bytes 0 bytes) (64 * m) 64) 42 (λ k from to. gone_in bytes m low high k (omega (arith, from)) to);
}

-- ---- its label
used_alone : (e : Stretch) (b : Bool) → is_unused e ≡ b → used (e ∷ nowhere ∷ nowhere ∷ nowhere ∷ []) ≡ used (e ∷ [])
used_alone e true h = rw h refl
used_alone e false h = rw h refl

module _ (new old : List ℕ) (is : IsOfOne new old) where
  same : (at w : ℕ) → at + w ≤ 34 → part new at w ≡ part old at w
  same at w h = same_within new old 0 34 at w is.front (omega arith) (omega (arith, h))

  number : (w at : ℕ) → at + w ≤ 34 → big_number w (drop at new) ≡ big_number w (drop at old)
  number w at h = same_number new old w at (same at w h)

  byte : (at : ℕ) → at + 1 ≤ 34 → slice_index new at ≡ slice_index old at
  byte at h = same_index new old at (same at 1 h)

  extents : extents_in Second new ≡ extents_in First old
  extents =
      let first : stretch_at 16 new ≡ stretch_at 16 old = ap₂ (λ a b. record { start = a; sectors = b }) (number 2 16 (omega arith)) (number 2 18 (omega arith)) in
      ap (λ e. used (e ∷ stretch_at 34 new ∷ stretch_at 38 new ∷ stretch_at 42 new ∷ [])) first
      ∙ ap (λ e. used (stretch_at 16 old ∷ e ∷ stretch_at 38 new ∷ stretch_at 42 new ∷ [])) is.second
      ∙ ap (λ e. used (stretch_at 16 old ∷ nowhere ∷ e ∷ stretch_at 42 new ∷ [])) is.third
      ∙ ap (λ e. used (stretch_at 16 old ∷ nowhere ∷ nowhere ∷ e ∷ [])) is.fourth
      ∙ used_alone (stretch_at 16 old) (is_unused (stretch_at 16 old)) refl

  fields : (name : Option Name) (organization : Option Organization) (retention : Option Retention) → label_with Second new name organization retention ≡ label_with First old name organization retention
  fields None organization retention = refl
  fields (Some name) None retention = refl
  fields (Some name) (Some organization) None = refl
  fields (Some name) (Some organization) (Some retention) =
      rw (number 2 11 (omega arith), byte 13 (omega arith), number 2 14 (omega arith), extents, number 4 20 (omega arith), number 4 24 (omega arith), same 28 6 (omega arith)) refl

  name : name_in new ≡ name_in old
  name = ap name_by (same 1 8 (omega arith))

  label : label_in Second new ≡ label_in First old
  label =
      fields (name_in new) (organization_by (slice_index new 9)) (retention_by (slice_index new 10))
      ∙ ap (λ n. label_with First old n (organization_by (slice_index new 9)) (retention_by (slice_index new 10))) name
      ∙ ap (λ code. label_with First old (name_in old) (organization_by code) (retention_by (slice_index new 10))) (byte 9 (omega arith))
      ∙ ap (λ code. label_with First old (name_in old) (organization_by (slice_index old 9)) (retention_by code)) (byte 10 (omega arith))

  judged_same : (region : Stretch) (earlier : List Slot) → judged Second region earlier new ≡ judged First region earlier old
  judged_same region earlier =
      ap (λ mark. if mark == 0 then Free else (if mark == 1 then judged_label region earlier (name_in new) (label_in Second new) else Damaged (name_in new))) (byte 0 (omega arith))
      ∙ ap (λ n. if slice_index old 0 == 0 then Free else (if slice_index old 0 == 1 then judged_label region earlier n (label_in Second new) else Damaged n)) name
      ∙ ap (λ l. if slice_index old 0 == 0 then Free else (if slice_index old 0 == 1 then judged_label region earlier (name_in old) l else Damaged (name_in old))) label

-- ---- an area
pub behind_same : (region : Stretch) (area : ℕ) (new old : List (List ℕ)) (earlier : List Slot) (i n : ℕ) → ((j : ℕ) → i ≤ j → j < i + n → IsOfOne (slot_bytes area new j) (slot_bytes area old j))
    → judged_behind Second region earlier (map (slot_bytes area new) (range_with_len i n)) ≡ judged_behind First region earlier (map (slot_bytes area old) (range_with_len i n))
behind_same region area new old earlier i zero each = refl
behind_same region area new old earlier i (suc n) each =
    ap (λ slot. judged_behind Second region (earlier ++ slot ∷ []) (map (slot_bytes area new) (range_with_len (i + 1) n))) (judged_same (slot_bytes area new i) (slot_bytes area old i) (each i (omega arith) (omega arith)) region earlier)
    ∙ behind_same region area new old (earlier ++ judged First region earlier (slot_bytes area old i) ∷ []) (i + 1) n (λ j from to. each j (omega (arith, from)) (omega (arith, to)))
