-- What a mount finds on a new pack: its regions, the sound files of an old one as masters, and their bytes.
use Rattle.std.proofs.Common.{◌≡◌, ℕ, ◌+◌, ◌-◌, ◌*◌, ◌%◌, ◌<◌, ◌≤◌, ◌==◌, ◌&&◌, ◌||◌, Bool, true, false, nat_le, not, List, [], ◌∷◌, ◌++◌, length, take, drop, replicate, Some, Ok, Err, if◌then◌else◌, refl, sym, ap, ◌∙◌, arith, append_assoc, length-append}
use Rattle.std.specs.Prelude.{nat_lt}
use Rattle.std.specs.List.{flat_map, list_all}
use Rattle.std.specs.Simd.{first_chunks}
use Rattle.std.proofs.Math.Seq.{drop-append-add}
use Rattle.std.proofs.lemmas.Bool.{and_from, eq-eqb, le-leb, le-ltb, or_left, or_right}
use Rattle.std.proofs.lemmas.List.{drop_at, take_at, length-replicate}
use Rattle.byteorder.specs.Endian.{big_number, big_bytes}
use Rattle.byteorder.specs.Numbers.{big_number-reads_back}
use Rattle.s3_store.specs.Bytes.{sector_bytes, part}
use Rattle.s3_store.specs.Stretches.{end_of}
use Rattle.s3_store.specs.declared.stretch.Stretch.{Stretch}
use Rattle.s3_slots.specs.Header.{accepted, are_quotas, are_regions, format_in, header_in, is_region, mounted, regions}
use Rattle.s3_slots.specs.Stretches.{is_apart, is_apart_from_all, are_apart}
use Rattle.s3_slots.specs.declared.header.Format.TheVariants.{Second}
use Rattle.s3_slots.specs.declared.header.Header.{Header}
use Rattle.s3_slots.specs.declared.header.MountFault.TheVariants.{BadHeader, BadRegions, Short}
use Rattle.s3_slots.specs.Slots.{judged_behind, slots_of}
use Rattle.s3_slots.specs.declared.slot.Slot.{Slot}
use Rattle.s3_slots.specs.declared.slot.Slot.TheVariants.{Free}
use Rattle.s3_labels.specs.Contents.{contents_of}
use Rattle.s3_labels.specs.Inner.Images.{header_bytes, image_of, master_bytes, master_slot, with_free, padded, regions_of, Masters}
use Rattle.s3_labels.proofs.Headers.{second_format, still_mounted}
use Rattle.s3_labels.proofs.Moved.{target}
use Rattle.s3_labels.proofs.NewSlots.{AreJudged, chunks_labels, chunks_zero, drop_zeros, judged_again, master_part, parts_slots, zeros_free}
use Rattle.s3_labels.proofs.Regions.{IsRegion}
use Rattle.s3_labels.proofs.Sectors.{counted_sectors, drop_drop, sector_here, slots_here}

-- ---- its header reads back
number_back : (n : ℕ) → n < 65536 → big_number 2 (big_bytes 2 n) ≡ n
number_back n small = big_number-reads_back 2 n [] small

abbrev header_of : (total start sectors second_start second_sectors third_start third_sectors q r : ℕ) → Header
header_of total start sectors second_start second_sectors third_start third_sectors q r =
    record {
      format = Second;
      total = total;
      masters = record { start = start; sectors = sectors };
      level_one = record { start = second_start; sectors = second_sectors };
      level_two = record { start = third_start; sectors = third_sectors };
      quota_one = q;
      quota_two = r;
    }

same_header : (q r a b c d e f g t u v w x y z : ℕ) → a ≡ t → b ≡ u → c ≡ v → d ≡ w → e ≡ x → f ≡ y → g ≡ z → header_of a b c d e f g q r ≡ header_of t u v w x y z q r
same_header q r a b c d e f g t u v w x y z h i j k l m n = rw (h, i, j, k, l, m, n) refl

header_back : (m one two q r : ℕ) (more : List ℕ) → m + one + two ≤ 2723 → header_in Second (header_bytes (regions_of m one two q r) ++ more) ≡ regions_of m one two q r
header_back m one two q r more few =
    same_header q r _ _ _ _ _ _ _ _ _ _ _ _ _ _
    (number_back (168 + 24 * (m + one + two)) (omega (arith, few)))
    (number_back 168 (omega arith)) (number_back (24 * m) (omega (arith, few)))
    (number_back (168 + 24 * m) (omega (arith, few))) (number_back (24 * one) (omega (arith, few)))
    (number_back (168 + 24 * (m + one)) (omega (arith, few))) (number_back (24 * two) (omega (arith, few)))

format_back : (m one two q r : ℕ) (more : List ℕ) → format_in (header_bytes (regions_of m one two q r) ++ more) ≡ Some Second
format_back m one two q r more = second_format (header_bytes (regions_of m one two q r) ++ more) refl

-- ---- and is accepted
region_fine : (total : ℕ) (region : Stretch) → 168 ≤ region.start → region.start % 24 ≡ 0 → region.sectors % 24 ≡ 0 → end_of region ≤ total → is_region total region ≡ true
region_fine total region low start sectors high =
    and_from (nat_le 168 region.start && (region.start % 24 == 0) && (region.sectors % 24 == 0)) (nat_le (end_of region) total)
    (and_from (nat_le 168 region.start && (region.start % 24 == 0)) (region.sectors % 24 == 0)
    (and_from (nat_le 168 region.start) (region.start % 24 == 0) (le-leb 168 region.start low) (eq-eqb (region.start % 24) 0 start)) (eq-eqb (region.sectors % 24) 0 sectors)) (le-leb (end_of region) total high)

before_apart : (a b : Stretch) → end_of a ≤ b.start → is_apart a b ≡ true
before_apart a b h =
    or_left ((a.sectors == 0) || (b.sectors == 0) || nat_le (end_of a) b.start) (nat_le (end_of b) a.start)
    (or_right ((a.sectors == 0) || (b.sectors == 0)) (nat_le (end_of a) b.start) (le-leb (end_of a) b.start h))

regions_fine : (m one two q r : ℕ) → are_regions (regions_of m one two q r) ≡ true
regions_fine m one two q r =
    let header : Header = regions_of m one two q r in
    let first = region_fine header.total header.masters (omega arith) (omega arith) (omega arith) (omega arith) in
    let second = region_fine header.total header.level_one (omega arith) (omega arith) (omega arith) (omega arith) in
    let third = region_fine header.total header.level_two (omega arith) (omega arith) (omega arith) (omega arith) in
    let one_two = before_apart header.masters header.level_one (omega arith) in
    let one_three = before_apart header.masters header.level_two (omega arith) in
    let two_three = before_apart header.level_one header.level_two (omega arith) in
    and_from (list_all (is_region header.total) (regions header)) (are_apart (regions header))
    (and_from (is_region header.total header.masters) (list_all (is_region header.total) (header.level_one ∷ header.level_two ∷ [])) first
    (and_from (is_region header.total header.level_one) (list_all (is_region header.total) (header.level_two ∷ [])) second
    (and_from (is_region header.total header.level_two) true third refl)))
    (and_from (is_apart_from_all header.masters (header.level_one ∷ header.level_two ∷ [])) (are_apart (header.level_one ∷ header.level_two ∷ []))
    (and_from (is_apart header.masters header.level_one) (is_apart_from_all header.masters (header.level_two ∷ [])) one_two (and_from (is_apart header.masters header.level_two) true one_three refl))
    (and_from (is_apart_from_all header.level_one (header.level_two ∷ [])) (are_apart (header.level_two ∷ [])) (and_from (is_apart header.level_one header.level_two) true two_three refl) refl))

passes : (quotas fine short : Bool) (header : Header) → quotas ≡ true → fine ≡ true → short ≡ false
    → (if not quotas then Err BadHeader else (if not fine then Err BadRegions else (if short then Err Short else Ok header))) ≡ Ok header
passes false fine short header a b c = absurd cc
passes true false short header a b c = absurd cc
passes true true true header a b c = absurd cc
passes true true false header a b c = refl

new_accepted : (m one two q r : ℕ) → are_quotas q r ≡ true → accepted (168 + 24 * (m + one + two)) (Some (regions_of m one two q r)) ≡ Ok (regions_of m one two q r)
new_accepted m one two q r quotas =
    let total : ℕ = 168 + 24 * (m + one + two) in
    passes (are_quotas q r) (are_regions (regions_of m one two q r)) (nat_lt total total) (regions_of m one two q r) quotas (regions_fine m one two q r) (le-ltb total total (omega arith))

-- ---- its bytes
-- the header's sector, the labels of used slots, zeros up to the first region, that region, and zeros
pub record IsNewPack (bytes front names region : List ℕ) (used total : ℕ) : Type 0 where
  pub more : ℕ
  pub is : bytes ≡ front ++ (names ++ (replicate (42752 - 64 * used) 0 ++ (region ++ replicate more 0)))
  pub sector : length front ≡ 256
  pub slots : length names ≡ 64 * used
  pub few : used ≤ 32
  pub room : 168 ≤ total
  pub long : length bytes ≡ 256 * total

padded_length : (width : ℕ) (bytes : List ℕ) → length bytes ≤ width → length (padded width bytes) ≡ width
unfolding padded
padded_length width bytes h =
    let all = length-append bytes (replicate (width - length bytes) 0) in
    let zeros = length-replicate {A = ℕ} (width - length bytes) 0 in
    omega (arith, all, zeros, h)

abbrev pub header_sector : Header → List ℕ
header_sector header = padded 256 (header_bytes header)

regrouped : (a b c d e : List ℕ) → (((a ++ b) ++ c) ++ d) ++ e ≡ a ++ (b ++ (c ++ (d ++ e)))
regrouped a b c d e = append_assoc ((a ++ b) ++ c) d e ∙ append_assoc (a ++ b) c (d ++ e) ∙ append_assoc a b (c ++ (d ++ e))

-- the zeros up to the first region
to_region : (header labels : List ℕ) (used : ℕ) → length header ≡ 256 → length labels ≡ 64 * used → padded 43008 (header ++ labels) ≡ (header ++ labels) ++ replicate (42752 - 64 * used) 0
unfolding padded
to_region header labels used h l =
    let all = length-append header labels in
    let e : 43008 - length (header ++ labels) ≡ 42752 - 64 * used = omega (arith, all, h, l) in
    ap (λ n. (header ++ labels) ++ replicate n 0) e

header_long : (header : Header) → length (header_sector header) ≡ 256
header_long header = let e : length (header_bytes header) ≡ 24 = refl in padded_length 256 (header_bytes header) (omega (arith, e))

pub new_bytes : (header : Header) (masters : Masters) (used sectors : ℕ) → length masters.labels ≡ 64 * used → used ≤ 32 → length masters.region ≤ 256 * sectors → 168 + sectors ≤ header.total
    → IsNewPack (image_of header masters) (header_sector header) masters.labels masters.region used header.total
unfolding padded image_of
new_bytes header masters used sectors labels few region room =
    let h = header_long header in
    let front = to_region (header_sector header) masters.labels used h labels in
    let before = padded_length 43008 (header_sector header ++ masters.labels) (omega (arith, length-append (header_sector header) masters.labels, h, labels, few)) in
    let all = length-append (padded 43008 (header_sector header ++ masters.labels)) masters.region in
    let more : ℕ = 256 * header.total - length (padded 43008 (header_sector header ++ masters.labels) ++ masters.region) in
    record {
      more = more;
      is = ap (λ l. (l ++ masters.region) ++ replicate more 0) front ∙ regrouped (header_sector header) masters.labels (replicate (42752 - 64 * used) 0) masters.region (replicate more 0);
      sector = h;
      slots = labels;
      few = few;
      room = omega (arith, room);
      long = padded_length (256 * header.total) (padded 43008 (header_sector header ++ masters.labels) ++ masters.region) (omega (arith, before, all, region, room));
    }

module _ (bytes front names region : List ℕ) (used total : ℕ) (new : IsNewPack bytes front names region used total) (most : total ≤ 65535) where
  abbrev tail : List ℕ
  tail = region ++ replicate new.more 0

  behind_front : drop 256 bytes ≡ names ++ (replicate (42752 - 64 * used) 0 ++ tail)
  behind_front = ap (drop 256) new.is ∙ drop_at front (names ++ (replicate (42752 - 64 * used) 0 ++ tail)) 256 new.sector

  pub first_sector : sector_bytes (contents_of bytes) 0 ≡ front
  first_sector =
      sector_here bytes 0 (omega arith) (omega (arith, new.long, new.room))
      ∙ ap (take 256) new.is ∙ take_at front (names ++ (replicate (42752 - 64 * used) 0 ++ tail)) 256 new.sector

  pub sectors_there : length (contents_of bytes) ≡ total
  sectors_there = counted_sectors bytes total new.long most

  behind_slots : (n : ℕ) → 64 * used ≤ n → n ≤ 42752 → drop (256 + n) bytes ≡ replicate (42752 - n) 0 ++ tail
  behind_slots n low high =
      let e : n ≡ length names + (n - 64 * used) = omega (arith, new.slots, low) in
      let f : 42752 - 64 * used - (n - 64 * used) ≡ 42752 - n = omega (arith, low, high) in
      sym (drop_drop n 256 bytes) ∙ ap (drop n) behind_front ∙ ap (λ m. drop m (names ++ (replicate (42752 - 64 * used) 0 ++ tail))) e
      ∙ drop-append-add names (replicate (42752 - 64 * used) 0 ++ tail) (n - 64 * used)
      ∙ drop_zeros (n - 64 * used) (42752 - 64 * used) tail (omega (arith, low, high)) ∙ ap (λ m. replicate m 0 ++ tail) f

  -- an area after the labels is empty
  pub empty_area : (within : Stretch) (area : ℕ) → area < 3 → 64 * used ≤ 2048 * area → slots_of Second within area (contents_of bytes) ≡ replicate 32 Free
  empty_area within area small behind =
      let e : 64 * (4 + 32 * area) ≡ 256 + 2048 * area = omega arith in
      slots_here Second within bytes area small (omega (arith, new.long, new.room))
      ∙ ap (λ n. judged_behind Second within [] (first_chunks 64 32 (drop n bytes))) e
      ∙ ap (λ l. judged_behind Second within [] (first_chunks 64 32 l)) (behind_slots (2048 * area) behind (omega (arith, small)))
      ∙ ap (judged_behind Second within []) (chunks_zero 32 (42752 - 2048 * area) tail (omega (arith, small)))
      ∙ zeros_free within [] 32

  pub behind_spool : drop 43008 bytes ≡ tail
  behind_spool = behind_slots 42752 (omega (arith, new.few)) (omega arith)

  -- a sector of the first region
  pub region_here : (n : ℕ) → 168 + n < total → sector_bytes (contents_of bytes) (168 + n) ≡ part (region ++ replicate new.more 0) (256 * n) 256
  region_here n there =
      let e : 256 * (168 + n) ≡ 43008 + 256 * n = omega arith in
      sector_here bytes (168 + n) (omega (arith, there, most)) (omega (arith, there, new.long))
      ∙ ap (λ m. part bytes m 256) e ∙ ap (take 256) (sym (drop_drop (256 * n) 43008 bytes) ∙ ap (drop (256 * n)) behind_spool)

-- ---- its masters
module _ (bytes front region : List ℕ) (total : ℕ) (old : Stretch) (slots : List Slot) (most : total ≤ 65535)
    (new : IsNewPack bytes front (flat_map (master_bytes old) slots) region (length (flat_map (master_part old) slots)) total) where
  pub masters_judged : (sectors : ℕ) → IsRegion sectors old → sectors ≤ 65535 → AreJudged old [] slots → slots_of Second (target old) 0 (contents_of bytes) ≡ with_free (flat_map (master_slot old) slots)
  masters_judged sectors is few so =
      let used : ℕ = length (flat_map (master_part old) slots) in
      let rest : List ℕ = region ++ replicate new.more 0 in
      slots_here Second (target old) bytes 0 (omega arith) (omega (arith, new.long, new.room))
      ∙ ap (λ l. judged_behind Second (target old) [] (first_chunks 64 32 l)) (behind_front bytes front (flat_map (master_bytes old) slots) region used total new most)
      ∙ ap (judged_behind Second (target old) []) (chunks_labels old [] slots 32 (replicate (42752 - 64 * used) 0 ++ rest) so new.few)
      ∙ ap (λ l. judged_behind Second (target old) [] (flat_map (master_part old) slots ++ l)) (chunks_zero (32 - used) (42752 - 64 * used) rest (omega arith))
      ∙ judged_again sectors old is few [] slots (32 - used) (λ i label there. absurd cc) so
      ∙ ap (λ n. flat_map (master_slot old) slots ++ replicate (32 - n) Free) (parts_slots old slots)

-- ---- its header
header_read : (m one two q r : ℕ) → m + one + two ≤ 2723 → header_in Second (header_sector (regions_of m one two q r)) ≡ regions_of m one two q r
unfolding padded
header_read m one two q r few = header_back m one two q r (replicate (256 - length (header_bytes (regions_of m one two q r))) 0) few

format_read : (m one two q r : ℕ) → format_in (header_sector (regions_of m one two q r)) ≡ Some Second
unfolding padded
format_read m one two q r = format_back m one two q r (replicate (256 - length (header_bytes (regions_of m one two q r))) 0)

pub new_mounted : (bytes names region : List ℕ) (used m one two q r : ℕ) → m + one + two ≤ 2723 → are_quotas q r ≡ true
    → IsNewPack bytes (header_sector (regions_of m one two q r)) names region used (168 + 24 * (m + one + two)) → mounted (contents_of bytes) ≡ Ok (regions_of m one two q r)
new_mounted bytes names region used m one two q r few quotas new =
    let front : List ℕ = header_sector (regions_of m one two q r) in
    let total : ℕ = 168 + 24 * (m + one + two) in
    let most : 168 + 24 * (m + one + two) ≤ 65535 = omega (arith, few) in
    let first = first_sector bytes front names region used total new most in
    let count = sectors_there bytes front names region used total new most in
    still_mounted (nat_lt (length (contents_of bytes)) 168) (length (contents_of bytes)) (sector_bytes (contents_of bytes) 0) (format_in (sector_bytes (contents_of bytes) 0)) (regions_of m one two q r)
    (le-ltb (length (contents_of bytes)) 168 (omega (arith, count)))
    (ap format_in first ∙ format_read m one two q r) (ap (header_in Second) first ∙ header_read m one two q r few)
    (ap (λ n. accepted n (Some (regions_of m one two q r))) count ∙ new_accepted m one two q r quotas)
