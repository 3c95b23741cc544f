-- A migrated pack has the regions, the slots and the files of the old one.
use Rattle.std.proofs.Common.{◌≡◌, ℕ, zero, suc, ◌+◌, ◌*◌, ◌/◌, ◌<◌, ◌≤◌, Bool, true, false, List, [], ◌∷◌, ◌++◌, codes, length, take, drop, slice_get, slice_index, Some, Ok, refl, sym, ap, ap₂, ◌∙◌, arith, subst}
use Rattle.std.specs.Prelude.{nat_lt}
use Rattle.std.specs.List.{Contains, flat_map}
use Rattle.std.specs.Simd.{first_chunks}
use Rattle.std.proofs.lemmas.Bool.{le-ltb}
use Rattle.byteorder.specs.Endian.{big_number}
use Rattle.s3_store.specs.Bytes.{sector_bytes, part, bytes_at}
use Rattle.s3_store.specs.declared.stretch.Stretch.{Stretch}
use Rattle.s3_slots.specs.Header.{accepted, are_quotas, are_regions, format_in, header_in, mounted, stretch_at}
use Rattle.s3_slots.specs.Labels.{file_bytes, sectors_of}
use Rattle.s3_slots.specs.Slots.{slots_of}
use Rattle.s3_slots.specs.Stretches.{IsIn}
use Rattle.s3_slots.specs.declared.header.Format.{Format}
use Rattle.s3_slots.specs.declared.header.Format.TheVariants.{First, Second}
use Rattle.s3_slots.specs.declared.header.Header.{Header}
use Rattle.s3_slots.specs.declared.label.FileLabel.{FileLabel}
use Rattle.s3_slots.specs.declared.slot.Slot.TheVariants.{Sound}
use Rattle.s3_slots.proofs.Judging.{slots_kept}
use Rattle.s3_slots.proofs.Keeping.{formed_parts, extents_inside}
use Rattle.s3_labels.specs.Inner.Areas.{areas_on, slots_in}
use Rattle.s3_labels.specs.Contents.{contents_of}
use Rattle.s3_labels.specs.Inner.Images.{in_second, migrated, migrated_bytes, migrated_from, migrated_by}
use Rattle.s3_labels.proofs.Headers.{first_text, header_of, second_format, still_mounted}
use Rattle.s3_labels.proofs.Migrated.{IsOfOne, behind_same, index_migrated, kept_behind, kept_header, length_migrated, part_migrated, slot_of_one}
use Rattle.s3_labels.proofs.Mounts.{mounted_itself, tested}
use Rattle.s3_labels.proofs.Regions.{IsRegion, accepted_regions}
use Rattle.s3_labels.proofs.Sectors.{part_part, part_length, same_count, same_number, same_within, sector_here, seen_sector, slot_here}

-- ---- headers of the second format
abbrev second_header : (total : ℕ) (masters level_one level_two : Stretch) (quota_one quota_two : ℕ) → Header
second_header total masters level_one level_two quota_one quota_two =
    record { format = Second; total = total; masters = masters; level_one = level_one; level_two = level_two; quota_one = quota_one; quota_two = quota_two }

same_header : (total was : ℕ) (masters masters_was one one_was two two_was : Stretch) (quota_one quota_two : ℕ) → total ≡ was → masters ≡ masters_was → one ≡ one_was → two ≡ two_was → quota_one ≡ 64 → quota_two ≡ 64
    → second_header total masters one two quota_one quota_two ≡ second_header was masters_was one_was two_was 64 64
same_header total was masters masters_was one one_was two two_was quota_one quota_two a b c d e f = rw (a, b, c, d, e, f) refl

-- ---- the bytes before the labels
module _ (old : List ℕ) (long : 256 ≤ length old) (first : format_in (part old 0 256) ≡ Some First) where
  text : take 8 (part (migrated_bytes 0 old) 0 256) ≡ codes "S3PACK02"
  text =
      part_part (migrated_bytes 0 old) 0 256 0 8 (omega arith) ∙ part_migrated old 0 8
      ∙ ap (migrated_bytes 0) (sym (part_part old 0 256 0 8 (omega arith)) ∙ first_text (part old 0 256) first)

  number : (at : ℕ) → 8 ≤ at → at + 2 ≤ 22 → big_number 2 (drop at (part (migrated_bytes 0 old) 0 256)) ≡ big_number 2 (drop at (part old 0 256))
  number at low high =
      let kept : part (part (migrated_bytes 0 old) 0 256) 8 14 ≡ part (part old 0 256) 8 14 =
      part_part (migrated_bytes 0 old) 0 256 8 14 (omega arith) ∙ kept_header old ∙ sym (part_part old 0 256 8 14 (omega arith)) in
      same_number (part (migrated_bytes 0 old) 0 256) (part old 0 256) 2 at (same_within (part (migrated_bytes 0 old) 0 256) (part old 0 256) 8 14 at 2 kept low (omega (arith, high)))

  region : (at : ℕ) → 8 ≤ at → at + 4 ≤ 22 → stretch_at at (part (migrated_bytes 0 old) 0 256) ≡ stretch_at at (part old 0 256)
  region at low high = ap₂ (λ a b. record { start = a; sectors = b }) (number at low (omega (arith, high))) (number (at + 2) (omega (arith, low)) (omega (arith, high)))

  quota_one : slice_index (part (migrated_bytes 0 old) 0 256) 22 ≡ 64
  quota_one = ap (λ l. slice_index l 22) (part_migrated old 0 256) ∙ index_migrated 0 22 (part old 0 256) (omega (arith, part_length old 0 256 (omega (arith, long))))

  quota_two : slice_index (part (migrated_bytes 0 old) 0 256) 23 ≡ 64
  quota_two = ap (λ l. slice_index l 23) (part_migrated old 0 256) ∙ index_migrated 0 23 (part old 0 256) (omega (arith, part_length old 0 256 (omega (arith, long))))

  pub header_migrated : header_in Second (part (migrated_bytes 0 old) 0 256) ≡ in_second (header_in First (part old 0 256))
  header_migrated =
      same_header _ _ _ _ _ _ _ _ _ _ (number 8 (omega arith) (omega arith)) (region 10 (omega arith) (omega arith)) (region 14 (omega arith) (omega arith)) (region 18 (omega arith) (omega arith)) quota_one quota_two

  pub format_migrated : format_in (part (migrated_bytes 0 old) 0 256) ≡ Some Second
  format_migrated = second_format (part (migrated_bytes 0 old) 0 256) text

-- ---- its header
by_format : (format : Format) (old new : List ℕ) → migrated_from old format ≡ Ok new → (format ≡ First) × (new ≡ migrated_bytes 0 old)
by_format First old new h = (refl, cc)
by_format Second old new h = absurd cc

pub migrated_is : (old new : List ℕ) (header : Header) → mounted (contents_of old) ≡ Ok header → migrated old ≡ Ok new → (header.format ≡ First) × (new ≡ migrated_bytes 0 old)
unfolding migrated
migrated_is old new header m h = by_format header.format old new (sym (ap (migrated_by old) m) ∙ h)

count_kept : (old : List ℕ) → length (contents_of (migrated_bytes 0 old)) ≡ length (contents_of old)
count_kept old = ap (λ n. length (contents_of_first n (migrated_bytes 0 old))) (length_migrated 0 old) ∙ same_count 65535 (length old / 256) (migrated_bytes 0 old) old
  where
    contents_of_first : ℕ → List ℕ → List (List ℕ)
    contents_of_first n bytes = take 65535 (first_chunks 256 (n / 256) bytes)

passed : (q r f : Bool) (header other : Header) → tested q r f header ≡ Ok header → tested q r f other ≡ Ok other
passed false r f header other h = absurd cc
passed true false f header other h = absurd cc
passed true true true header other h = absurd cc
passed true true false header other h = refl

still_accepted : (sectors : ℕ) (bytes : List ℕ) → accepted sectors (Some (header_in First bytes)) ≡ Ok (header_in First bytes) → accepted sectors (Some (in_second (header_in First bytes))) ≡ Ok (in_second (header_in First bytes))
still_accepted sectors bytes h =
    let header : Header = header_in First bytes in
    passed (are_quotas header.quota_one header.quota_two) (are_regions header) (nat_lt sectors header.total) (header_in First bytes) (in_second (header_in First bytes)) h

room_of : (old : List ℕ) (header : Header) → mounted (contents_of old) ≡ Ok header → 168 ≤ length old / 256
room_of old header m = let is = header_of (contents_of old) header m in let last = seen_sector old 167 (omega (arith, is.room)) in omega (arith, last.1)

-- over any contents, of which the first sector is what is said of it
module _ (old new : List (List ℕ)) (was now : List ℕ) (header : Header) where
  still_migrated : mounted old ≡ Ok header → header.format ≡ First → length new ≡ length old → sector_bytes old 0 ≡ was → sector_bytes new 0 ≡ now
      → (format_in was ≡ Some First → format_in now ≡ Some Second) → (format_in was ≡ Some First → header_in Second now ≡ in_second (header_in First was)) → mounted new ≡ Ok (in_second header)
  still_migrated m first count before behind format_now header_now =
      let is = header_of old header m in
      let read : header ≡ header_in First was = is.read ∙ ap (λ f. header_in f (sector_bytes old 0)) first ∙ ap (header_in First) before in
      let format : format_in was ≡ Some First = sym (ap format_in before) ∙ is.format ∙ ap Some first in
      let accepts = still_accepted (length old) was (subst (λ (h : Header). accepted (length old) (Some h) ≡ Ok h) read (mounted_itself old header m)) in
      let second : accepted (length old) (Some (in_second header)) ≡ Ok (in_second header) = subst (λ (h : Header). accepted (length old) (Some (in_second h)) ≡ Ok (in_second h)) (sym read) accepts in
      still_mounted (nat_lt (length new) 168) (length new) (sector_bytes new 0) (format_in (sector_bytes new 0)) (in_second header)
      (le-ltb (length new) 168 (omega (arith, is.room, count)))
      (ap format_in behind ∙ format_now format)
      (ap (header_in Second) behind ∙ header_now format ∙ sym (ap in_second read))
      (ap (λ n. accepted n (Some (in_second header))) count ∙ second)

pub mounted_migrated : (old : List ℕ) (header : Header) → mounted (contents_of old) ≡ Ok header → header.format ≡ First → mounted (contents_of (migrated_bytes 0 old)) ≡ Ok (in_second header)
mounted_migrated old header m first =
    let room = room_of old header m in
    let long : 256 ≤ length old = omega (arith, room) in
    still_migrated (contents_of old) (contents_of (migrated_bytes 0 old)) (part old 0 256) (part (migrated_bytes 0 old) 0 256) header m first (count_kept old)
    (sector_here old 0 (omega arith) (omega (arith, room))) (sector_here (migrated_bytes 0 old) 0 (omega arith) (omega (arith, room, length_migrated 0 old)))
    (format_migrated old long) (header_migrated old long)

-- ---- its slots
like_one : (new old a b : List ℕ) → new ≡ a → old ≡ b → IsOfOne a b → IsOfOne new old
like_one new old a b e f is = subst (λ xs. IsOfOne xs old) (sym e) (subst (λ xs. IsOfOne a xs) (sym f) is)

pub area_kept : (old : List ℕ) (region : Stretch) (area : ℕ) → area < 3 → 25 ≤ length old / 256
    → slots_of Second region area (contents_of (migrated_bytes 0 old)) ≡ slots_of First region area (contents_of old)
unfolding slots_of
area_kept old region area few room = behind_same region area (contents_of (migrated_bytes 0 old)) (contents_of old) [] 0 32 (λ j from to.
    like_one _ _ (part (migrated_bytes 0 old) (64 * (4 + 32 * area + j)) 64) (part old (64 * (4 + 32 * area + j)) 64)
    (slot_here (migrated_bytes 0 old) area j few to (omega (arith, room, length_migrated 0 old))) (slot_here old area j few to room)
    (slot_of_one old (4 + 32 * area + j) (omega arith) (omega (arith, few, to))))

pub areas_kept : (old : List ℕ) (header : Header) → mounted (contents_of old) ≡ Ok header → header.format ≡ First
    → areas_on (in_second header) (contents_of (migrated_bytes 0 old)) ≡ record (areas_on header (contents_of old)) { header = in_second header }
areas_kept old header m first =
    let room = room_of old header m in
    let each : (region : Stretch) (area : ℕ) → area < 3 → slots_of Second region area (contents_of (migrated_bytes 0 old)) ≡ slots_of header.format region area (contents_of old) =
    λ region area few. area_kept old region area few (omega (arith, room)) ∙ sym (ap (λ f. slots_of f region area (contents_of old)) first) in
    rw (each header.masters 0 (omega arith), each header.level_one 1 (omega arith), each header.level_two 2 (omega arith)) refl

-- ---- its files
joined_same : (f g : ℕ → List ℕ) (xs : List ℕ) → ((n : ℕ) → Contains xs n → f n ≡ g n) → flat_map f xs ≡ flat_map g xs
joined_same f g [] each = refl
joined_same f g (x ∷ xs) each = ap₂ (λ a b. a ++ b) (each x (0, omega arith, refl)) (joined_same f g xs (λ n has. each n (suc has.0, omega (arith, has.1), has.2)))

pub file_same : (label : FileLabel) (a b : List (List ℕ)) → ((n : ℕ) → Contains (sectors_of label) n → sector_bytes a n ≡ sector_bytes b n) → file_bytes label a ≡ file_bytes label b
unfolding file_bytes bytes_at
file_same label a b each = joined_same (sector_bytes a) (sector_bytes b) (sectors_of label) each

sector_kept : (old : List ℕ) (n : ℕ) → 25 ≤ n → n < length (contents_of old) → sector_bytes (contents_of (migrated_bytes 0 old)) n ≡ sector_bytes (contents_of old) n
sector_kept old n low there =
    let seen = seen_sector old n there in
    sector_here (migrated_bytes 0 old) n seen.0 (omega (arith, seen.1, length_migrated 0 old)) ∙ kept_behind old (256 * n) 256 (omega (arith, low)) ∙ sym (sector_here old n seen.0 seen.1)

file_in_region : (format : Format) (region : Stretch) (area i : ℕ) (label : FileLabel) (contents : List (List ℕ)) (n : ℕ) → slice_get (slots_of format region area contents) i ≡ Some (Sound label)
    → Contains (sectors_of label) n → IsIn region n
unfolding sectors_of
file_in_region format region area i label contents n there has =
    extents_inside region label.extents n (formed_parts region label ((slots_kept format region area contents).formed i label there)).room has

file_kept : (old : List ℕ) (format : Format) (region : Stretch) (area i : ℕ) (label : FileLabel) → IsRegion (length (contents_of old)) region
    → slice_get (slots_of format region area (contents_of old)) i ≡ Some (Sound label) → file_bytes label (contents_of (migrated_bytes 0 old)) ≡ file_bytes label (contents_of old)
file_kept old format region area i label is there = file_same label (contents_of (migrated_bytes 0 old)) (contents_of old) (λ n has.
    let inside = file_in_region format region area i label (contents_of old) n there has in
    sector_kept old n (omega (arith, is.low, inside.0)) (omega (arith, is.high, inside.1)))

pub files_kept : (old : List ℕ) (header : Header) (area i : ℕ) (label : FileLabel) → mounted (contents_of old) ≡ Ok header → slice_get (slots_in area (areas_on header (contents_of old))) i ≡ Some (Sound label)
    → file_bytes label (contents_of (migrated_bytes 0 old)) ≡ file_bytes label (contents_of old)
files_kept old header zero i label m there =
    file_kept old header.format header.masters 0 i label (accepted_regions (length (contents_of old)) header (mounted_itself (contents_of old) header m)).masters there
files_kept old header (suc zero) i label m there =
    file_kept old header.format header.level_one 1 i label (accepted_regions (length (contents_of old)) header (mounted_itself (contents_of old) header m)).level_one there
files_kept old header (suc (suc area)) i label m there =
    file_kept old header.format header.level_two 2 i label (accepted_regions (length (contents_of old)) header (mounted_itself (contents_of old) header m)).level_two there

-- ---- of any migrated pack
pub migrated_mounted : (old new : List ℕ) (header : Header) → mounted (contents_of old) ≡ Ok header → migrated old ≡ Ok new → mounted (contents_of new) ≡ Ok (in_second header)
migrated_mounted old new header m h = let is = migrated_is old new header m h in rw is.1 (mounted_migrated old header m is.0)

pub migrated_areas : (old new : List ℕ) (header : Header) → mounted (contents_of old) ≡ Ok header → migrated old ≡ Ok new
    → areas_on (in_second header) (contents_of new) ≡ record (areas_on header (contents_of old)) { header = in_second header }
migrated_areas old new header m h = let is = migrated_is old new header m h in rw is.1 (areas_kept old header m is.0)

pub migrated_files : (old new : List ℕ) (header : Header) (area i : ℕ) (label : FileLabel) → mounted (contents_of old) ≡ Ok header → migrated old ≡ Ok new
    → slice_get (slots_in area (areas_on header (contents_of old))) i ≡ Some (Sound label) → file_bytes label (contents_of new) ≡ file_bytes label (contents_of old)
migrated_files old new header area i label m h there = let is = migrated_is old new header m h in rw is.1 (files_kept old header area i label m there)
