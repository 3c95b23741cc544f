-- Where entries and keys lie in the bytes of a file.
use Rattle.std.proofs.Common.{◌≡◌, ℕ, zero, suc, ◌+◌, ◌-◌, ◌*◌, ◌/◌, ◌%◌, ◌^◌, ◌<◌, ◌≤◌, ◌⊎◌, inl, inr, List, [], ◌∷◌, ◌++◌, length, length-take-le, length-drop, take, drop, replicate, map, slice_get, Some, refl, sym, ap, subst, ◌∙◌, arith}
use Rattle.std.proofs.lemmas.List.{drop-drop, drop-take, take-take, length-replicate, take_at, drop_at, take_all}
use Rattle.std.proofs.Math.Nat.{mul-le-mul_left}
use Rattle.std.specs.List.{range_with_len}
use borrow.Rule.Slice.PartMut.{mid_of}
use Rattle.byteorder.specs.Endian.{big_bytes, big_number}
use Rattle.byteorder.specs.Numbers.{big_number-reads_back}
use Rattle.s3_store.specs.Bytes.{part}
use Rattle.s3_store.specs.Inner.Bytes.{SameOutside}
use Rattle.s3_slots.specs.Slots.{record_sectors, entries_per_sector}
use Rattle.s3_files.specs.Records.{records_in}
use Rattle.s3_files.proofs.PartLemmas.{length-part, part-before, part-after}
use Rattle.s3_files.proofs.RecordLemmas.{length_records, get_record, records_before}
use Rattle.s3_keyed.specs.KeyOrder.{number_of}
use Rattle.s3_keyed.specs.Index.{Layout, key_of, keys_of, entry_in, entry_at, entry_place, index_in}
use Rattle.s3_keyed.specs.Inner.Index.{keys_at}

-- ---- division

not_below : (q r : ℕ) → (r < q → ⊥) → q ≤ r
not_below q r h = omega (arith, h)

-- division keeps the order
div-le : (n a b : ℕ) → 0 < n → a ≤ b → a / n ≤ b / n
div-le n a b pos le = by (a / n) (b / n) (omega arith) (omega arith)
  where
    by : (q r : ℕ) → n * q ≤ a → b < n * (r + 1) → q ≤ r
    by q r low high = not_below q r (λ below. let up : r + 1 ≤ q = omega arith in let m = mul-le-mul_left n up in omega arith)

pub rows-fit : (per j capacity : ℕ) → 0 < per → j < capacity → j / per + 1 ≤ (capacity + per - 1) / per
rows-fit per j capacity pos below = by (j / per) ((capacity + per - 1) / per) (omega arith) (omega arith)
  where
    by : (r q : ℕ) → per * r ≤ j → capacity + per - 1 < per * (q + 1) → r + 1 ≤ q
    by r q low high = not_below (r + 1) q (λ less. let up : q ≤ r = omega arith in let m = mul-le-mul_left per up in omega arith)

some_fit : (w : ℕ) → 0 < w → w ≤ 256 → 0 < 256 / w
some_fit w pos le = not_zero (256 / w) (λ none. let m : w * (256 / w) ≡ w * 0 = ap (λ q. w * q) none in omega arith)
  where
    not_zero : (q : ℕ) → (q ≡ 0 → ⊥) → 0 < q
    not_zero zero h = absurd (h refl)
    not_zero (suc q) h = omega arith

pub entry_within : (start w j capacity n : ℕ) → 0 < w → w ≤ 256 → j < capacity → start + (capacity + 256 / w - 1) / (256 / w) ≤ n → 256 * (start + j / (256 / w)) + j % (256 / w) * w + w ≤ 256 * n
entry_within start w j capacity n pos le below fits =
    let per = 256 / w in
    let some = some_fit w pos le in
    let row = rows-fit per j capacity some below in
    let column : j % per + 1 ≤ per = omega arith in
    let wide = mul-le-mul_left w column in
    let whole : w * per ≤ 256 = omega arith in
    omega (arith, row, wide, whole)

-- its sector is one of the file, and it begins within it
pub sector_there : (start w i capacity n : ℕ) → 0 < w → w ≤ 256 → i < capacity → start + (capacity + 256 / w - 1) / (256 / w) ≤ n → start + i / (256 / w) < n
sector_there start w i capacity n pos le below fits = omega (arith, rows-fit (256 / w) i capacity (some_fit w pos le) below, fits)

pub row_there : (w i : ℕ) → 0 < w → w ≤ 256 → i % (256 / w) * w < 256
row_there w i pos le =
    let some = some_fit w pos le in
    by (256 / w) (i % (256 / w)) some (omega (arith, some)) (omega (arith, pos))
  where
    by : (per row : ℕ) → 0 < per → row < per → w * per ≤ 256 → row * w < 256
    by per row some below whole = omega (arith, mul-le-mul_left w below, whole, pos)

-- a file has no more entries than its sectors have bytes
pub entries_below : (start w capacity n : ℕ) → 0 < w → w ≤ 256 → start + (capacity + 256 / w - 1) / (256 / w) ≤ n → capacity ≤ 256 * n
entries_below start w zero n pos le fits = omega arith
entries_below start w (suc j) n pos le fits =
    let within = entry_within start w j (suc j) n pos le (omega arith) fits in
    let some = some_fit w pos le in
    by (j / (256 / w)) (j % (256 / w)) (256 / w) (omega arith) (omega arith) within
  where
    by : (q r per : ℕ) → j ≡ per * q + r → per ≤ 256 → 256 * (start + q) + r * w + w ≤ 256 * n → suc j ≤ 256 * n
    by q r per whole few below = omega (arith, mul-le-mul_left q few, mul-le-mul_left r pos)

-- an entry lies in its sector
pub entry_inside : (w j : ℕ) → 0 < w → j < 256 / w → j * w + w ≤ 256
entry_inside w j pos below =
    let m = mul-le-mul_left w below in
    let whole : w * (256 / w) ≤ 256 = omega arith in
    omega (arith, m, whole)

pub length_entry : (j k : ℕ) (sector entry : List ℕ) → length sector ≡ 256 → j < 256 / (k + 4) → entry ≡ part sector (j * (k + 4)) (k + 4) → length entry ≡ k + 4
length_entry j k sector entry long inside is = ap length is ∙ length-part (j * (k + 4)) (k + 4) sector (omega (arith, entry_inside (k + 4) j (omega arith) inside))

-- ---- parts of parts

pub part_part : (a long start width : ℕ) (s : List ℕ) → start + width ≤ long → part (part s a long) start width ≡ part s (a + start) width
part_part a long start width s h =
    let rest : start + (long - start) ≡ long = omega arith in
    ap (λ n. take width (drop start (take n (drop a s)))) (sym rest)
    ∙ ap (take width) (drop-take start (long - start) (drop a s))
    ∙ take-take width (long - start) (drop start (drop a s)) (omega arith)
    ∙ ap (take width) (drop-drop start a s)

slice_get_map : {X Y : Type 0} (f : X → Y) (xs : List X) (i : ℕ) (x : X) → slice_get xs i ≡ Some x → slice_get (map f xs) i ≡ Some (f x)
slice_get_map f [] i x h = absurd cc
slice_get_map f (y ∷ xs) zero x h = let same : y ≡ x = cc in ap (λ z. Some (f z)) same
slice_get_map f (y ∷ xs) (suc i) x h = slice_get_map f xs i x h

length_mapped : {X Y : Type 0} (f : X → Y) (xs : List X) → length (map f xs) ≡ length xs
length_mapped f [] = refl
length_mapped f (x ∷ xs) = ap suc (length_mapped f xs)

pub length_buffer : (m n : ℕ) → n ≤ m → length {A = ℕ} (take n (replicate m 0)) ≡ n
length_buffer m n h = let zeros : List ℕ = replicate m 0 in length-take-le n zeros (omega (arith, length-replicate {A = ℕ} m 0))

-- an entry in its buffer, and the key in it
pub entry_buffer : (k n : ℕ) → n ≡ k → k ≤ 29 → n + 4 ≤ 33
entry_buffer k n is short = omega arith

pub key_in_entry : (n : ℕ) (bytes : List ℕ) → length bytes ≡ n + 4 → n ≤ length bytes
key_in_entry n bytes long = omega arith

pub length_key : (k n : ℕ) (bytes : List ℕ) → n ≡ k → length bytes ≡ n + 4 → length (take n bytes) ≡ k
length_key k n bytes is long = length-take-le n bytes (omega arith) ∙ is

-- ---- keys

pub length_keys : (layout : Layout) (count : ℕ) (bytes : List ℕ) → length (keys_at layout count bytes) ≡ count
unfolding keys_of
length_keys layout count bytes = length_mapped (key_of layout.key) (records_in layout.record_length count bytes) ∙ length_records layout.record_length count bytes

pub get_key : (layout : Layout) (count i : ℕ) (bytes : List ℕ) → i < count → slice_get (keys_at layout count bytes) i ≡ Some (key_of layout.key (part bytes (i * layout.record_length) layout.record_length))
unfolding keys_of
get_key layout count i bytes h = slice_get_map (key_of layout.key) (records_in layout.record_length count bytes) i (part bytes (i * layout.record_length) layout.record_length) (get_record layout.record_length count i bytes h)

-- the bytes of a key in the bytes of the file
pub key_there : (layout : Layout) (i : ℕ) (bytes : List ℕ) → 1 ≤ layout.key.start → layout.key.start + layout.key.length ≤ layout.record_length + 1 → key_of layout.key (part bytes (i * layout.record_length) layout.record_length) ≡ number_of (part bytes (i * layout.record_length + (layout.key.start - 1)) layout.key.length)
key_there layout i bytes some inside = ap number_of (part_part (i * layout.record_length) layout.record_length (layout.key.start - 1) layout.key.length bytes (omega arith))

-- bytes of the file in their sector
pub part_held : (at place width : ℕ) (bytes sector : List ℕ) → place ≡ at / 256 → at % 256 + width ≤ 256 → sector ≡ part bytes (256 * place) 256 → part sector (at % 256) width ≡ part bytes at width
part_held at place width bytes sector is_place within is_sector =
    let whole : 256 * place + at % 256 ≡ at = omega (arith, is_place) in
    ap (λ l. part l (at % 256) width) is_sector ∙ part_part (256 * place) 256 (at % 256) width bytes within ∙ ap (λ a. part bytes a width) whole

-- an entry, in the bytes of its sector
pub entry_there : (layout : Layout) (i place : ℕ) (bytes sector : List ℕ) → layout.key.length ≤ 29 → place ≡ i / entries_per_sector layout.key.length → sector ≡ part bytes (256 * (record_sectors layout.capacity layout.record_length + place)) 256 → entry_in layout.key.length (part sector (i % entries_per_sector layout.key.length * (layout.key.length + 4)) (layout.key.length + 4)) ≡ entry_at layout bytes i
unfolding entry_at
entry_there layout i place bytes sector short is_place is_sector =
    let w = layout.key.length + 4 in
    let j = i % entries_per_sector layout.key.length in
    let start = 256 * (record_sectors layout.capacity layout.record_length + place) in
    let some = some_fit w (omega arith) (omega arith) in
    let order : j * w + start ≡ entry_place layout i = rw is_place (omega arith) in
    ap (entry_in layout.key.length)
    (ap (λ l. part l (j * w) w) is_sector ∙ part_part start 256 (j * w) w bytes (entry_inside w j (omega arith) (omega arith)) ∙ ap (λ a. part bytes a w) (omega (arith, order)))

-- the number of an entry comes after its key
pub number_there : (layout : Layout) (i at : ℕ) (bytes : List ℕ) → at ≡ entry_place layout i + layout.key.length → big_number 4 (part bytes at 4) ≡ (entry_at layout bytes i).number
unfolding entry_at
number_there layout i at bytes is =
    let k = layout.key.length in
    let place = entry_place layout i in
    ap (λ a. big_number 4 (part bytes a 4)) is
    ∙ ap (big_number 4) (sym (drop-take k 4 (drop place bytes) ∙ ap (take 4) (drop-drop k place bytes)))

-- ---- an entry is written

in_order : (start w i j : ℕ) → 0 < w → w ≤ 256 → i < j → 256 * (start + i / (256 / w)) + i % (256 / w) * w + w ≤ 256 * (start + j / (256 / w)) + j % (256 / w) * w
in_order start w i j pos le below =
    let per = 256 / w in
    let some = some_fit w pos le in
    let rows = div-le per i j some (omega arith) in
    by per some (i / per) (j / per) rows refl refl (omega arith)
  where
    same_row : (per q : ℕ) → 0 < per → i / per ≡ q → j / per ≡ q → 256 * (start + i / per) + i % per * w + w ≤ 256 * (start + j / per) + j % per * w
    same_row per q some here there =
        let a : per * (i / per) ≡ per * q = ap (λ n. per * n) here in
        let b : per * (j / per) ≡ per * q = ap (λ n. per * n) there in
        let column : i % per + 1 ≤ j % per = omega arith in
        omega (arith, mul-le-mul_left w column)

    later_row : (per : ℕ) → 0 < per → w * per ≤ 256 → i / per < j / per → 256 * (start + i / per) + i % per * w + w ≤ 256 * (start + j / per) + j % per * w
    later_row per some whole less =
        let column : i % per + 1 ≤ per = omega arith in
        omega (arith, mul-le-mul_left w column)

    split : (a b : ℕ) → a ≤ b → (a < b) ⊎ (a ≡ b)
    split zero zero h = inr refl
    split zero (suc b) h = inl (omega arith)
    split (suc a) zero h = absurd (omega arith)
    split (suc a) (suc b) h = elim (split a b (omega arith)) [ inl l ↦ inl (omega arith) | inr e ↦ inr (ap suc e) ]

    by : (per : ℕ) → 0 < per → (q r : ℕ) → q ≤ r → i / per ≡ q → j / per ≡ r → w * per ≤ 256 → 256 * (start + i / per) + i % per * w + w ≤ 256 * (start + j / per) + j % per * w
    by per some q r rows here there whole = elim (split q r rows) [
      | inl less ↦ later_row per some whole (omega arith)
      | inr same ↦ same_row per q some here (there ∙ sym same)
    ]

either_way : (i j : ℕ) → (i ≡ j → ⊥) → (i < j) ⊎ (j < i)
either_way zero zero h = absurd (h refl)
either_way zero (suc j) h = inl (omega arith)
either_way (suc i) zero h = inr (omega arith)
either_way (suc i) (suc j) h = elim (either_way i j (λ e. h (ap suc e))) [ inl l ↦ inl (omega arith) | inr r ↦ inr (omega arith) ]

-- the others stay
pub other_entry : (layout : Layout) (s t : List ℕ) (i j : ℕ) → layout.key.length ≤ 29 → (i ≡ j → ⊥) → SameOutside (entry_place layout j) (layout.key.length + 4) s t → entry_at layout t i ≡ entry_at layout s i
unfolding entry_at
other_entry layout s t i j short other same = ap (entry_in layout.key.length) (by (either_way i j other))
  where
    start : ℕ
    start = record_sectors layout.capacity layout.record_length

    w : ℕ
    w = layout.key.length + 4

    by : (i < j) ⊎ (j < i) → part t (entry_place layout i) (layout.key.length + 4) ≡ part s (entry_place layout i) (layout.key.length + 4)
    by (inl lower) = part-before (entry_place layout j) (layout.key.length + 4) (entry_place layout i) (layout.key.length + 4) s t (in_order (record_sectors layout.capacity layout.record_length) (layout.key.length + 4) i j (omega arith) (omega arith) lower) same
    by (inr higher) = part-after (entry_place layout j) (layout.key.length + 4) (entry_place layout i) (layout.key.length + 4) s t (in_order (record_sectors layout.capacity layout.record_length) (layout.key.length + 4) j i (omega arith) (omega arith) higher) same

-- so do the records
pub same_records : (layout : Layout) (s t : List ℕ) (count j : ℕ) → count ≤ layout.capacity → SameOutside (entry_place layout j) (layout.key.length + 4) s t → records_in layout.record_length count t ≡ records_in layout.record_length count s
same_records layout s t count j counted same =
    records_before layout.record_length count (entry_place layout j) (layout.key.length + 4) s t (let m = mul-le-mul_left layout.record_length counted in omega (arith, m)) same

-- ---- a record is written: the entries stay

pub entries_stay : (layout : Layout) (s t : List ℕ) (at width i : ℕ) → at + width ≤ layout.capacity * layout.record_length → SameOutside at width s t → entry_at layout t i ≡ entry_at layout s i
unfolding entry_at
entries_stay layout s t at width i inside same = ap (entry_in layout.key.length) (part-after at width (entry_place layout i) (layout.key.length + 4) s t (omega arith) same)

mapped_same : {X : Type 0} (f g : ℕ → X) (a n : ℕ) → ((k : ℕ) → g k ≡ f k) → map g (range_with_len a n) ≡ map f (range_with_len a n)
mapped_same f g a zero h = refl
mapped_same f g a (suc n) h = let head = h a in let tail = mapped_same f g (a + 1) n h in cc

pub index_stays : (layout : Layout) (s t : List ℕ) (at width n : ℕ) → at + width ≤ layout.capacity * layout.record_length → SameOutside at width s t → index_in layout n t ≡ index_in layout n s
unfolding index_in
index_stays layout s t at width n inside same = mapped_same (entry_at layout s) (entry_at layout t) 0 n (λ k. entries_stay layout s t at width k inside same)

-- ---- the bytes of an entry

pub encoded : (k n : ℕ) (front rest key : List ℕ) → length front ≡ k → n < 256 ^ 4 → number_of front ≡ number_of key → entry_in k (front ++ (big_bytes 4 n ++ rest)) ≡ record { key = number_of key; number = n }
encoded k n front rest key long small same =
    let a : take k (front ++ (big_bytes 4 n ++ rest)) ≡ front = take_at front (big_bytes 4 n ++ rest) k long in
    let b : drop k (front ++ (big_bytes 4 n ++ rest)) ≡ big_bytes 4 n ++ rest = drop_at front (big_bytes 4 n ++ rest) k long in
    let number = big_number-reads_back 4 n rest small in
    rw (a, b, same, number) refl

pub placed : (at place long width : ℕ) (s t : List ℕ) → at ≡ place → long ≡ width → SameOutside at long s t → SameOutside place width s t
placed at place long width s t e f same = subst (λ p. SameOutside p width s t) e (subst (λ n. SameOutside at n s t) f same)

pub rest_of : (n a : ℕ) (xs : List ℕ) → length xs ≡ n → mid_of a (n - a) xs ≡ drop a xs
rest_of n a xs long = take_all (n - a) (drop a xs) (omega (arith, length-drop a xs))
