-- The labels of sound files, written one after another, are judged as those files.
use Rattle.std.proofs.Common.{◌≡◌, ℕ, zero, suc, ◌+◌, ◌-◌, ◌*◌, ◌≤◌, ◌==◌, Bool, true, false, List, [], ◌∷◌, ◌++◌, length, take, drop, replicate, slice_get, slice_index, Option, Some, None, if◌then◌else◌, refl, sym, ap, ap₂, ◌∙◌, arith, inl, inr, append_assoc, length-append, subst}
use Rattle.std.specs.Bool.{⊤}
use Rattle.std.specs.List.{flat_map}
use Rattle.std.specs.Simd.{first_chunks}
use Rattle.std.proofs.lemmas.Bool.{and_parts}
use Rattle.std.proofs.lemmas.Grind.{flat_map-append}
use Rattle.std.proofs.lemmas.List.{drop_at, take_at, replicate-append-replicate, length-replicate}
use Rattle.byteorder.specs.Endian.{big_bytes}
use Rattle.s3_cards.specs.declared.name.Name.{Name}
use Rattle.s3_cards.specs.declared.retention.Retention.{Retention}
use Rattle.s3_cards.specs.Names.{is_name}
use Rattle.s3_store.specs.Stretches.{end_of}
use Rattle.s3_store.specs.Bytes.{part}
use Rattle.s3_store.specs.declared.stretch.Stretch.{Stretch}
use Rattle.s3_slots.specs.Header.{stretch_at}
use Rattle.s3_slots.specs.Inner.Labels.{extent_at, extent_bytes, label_bytes, organization_code, retention_code}
use Rattle.s3_slots.specs.Labels.{extents_in, label_in, label_with, name_in, organization_by, retention_by, used_count}
use Rattle.s3_slots.specs.Slots.{is_disentangled, is_sound, is_well_formed, judged, judged_behind, judged_label}
use Rattle.s3_slots.specs.declared.header.Format.{Format}
use Rattle.s3_slots.specs.declared.header.Format.TheVariants.{First, Second}
use Rattle.s3_slots.specs.declared.label.FileLabel.{FileLabel}
use Rattle.s3_slots.specs.declared.label.Organization.{Organization}
use Rattle.s3_slots.specs.declared.slot.Slot.{Slot}
use Rattle.s3_slots.specs.declared.slot.Slot.TheVariants.{Damaged, Free, Sound}
use Rattle.s3_slots.proofs.Keeping.{push_cases}
use Rattle.s3_slots.proofs.ReadBack.{reads_back}
use Rattle.s3_labels.specs.Inner.Images.{master_bytes, master_slot, moved_label}
use Rattle.s3_labels.proofs.Moved.{AreFormed, IsRead, moved_formed, moved_read, moved_sound, target, writable}
use Rattle.s3_labels.proofs.Regions.{IsRegion}
use Rattle.s3_labels.proofs.Sectors.{part_length}

-- ---- what is read of a slot
short_take : (n : ℕ) (xs : List Stretch) → length (take n xs) ≤ length xs
short_take zero xs = omega arith
short_take (suc n) [] = omega arith
short_take (suc n) (x ∷ xs) = let e = short_take n xs in omega (arith, e)

few_extents : (format : Format) (bytes : List ℕ) → length (extents_in format bytes) ≤ 4
few_extents First bytes = let e = short_take (used_count (stretch_at 16 bytes ∷ [])) (stretch_at 16 bytes ∷ []) in omega (arith, e)
few_extents Second bytes =
    let all : List Stretch = stretch_at 16 bytes ∷ stretch_at 34 bytes ∷ stretch_at 38 bytes ∷ stretch_at 42 bytes ∷ [] in
    short_take (used_count all) all

some_same : (a b : FileLabel) → Some a ≡ Some b → a ≡ b
some_same a b h = cc

name_read : (codes : List ℕ) (b : Bool) (name : Name) → is_name codes ≡ b → (if b then Some (record { codes = codes }) else None) ≡ Some name → (name.codes ≡ codes) × (is_name name.codes ≡ true)
name_read codes true name e h = let same : record { codes = codes } ≡ name = cc in let codes_same : name.codes ≡ codes = sym (ap (λ (n : Name). n.codes) same) in (codes_same, ap is_name codes_same ∙ e)
name_read codes false name e h = absurd cc

fields_read : (format : Format) (bytes : List ℕ) (name : Option Name) (organization : Option Organization) (retention : Option Retention) (label : FileLabel) → length bytes ≡ 64 → name_in bytes ≡ name
    → label_with format bytes name organization retention ≡ Some label → IsRead label
fields_read format bytes None organization retention label long e h = absurd cc
fields_read format bytes (Some name) None retention label long e h = absurd cc
fields_read format bytes (Some name) (Some organization) None label long e h = absurd cc
fields_read format bytes (Some name) (Some organization) (Some retention) label long e h =
    let same = some_same _ label h in
    let names = ap (λ (l : FileLabel). l.name) same in
    let is = name_read (part bytes 1 8) (is_name (part bytes 1 8)) label.name refl (e ∙ ap Some names) in
    record {
      codes = ap length is.0 ∙ part_length bytes 1 8 (omega (arith, long));
      named = is.1;
      few = omega (arith, few_extents format bytes, ap (λ (l : FileLabel). length l.extents) same);
      date = sym (ap (λ (l : FileLabel). length l.date) same) ∙ part_length bytes 28 6 (omega (arith, long));
    }

label_read : (format : Format) (bytes : List ℕ) (label : FileLabel) → length bytes ≡ 64 → label_in format bytes ≡ Some label → IsRead label
label_read format bytes label long h = fields_read format bytes (name_in bytes) (organization_by (slice_index bytes 9)) (retention_by (slice_index bytes 10)) label long refl h

-- ---- what is known of a slot behind those that were judged before it
pub record IsSoundBehind (region : Stretch) (earlier : List Slot) (label : FileLabel) : Type 0 where
  pub sound : is_sound region earlier label ≡ true
  pub read : IsRead label

abbrev IsJudged : Stretch → List Slot → Slot → Type 0
IsJudged region earlier (Sound label) = IsSoundBehind region earlier label
IsJudged region earlier Free = ⊤
IsJudged region earlier (Damaged name) = ⊤

by_test : (region : Stretch) (earlier : List Slot) (name : Option Name) (label : FileLabel) (b : Bool) → IsRead label → is_sound region earlier label ≡ b → IsJudged region earlier (if b then Sound label else Damaged name)
by_test region earlier name label true read e = record { sound = e; read = read }
by_test region earlier name label false read e = tt

by_label : (region : Stretch) (earlier : List Slot) (name : Option Name) (found : Option FileLabel) → ((label : FileLabel) → found ≡ Some label → IsRead label) → IsJudged region earlier (judged_label region earlier name found)
by_label region earlier name None read = tt
by_label region earlier name (Some label) read = by_test region earlier name label (is_sound region earlier label) (read label refl) refl

by_mark : (region : Stretch) (earlier : List Slot) (a b : Bool) (name : Option Name) (slot : Slot) → IsJudged region earlier slot → IsJudged region earlier (if a then Free else (if b then slot else Damaged name))
by_mark region earlier true b name slot is = tt
by_mark region earlier false true name slot is = is
by_mark region earlier false false name slot is = tt

judged_is : (format : Format) (region : Stretch) (earlier : List Slot) (bytes : List ℕ) → length bytes ≡ 64 → IsJudged region earlier (judged format region earlier bytes)
judged_is format region earlier bytes long =
    by_mark region earlier (slice_index bytes 0 == 0) (slice_index bytes 0 == 1) (name_in bytes) (judged_label region earlier (name_in bytes) (label_in format bytes))
    (by_label region earlier (name_in bytes) (label_in format bytes) (λ label h. label_read format bytes label long h))

-- the slots after others, each validated after those before it
abbrev pub AreJudged : Stretch → List Slot → List Slot → Type 0
AreJudged region earlier [] = ⊤
AreJudged region earlier (slot ∷ slots) = IsJudged region earlier slot × AreJudged region (earlier ++ slot ∷ []) slots

abbrev pub judged_later : Format → Stretch → List Slot → List (List ℕ) → List Slot
judged_later format region earlier [] = []
judged_later format region earlier (bytes ∷ more) = judged format region earlier bytes ∷ judged_later format region (earlier ++ judged format region earlier bytes ∷ []) more

pub append_none : (xs : List Slot) → xs ++ [] ≡ xs
append_none [] = refl
append_none (x ∷ xs) = ap (λ l. x ∷ l) (append_none xs)

pub judged_behind_is : (format : Format) (region : Stretch) (earlier : List Slot) (more : List (List ℕ)) → judged_behind format region earlier more ≡ earlier ++ judged_later format region earlier more
judged_behind_is format region earlier [] = sym (append_none earlier)
judged_behind_is format region earlier (bytes ∷ more) =
    let slot : Slot = judged format region earlier bytes in
    judged_behind_is format region (earlier ++ judged format region earlier bytes ∷ []) more
    ∙ append_assoc earlier (slot ∷ []) (judged_later format region (earlier ++ slot ∷ []) more)

later_judged : (format : Format) (region : Stretch) (earlier : List Slot) (more : List (List ℕ)) → ((i : ℕ) (bytes : List ℕ) → slice_get more i ≡ Some bytes → length bytes ≡ 64)
    → AreJudged region earlier (judged_later format region earlier more)
later_judged format region earlier [] long = tt
later_judged format region earlier (bytes ∷ more) long =
    (judged_is format region earlier bytes (long 0 bytes refl), later_judged format region (earlier ++ judged format region earlier bytes ∷ []) more (λ i other there. long (suc i) other there))

pub slots_judged : (format : Format) (region : Stretch) (more : List (List ℕ)) → ((i : ℕ) (bytes : List ℕ) → slice_get more i ≡ Some bytes → length bytes ≡ 64)
    → AreJudged region [] (judged_behind format region [] more)
slots_judged format region more long = subst (λ slots. AreJudged region [] slots) (sym (judged_behind_is format region [] more)) (later_judged format region [] more long)

-- ---- the slots that are written of them
abbrev pub master_part : Stretch → Slot → List (List ℕ)
master_part region (Sound label) = label_bytes (moved_label region label) ∷ []
master_part region Free = []
master_part region (Damaged name) = []

pub zeros_free : (region : Stretch) (earlier : List Slot) (n : ℕ) → judged_behind Second region earlier (replicate n (replicate 64 0)) ≡ earlier ++ replicate n Free
zeros_free region earlier zero = sym (append_none earlier)
zeros_free region earlier (suc n) = zeros_free region (earlier ++ Free ∷ []) n ∙ append_assoc earlier (Free ∷ []) (replicate n Free)

mark : (label : FileLabel) → slice_index (label_bytes label) 0 ≡ 1
unfolding label_bytes
mark label = refl

sound_chosen : (region : Stretch) (earlier : List Slot) (name : Option Name) (label : FileLabel) → is_sound region earlier label ≡ true → judged_label region earlier name (Some label) ≡ Sound label
sound_chosen region earlier name label h = rw h refl

judged_written : (region : Stretch) (earlier : List Slot) (label : FileLabel) → label_in Second (label_bytes label) ≡ Some label → is_sound region earlier label ≡ true → judged Second region earlier (label_bytes label) ≡ Sound label
judged_written region earlier label back sound =
    ap (λ m. if m == 0 then Free else (if m == 1 then judged_label region earlier (name_in (label_bytes label)) (label_in Second (label_bytes label)) else Damaged (name_in (label_bytes label)))) (mark label)
    ∙ ap (judged_label region earlier (name_in (label_bytes label))) back
    ∙ sound_chosen region earlier (name_in (label_bytes label)) label sound

formed_more : (region : Stretch) (earlier : List Slot) (slot : Slot) → ((label : FileLabel) → slot ≡ Sound label → is_well_formed region label ≡ true) → AreFormed region earlier → AreFormed region (earlier ++ slot ∷ [])
formed_more region earlier slot is formed = λ i label there. elim (push_cases earlier i slot (Sound label) there) [
  | inl e ↦ is label (sym e.1)
  | inr was ↦ formed i label was
]

module _ (sectors : ℕ) (region : Stretch) (is : IsRegion sectors region) (few : sectors ≤ 65535) where
  target_few : end_of (target region) ≤ 65535
  target_few = omega (arith, is.low, is.high, few)

  written_back : (earlier : List Slot) (label : FileLabel) → AreFormed region earlier → IsSoundBehind region earlier label
      → judged Second (target region) (flat_map (master_slot region) earlier) (label_bytes (moved_label region label)) ≡ Sound (moved_label region label)
  written_back earlier label formed so =
      let parts = and_parts (is_well_formed region label) (is_disentangled earlier label) so.sound in
      let can = writable (target region) (moved_label region label) target_few (moved_formed sectors region label is parts.0) (moved_read region label so.read) in
      judged_written (target region) (flat_map (master_slot region) earlier) (moved_label region label) (reads_back (moved_label region label) can) (moved_sound sectors region earlier label is formed so.sound)

  pushed : (earlier : List Slot) (slot : Slot) → flat_map (master_slot region) (earlier ++ slot ∷ []) ≡ flat_map (master_slot region) earlier ++ flat_map (master_slot region) (slot ∷ [])
  pushed earlier slot = flat_map-append (master_slot region) earlier (slot ∷ [])

  pub judged_again : (earlier slots : List Slot) (n : ℕ) → AreFormed region earlier → AreJudged region earlier slots
      → judged_behind Second (target region) (flat_map (master_slot region) earlier) (flat_map (master_part region) slots ++ replicate n (replicate 64 0)) ≡ flat_map (master_slot region) (earlier ++ slots) ++ replicate n Free
  judged_again earlier [] n formed so =
      zeros_free (target region) (flat_map (master_slot region) earlier) n ∙ ap (λ l. flat_map (master_slot region) l ++ replicate n Free) (sym (append_none earlier))
  judged_again earlier (Free ∷ slots) n formed so =
      ap (λ l. judged_behind Second (target region) l (flat_map (master_part region) slots ++ replicate n (replicate 64 0))) (sym (pushed earlier Free ∙ append_none (flat_map (master_slot region) earlier)))
      ∙ judged_again (earlier ++ Free ∷ []) slots n (formed_more region earlier Free (λ label e. absurd cc) formed) so.1
      ∙ ap (λ l. flat_map (master_slot region) l ++ replicate n Free) (append_assoc earlier (Free ∷ []) slots)
  judged_again earlier (Damaged name ∷ slots) n formed so =
      ap (λ l. judged_behind Second (target region) l (flat_map (master_part region) slots ++ replicate n (replicate 64 0))) (sym (pushed earlier (Damaged name) ∙ append_none (flat_map (master_slot region) earlier)))
      ∙ judged_again (earlier ++ Damaged name ∷ []) slots n (formed_more region earlier (Damaged name) (λ label e. absurd cc) formed) so.1
      ∙ ap (λ l. flat_map (master_slot region) l ++ replicate n Free) (append_assoc earlier (Damaged name ∷ []) slots)
  judged_again earlier (Sound label ∷ slots) n formed so =
      let parts = and_parts (is_well_formed region label) (is_disentangled earlier label) so.0.sound in
      ap (λ slot. judged_behind Second (target region) (flat_map (master_slot region) earlier ++ slot ∷ []) (flat_map (master_part region) slots ++ replicate n (replicate 64 0))) (written_back earlier label formed so.0)
      ∙ ap (λ l. judged_behind Second (target region) l (flat_map (master_part region) slots ++ replicate n (replicate 64 0))) (sym (pushed earlier (Sound label)))
      ∙ judged_again (earlier ++ Sound label ∷ []) slots n
      (formed_more region earlier (Sound label) (λ other e. let same : label ≡ other = cc in ap (is_well_formed region) (sym same) ∙ parts.0) formed) so.1
      ∙ ap (λ l. flat_map (master_slot region) l ++ replicate n Free) (append_assoc earlier (Sound label ∷ []) slots)

-- ---- their bytes, 64 by 64
joined_length : (xs ys : List ℕ) (n m : ℕ) → length xs ≡ n → length ys ≡ m → length (xs ++ ys) ≡ n + m
joined_length xs ys n m a b = length-append xs ys ∙ ap₂ (λ x y. x + y) a b

abbrev to_kinds : FileLabel → List ℕ
to_kinds label = (1 ∷ []) ++ label.name.codes ++ (organization_code label.organization ∷ retention_code label.retention ∷ [])

abbrev to_key : FileLabel → List ℕ
to_key label = to_kinds label ++ big_bytes 2 label.record_length ++ (label.key_length ∷ []) ++ big_bytes 2 label.key_start

abbrev to_date : FileLabel → List ℕ
to_date label = to_key label ++ extent_bytes (extent_at label.extents 0) ++ big_bytes 4 label.capacity ++ big_bytes 4 label.count ++ label.date

kinds_length : (label : FileLabel) → IsRead label → length (to_kinds label) ≡ 11
kinds_length label is =
    joined_length ((1 ∷ []) ++ label.name.codes) (organization_code label.organization ∷ retention_code label.retention ∷ []) 9 2
    (joined_length (1 ∷ []) label.name.codes 1 8 refl is.codes) refl

key_length : (label : FileLabel) → IsRead label → length (to_key label) ≡ 16
key_length label is =
    joined_length (to_kinds label ++ big_bytes 2 label.record_length ++ (label.key_length ∷ [])) (big_bytes 2 label.key_start) 14 2
    (joined_length (to_kinds label ++ big_bytes 2 label.record_length) (label.key_length ∷ []) 13 1
    (joined_length (to_kinds label) (big_bytes 2 label.record_length) 11 2 (kinds_length label is) refl) refl) refl

date_length : (label : FileLabel) → IsRead label → length (to_date label) ≡ 34
date_length label is =
    joined_length (to_key label ++ extent_bytes (extent_at label.extents 0) ++ big_bytes 4 label.capacity ++ big_bytes 4 label.count) label.date 28 6
    (joined_length (to_key label ++ extent_bytes (extent_at label.extents 0) ++ big_bytes 4 label.capacity) (big_bytes 4 label.count) 24 4
    (joined_length (to_key label ++ extent_bytes (extent_at label.extents 0)) (big_bytes 4 label.capacity) 20 4
    (joined_length (to_key label) (extent_bytes (extent_at label.extents 0)) 16 4 (key_length label is) refl) refl) refl) is.date

label_length : (label : FileLabel) → IsRead label → length (label_bytes label) ≡ 64
unfolding label_bytes
label_length label is =
    let one : List ℕ = extent_bytes (extent_at label.extents 1) in
    let two : List ℕ = extent_bytes (extent_at label.extents 2) in
    let three : List ℕ = extent_bytes (extent_at label.extents 3) in
    joined_length (to_date label ++ one ++ two ++ three) (replicate 18 0) 46 18
    (joined_length (to_date label ++ one ++ two) three 42 4
    (joined_length (to_date label ++ one) two 38 4
    (joined_length (to_date label) one 34 4 (date_length label is) refl) refl) refl) refl

-- sound slots have labels of 64 bytes
slots_long : (region : Stretch) (slot : Slot) (earlier slots : List Slot) → AreJudged region earlier (slot ∷ slots) → length (master_bytes region slot) ≡ 64 * length (master_part region slot)
slots_long region Free earlier slots so = refl
slots_long region (Damaged name) earlier slots so = refl
slots_long region (Sound label) earlier slots so = label_length (moved_label region label) (moved_read region label so.0.read)

pub labels_long : (region : Stretch) (earlier slots : List Slot) → AreJudged region earlier slots → length (flat_map (master_bytes region) slots) ≡ 64 * length (flat_map (master_part region) slots)
labels_long region earlier [] so = refl
labels_long region earlier (slot ∷ slots) so =
    let one = slots_long region slot earlier slots so in
    let rest = labels_long region (earlier ++ slot ∷ []) slots so.1 in
    let bytes = length-append (master_bytes region slot) (flat_map (master_bytes region) slots) in
    let parts = length-append (master_part region slot) (flat_map (master_part region) slots) in
    bytes ∙ ap₂ (λ a b. a + b) one rest ∙ sums (length (master_part region slot)) (length (flat_map (master_part region) slots)) ∙ ap (λ n. 64 * n) (sym parts)
  where
    sums : (a b : ℕ) → 64 * a + 64 * b ≡ 64 * (a + b)
    sums a b = omega arith

pub parts_few : (region : Stretch) (slots : List Slot) → length (flat_map (master_part region) slots) ≤ length slots
parts_few region [] = omega arith
parts_few region (Free ∷ slots) = let e = parts_few region slots in omega (arith, e)
parts_few region (Damaged name ∷ slots) = let e = parts_few region slots in omega (arith, e)
parts_few region (Sound label ∷ slots) = let e = parts_few region slots in omega (arith, e)

pub parts_slots : (region : Stretch) (slots : List Slot) → length (flat_map (master_part region) slots) ≡ length (flat_map (master_slot region) slots)
parts_slots region [] = refl
parts_slots region (Free ∷ slots) = parts_slots region slots
parts_slots region (Damaged name ∷ slots) = parts_slots region slots
parts_slots region (Sound label ∷ slots) = ap suc (parts_slots region slots)

zeros_split : (z n : ℕ) (more : List ℕ) → n ≤ z → replicate z 0 ++ more ≡ replicate n 0 ++ (replicate (z - n) 0 ++ more)
zeros_split z n more h =
    let e : z ≡ n + (z - n) = omega (arith, h) in
    ap (λ k. replicate k 0 ++ more) e ∙ ap (λ l. l ++ more) (sym (replicate-append-replicate n (z - n) 0)) ∙ append_assoc (replicate n 0) (replicate (z - n) 0) more

pub chunks_zero : (n z : ℕ) (more : List ℕ) → 64 * n ≤ z → first_chunks 64 n (replicate z 0 ++ more) ≡ replicate n (replicate 64 0)
chunks_zero zero z more h = refl
chunks_zero (suc n) z more h =
    let split = zeros_split z 64 more (omega (arith, h)) in
    ap₂ (λ x xs. x ∷ xs)
    (ap (take 64) split ∙ take_at (replicate 64 0) (replicate (z - 64) 0 ++ more) 64 (length-replicate {A = ℕ} 64 0))
    (ap (λ l. first_chunks 64 n (drop 64 l)) split ∙ ap (first_chunks 64 n) (drop_at (replicate 64 0) (replicate (z - 64) 0 ++ more) 64 (length-replicate {A = ℕ} 64 0)) ∙ chunks_zero n (z - 64) more (omega (arith, h)))

pub drop_zeros : (n z : ℕ) (more : List ℕ) → n ≤ z → drop n (replicate z 0 ++ more) ≡ replicate (z - n) 0 ++ more
drop_zeros n z more h = ap (drop n) (zeros_split z n more h) ∙ drop_at (replicate n 0) (replicate (z - n) 0 ++ more) n (length-replicate {A = ℕ} n 0)

pub chunks_labels : (region : Stretch) (earlier slots : List Slot) (n : ℕ) (tail : List ℕ) → AreJudged region earlier slots → length (flat_map (master_part region) slots) ≤ n
    → first_chunks 64 n (flat_map (master_bytes region) slots ++ tail) ≡ flat_map (master_part region) slots ++ first_chunks 64 (n - length (flat_map (master_part region) slots)) tail
chunks_labels region earlier [] n tail so h = let e : n - 0 ≡ n = omega arith in rw e refl
chunks_labels region earlier (Free ∷ slots) n tail so h = chunks_labels region (earlier ++ Free ∷ []) slots n tail so.1 h
chunks_labels region earlier (Damaged name ∷ slots) n tail so h = chunks_labels region (earlier ++ Damaged name ∷ []) slots n tail so.1 h
chunks_labels region earlier (Sound label ∷ slots) zero tail so h = absurd (omega (arith, h))
chunks_labels region earlier (Sound label ∷ slots) (suc n) tail so h =
    let bytes : List ℕ = label_bytes (moved_label region label) in
    let rest : List ℕ = flat_map (master_bytes region) slots in
    let long : length (label_bytes (moved_label region label)) ≡ 64 = label_length (moved_label region label) (moved_read region label so.0.read) in
    let split = append_assoc bytes rest tail in
    ap₂ (λ x xs. x ∷ xs)
    (ap (take 64) split ∙ take_at bytes (rest ++ tail) 64 long)
    (ap (λ l. first_chunks 64 n (drop 64 l)) split ∙ ap (first_chunks 64 n) (drop_at bytes (rest ++ tail) 64 long) ∙ chunks_labels region (earlier ++ Sound label ∷ []) slots n tail so.1 (omega (arith, h))
    ∙ ap (λ k. flat_map (master_part region) slots ++ first_chunks 64 k tail) (less (length (flat_map (master_part region) slots))))
  where
    less : (m : ℕ) → n - m ≡ suc n - suc m
    less m = omega arith
