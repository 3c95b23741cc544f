-- Slots that are judged anew where the label of one of them has another count.
use Rattle.std.proofs.Common.{◌≡◌, ◌≢◌, ℕ, zero, suc, ◌+◌, ◌^◌, ◌<◌, ◌≤◌, ◌==◌, ◌&&◌, ◌||◌, Bool, true, false, not, List, [], ◌∷◌, ◌++◌, length, map, slice_get, slice_set, slice_index, Option, Some, None, if◌then◌else◌, refl, sym, ap, ap₂, ◌∙◌, arith}
use Rattle.std.specs.List.{list_all, list_any, range_with_len}
use Rattle.std.proofs.lemmas.Bool.{and_from, and_parts, eqb-true}
use Rattle.std.proofs.lemmas.List.{map-append}
use Rattle.s3_cards.specs.declared.name.Name.{Name}
use Rattle.s3_store.specs.declared.stretch.Stretch.{Stretch}
use Rattle.s3_slots.specs.Labels.{label_in, name_in}
use Rattle.s3_slots.specs.Slots.{bears, is_apart_from_slot, is_clear, is_disentangled, is_sound, is_well_formed, judged, judged_label, slot_bytes, slots_of}
use Rattle.s3_slots.specs.declared.header.Format.{Format}
use Rattle.s3_slots.specs.declared.label.FileLabel.{FileLabel}
use Rattle.s3_slots.specs.declared.slot.Slot.{Slot}
use Rattle.s3_slots.specs.declared.slot.Slot.TheVariants.{Damaged, Free, Sound}
use Rattle.s3_labels.specs.Inner.Areas.{with_count_bytes}
use Rattle.s3_labels.proofs.Labelled.{sound_alone}
use Rattle.s3_labels.proofs.NewSlots.{judged_behind_is, judged_later}
use Rattle.s3_labels.proofs.Said.{counted_alone, slot_long}
use Rattle.s3_load.specs.Inner.Filling.{counted}

-- ---- slots beside which others are judged: their counts make no difference
abbrev uncounted : Slot → Slot
uncounted Free = Free
uncounted (Damaged name) = Damaged name
uncounted (Sound label) = Sound (record label { count = 0 })

apart_alike : (stretch : Stretch) (slot : Slot) → is_apart_from_slot stretch (uncounted slot) ≡ is_apart_from_slot stretch slot
apart_alike stretch Free = refl
apart_alike stretch (Damaged name) = refl
apart_alike stretch (Sound label) = refl

clear_alike : (slots : List Slot) (stretch : Stretch) → is_clear (map uncounted slots) stretch ≡ is_clear slots stretch
clear_alike [] stretch = refl
clear_alike (slot ∷ slots) stretch = ap₂ (λ a b. a && b) (apart_alike stretch slot) (clear_alike slots stretch)

all_clear_alike : (slots : List Slot) (extents : List Stretch) → list_all (is_clear (map uncounted slots)) extents ≡ list_all (is_clear slots) extents
all_clear_alike slots [] = refl
all_clear_alike slots (extent ∷ extents) = ap₂ (λ a b. a && b) (clear_alike slots extent) (all_clear_alike slots extents)

bears_alike : (name : Name) (slot : Slot) → bears name (uncounted slot) ≡ bears name slot
bears_alike name Free = refl
bears_alike name (Damaged other) = refl
bears_alike name (Sound label) = refl

any_bears_alike : (name : Name) (slots : List Slot) → list_any (bears name) (map uncounted slots) ≡ list_any (bears name) slots
any_bears_alike name [] = refl
any_bears_alike name (slot ∷ slots) = ap₂ (λ a b. a || b) (bears_alike name slot) (any_bears_alike name slots)

disentangled_alike : (slots : List Slot) (label : FileLabel) → is_disentangled (map uncounted slots) label ≡ is_disentangled slots label
disentangled_alike slots label = ap₂ (λ a b. a && not b) (all_clear_alike slots label.extents) (any_bears_alike label.name slots)

disentangled_same : (one other : List Slot) (label : FileLabel) → map uncounted one ≡ map uncounted other → is_disentangled other label ≡ is_disentangled one label
disentangled_same one other label same = sym (disentangled_alike other label) ∙ ap (λ slots. is_disentangled slots label) (sym same) ∙ disentangled_alike one label

label_same : (region : Stretch) (one other : List Slot) (name : Option Name) (found : Option FileLabel) → map uncounted one ≡ map uncounted other → judged_label region other name found ≡ judged_label region one name found
label_same region one other name None same = refl
label_same region one other name (Some label) same =
    ap (λ apart. if is_well_formed region label && apart then Sound label else Damaged name) (disentangled_same one other label same)

judged_same : (format : Format) (region : Stretch) (one other : List Slot) (bytes : List ℕ) → map uncounted one ≡ map uncounted other → judged format region other bytes ≡ judged format region one bytes
judged_same format region one other bytes same =
    ap (λ slot. if slice_index bytes 0 == 0 then Free else (if slice_index bytes 0 == 1 then slot else Damaged (name_in bytes))) (label_same region one other (name_in bytes) (label_in format bytes) same)

more_same : (one other : List Slot) (first second : Slot) → map uncounted one ≡ map uncounted other → uncounted first ≡ uncounted second → map uncounted (one ++ first ∷ []) ≡ map uncounted (other ++ second ∷ [])
more_same one other first second same alike = map-append uncounted one (first ∷ []) ∙ ap₂ (λ slots slot. slots ++ slot ∷ []) same alike ∙ sym (map-append uncounted other (second ∷ []))

later_same : (format : Format) (region : Stretch) (one other : List Slot) (more : List (List ℕ)) → map uncounted one ≡ map uncounted other → judged_later format region other more ≡ judged_later format region one more
later_same format region one other [] same = refl
later_same format region one other (bytes ∷ more) same =
    let slot : Slot = judged format region one bytes in
    let is : judged format region other bytes ≡ slot = judged_same format region one other bytes same in
    ap₂ (λ x xs. x ∷ xs) is
    (ap (λ s. judged_later format region (other ++ s ∷ []) more) is ∙ later_same format region (one ++ slot ∷ []) (other ++ slot ∷ []) more (more_same one other slot slot same refl))

-- ---- the slot of a sound label
pub record IsLabelled (format : Format) (region : Stretch) (earlier : List Slot) (bytes : List ℕ) (label : FileLabel) : Type 0 where
  pub marked : slice_index bytes 0 ≡ 1
  pub read : label_in format bytes ≡ Some label
  pub formed : is_well_formed region label ≡ true
  pub apart : is_disentangled earlier label ≡ true

pub labelled : (format : Format) (region : Stretch) (earlier : List Slot) (bytes : List ℕ) (label : FileLabel) → judged format region earlier bytes ≡ Sound label → IsLabelled format region earlier bytes label
labelled format region earlier bytes label h = by (slice_index bytes 0 == 0) (slice_index bytes 0 == 1) refl (label_in format bytes) refl h
  where
    tested : (b : Bool) (found : FileLabel) → is_sound region earlier found ≡ b → (if b then Sound found else Damaged (name_in bytes)) ≡ Sound label → (found ≡ label) × (is_sound region earlier found ≡ true)
    tested true found is e = (cc, is)
    tested false found is e = absurd cc

    by : (a b : Bool) → (slice_index bytes 0 == 1) ≡ b → (found : Option FileLabel) → label_in format bytes ≡ found
        → (if a then Free else (if b then judged_label region earlier (name_in bytes) found else Damaged (name_in bytes))) ≡ Sound label → IsLabelled format region earlier bytes label
    by true b marked found read e = absurd cc
    by false true marked None read e = absurd cc
    by false true marked (Some found) read e =
        let is = tested (is_sound region earlier found) found refl e in
        let sound : is_sound region earlier label ≡ true = ap (is_sound region earlier) (sym is.0) ∙ is.1 in
        let parts = and_parts (is_well_formed region label) (is_disentangled earlier label) sound in
        record { marked = eqb-true (slice_index bytes 0) 1 marked; read = read ∙ ap Some is.0; formed = parts.0; apart = parts.1 }
    by false false marked found read e = absurd cc

sound_behind : (format : Format) (region : Stretch) (earlier : List Slot) (bytes : List ℕ) (label : FileLabel) → slice_index bytes 0 ≡ 1 → label_in format bytes ≡ Some label → is_well_formed region label ≡ true → is_disentangled earlier label ≡ true
    → judged format region earlier bytes ≡ Sound label
sound_behind format region earlier bytes label marked read formed apart =
    ap₂ (λ mark found. if mark == 0 then Free else (if mark == 1 then judged_label region earlier (name_in bytes) found else Damaged (name_in bytes))) marked read
    ∙ ap (λ b. if b then Sound label else Damaged (name_in bytes)) (and_from (is_well_formed region label) (is_disentangled earlier label) formed apart)

-- ---- a label with another count
counted_behind : (format : Format) (region : Stretch) (earlier : List Slot) (bytes : List ℕ) (label : FileLabel) (n : ℕ) → 28 ≤ length bytes → n < 2 ^ 32 → judged format region earlier bytes ≡ Sound label
    → is_well_formed region (counted label n) ≡ true → judged format region earlier (with_count_bytes n bytes) ≡ Sound (counted label n)
counted_behind format region earlier bytes label n long small was formed =
    let of = labelled format region earlier bytes label was in
    let alone = counted_alone bytes n long small format region label (sound_alone format region bytes label of.marked of.read of.formed) formed in
    let is = labelled format region [] (with_count_bytes n bytes) (counted label n) alone in
    sound_behind format region earlier (with_count_bytes n bytes) (counted label n) is.marked is.read formed of.apart

counted_later : (format : Format) (region : Stretch) (earlier : List Slot) (more : List (List ℕ)) (k : ℕ) (bytes : List ℕ) (label : FileLabel) (n : ℕ) → slice_get more k ≡ Some bytes → 28 ≤ length bytes → n < 2 ^ 32
    → slice_get (judged_later format region earlier more) k ≡ Some (Sound label) → is_well_formed region (counted label n) ≡ true
    → judged_later format region earlier (slice_set more k (with_count_bytes n bytes)) ≡ slice_set (judged_later format region earlier more) k (Sound (counted label n))
counted_later format region earlier [] k bytes label n at long small there formed = absurd cc
counted_later format region earlier (first ∷ more) zero bytes label n at long small there formed =
    let same : first ≡ bytes = cc in
    let was : judged format region earlier first ≡ Sound label = cc in
    let is : judged format region earlier (with_count_bytes n bytes) ≡ Sound (counted label n) =
    counted_behind format region earlier bytes label n long small (ap (judged format region earlier) (sym same) ∙ was) formed in
    let alike : uncounted (judged format region earlier first) ≡ uncounted (Sound (counted label n)) = ap uncounted was in
    ap₂ (λ x xs. x ∷ xs) is
    (ap (λ s. judged_later format region (earlier ++ s ∷ []) more) is
    ∙ later_same format region (earlier ++ judged format region earlier first ∷ []) (earlier ++ Sound (counted label n) ∷ []) more
    (more_same earlier earlier (judged format region earlier first) (Sound (counted label n)) refl alike))
counted_later format region earlier (first ∷ more) (suc k) bytes label n at long small there formed =
    let slot : Slot = judged format region earlier first in
    ap (λ slots. slot ∷ slots) (counted_later format region (earlier ++ slot ∷ []) more k bytes label n at long small there formed)

-- ---- the bytes of the slots
map_same : (f g : ℕ → List ℕ) (i n : ℕ) → ((j : ℕ) → i ≤ j → g j ≡ f j) → map g (range_with_len i n) ≡ map f (range_with_len i n)
map_same f g i zero each = refl
map_same f g i (suc n) each = ap₂ (λ x xs. x ∷ xs) (each i (omega arith)) (map_same f g (i + 1) n (λ j low. each j (omega (arith, low))))

map_set : (f g : ℕ → List ℕ) (i n p : ℕ) → p < n → ((j : ℕ) → j ≢ i + p → g j ≡ f j) → map g (range_with_len i n) ≡ slice_set (map f (range_with_len i n)) p (g (i + p))
map_set f g i zero p within each = absurd (omega (arith, within))
map_set f g i (suc n) zero within each =
    let e : i ≡ i + 0 = omega arith in
    ap₂ (λ x xs. x ∷ xs) (ap g e) (map_same f g (i + 1) n (λ j low. each j (λ same. omega (arith, low, same))))
map_set f g i (suc n) (suc p) within each =
    let e : i + 1 + p ≡ i + suc p = omega arith in
    ap₂ (λ x xs. x ∷ xs) (each i (λ same. omega (arith, same)))
    (map_set f g (i + 1) n p (omega (arith, within)) (λ j differ. each j (λ same. differ (omega (arith, same)))) ∙ ap (λ k. slice_set (map f (range_with_len (i + 1) n)) p (g k)) e)

map_got : (f : ℕ → List ℕ) (a n i : ℕ) → i < n → slice_get (map f (range_with_len a n)) i ≡ Some (f (a + i))
map_got f a zero i h = absurd (omega (arith, h))
map_got f a (suc n) zero h = let e : a ≡ a + 0 = omega arith in ap (λ k. Some (f k)) e
map_got f a (suc n) (suc i) h = let e : a + 1 + i ≡ a + suc i = omega arith in map_got f (a + 1) n i (omega (arith, h)) ∙ ap (λ k. Some (f k)) e

pub slots_later : (format : Format) (region : Stretch) (area : ℕ) (contents : List (List ℕ)) → slots_of format region area contents ≡ judged_later format region [] (map (slot_bytes area contents) (range_with_len 0 32))
unfolding slots_of
slots_later format region area contents = judged_behind_is format region [] (map (slot_bytes area contents) (range_with_len 0 32))

-- Where the label of a file has another count that the file may have, its slot alone is another one, also among damaged slots.
pub counted_slots : (format : Format) (region : Stretch) (area place n : ℕ) (label : FileLabel) (old new : List (List ℕ)) → place < 32 → n < 2 ^ 32 → slice_get (slots_of format region area old) place ≡ Some (Sound label)
    → is_well_formed region (counted label n) ≡ true → slot_bytes area new place ≡ with_count_bytes n (slot_bytes area old place) → ((j : ℕ) → j ≢ place → slot_bytes area new j ≡ slot_bytes area old j)
    → slots_of format region area new ≡ slice_set (slots_of format region area old) place (Sound (counted label n))
counted_slots format region area place n label old new within small there formed written others =
    let before : List (List ℕ) = map (slot_bytes area old) (range_with_len 0 32) in
    let e : 0 + place ≡ place = omega arith in
    let bytes : List ℕ = slot_bytes area old place in
    let got : slice_get before place ≡ Some bytes = map_got (slot_bytes area old) 0 32 place within ∙ ap (λ k. Some (slot_bytes area old k)) e in
    let set : map (slot_bytes area new) (range_with_len 0 32) ≡ slice_set before place (with_count_bytes n bytes) =
    map_set (slot_bytes area old) (slot_bytes area new) 0 32 place within (λ j differ. others j (λ same. differ (same ∙ sym e)))
    ∙ ap (λ k. slice_set before place (slot_bytes area new k)) e ∙ ap (slice_set before place) written in
    let long : 28 ≤ length bytes = let l = slot_long area place old in omega (arith, l) in
    let was : slice_get (judged_later format region [] before) place ≡ Some (Sound label) = sym (ap (λ slots. slice_get slots place) (slots_later format region area old)) ∙ there in
    slots_later format region area new ∙ ap (judged_later format region []) set ∙ counted_later format region [] before place bytes label n got long small was formed
    ∙ sym (ap (λ slots. slice_set slots place (Sound (counted label n))) (slots_later format region area old))
