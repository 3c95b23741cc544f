-- A slot that has the same bytes and is of the same kind is the same, whatever comes before it.
use Rattle.std.proofs.Common.{◌≡◌, ℕ, zero, suc, ◌+◌, ◌<◌, ◌==◌, Bool, true, false, List, [], ◌∷◌, ◌++◌, length, map, slice_get, slice_index, Option, Some, None, if◌then◌else◌, replicate, refl, sym, ap, ap₂, ◌∙◌, arith, length-append}
use Rattle.std.specs.List.{range_with_len}
use Rattle.s3_cards.specs.declared.name.Name.{Name}
use Rattle.s3_store.specs.declared.stretch.Stretch.{Stretch}
use Rattle.s3_slots.specs.Labels.{label_in, name_in}
use Rattle.s3_slots.specs.Slots.{is_sound, judged, judged_behind, judged_label, slot_bytes, slots_of}
use Rattle.s3_slots.specs.declared.header.Format.{Format}
use Rattle.s3_slots.specs.declared.label.FileLabel.{FileLabel}
use Rattle.s3_slots.specs.declared.slot.Slot.{Slot}
use Rattle.s3_slots.specs.declared.slot.Slot.TheVariants.{Damaged, Free, Sound}
use Rattle.s3_labels.proofs.NewSlots.{judged_behind_is, judged_later}
use Rattle.s3_pack_care.specs.Inner.Kept.{alike, same_kind}

-- ---- one slot
abbrev sound_or : Bool → Option Name → FileLabel → Slot
sound_or sound name label = if sound then Sound label else Damaged name

sound_same : (a b : Bool) (name : Option Name) (label : FileLabel) → same_kind (sound_or a name label) (sound_or b name label) ≡ true → sound_or b name label ≡ sound_or a name label
sound_same true true name label h = refl
sound_same true false name label h = absurd cc
sound_same false true name label h = absurd cc
sound_same false false name label h = refl

label_same : (region : Stretch) (one other : List Slot) (name : Option Name) (found : Option FileLabel) → same_kind (judged_label region one name found) (judged_label region other name found) ≡ true
    → judged_label region other name found ≡ judged_label region one name found
label_same region one other name None h = refl
label_same region one other name (Some label) h = sound_same (is_sound region one label) (is_sound region other label) name label h

abbrev by_mark : (free used : Bool) → Option Name → Slot → Slot
by_mark free used name slot = if free then Free else (if used then slot else Damaged name)

mark_same : (free used : Bool) (name : Option Name) (one other : Slot) → (same_kind one other ≡ true → other ≡ one) → same_kind (by_mark free used name one) (by_mark free used name other) ≡ true
    → by_mark free used name other ≡ by_mark free used name one
mark_same true used name one other same h = refl
mark_same false true name one other same h = same h
mark_same false false name one other same h = refl

judged_same : (format : Format) (region : Stretch) (one other : List Slot) (bytes : List ℕ) → same_kind (judged format region one bytes) (judged format region other bytes) ≡ true
    → judged format region other bytes ≡ judged format region one bytes
judged_same format region one other bytes h =
    mark_same (slice_index bytes 0 == 0) (slice_index bytes 0 == 1) (name_in bytes) (judged_label region one (name_in bytes) (label_in format bytes)) (judged_label region other (name_in bytes) (label_in format bytes))
    (label_same region one other (name_in bytes) (label_in format bytes)) h

-- ---- a slot of an area
got_behind : (xs ys : List Slot) (x : Slot) → slice_get ((xs ++ x ∷ []) ++ ys) (length xs) ≡ Some x
got_behind [] ys x = refl
got_behind (y ∷ xs) ys x = got_behind xs ys x

-- it was judged behind some slots
pub record IsJudged (format : Format) (region : Stretch) (slots : List Slot) (i : ℕ) (bytes : List ℕ) : Type 0 where
  pub earlier : List Slot
  pub there : slice_get slots i ≡ Some (judged format region earlier bytes)

judged_there : (format : Format) (region : Stretch) (earlier : List Slot) (more : List (List ℕ)) (i : ℕ) (bytes : List ℕ) → slice_get more i ≡ Some bytes
    → IsJudged format region (judged_behind format region earlier more) (length earlier + i) bytes
judged_there format region earlier [] i bytes h = absurd cc
judged_there format region earlier (first ∷ more) zero bytes h =
    let same : first ≡ bytes = cc in
    let slot : Slot = judged format region earlier first in
    let e : length earlier + 0 ≡ length earlier = omega arith in
    record {
      earlier = earlier;
      there =
          ap (λ n. slice_get (judged_behind format region (earlier ++ slot ∷ []) more) n) e
          ∙ ap (λ slots. slice_get slots (length earlier)) (judged_behind_is format region (earlier ++ slot ∷ []) more)
          ∙ got_behind earlier (judged_later format region (earlier ++ slot ∷ []) more) slot
          ∙ ap (λ b. Some (judged format region earlier b)) same;
    }
judged_there format region earlier (first ∷ more) (suc i) bytes h =
    let slot : Slot = judged format region earlier first in
    let rest = judged_there format region (earlier ++ slot ∷ []) more i bytes h in
    let e : length earlier + suc i ≡ length (earlier ++ slot ∷ []) + i = omega (arith, length-append earlier (slot ∷ [])) in
    record {
      earlier = rest.earlier;
      there = ap (λ n. slice_get (judged_behind format region (earlier ++ slot ∷ []) more) n) e ∙ rest.there;
    }

map_got : (f : ℕ → List ℕ) (a n i : ℕ) → i < n → slice_get (map f (range_with_len a n)) i ≡ Some (f (a + i))
map_got f a zero i h = absurd (omega (arith, h))
map_got f a (suc n) zero h = let e : a ≡ a + 0 = omega arith in ap (λ k. Some (f k)) e
map_got f a (suc n) (suc i) h = let e : a + 1 + i ≡ a + suc i = omega arith in map_got f (a + 1) n i (omega (arith, h)) ∙ ap (λ k. Some (f k)) e

pub slot_judged : (format : Format) (region : Stretch) (area i : ℕ) (contents : List (List ℕ)) → i < 32 → IsJudged format region (slots_of format region area contents) i (slot_bytes area contents i)
unfolding slots_of
slot_judged format region area i contents few =
    let e : 0 + i ≡ i = omega arith in
    let is = judged_there format region [] (map (slot_bytes area contents) (range_with_len 0 32)) i (slot_bytes area contents i) (map_got (slot_bytes area contents) 0 32 i few ∙ ap (λ k. Some (slot_bytes area contents k)) e) in
    record { earlier = is.earlier; there = ap (λ n. slice_get (slots_of format region area contents) n) (sym e) ∙ is.there }

-- a slot with the same bytes that is of the same kind is the same
pub slot_same : (format : Format) (region : Stretch) (area i : ℕ) (old new : List (List ℕ)) → i < 32 → slot_bytes area new i ≡ slot_bytes area old i
    → alike (slice_get (slots_of format region area old) i) (slice_get (slots_of format region area new) i) ≡ true
    → slice_get (slots_of format region area new) i ≡ slice_get (slots_of format region area old) i
slot_same format region area i old new few same h =
    let was = slot_judged format region area i old few in
    let is = slot_judged format region area i new few in
    let now : slice_get (slots_of format region area new) i ≡ Some (judged format region is.earlier (slot_bytes area old i)) = is.there ∙ ap (λ b. Some (judged format region is.earlier b)) same in
    let kinds : same_kind (judged format region was.earlier (slot_bytes area old i)) (judged format region is.earlier (slot_bytes area old i)) ≡ true = sym (ap₂ alike was.there now) ∙ h in
    now ∙ ap Some (judged_same format region was.earlier is.earlier (slot_bytes area old i) kinds) ∙ sym was.there

-- a slot of zeros is free
pub zeros_free : (format : Format) (region : Stretch) (area i : ℕ) (contents : List (List ℕ)) → i < 32 → slot_bytes area contents i ≡ replicate 64 0 → slice_get (slots_of format region area contents) i ≡ Some Free
zeros_free format region area i contents few zeros =
    let is = slot_judged format region area i contents few in
    is.there ∙ ap (λ b. Some (judged format region is.earlier b)) zeros
