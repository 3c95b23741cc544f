-- Overlapping and duplicate labels, and labels that each give their slot by themselves.
use Rattle.std.proofs.Common.{◌≡◌, ℕ, zero, suc, ◌+◌, ◌<◌, ◌==◌, ◌&&◌, Bool, true, false, not, List, [], ◌∷◌, ◌++◌, length, map, take, slice_get, slice_index, Option, Some, None, if◌then◌else◌, refl, sym, ap, ap₂, ◌∙◌, arith, length-append}
use Rattle.std.specs.List.{list_all, range_with_len}
use Rattle.std.proofs.lemmas.Bool.{and_from, eqb-true}
use Rattle.s3_cards.specs.declared.levels.LevelId.{LevelId}
use Rattle.s3_cards.specs.declared.name.Name.{Name}
use Rattle.s3_store.specs.declared.stretch.Stretch.{Stretch}
use Rattle.s3_slots.specs.Inner.Kept.{AreKept}
use Rattle.s3_slots.specs.Labels.{label_in, name_in}
use Rattle.s3_slots.specs.Slots.{is_clear, is_disentangled, is_entangled, is_entangled_label, is_well_formed, judged, judged_behind, judged_label, slot_bytes, slots_of}
use Rattle.s3_slots.specs.declared.header.Format.{Format}
use Rattle.s3_slots.specs.declared.label.FileLabel.{FileLabel}
use Rattle.s3_slots.specs.declared.slot.Slot.{Slot}
use Rattle.s3_slots.specs.declared.slot.Slot.TheVariants.{Damaged, Free, Sound}
use Rattle.s3_slots.proofs.Ranges.{take_all}
use Rattle.s3_labels.specs.Areas.{area_of}
use Rattle.s3_labels.specs.Inner.Areas.{Areas, region_at, slots_at}
use Rattle.s3_labels.specs.Inner.Labelled.{SaysSlots, slots_alone}
use Rattle.s3_labels.specs.Untangled.{IsUntangled}
use Rattle.s3_labels.proofs.Labelled.{judged_as_said}
use Rattle.s3_labels.proofs.NewSlots.{judged_behind_is, judged_later}

-- ---- one slot
abbrev pub is_sound_slot : Slot → Bool
is_sound_slot (Sound label) = true
is_sound_slot _ = false

none_clear : (extents : List Stretch) → list_all (is_clear []) extents ≡ true
none_clear [] = refl
none_clear (extent ∷ extents) = none_clear extents

alone_apart : (label : FileLabel) → is_disentangled [] label ≡ true
alone_apart label = and_from (list_all (is_clear []) label.extents) true (none_clear label.extents) refl

by_tests : (formed apart : Bool) (name : Option Name) (label : FileLabel)
    → formed && not apart ≡ is_sound_slot (if formed && true then Sound label else Damaged name) && not (is_sound_slot (if formed && apart then Sound label else Damaged name))
by_tests true true name label = refl
by_tests true false name label = refl
by_tests false true name label = refl
by_tests false false name label = refl

by_label : (region : Stretch) (earlier : List Slot) (name : Option Name) (found : Option FileLabel)
    → is_entangled_label region earlier found ≡ is_sound_slot (judged_label region [] name found) && not (is_sound_slot (judged_label region earlier name found))
by_label region earlier name None = refl
by_label region earlier name (Some label) =
    by_tests (is_well_formed region label) (is_disentangled earlier label) name label
    ∙ ap (λ b. is_sound_slot (if is_well_formed region label && b then Sound label else Damaged name) && not (is_sound_slot (judged_label region earlier name (Some label)))) (sym (alone_apart label))

abbrev by_mark : Bool → Bool → Option Name → Slot → Slot
by_mark free used name slot = if free then Free else (if used then slot else Damaged name)

by_marks : (region : Stretch) (earlier : List Slot) (free used : Bool) (name : Option Name) (found : Option FileLabel) → (free ≡ true → used ≡ false)
    → used && is_entangled_label region earlier found
    ≡ is_sound_slot (by_mark free used name (judged_label region [] name found)) && not (is_sound_slot (by_mark free used name (judged_label region earlier name found)))
by_marks region earlier true used name found one = rw (one refl) refl
by_marks region earlier false true name found one = by_label region earlier name found
by_marks region earlier false false name found one = refl

not_both : (mark : ℕ) → (mark == 0) ≡ true → (mark == 1) ≡ false
not_both mark is = let e : mark ≡ 0 = eqb-true mark 0 is in rw e refl

-- a slot is entangled if its label is valid alone and isn't valid after the slots before it
pub entangled_is : (format : Format) (region : Stretch) (earlier : List Slot) (bytes : List ℕ)
    → is_entangled format region earlier bytes ≡ is_sound_slot (judged format region [] bytes) && not (is_sound_slot (judged format region earlier bytes))
entangled_is format region earlier bytes = by_marks region earlier (slice_index bytes 0 == 0) (slice_index bytes 0 == 1) (name_in bytes) (label_in format bytes) (not_both (slice_index bytes 0))

not_more : (slot : Slot) → is_sound_slot slot && not (is_sound_slot slot) ≡ false
not_more Free = refl
not_more (Damaged name) = refl
not_more (Sound label) = refl

-- so a slot that is validated as if it were alone isn't entangled
judged_as_alone : (format : Format) (region : Stretch) (earlier : List Slot) (bytes : List ℕ) → judged format region earlier bytes ≡ judged format region [] bytes → is_entangled format region earlier bytes ≡ false
judged_as_alone format region earlier bytes same =
    entangled_is format region earlier bytes
    ∙ ap (λ behind. is_sound_slot (judged format region [] bytes) && not (is_sound_slot behind)) same
    ∙ not_more (judged format region [] bytes)

-- ---- the slots of an area
begins : (format : Format) (region : Stretch) (earlier : List Slot) (more : List (List ℕ)) → take (length earlier) (judged_behind format region earlier more) ≡ earlier
begins format region earlier more = ap (take (length earlier)) (judged_behind_is format region earlier more) ∙ take_all (length earlier) earlier (judged_later format region earlier more) refl

got_behind : (xs ys : List Slot) (x : Slot) → slice_get ((xs ++ x ∷ []) ++ ys) (length xs) ≡ Some x
got_behind [] ys x = refl
got_behind (y ∷ xs) ys x = got_behind xs ys x

-- each slot is judged behind those before it
behind_at : (format : Format) (region : Stretch) (earlier : List Slot) (more : List (List ℕ)) (i : ℕ) (bytes : List ℕ) → slice_get more i ≡ Some bytes
    → slice_get (judged_behind format region earlier more) (length earlier + i) ≡ Some (judged format region (take (length earlier + i) (judged_behind format region earlier more)) bytes)
behind_at format region earlier [] i bytes there = absurd cc
behind_at format region earlier (first ∷ more) zero bytes there =
    let e : length earlier + 0 ≡ length earlier = omega arith in
    let same : first ≡ bytes = cc in
    let slot : Slot = judged format region earlier first in
    let all : List Slot = judged_behind format region earlier (first ∷ more) in
    ap (slice_get all) e
    ∙ ap (λ slots. slice_get slots (length earlier)) (judged_behind_is format region (earlier ++ slot ∷ []) more)
    ∙ got_behind earlier (judged_later format region (earlier ++ slot ∷ []) more) slot
    ∙ ap₂ (λ slots found. Some (judged format region slots found)) (sym (ap (λ n. take n all) e ∙ begins format region earlier (first ∷ more))) same
behind_at format region earlier (first ∷ more) (suc i) bytes there =
    let slot : Slot = judged format region earlier first in
    let e : length (earlier ++ slot ∷ []) + i ≡ length earlier + suc i = omega (arith, length-append earlier (slot ∷ [])) in
    let all : List Slot = judged_behind format region (earlier ++ slot ∷ []) more in
    ap (slice_get all) (sym e)
    ∙ behind_at format region (earlier ++ slot ∷ []) more i bytes there
    ∙ ap (λ n. Some (judged format region (take n all) bytes)) e

first_judged : (format : Format) (region : Stretch) (more : List (List ℕ)) (i : ℕ) (bytes : List ℕ) → slice_get more i ≡ Some bytes
    → slice_get (judged_behind format region [] more) i ≡ Some (judged format region (take i (judged_behind format region [] more)) bytes)
first_judged format region more i bytes there =
    let all : List Slot = judged_behind format region [] more in
    let e : 0 + i ≡ i = omega arith in
    ap (slice_get all) (sym e) ∙ behind_at format region [] more i bytes there ∙ ap (λ n. Some (judged format region (take n all) bytes)) e

map_at : {X Y : Type 0} (f : X → Y) (xs : List X) (i : ℕ) (x : X) → slice_get xs i ≡ Some x → slice_get (map f xs) i ≡ Some (f x)
map_at f [] i x there = absurd cc
map_at f (y ∷ xs) zero x there = let same : y ≡ x = cc in ap (λ z. Some (f z)) same
map_at f (y ∷ xs) (suc i) x there = map_at f xs i x there

range_at : (k n i : ℕ) → i < n → slice_get (range_with_len k n) i ≡ Some (k + i)
range_at k zero i few = absurd (omega (arith, few))
range_at k (suc n) zero few = let e : k ≡ k + 0 = omega arith in ap (λ m. Some m) e
range_at k (suc n) (suc i) few = let e : k + 1 + i ≡ k + suc i = omega arith in range_at (k + 1) n i (omega (arith, few)) ∙ ap (λ m. Some m) e

from_zero : (i : ℕ) → i < 32 → slice_get (range_with_len 0 32) i ≡ Some i
from_zero i few = let e : 0 + i ≡ i = omega arith in range_at 0 32 i few ∙ ap (λ m. Some m) e

one_slot : (a b : Slot) → Some a ≡ Some b → a ≡ b
one_slot a b same = cc

-- if each slot is as its label gives it alone, none is entangled
alone_untangled : (format : Format) (region : Stretch) (area : ℕ) (contents : List (List ℕ)) → slots_alone format region area contents ≡ slots_of format region area contents → IsUntangled format region area contents
unfolding slots_of slots_alone
alone_untangled format region area contents same = λ i few.
    let bytes : List ℕ = slot_bytes area contents i in
    let there : slice_get (map (slot_bytes area contents) (range_with_len 0 32)) i ≡ Some bytes = map_at (slot_bytes area contents) (range_with_len 0 32) i i (from_zero i few) in
    let behind : slice_get (slots_of format region area contents) i ≡ Some (judged format region (take i (slots_of format region area contents)) bytes) =
    first_judged format region (map (slot_bytes area contents) (range_with_len 0 32)) i bytes there in
    let alone : slice_get (slots_alone format region area contents) i ≡ Some (judged format region [] bytes) = map_at (λ j. judged format region [] (slot_bytes area contents j)) (range_with_len 0 32) i i (from_zero i few) in
    judged_as_alone format region (take i (slots_of format region area contents)) bytes
    (one_slot (judged format region (take i (slots_of format region area contents)) bytes) (judged format region [] bytes) (sym behind ∙ ap (λ slots. slice_get slots i) (sym same) ∙ alone))

-- labels that give the slots of their level leave none entangled
pub untangled_as_said : (level : LevelId) (areas : Areas) (contents : List (List ℕ)) → AreKept (region_at level areas) (slots_at level areas) → SaysSlots level areas contents
    → IsUntangled areas.header.format (region_at level areas) (area_of level) contents
untangled_as_said level areas contents kept says =
    alone_untangled areas.header.format (region_at level areas) (area_of level) contents (says ∙ sym (judged_as_said level areas contents kept says))
