-- Labels say the slots of an area without damaged ones.
use Rattle.std.proofs.Common.{◌≡◌, ℕ, suc, ◌==◌, Bool, true, false, List, [], ◌∷◌, ◌++◌, map, slice_get, slice_index, Option, Some, None, if◌then◌else◌, refl, sym, ap, ap₂, ◌∙◌}
use Rattle.std.specs.List.{range_with_len}
use Rattle.s3_cards.specs.declared.levels.LevelId.{LevelId}
use Rattle.s3_cards.specs.declared.levels.LevelId.TheVariants.{One, Two}
use Rattle.s3_cards.specs.declared.name.Name.{Name}
use Rattle.s3_store.specs.declared.stretch.Stretch.{Stretch}
use Rattle.s3_slots.specs.Labels.{label_in, name_in}
use Rattle.s3_slots.specs.Slots.{is_sound, judged, judged_label, slot_bytes, slots_of}
use Rattle.s3_slots.specs.declared.header.Format.{Format}
use Rattle.s3_slots.specs.declared.header.Header.{Header}
use Rattle.s3_slots.specs.declared.label.FileLabel.{FileLabel}
use Rattle.s3_slots.specs.declared.slot.Slot.{Slot}
use Rattle.s3_slots.specs.declared.slot.Slot.TheVariants.{Damaged, Free, Sound}
use Rattle.s3_labels.specs.Inner.Areas.{areas_on, slots_at}
use Rattle.s3_labels.specs.Inner.Labelled.{SaysSlots, slots_alone}
use Rattle.s3_labels.proofs.Labelled.{sound_alone}
use Rattle.s3_labels.proofs.NewSlots.{judged_later}
use Rattle.s3_load.proofs.CountedSlots.{labelled, slots_later}

-- ---- one slot
never_free : (region : Stretch) (earlier : List Slot) (name : Option Name) (found : Option FileLabel) → judged_label region earlier name found ≡ Free → ⊥
never_free region earlier name None h = absurd cc
never_free region earlier name (Some label) h = by (is_sound region earlier label) h
  where
    by : (b : Bool) → (if b then Sound label else Damaged name) ≡ Free → ⊥
    by true e = absurd cc
    by false e = absurd cc

free_same : (a b : Bool) (name : Option Name) (one other : Slot) → (one ≡ Free → ⊥) → (if a then Free else (if b then one else Damaged name)) ≡ Free → (if a then Free else (if b then other else Damaged name)) ≡ Free
free_same true b name one other never h = refl
free_same false true name one other never h = absurd (never h)
free_same false false name one other never h = absurd cc

alone_same : (format : Format) (region : Stretch) (earlier : List Slot) (bytes : List ℕ) (slot : Slot) → judged format region earlier bytes ≡ slot → ((name : Option Name) → slot ≡ Damaged name → ⊥) → judged format region [] bytes ≡ slot
alone_same format region earlier bytes Free h none =
    free_same (slice_index bytes 0 == 0) (slice_index bytes 0 == 1) (name_in bytes) (judged_label region earlier (name_in bytes) (label_in format bytes)) (judged_label region [] (name_in bytes) (label_in format bytes))
    (never_free region earlier (name_in bytes) (label_in format bytes)) h
alone_same format region earlier bytes (Damaged name) h none = absurd (none name refl)
alone_same format region earlier bytes (Sound label) h none = let of = labelled format region earlier bytes label h in sound_alone format region bytes label of.marked of.read of.formed

-- ---- all of an area
later_alone : (format : Format) (region : Stretch) (earlier : List Slot) (more : List (List ℕ)) → ((i : ℕ) (name : Option Name) → slice_get (judged_later format region earlier more) i ≡ Some (Damaged name) → ⊥)
    → map (judged format region []) more ≡ judged_later format region earlier more
later_alone format region earlier [] none = refl
later_alone format region earlier (bytes ∷ more) none =
    let slot : Slot = judged format region earlier bytes in
    ap₂ (λ x xs. x ∷ xs) (alone_same format region earlier bytes slot refl (λ name e. none 0 name (ap (λ s. Some s) e))) (later_alone format region (earlier ++ slot ∷ []) more (λ i name there. none (suc i) name there))

map_map : (f : List ℕ → Slot) (g : ℕ → List ℕ) (xs : List ℕ) → map (λ i. f (g i)) xs ≡ map f (map g xs)
map_map f g [] = refl
map_map f g (x ∷ xs) = ap (λ l. f (g x) ∷ l) (map_map f g xs)

alone_later : (format : Format) (region : Stretch) (area : ℕ) (contents : List (List ℕ)) → ((i : ℕ) (name : Option Name) → slice_get (slots_of format region area contents) i ≡ Some (Damaged name) → ⊥)
    → slots_alone format region area contents ≡ slots_of format region area contents
unfolding slots_alone
alone_later format region area contents none =
    let later = slots_later format region area contents in
    map_map (judged format region []) (slot_bytes area contents) (range_with_len 0 32)
    ∙ later_alone format region [] (map (slot_bytes area contents) (range_with_len 0 32)) (λ i name there. none i name (ap (λ slots. slice_get slots i) later ∙ there))
    ∙ sym later

pub undamaged_says : (level : LevelId) (header : Header) (contents : List (List ℕ)) → ((i : ℕ) (name : Option Name) → slice_get (slots_at level (areas_on header contents)) i ≡ Some (Damaged name) → ⊥) → SaysSlots level (areas_on header contents) contents
undamaged_says One header contents none = alone_later header.format header.level_one 1 contents none
undamaged_says Two header contents none = alone_later header.format header.level_two 2 contents none
