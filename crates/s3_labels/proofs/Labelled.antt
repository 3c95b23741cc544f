-- What labels say of their slots, each by itself, beside what a mount judges of all of them.
use Rattle.std.proofs.Common.{◌≡◌, ℕ, zero, suc, ◌+◌, ◌*◌, ◌/◌, ◌%◌, ◌<◌, ◌≤◌, ◌==◌, ◌&&◌, Bool, true, false, not, List, [], ◌∷◌, ◌++◌, length, map, take, slice_get, slice_index, Option, Some, None, if◌then◌else◌, refl, sym, ap, ap₂, ◌∙◌, arith, append_assoc, length-append}
use Rattle.std.specs.List.{list_all, list_any, range_with_len, Contains}
use Rattle.std.proofs.lemmas.Bool.{and_parts, and_from, both_ways, eqb-true, false_from_ne_true, not-true, or_from}
use Rattle.s3_cards.specs.declared.levels.LevelId.{LevelId}
use Rattle.s3_cards.specs.declared.levels.LevelId.TheVariants.{One, Two}
use Rattle.s3_cards.specs.declared.name.Name.{Name}
use Rattle.s3_cards.specs.Names.{same_name}
use Rattle.s3_cards.proofs.NameLemmas.{same_name-equal}
use Rattle.s3_store.specs.Stretches.{sectors_in}
use Rattle.s3_store.proofs.SectorParts.{sector_bytes-same}
use Rattle.s3_store.specs.Bytes.{part}
use Rattle.s3_store.specs.declared.stretch.Stretch.{Stretch}
use Rattle.s3_slots.specs.Header.{region_of}
use Rattle.s3_slots.specs.Inner.Kept.{AreKept}
use Rattle.s3_slots.specs.Labels.{label_in, name_in, sectors_of}
use Rattle.s3_slots.specs.Slots.{bears, is_apart_from_slot, is_clear, is_disentangled, is_entangled, is_entangled_label, is_well_formed, judged, judged_behind, judged_label, labels_at, slot_bytes, slots_of}
use Rattle.s3_slots.specs.declared.header.Format.{Format}
use Rattle.s3_slots.specs.declared.header.Header.{Header}
use Rattle.s3_slots.specs.declared.label.FileLabel.{FileLabel}
use Rattle.s3_slots.specs.declared.slot.Slot.{Slot}
use Rattle.s3_slots.specs.declared.slot.Slot.TheVariants.{Damaged, Free, Sound}
use Rattle.s3_slots.specs.Stretches.{IsIn, is_apart}
use Rattle.s3_slots.proofs.Ranges.{take_all}
use Rattle.s3_slots.proofs.Rooms.{sectors_apart}
use Rattle.s3_slots.proofs.Runs.{in_first, in_rest}
use Rattle.s3_labels.specs.Inner.Areas.{Areas, areas_on, region_at, slots_at}
use Rattle.s3_labels.specs.Areas.{IsLabelSector, area_of}
use Rattle.s3_labels.specs.Untangled.{IsUntangled}
use Rattle.s3_labels.specs.Inner.Labelled.{KeepsSaid, SaysSlots, slots_alone}
use Rattle.s3_labels.proofs.NewSlots.{append_none, judged_behind_is, judged_later}

-- ---- they are those of the label sectors
same_slot : (area i : ℕ) (s t : List (List ℕ)) → i < 32 → ((n : ℕ) → IsLabelSector area n → slice_get t n ≡ slice_get s n) → slot_bytes area t i ≡ slot_bytes area s i
same_slot area i s t few same =
    let n = labels_at area + i / 4 in
    let is : IsLabelSector area n = (omega arith, omega (arith, few)) in
    ap (λ sector. part sector (i % 4 * 64) 64) (sector_bytes-same s t n (same n is))

map_same : {Y : Type 0} (f g : ℕ → Y) (i n : ℕ) → ((j : ℕ) → i ≤ j → j < i + n → f j ≡ g j) → map f (range_with_len i n) ≡ map g (range_with_len i n)
map_same f g i zero each = refl
map_same f g i (suc n) each = ap₂ (λ x xs. x ∷ xs) (each i (omega arith) (omega arith)) (map_same f g (i + 1) n (λ j low high. each j (omega (arith, low)) (omega (arith, high))))

-- the 64 bytes of each slot of an area
abbrev all_bytes : ℕ → List (List ℕ) → List (List ℕ)
all_bytes area contents = map (slot_bytes area contents) (range_with_len 0 32)

same_bytes : (area : ℕ) (s t : List (List ℕ)) → ((n : ℕ) → IsLabelSector area n → slice_get t n ≡ slice_get s n) → all_bytes area t ≡ all_bytes area s
same_bytes area s t same = map_same (slot_bytes area t) (slot_bytes area s) 0 32 (λ j low high. same_slot area j s t high same)

pub slots_kept : (format : Format) (region : Stretch) (area : ℕ) (s t : List (List ℕ)) → ((n : ℕ) → IsLabelSector area n → slice_get t n ≡ slice_get s n) → slots_of format region area t ≡ slots_of format region area s
unfolding slots_of
slots_kept format region area s t same = ap (judged_behind format region []) (same_bytes area s t same)

alone_kept : (format : Format) (region : Stretch) (area : ℕ) (s t : List (List ℕ)) → ((n : ℕ) → IsLabelSector area n → slice_get t n ≡ slice_get s n) → slots_alone format region area t ≡ slots_alone format region area s
unfolding slots_alone
alone_kept format region area s t same = map_same (λ i. judged format region [] (slot_bytes area t i)) (λ i. judged format region [] (slot_bytes area s i)) 0 32 (λ j low high. ap (judged format region []) (same_slot area j s t high same))

pub says_kept : (level : LevelId) (areas : Areas) (s t : List (List ℕ)) → ((n : ℕ) → IsLabelSector (area_of level) n → slice_get t n ≡ slice_get s n) → KeepsSaid level areas s areas t
says_kept level areas s t same says = alone_kept areas.header.format (region_at level areas) (area_of level) s t same ∙ says

pub untangled_kept : (format : Format) (region : Stretch) (area : ℕ) (s t : List (List ℕ)) → ((n : ℕ) → IsLabelSector area n → slice_get t n ≡ slice_get s n) → IsUntangled format region area s → IsUntangled format region area t
untangled_kept format region area s t same is = λ i few.
    ap₂ (λ slots bytes. is_entangled format region (take i slots) bytes) (slots_kept format region area s t same) (same_slot area i s t few same) ∙ is i few

-- ---- one slot alone, and after others
none_clear : (extents : List Stretch) → list_all (is_clear []) extents ≡ true
none_clear [] = refl
none_clear (extent ∷ extents) = none_clear extents

alone_apart : (label : FileLabel) → is_disentangled [] label ≡ true
alone_apart label = and_from (list_all (is_clear []) label.extents) true (none_clear label.extents) refl

-- a slot of a label that is well formed, and isn't damaged for the others
by_tests : (formed apart : Bool) (name : Option Name) (label : FileLabel) → formed && not apart ≡ false → (if formed && apart then Sound label else Damaged name) ≡ (if formed && true then Sound label else Damaged name)
by_tests true true name label h = refl
by_tests true false name label h = absurd cc
by_tests false true name label h = refl
by_tests false false name label h = refl

label_alone : (region : Stretch) (earlier : List Slot) (name : Option Name) (found : Option FileLabel) → is_entangled_label region earlier found ≡ false → judged_label region earlier name found ≡ judged_label region [] name found
label_alone region earlier name None h = refl
label_alone region earlier name (Some label) h =
    by_tests (is_well_formed region label) (is_disentangled earlier label) name label h
    ∙ ap (λ b. if is_well_formed region label && b then Sound label else Damaged name) (sym (alone_apart label))

marked_alone : (region : Stretch) (earlier : List Slot) (a b : Bool) (name : Option Name) (found : Option FileLabel) → b && is_entangled_label region earlier found ≡ false
    → (if a then Free else (if b then judged_label region earlier name found else Damaged name)) ≡ (if a then Free else (if b then judged_label region [] name found else Damaged name))
marked_alone region earlier true b name found h = refl
marked_alone region earlier false true name found h = label_alone region earlier name found h
marked_alone region earlier false false name found h = refl

judged_alone : (format : Format) (region : Stretch) (earlier : List Slot) (bytes : List ℕ) → is_entangled format region earlier bytes ≡ false → judged format region earlier bytes ≡ judged format region [] bytes
judged_alone format region earlier bytes h = marked_alone region earlier (slice_index bytes 0 == 0) (slice_index bytes 0 == 1) (name_in bytes) (label_in format bytes) h

-- ---- a mount that finds no overlapping or duplicate label
begins : (format : Format) (region : Stretch) (earlier : List Slot) (more : List (List ℕ)) → take (length earlier) (judged_behind format region earlier more) ≡ earlier
begins format region earlier more = ap (take (length earlier)) (judged_behind_is format region earlier more) ∙ take_all (length earlier) earlier (judged_later format region earlier more) refl

untangled_behind : (format : Format) (region : Stretch) (earlier : List Slot) (more : List (List ℕ))
    → ((i : ℕ) (bytes : List ℕ) → slice_get more i ≡ Some bytes → is_entangled format region (take (length earlier + i) (judged_behind format region earlier more)) bytes ≡ false)
    → judged_behind format region earlier more ≡ earlier ++ map (judged format region []) more
untangled_behind format region earlier [] each = sym (append_none earlier)
untangled_behind format region earlier (bytes ∷ more) each =
    let slot : Slot = judged format region earlier bytes in
    let zero_more : length earlier + 0 ≡ length earlier = omega arith in
    let behind : take (length earlier) (judged_behind format region earlier (bytes ∷ more)) ≡ earlier = begins format region earlier (bytes ∷ more) in
    let not_so : is_entangled format region earlier bytes ≡ false = sym (ap (λ slots. is_entangled format region slots bytes) (ap (λ n. take n (judged_behind format region earlier (bytes ∷ more))) zero_more ∙ behind)) ∙ each 0 bytes refl in
    untangled_behind format region (earlier ++ slot ∷ []) more (λ i other there.
    let e : length (earlier ++ slot ∷ []) + i ≡ length earlier + suc i = omega (arith, length-append earlier (slot ∷ [])) in
    ap (λ n. is_entangled format region (take n (judged_behind format region (earlier ++ slot ∷ []) more)) other) e ∙ each (suc i) other there)
    ∙ append_assoc earlier (slot ∷ []) (map (judged format region []) more)
    ∙ ap (λ s. earlier ++ s ∷ map (judged format region []) more) (judged_alone format region earlier bytes not_so)

map_map : (f : ℕ → List ℕ) (g : List ℕ → Slot) (xs : List ℕ) → map g (map f xs) ≡ map (λ i. g (f i)) xs
map_map f g [] = refl
map_map f g (x ∷ xs) = ap (λ l. g (f x) ∷ l) (map_map f g xs)

map_get : (f : ℕ → List ℕ) (k n i : ℕ) (y : List ℕ) → slice_get (map f (range_with_len k n)) i ≡ Some y → (i < n) × (y ≡ f (k + i))
map_get f k zero i y h = absurd cc
map_get f k (suc n) zero y h = let e : k + 0 ≡ k = omega arith in let same : f k ≡ y = cc in (omega arith, sym same ∙ ap f (sym e))
map_get f k (suc n) (suc i) y h = let rest = map_get f (k + 1) n i y h in let e : k + 1 + i ≡ k + suc i = omega arith in (omega (arith, rest.0), rest.1 ∙ ap f e)

alone_is : (format : Format) (region : Stretch) (area : ℕ) (contents : List (List ℕ)) → slots_alone format region area contents ≡ map (judged format region []) (all_bytes area contents)
unfolding slots_alone
alone_is format region area contents = sym (map_map (slot_bytes area contents) (judged format region []) (range_with_len 0 32))

untangled_alone : (format : Format) (region : Stretch) (area : ℕ) (contents : List (List ℕ)) → IsUntangled format region area contents → slots_alone format region area contents ≡ slots_of format region area contents
unfolding slots_of
untangled_alone format region area contents is =
    alone_is format region area contents ∙ sym (untangled_behind format region [] (all_bytes area contents) (λ i bytes there.
    let at = map_get (slot_bytes area contents) 0 32 i bytes there in
    let e : 0 + i ≡ i = omega arith in
    ap (λ n. is_entangled format region (take n (slots_of format region area contents)) bytes) e
    ∙ ap (is_entangled format region (take i (slots_of format region area contents))) (at.1 ∙ ap (slot_bytes area contents) e) ∙ is i at.0))

pub says_mounted : (level : LevelId) (header : Header) (contents : List (List ℕ)) → IsUntangled header.format (region_of level header) (area_of level) contents → SaysSlots level (areas_on header contents) contents
says_mounted One header contents is = untangled_alone header.format header.level_one 1 contents is
says_mounted Two header contents is = untangled_alone header.format header.level_two 2 contents is

-- ---- slots that stay apart
all_from_get : {X : Type 0} (p : X → Bool) (xs : List X) → ((i : ℕ) (x : X) → slice_get xs i ≡ Some x → p x ≡ true) → list_all p xs ≡ true
all_from_get p [] each = refl
all_from_get p (x ∷ xs) each = and_from (p x) (list_all p xs) (each 0 x refl) (all_from_get p xs (λ i y there. each (suc i) y there))

none_from_get : (p : Slot → Bool) (xs : List Slot) → ((i : ℕ) (x : Slot) → slice_get xs i ≡ Some x → p x ≡ false) → list_any p xs ≡ false
none_from_get p [] each = refl
none_from_get p (x ∷ xs) each = or_from (p x) (list_any p xs) (each 0 x refl) (none_from_get p xs (λ i y there. each (suc i) y there))

got_before : (xs ys : List Slot) (i : ℕ) (x : Slot) → slice_get xs i ≡ Some x → (slice_get (xs ++ ys) i ≡ Some x) × (i < length xs)
got_before [] ys i x h = absurd cc
got_before (y ∷ xs) ys zero x h = (h, omega arith)
got_before (y ∷ xs) ys (suc i) x h = let rest = got_before xs ys i x h in (rest.0, omega (arith, rest.1))

got_behind : (xs ys : List Slot) (x : Slot) → slice_get (xs ++ x ∷ ys) (length xs) ≡ Some x
got_behind [] ys x = refl
got_behind (y ∷ xs) ys x = got_behind xs ys x

in_run : (runs : List Stretch) (i : ℕ) (run : Stretch) (n : ℕ) → slice_get runs i ≡ Some run → IsIn run n → Contains (sectors_in runs) n
in_run [] i run n there is = absurd cc
in_run (first ∷ runs) zero run n there is = let same : first ≡ run = cc in in_first first runs n (rw same is)
in_run (first ∷ runs) (suc i) run n there is = in_rest first runs n (in_run runs i run n there is)

of_label : (label : FileLabel) (i : ℕ) (run : Stretch) (n : ℕ) → slice_get label.extents i ≡ Some run → IsIn run n → Contains (sectors_of label) n
unfolding sectors_of
of_label label i run n there is = in_run label.extents i run n there is

module _ (region : Stretch) (earlier rest : List Slot) (label : FileLabel) (kept : AreKept region (earlier ++ Sound label ∷ rest)) where
  own_place : slice_get (earlier ++ Sound label ∷ rest) (length earlier) ≡ Some (Sound label)
  own_place = got_behind earlier rest (Sound label)

  extents_apart : (i j k : ℕ) (run other_run : Stretch) (other : FileLabel) → slice_get label.extents i ≡ Some run → slice_get earlier j ≡ Some (Sound other) → slice_get other.extents k ≡ Some other_run → is_apart run other_run ≡ true
  extents_apart i j k run other_run other there earlier_there other_there = sectors_apart run other_run (λ n p q r s.
      let before = got_before earlier (Sound label ∷ rest) j (Sound other) earlier_there in
      let same = kept.apart (length earlier) j label other n own_place before.0 (of_label label i run n there (p, q)) (of_label other k other_run n other_there (r, s)) in
      omega (arith, same, before.1))

  apart_from_slot : (i j : ℕ) (run : Stretch) (slot : Slot) → slice_get label.extents i ≡ Some run → slice_get earlier j ≡ Some slot → is_apart_from_slot run slot ≡ true
  apart_from_slot i j run Free there earlier_there = refl
  apart_from_slot i j run (Damaged name) there earlier_there = refl
  apart_from_slot i j run (Sound other) there earlier_there = all_from_get (is_apart run) other.extents (λ k other_run other_there. extents_apart i j k run other_run other there earlier_there other_there)

  unnamed : (j : ℕ) (slot : Slot) → slice_get earlier j ≡ Some slot → bears label.name slot ≡ false
  unnamed j Free there = refl
  unnamed j (Damaged name) there = refl
  unnamed j (Sound other) there = false_from_ne_true (same_name other.name label.name) (λ same.
      let before = got_before earlier (Sound label ∷ rest) j (Sound other) there in
      let place = kept.named j (length earlier) other label before.0 own_place (same_name-equal other.name label.name same) in
      omega (arith, place, before.1))

  kept_disentangled : is_disentangled earlier label ≡ true
  kept_disentangled =
      let clear = all_from_get (is_clear earlier) label.extents (λ i run there. all_from_get (is_apart_from_slot run) earlier (λ j slot earlier_there. apart_from_slot i j run slot there earlier_there)) in
      let free = none_from_get (bears label.name) earlier unnamed in
      and_from (list_all (is_clear earlier) label.extents) (not (list_any (bears label.name) earlier)) clear (ap not free)

-- a label that is well formed is sound by itself
pub sound_alone : (format : Format) (region : Stretch) (bytes : List ℕ) (label : FileLabel) → slice_index bytes 0 ≡ 1 → label_in format bytes ≡ Some label → is_well_formed region label ≡ true → judged format region [] bytes ≡ Sound label
sound_alone format region bytes label marked read formed =
    ap₂ (λ mark found. if mark == 0 then Free else (if mark == 1 then judged_label region [] (name_in bytes) found else Damaged (name_in bytes))) marked read
    ∙ ap (λ b. if b then Sound label else Damaged (name_in bytes)) (and_from (is_well_formed region label) (is_disentangled [] label) formed (alone_apart label))

kept_untangled : (format : Format) (region : Stretch) (earlier rest : List Slot) (bytes : List ℕ) → AreKept region (earlier ++ judged format region [] bytes ∷ rest) → is_entangled format region earlier bytes ≡ false
kept_untangled format region earlier rest bytes kept = false_from_ne_true (is_entangled format region earlier bytes) (λ is.
    let parts = and_parts (slice_index bytes 0 == 1) (is_entangled_label region earlier (label_in format bytes)) is in
    by (label_in format bytes) refl (eqb-true (slice_index bytes 0) 1 parts.0) parts.1)
  where
    by : (found : Option FileLabel) → label_in format bytes ≡ found → slice_index bytes 0 ≡ 1 → is_entangled_label region earlier found ≡ true → ⊥
    by None read marked h = absurd cc
    by (Some label) read marked h =
        let tests = and_parts (is_well_formed region label) (not (is_disentangled earlier label)) h in
        let same = sound_alone format region bytes label marked read tests.0 in
        let apart = kept_disentangled region earlier rest label (rw same at kept) in
        both_ways (is_disentangled earlier label) (not-true (is_disentangled earlier label) tests.1) apart

kept_alone : (format : Format) (region : Stretch) (earlier : List Slot) (more : List (List ℕ)) → AreKept region (earlier ++ map (judged format region []) more) → judged_behind format region earlier more ≡ earlier ++ map (judged format region []) more
kept_alone format region earlier [] kept = sym (append_none earlier)
kept_alone format region earlier (bytes ∷ more) kept =
    let slot : Slot = judged format region [] bytes in
    let same : judged format region earlier bytes ≡ slot = judged_alone format region earlier bytes (kept_untangled format region earlier (map (judged format region []) more) bytes kept) in
    let joined : (earlier ++ slot ∷ []) ++ map (judged format region []) more ≡ earlier ++ slot ∷ map (judged format region []) more = append_assoc earlier (slot ∷ []) (map (judged format region []) more) in
    ap (λ s. judged_behind format region (earlier ++ s ∷ []) more) same ∙ kept_alone format region (earlier ++ slot ∷ []) more (rw joined kept) ∙ joined

pub judged_as_said : (level : LevelId) (areas : Areas) (contents : List (List ℕ)) → AreKept (region_at level areas) (slots_at level areas) → SaysSlots level areas contents
    → slots_of areas.header.format (region_at level areas) (area_of level) contents ≡ slots_at level areas
unfolding slots_of
judged_as_said level areas contents kept says =
    let is : map (judged areas.header.format (region_at level areas) []) (all_bytes (area_of level) contents) ≡ slots_at level areas = sym (alone_is areas.header.format (region_at level areas) (area_of level) contents) ∙ says in
    kept_alone areas.header.format (region_at level areas) [] (all_bytes (area_of level) contents) (rw is kept) ∙ is
