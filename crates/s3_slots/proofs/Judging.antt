-- The slots that a mount judges, and those after makes, counts and drops, keep their files apart.
use Rattle.std.proofs.Common.{◌≡◌, ℕ, zero, suc, ◌+◌, ◌-◌, ◌*◌, ◌/◌, ◌<◌, ◌≤◌, Bool, true, false, nat_le, ◌==◌, not, List, [], ◌∷◌, ◌++◌, length, map, slice_get, slice_set, slice_index, Option, Some, None, Ok, Err, if◌then◌else◌, refl, sym, ap, ◌∙◌, arith, inl, inr, ◌⊎◌}
use Rattle.std.proofs.Math.Nat.{div_self}
use Rattle.std.proofs.lemmas.Nat.{le-div}
use Rattle.std.proofs.lemmas.Bool.{and_parts, and_from, cases_Bool, not-true, le-leb, leb-true, eq-eqb, false_from_ne_true, both_ways, or_from, cond-true, cond-false}
use Rattle.std.specs.List.{list_all, list_any, position_from, range_with_len, sum_by}
use Rattle.s3_cards.specs.declared.name.Name.{Name}
use Rattle.s3_cards.specs.Names.{same_name}
use Rattle.s3_cards.proofs.NameLemmas.{same_name-equal}
use Rattle.s3_store.proofs.SectorLists.{slice_get_set_same}
use Rattle.s3_store.specs.declared.stretch.Stretch.{Stretch}
use Rattle.s3_slots.specs.Inner.Stretches.{IsWhole}
use Rattle.s3_slots.specs.Labels.{name_in, label_in}
use Rattle.s3_slots.specs.Slots.{is_well_formed, is_count_of, sectors_needed, index_sectors, is_clear, bears, is_disentangled, is_sound, judged_label, judged, judged_behind, slot_bytes, slots_of, standing, standing_with, slot_at, is_damaged_under}
use Rattle.s3_slots.specs.Placement.{free_slot, placed}
use Rattle.s3_slots.specs.Inner.Making.{IsNewFile, IsSize}
use Rattle.s3_slots.specs.Making.{greatest, greatest_capacity, tracks_of, tracks_of_size, capacity_of, capacity_of_size, first_count, new_label, put_in, put_at, put, put_over, made, is_permanent, changed_in, changed_at, dropped, counted}
use Rattle.s3_slots.specs.Inner.Kept.{AreKept}
use Rattle.s3_slots.specs.declared.header.Format.{Format}
use Rattle.s3_slots.specs.declared.label.FileLabel.{FileLabel}
use Rattle.s3_slots.specs.declared.label.Organization.{Organization}
use Rattle.s3_slots.specs.declared.label.Organization.TheVariants.{Sequential, Indexed, Direct}
use Rattle.s3_slots.specs.declared.making.LabelFault.TheVariants.{Master, Retained}
use Rattle.s3_slots.specs.declared.making.NewFile.{NewFile}
use Rattle.s3_slots.specs.declared.making.Size.{Size}
use Rattle.s3_slots.specs.declared.making.Size.TheVariants.{Records, Tracks}
use Rattle.s3_slots.specs.declared.slot.Slot.{Slot}
use Rattle.s3_slots.specs.declared.slot.Slot.TheVariants.{Free, Damaged, Sound}
use Rattle.s3_slots.specs.declared.slot.Standing.{Standing}
use Rattle.s3_slots.specs.declared.slot.Standing.TheVariants.{Absent, Blocked, Present}
use Rattle.s3_slots.proofs.Keeping.{set_cases, push_cases, formed_parts, formed_from, kept_like, like_itself, kept_more}
use Rattle.s3_slots.proofs.Makes.{present_is, present_somewhere, dropped_is}
use Rattle.s3_slots.proofs.Capacities.{greatest_here, greatest_on}
use Rattle.s3_slots.proofs.NewFiles.{new_key, new_tracks}
use Rattle.s3_slots.proofs.Rooms.{IsPlacing, placed_is}

-- ---- judged slots
nothing_kept : (region : Stretch) → AreKept region []
nothing_kept region = record {
  formed = λ i label is. absurd cc;
  apart = λ i j first second n one two a b. absurd cc;
  named = λ i j first second one two e. absurd cc;
}

abbrev sound_or_damaged : Bool → Option Name → FileLabel → Slot
sound_or_damaged true name label = Sound label
sound_or_damaged false name label = Damaged name

of_test : (region : Stretch) (earlier : List Slot) (name : Option Name) (found label : FileLabel) (s : Bool) → is_sound region earlier found ≡ s → sound_or_damaged s name found ≡ Sound label
    → is_sound region earlier label ≡ true
of_test region earlier name found label true e h = let same : found ≡ label = cc in ap (is_sound region earlier) (sym same) ∙ e
of_test region earlier name found label false e h = absurd cc

by_label : (region : Stretch) (earlier : List Slot) (name : Option Name) (found : Option FileLabel) (label : FileLabel) → judged_label region earlier name found ≡ Sound label → is_sound region earlier label ≡ true
by_label region earlier name None label h = absurd cc
by_label region earlier name (Some found) label h = of_test region earlier name found label (is_sound region earlier found) refl (same_choice (is_sound region earlier found) name found ∙ h)
  where
    same_choice : (s : Bool) (name : Option Name) (found : FileLabel) → sound_or_damaged s name found ≡ (if s then Sound found else Damaged name)
    same_choice true name found = refl
    same_choice false name found = refl

by_mark : (region : Stretch) (earlier : List Slot) (a b : Bool) (name : Option Name) (found : Option FileLabel) (label : FileLabel)
    → (if a then Free else (if b then judged_label region earlier name found else Damaged name)) ≡ Sound label → is_sound region earlier label ≡ true
by_mark region earlier true b name found label h = absurd cc
by_mark region earlier false true name found label h = by_label region earlier name found label h
by_mark region earlier false false name found label h = absurd cc

judged_sound : (format : Format) (region : Stretch) (earlier : List Slot) (bytes : List ℕ) (label : FileLabel) → judged format region earlier bytes ≡ Sound label → is_sound region earlier label ≡ true
judged_sound format region earlier bytes label h = by_mark region earlier (slice_index bytes 0 == 0) (slice_index bytes 0 == 1) (name_in bytes) (label_in format bytes) label h

pushed_other : (region : Stretch) (earlier : List Slot) (slot : Slot) → ((label : FileLabel) → slot ≡ Sound label → ⊥) → AreKept region earlier → AreKept region (earlier ++ slot ∷ [])
pushed_other region earlier slot other kept = kept_like region earlier (earlier ++ slot ∷ []) kept (λ j label is. elim (push_cases earlier j slot (Sound label) is) [
  | inl e ↦ absurd (other label (sym e.1))
  | inr was ↦ like_itself region earlier j label kept was
])

pushed_sound : (region : Stretch) (earlier : List Slot) (label : FileLabel) → is_sound region earlier label ≡ true → AreKept region earlier → AreKept region (earlier ++ Sound label ∷ [])
pushed_sound region earlier label sound kept =
    let parts = and_parts (is_well_formed region label) (is_disentangled earlier label) sound in
    let apart = and_parts (list_all (is_clear earlier) label.extents) (not (list_any (bears label.name) earlier)) parts.1 in
    kept_more region earlier (earlier ++ Sound label ∷ []) (length earlier) label kept (record {
      each = λ j other is. elim (push_cases earlier j (Sound label) (Sound other) is) [
        | inl e ↦ let same : other ≡ label = cc in inl (e.0, same)
        | inr was ↦ inr was
      ];
      formed = parts.0;
      clear = apart.0;
      unused = not-true (list_any (bears label.name) earlier) apart.1;
    })

pushed_kept : (region : Stretch) (earlier : List Slot) (slot : Slot) → ((label : FileLabel) → slot ≡ Sound label → is_sound region earlier label ≡ true) → AreKept region earlier → AreKept region (earlier ++ slot ∷ [])
pushed_kept region earlier Free sound kept = pushed_other region earlier Free (λ label e. cc) kept
pushed_kept region earlier (Damaged name) sound kept = pushed_other region earlier (Damaged name) (λ label e. cc) kept
pushed_kept region earlier (Sound label) sound kept = pushed_sound region earlier label (sound label refl) kept

behind_kept : (format : Format) (region : Stretch) (earlier : List Slot) (more : List (List ℕ)) → AreKept region earlier → AreKept region (judged_behind format region earlier more)
behind_kept format region earlier [] kept = kept
behind_kept format region earlier (bytes ∷ more) kept =
    behind_kept format region (earlier ++ judged format region earlier bytes ∷ []) more
    (pushed_kept region earlier (judged format region earlier bytes) (judged_sound format region earlier bytes) kept)

pub slots_kept : (format : Format) (region : Stretch) (area : ℕ) (contents : List (List ℕ)) → AreKept region (slots_of format region area contents)
unfolding slots_of
slots_kept format region area contents = behind_kept format region [] (map (slot_bytes area contents) (range_with_len 0 32)) (nothing_kept region)

-- ---- counts and drops
record IsChanged (p : FileLabel → Slot) (slots : List Slot) (i j : ℕ) (label : FileLabel) : Type 0 where
  pub before : FileLabel
  pub same : j ≡ i
  pub there : slice_get slots j ≡ Some (Sound before)
  pub is : Sound label ≡ p before

changed_place : (p : FileLabel → Slot) (slots : List Slot) (i : ℕ) (there : Option Slot) (j : ℕ) (label : FileLabel) → slice_get slots i ≡ there → slice_get (changed_at p slots i there) j ≡ Some (Sound label)
    → IsChanged p slots i j label ⊎ (slice_get slots j ≡ Some (Sound label))
changed_place p slots i None j label e is = inr is
changed_place p slots i (Some Free) j label e is = inr is
changed_place p slots i (Some (Damaged name)) j label e is = inr is
changed_place p slots i (Some (Sound before)) j label e is = elim (set_cases slots i j (p before) (Sound label) is) [
  | inl h ↦ inl (record { before = before; same = h.0; there = ap (slice_get slots) h.0 ∙ e; is = h.1 })
  | inr was ↦ inr was
]

-- what a change leaves of a label
record Leaves (region : Stretch) (p : FileLabel → Slot) (before label : FileLabel) : Type 0 where
  pub extents : label.extents ≡ before.extents
  pub name : label.name ≡ before.name
  pub formed : is_well_formed region label ≡ true

changed_kept : (region : Stretch) (p : FileLabel → Slot) (slots : List Slot) (place : Option ℕ) → AreKept region slots
    → ((before label : FileLabel) (j : ℕ) → place ≡ Some j → slice_get slots j ≡ Some (Sound before) → Sound label ≡ p before → Leaves region p before label)
    → AreKept region (changed_in p slots place)
changed_kept region p slots None kept like = kept
changed_kept region p slots (Some i) kept like = kept_like region slots (changed_in p slots (Some i)) kept (λ j label is. elim (changed_place p slots i (slice_get slots i) j label refl is) [
  | inl h ↦ let l = like h.before label j (ap (λ n. Some n) (sym h.same)) h.there h.is in record { before = h.before; there = h.there; extents = l.extents; name = l.name; formed = l.formed }
  | inr was ↦ like_itself region slots j label kept was
])

pub dropped_kept : (region : Stretch) (name : Name) (slots : List Slot) → AreKept region slots → AreKept region (dropped name slots)
unfolding dropped
dropped_kept region name slots kept = changed_kept region (λ label. Free) slots (position_from (bears name) 0 slots) kept (λ before label j at there e. absurd cc)

count_formed : (region : Stretch) (label : FileLabel) (n : ℕ) → is_well_formed region label ≡ true → is_count_of label.organization label.capacity n ≡ true → is_well_formed region (record label { count = n }) ≡ true
count_formed region label n h counts =
    let parts = formed_parts region label h in
    formed_from region (record label { count = n }) (record { length = parts.length; key = parts.key; room = parts.room; some = parts.some; counted = counts; fits = parts.fits })

stands_at : (name : Name) (slots : List Slot) (j : ℕ) (label : FileLabel) → position_from (bears name) 0 slots ≡ Some j → slice_get slots j ≡ Some (Sound label) → standing name slots ≡ Present label
unfolding standing
stands_at name slots j label at there = ap (λ place. standing_with (list_any (is_damaged_under name) slots) (slot_at slots place)) at ∙ ap (standing_with (list_any (is_damaged_under name) slots)) there

count_leaves : (region : Stretch) (n : ℕ) (before label : FileLabel) → Sound label ≡ Sound (record before { count = n }) → is_well_formed region (record before { count = n }) ≡ true
    → Leaves region (λ other. Sound (record other { count = n })) before label
count_leaves region n before label e formed =
    let same : label ≡ record before { count = n } = cc in
    record { extents = ap (λ (l : FileLabel). l.extents) same; name = ap (λ (l : FileLabel). l.name) same; formed = ap (is_well_formed region) same ∙ formed }

pub counted_kept : (region : Stretch) (name : Name) (n : ℕ) (slots : List Slot) → ((label : FileLabel) → standing name slots ≡ Present label → is_count_of label.organization label.capacity n ≡ true)
    → AreKept region slots → AreKept region (counted name n slots)
unfolding counted
counted_kept region name n slots may kept = changed_kept region (λ label. Sound (record label { count = n })) slots (position_from (bears name) 0 slots) kept (λ before label j at there e.
    count_leaves region n before label e (count_formed region before n (kept.formed j before there) (may before (stands_at name slots j before at there))))

-- ---- makes
greatest_passes : (test : ℕ → Bool) (n k : ℕ) → 1 ≤ k → k ≤ n → test k ≡ true → (1 ≤ greatest test n) × (test (greatest test n) ≡ true)
greatest_passes test zero k some within h = absurd (omega (arith, some, within))
greatest_passes test (suc n) k some within h = elim (cases_Bool (test (suc n))) [
  | inl here ↦ let e = greatest_here test n here in (omega (arith, e), ap test e ∙ here)
  | inr fails ↦
      let e = greatest_on test n fails in
      let rest = greatest_passes test n k some (below n k within (λ same. both_ways (test k) (ap test same ∙ fails) h)) h in
      (omega (arith, e, rest.0), ap test e ∙ rest.1)
]
  where
    below : (n k : ℕ) → k ≤ suc n → (k ≡ suc n → ⊥) → k ≤ n
    below n k within differ = omega (arith, within, differ)

few_sectors_of_one : (o : Organization) (length key : ℕ) → length ≤ 1024 → key ≤ 29 → sectors_needed o length key 1 ≤ 24
few_sectors_of_one Sequential length key h k = omega (arith, h)
few_sectors_of_one Direct length key h k = omega (arith, h)
few_sectors_of_one Indexed length key h k =
    let some : 0 < 256 / (key + 4) = le-div 1 256 (key + 4) (omega arith) (omega (arith, k)) in
    let one = div_self some in
    let e : 1 + 256 / (key + 4) - 1 ≡ 256 / (key + 4) = omega arith in
    let index : index_sectors 1 key ≡ 1 = ap (λ n. n / (256 / (key + 4))) e ∙ one in
    omega (arith, h, index)

some_bytes : (n length : ℕ) → 1 ≤ n → 1 ≤ length → length ≤ 1024 → 1 ≤ 24 * n * 256 / length
some_bytes n length h some few = le-div 1 (24 * n * 256) length some (omega (arith, h, few))

-- the capacity of a new file is at least 1, and fits its tracks
record HasCapacity (new : NewFile) : Type 0 where
  pub some : 1 ≤ capacity_of new
  pub fits : sectors_needed new.organization new.record_length new.key_length (capacity_of new) ≤ 24 * tracks_of new

new_capacity : (new : NewFile) → IsNewFile new → HasCapacity new
unfolding greatest_capacity
new_capacity new is = let both = by new.size is.size in record { some = both.0; fits = both.1 }
  where
    by : (size : Size) → IsSize size → (1 ≤ capacity_of_size new size) × (sectors_needed new.organization new.record_length new.key_length (capacity_of_size new size) ≤ 24 * tracks_of_size new size)
    by (Records n) h = (h.0, omega arith)
    by (Tracks n) h =
        let test : ℕ → Bool = λ capacity. nat_le (sectors_needed new.organization new.record_length new.key_length capacity) (24 * n) in
        let one = few_sectors_of_one new.organization new.record_length new.key_length is.length.1 (new_key new is) in
        let most = greatest_passes (λ capacity. nat_le (sectors_needed new.organization new.record_length new.key_length capacity) (24 * n)) (24 * n * 256 / new.record_length) 1 (omega arith)
        (some_bytes n new.record_length h.0 is.length.0 is.length.1) (le-leb (sectors_needed new.organization new.record_length new.key_length 1) (24 * n) (omega (arith, one, h.0))) in
        (most.0, leb-true _ (24 * n) most.1)

first_count_is : (o : Organization) (capacity : ℕ) → is_count_of o capacity (first_count o capacity) ≡ true
first_count_is Sequential capacity = le-leb 0 capacity (omega arith)
first_count_is Indexed capacity = le-leb 0 capacity (omega arith)
first_count_is Direct capacity = eq-eqb capacity capacity refl

pub new_formed : (region : Stretch) (slots : List Slot) (new : NewFile) (extents : List Stretch) → IsNewFile new → IsPlacing region slots (tracks_of new) extents → is_well_formed region (new_label new extents) ≡ true
unfolding new_label
new_formed region slots new extents is placing =
    let capacity = new_capacity new is in
    formed_from region (new_label new extents) (record {
      length = and_from (nat_le 1 new.record_length) (nat_le new.record_length 1024) (le-leb 1 new.record_length is.length.0) (le-leb new.record_length 1024 is.length.1);
      key = is.key;
      room = placing.whole;
      some = le-leb 1 (capacity_of new) capacity.some;
      counted = first_count_is new.organization (capacity_of new);
      fits = le-leb (sectors_needed new.organization new.record_length new.key_length (capacity_of new)) (sum_by (λ extent. extent.sectors) extents) (omega (arith, capacity.fits, placing.sectors));
    })

put_more : (region : Stretch) (slots : List Slot) (at : ℕ) (new : NewFile) (extents : List Stretch) → AreKept region slots → IsNewFile new → IsPlacing region slots (tracks_of new) extents
    → list_any (bears new.name) slots ≡ false → AreKept region (slice_set slots at (Sound (new_label new extents)))
unfolding new_label
put_more region slots at new extents kept is placing unused =
    kept_more region slots (slice_set slots at (Sound (new_label new extents))) at (new_label new extents) kept (record {
      each = λ j other get. elim (set_cases slots at j (Sound (new_label new extents)) (Sound other) get) [
        | inl e ↦ let same : other ≡ new_label new extents = cc in inl (e.0, same)
        | inr was ↦ inr was
      ];
      formed = new_formed region slots new extents is placing;
      clear = placing.clear;
      unused = unused;
    })

put_kept : (format : Format) (region : Stretch) (new : NewFile) (slots after : List Slot) → IsWhole region → IsNewFile new → AreKept region slots → list_any (bears new.name) slots ≡ false
    → put format region new slots ≡ Ok after → AreKept region after
put_kept format region new slots after whole is kept unused h = by (free_slot slots) h
  where
    placing : (at : ℕ) (extents : Option (List Stretch)) → placed format region slots (tracks_of new) ≡ extents → put_in new slots at extents ≡ Ok after → AreKept region after
    placing at None e h = absurd cc
    placing at (Some extents) e h =
        let same : slice_set slots at (Sound (new_label new extents)) ≡ after = cc in
        rw (sym same) (put_more region slots at new extents kept is (placed_is format region slots (tracks_of new) extents whole (new_tracks new is) e) unused)

    by : (at : Option ℕ) → put_at format region new slots at ≡ Ok after → AreKept region after
    by None h = absurd cc
    by (Some at) h = placing at (placed format region slots (tracks_of new)) refl h

-- ---- no slot has the name of a new file
none_from : (p : Slot → Bool) (xs : List Slot) → ((j : ℕ) (x : Slot) → slice_get xs j ≡ Some x → p x ≡ false) → list_any p xs ≡ false
none_from p [] each = refl
none_from p (x ∷ xs) each = or_from (p x) (list_any p xs) (each 0 x refl) (none_from p xs (λ j y is. each (suc j) y is))

record IsFirst (p : Slot → Bool) (xs : List Slot) (i : ℕ) : Type 0 where
  pub slot : Slot
  pub there : slice_get xs i ≡ Some slot
  pub passes : p slot ≡ true

position_passes : (p : Slot → Bool) (k i : ℕ) (xs : List Slot) → position_from p k xs ≡ Some i → IsFirst p xs (i - k) × (k ≤ i)
position_passes p k i [] h = absurd cc
position_passes p k i (x ∷ xs) h = elim (cases_Bool (p x)) [
  | inl passes ↦
      let at : Some k ≡ Some i = sym (cond-true (p x) (Some k) (position_from p (k + 1) xs) passes) ∙ h in
      let same : k ≡ i = cc in
      let none : i - k ≡ 0 = omega (arith, same) in
      (rw none (record { slot = x; there = refl; passes = passes }), omega (arith, same))
  | inr fails ↦
      let rest = position_passes p (k + 1) i xs (sym (cond-false (p x) (Some k) (position_from p (k + 1) xs) fails) ∙ h) in
      let e : i - k ≡ suc (i - (k + 1)) = omega (arith, rest.1) in
      (rw e (record { slot = rest.0.slot; there = rest.0.there; passes = rest.0.passes }), omega (arith, rest.1))
]

position_none : (p : Slot → Bool) (k : ℕ) (xs : List Slot) → position_from p k xs ≡ None → list_any p xs ≡ false
position_none p k [] h = refl
position_none p k (x ∷ xs) h = elim (cases_Bool (p x)) [
  | inl passes ↦ let at : Some k ≡ None = sym (cond-true (p x) (Some k) (position_from p (k + 1) xs) passes) ∙ h in absurd cc
  | inr fails ↦ or_from (p x) (list_any p xs) fails (position_none p (k + 1) xs (sym (cond-false (p x) (Some k) (position_from p (k + 1) xs) fails) ∙ h))
]

-- if no file is found for a name, no slot has it
pub absent_nowhere : (name : Name) (slots : List Slot) → standing name slots ≡ Absent → position_from (bears name) 0 slots ≡ None
unfolding standing
absent_nowhere name slots h = by (position_from (bears name) 0 slots) refl
  where
    at_slot : (i : ℕ) (slot : Slot) → slice_get slots i ≡ Some slot → bears name slot ≡ true → standing_with (list_any (is_damaged_under name) slots) (slot_at slots (Some i)) ≡ Absent → ⊥
    at_slot i Free there passes e = absurd cc
    at_slot i (Damaged other) there passes e = absurd cc
    at_slot i (Sound label) there passes e = let f : Present label ≡ Absent = sym (ap (standing_with (list_any (is_damaged_under name) slots)) there) ∙ e in absurd cc

    by : (place : Option ℕ) → position_from (bears name) 0 slots ≡ place → place ≡ None
    by None e = refl
    by (Some i) e =
        let first = position_passes (bears name) 0 i slots e in
        let at : i - 0 ≡ i = omega arith in
        absurd (at_slot i first.0.slot (sym (ap (slice_get slots) at) ∙ first.0.there) first.0.passes (sym (ap (λ place. standing_with (list_any (is_damaged_under name) slots) (slot_at slots place)) e) ∙ h))

absent_unused : (name : Name) (slots : List Slot) → standing name slots ≡ Absent → list_any (bears name) slots ≡ false
absent_unused name slots h = position_none (bears name) 0 slots (absent_nowhere name slots h)

pub absent_dropped : (name : Name) (slots : List Slot) → standing name slots ≡ Absent → dropped name slots ≡ slots
unfolding dropped
absent_dropped name slots h = ap (changed_in (λ label. Free) slots) (absent_nowhere name slots h)

freed_unused : (region : Stretch) (name : Name) (slots : List Slot) (i : ℕ) (old : FileLabel) → AreKept region slots → position_from (bears name) 0 slots ≡ Some i → slice_get slots i ≡ Some (Sound old)
    → i < length slots → list_any (bears name) (slice_set slots i Free) ≡ false
freed_unused region name slots i old kept at there within = none_from (bears name) (slice_set slots i Free) each
  where
    old_name : same_name old.name name ≡ true
    old_name =
        let first = position_passes (bears name) 0 i slots at in
        let e : i - 0 ≡ i = omega arith in
        let same : Some first.0.slot ≡ Some (Sound old) = sym first.0.there ∙ ap (slice_get slots) e ∙ there in
        let is : first.0.slot ≡ Sound old = cc in
        ap (bears name) (sym is) ∙ first.0.passes

    sound : (j : ℕ) (label : FileLabel) → slice_get (slice_set slots i Free) j ≡ Some (Sound label) → same_name label.name name ≡ true → ⊥
    sound j label get named = elim (set_cases slots i j Free (Sound label) get) [
      | inl e ↦ absurd cc
      | inr was ↦
          let same : j ≡ i = kept.named j i label old was there (same_name-equal label.name name named ∙ sym (same_name-equal old.name name old_name)) in
          let freed : Some Free ≡ Some (Sound label) = sym (slice_get_set_same slots i Free within) ∙ sym (ap (slice_get (slice_set slots i Free)) same) ∙ get in
          absurd cc
    ]

    each : (j : ℕ) (slot : Slot) → slice_get (slice_set slots i Free) j ≡ Some slot → bears name slot ≡ false
    each j Free get = refl
    each j (Damaged other) get = refl
    each j (Sound label) get = false_from_ne_true (same_name label.name name) (sound j label get)

get_within : (slots : List Slot) (i : ℕ) (slot : Slot) → slice_get slots i ≡ Some slot → i < length slots
get_within [] i slot h = absurd cc
get_within (x ∷ slots) zero slot h = omega arith
get_within (x ∷ slots) (suc i) slot h = let e = get_within slots i slot h in omega (arith, e)

over_kept : (format : Format) (region : Stretch) (new : NewFile) (slots after : List Slot) (old : FileLabel) → IsWhole region → IsNewFile new → AreKept region slots → standing new.name slots ≡ Present old
    → put format region new (dropped new.name slots) ≡ Ok after → AreKept region after
over_kept format region new slots after old whole is kept present h = by (position_from (bears new.name) 0 slots) refl
  where
    by : (place : Option ℕ) → position_from (bears new.name) 0 slots ≡ place → AreKept region after
    by None e = absurd (present_somewhere new.name slots old present e)
    by (Some i) e =
        let there = present_is new.name slots old i present e in
        let gone = dropped_is new.name slots old i present e in
        put_kept format region new (dropped new.name slots) after whole is (dropped_kept region new.name slots kept)
        (ap (list_any (bears new.name)) gone ∙ freed_unused region new.name slots i old kept e there (get_within slots i (Sound old) there)) h

pub made_kept : (format : Format) (region : Stretch) (masters : List Slot) (new : NewFile) (slots after : List Slot) → IsWhole region → IsNewFile new → AreKept region slots
    → made format region masters new slots ≡ Ok after → AreKept region after
unfolding made
made_kept format region masters new slots after whole is kept h = first (list_any (bears new.name) masters) h
  where
    over : (permanent : Bool) (old : FileLabel) → standing new.name slots ≡ Present old → (if permanent then Err Retained else put format region new (dropped new.name slots)) ≡ Ok after → AreKept region after
    over true old e h = absurd cc
    over false old e h = over_kept format region new slots after old whole is kept e h

    by : (stands : Standing) → standing new.name slots ≡ stands → put_over format region new slots stands ≡ Ok after → AreKept region after
    by Absent e h = put_kept format region new slots after whole is kept (absent_unused new.name slots e) h
    by Blocked e h = absurd cc
    by (Present old) e h = over (is_permanent old.retention) old e h

    first : (b : Bool) → (if b then Err Master else put_over format region new slots (standing new.name slots)) ≡ Ok after → AreKept region after
    first true h = absurd cc
    first false h = by (standing new.name slots) refl h
