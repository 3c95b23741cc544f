-- What is reported for a pack: for each slot, for an area, and nothing for a valid pack.
use Rattle.std.proofs.Common.{◌≡◌, ℕ, zero, suc, ◌+◌, ◌-◌, ◌<◌, ◌≤◌, Bool, true, false, List, [], ◌∷◌, ◌++◌, slice_get, Option, Some, None, Result, if◌then◌else◌, refl, sym, ap, ap₂, ◌∙◌, subst, arith, append_assoc}
use Rattle.std.specs.List.{flat_map, range_with_len}
use Rattle.s3_cards.specs.declared.name.Name.{Name}
use Rattle.s3_slots.proofs.Ranges.{range_more}
use Rattle.s3_slots.specs.Header.{mounted}
use Rattle.s3_slots.specs.Labels.{is_indexed, sectors_of}
use Rattle.s3_slots.specs.declared.header.Header.{Header}
use Rattle.s3_slots.specs.declared.header.MountFault.{MountFault}
use Rattle.s3_slots.specs.declared.slot.Slot.{Slot}
use Rattle.s3_slots.specs.declared.slot.Slot.TheVariants.{Damaged, Free, Sound}
use Rattle.s3_store.specs.Bytes.{bytes_at}
use Rattle.s3_labels.specs.Contents.{contents_of}
use Rattle.s3_labels.specs.Inner.AreaNumbers.{area_number}
use Rattle.s3_labels.specs.Inner.Areas.{Areas, IsRefusal, slots_in}
use Rattle.s3_labels.specs.declared.area.Area.{Area}
use Rattle.s3_labels.specs.declared.area.Area.TheVariants.{Level, Masters}
use Rattle.s3_cards.specs.declared.levels.LevelId.TheVariants.{One, Two}
use Rattle.s3_labels.specs.declared.fault.Refusal.{Refusal}
use Rattle.s3_labels.specs.declared.fault.Refusal.TheVariants.{BadPack, Sectors}
use Rattle.s3_pack_check.specs.Inner.Entries.{first_fault}
use Rattle.s3_pack_check.specs.Inner.Wrongs.{IsRefused, IsRight, IsSoundPack, area_wrongs, cause_of, fault_of, is_good, name_at, slot_wrongs, told, told_if, wrong_with, wrongs_on}
use Rattle.s3_pack_check.specs.declared.checking.Cause.{Cause}
use Rattle.s3_pack_check.specs.declared.checking.Cause.TheVariants.{Index}
use Rattle.s3_pack_check.specs.declared.checking.Wrong.{Wrong}
use Rattle.s3_pack_check.specs.declared.fault.CheckFault.{CheckFault}

-- ---- what is reported for the slots of an area, one after another
pub begun : (areas : Areas) (area : Area) (contents : List (List ℕ)) (before : List Wrong) → before ++ flat_map (slot_wrongs areas area contents) (range_with_len 0 (32 - 0)) ≡ before ++ area_wrongs areas area contents
unfolding area_wrongs
begun areas area contents before = refl

pub gone_on : (f : ℕ → List Wrong) (all wrongs after : List Wrong) (i : ℕ) → i < 32 → wrongs ++ flat_map f (range_with_len i (32 - i)) ≡ all → after ≡ wrongs ++ f i
    → after ++ flat_map f (range_with_len (i + 1) (32 - (i + 1))) ≡ all
gone_on f all wrongs after i few so next =
    ap (λ l. l ++ flat_map f (range_with_len (i + 1) (32 - (i + 1)))) next
    ∙ append_assoc wrongs (f i) (flat_map f (range_with_len (i + 1) (32 - (i + 1))))
    ∙ ap (λ r. wrongs ++ flat_map f r) (sym (range_more i 32 few))
    ∙ so

append_none : (xs : List Wrong) → xs ++ [] ≡ xs
append_none [] = refl
append_none (x ∷ xs) = ap (λ l. x ∷ l) (append_none xs)

pub ended : (f : ℕ → List Wrong) (all wrongs : List Wrong) (i : ℕ) → i ≡ 32 → wrongs ++ flat_map f (range_with_len i (32 - i)) ≡ all → wrongs ≡ all
ended f all wrongs i e so =
    sym (append_none wrongs) ∙ sym (ap (λ n. wrongs ++ flat_map f (range_with_len n (32 - n))) e) ∙ so

-- ---- what is reported for a pack
refused_by : (contents : List (List ℕ)) (found : Result Header MountFault) (refusal : Refusal) → IsRefusal found refusal → IsRefused (told_if contents found) (fault_of refusal)
refused_by contents found (BadPack fault) is_err = ap (told_if contents) is_err
refused_by contents found (Sectors fault) refused = tt

pub refused_told : (pack items : List ℕ) (store : List (List ℕ)) (refusal : Refusal) (fault : CheckFault) → items ≡ pack → store ≡ contents_of items
    → IsRefusal (mounted store) refusal → fault ≡ fault_of refusal → IsRefused (told pack) fault
refused_told pack items store refusal fault same is_store refused is_fault =
    let is_contents : store ≡ contents_of pack = is_store ∙ ap contents_of same in
    subst (λ (f : CheckFault). IsRefused (told pack) f) (sym is_fault)
    (refused_by (contents_of pack) (mounted (contents_of pack)) refusal (subst (λ (s : List (List ℕ)). IsRefusal (mounted s) refusal) is_contents refused))

-- ---- packs for which nothing is reported
abbrev file_choice : (indexed good : Bool) → Cause → Option Cause
file_choice indexed good cause = if indexed then (if good then None else Some cause) else None

nothing_wrong : (indexed good : Bool) (cause : Cause) → (indexed ≡ true → good ≡ true) → file_choice indexed good cause ≡ None
nothing_wrong true true cause h = refl
nothing_wrong true false cause h = let e = h refl in absurd cc
nothing_wrong false good cause h = refl

is_right_then : (indexed good : Bool) (cause : Cause) → file_choice indexed good cause ≡ None → indexed ≡ true → good ≡ true
is_right_then true true cause h e = refl
is_right_then true false cause h e = absurd cc
is_right_then false good cause h e = absurd cc

no_cause : (areas : Areas) (area : Area) (i : ℕ) (contents : List (List ℕ)) (slot : Option Slot) → IsRight slot contents → cause_of areas area i contents slot ≡ None
no_cause areas area i contents None right = refl
no_cause areas area i contents (Some Free) right = refl
no_cause areas area i contents (Some (Damaged name)) right = absurd right
no_cause areas area i contents (Some (Sound label)) right =
    nothing_wrong (is_indexed label.organization) (is_good label contents) (Index (first_fault label (bytes_at (sectors_of label) contents))) right

right_by_none : (areas : Areas) (area : Area) (i : ℕ) (contents : List (List ℕ)) (slot : Option Slot) → cause_of areas area i contents slot ≡ None → IsRight slot contents
right_by_none areas area i contents None none = tt
right_by_none areas area i contents (Some Free) none = tt
right_by_none areas area i contents (Some (Damaged name)) none = absurd cc
right_by_none areas area i contents (Some (Sound label)) none = λ indexed.
    is_right_then (is_indexed label.organization) (is_good label contents) (Index (first_fault label (bytes_at (sectors_of label) contents))) none indexed

none_if_empty : (area : Area) (i : ℕ) (name : Option Name) (cause : Option Cause) → wrong_with area i name cause ≡ [] → cause ≡ None
none_if_empty area i name None h = refl
none_if_empty area i name (Some cause) h = absurd cc

slot_right : (areas : Areas) (area : Area) (i : ℕ) (contents : List (List ℕ)) → slot_wrongs areas area contents i ≡ [] → IsRight (slice_get (slots_in (area_number area) areas) i) contents
unfolding slot_wrongs
slot_right areas area i contents h =
    right_by_none areas area i contents (slice_get (slots_in (area_number area) areas) i)
    (none_if_empty area i (name_at (slice_get (slots_in (area_number area) areas) i)) (cause_of areas area i contents (slice_get (slots_in (area_number area) areas) i)) h)

slot_empty : (areas : Areas) (area : Area) (i : ℕ) (contents : List (List ℕ)) → IsRight (slice_get (slots_in (area_number area) areas) i) contents → slot_wrongs areas area contents i ≡ []
unfolding slot_wrongs
slot_empty areas area i contents right =
    ap (wrong_with area i (name_at (slice_get (slots_in (area_number area) areas) i))) (no_cause areas area i contents (slice_get (slots_in (area_number area) areas) i) right)

first_empty : (xs ys : List Wrong) → xs ++ ys ≡ [] → xs ≡ []
first_empty [] ys h = refl
first_empty (x ∷ xs) ys h = absurd cc

rest_empty : (xs ys : List Wrong) → xs ++ ys ≡ [] → ys ≡ []
rest_empty [] ys h = h
rest_empty (x ∷ xs) ys h = absurd cc

all_empty : (f : ℕ → List Wrong) (a n : ℕ) → ((k : ℕ) → a ≤ k → k < a + n → f k ≡ []) → flat_map f (range_with_len a n) ≡ []
all_empty f a zero each = refl
all_empty f a (suc n) each =
    ap₂ (λ xs ys. xs ++ ys) (each a (omega arith) (omega arith)) (all_empty f (a + 1) n (λ k low high. each k (omega (arith, low)) (omega (arith, high))))

each_empty : (f : ℕ → List Wrong) (a n i : ℕ) → i < n → flat_map f (range_with_len a n) ≡ [] → f (a + i) ≡ []
each_empty f a zero i few h = absurd (omega (arith, few))
each_empty f a (suc n) zero few h = let e : a + 0 ≡ a = omega arith in rw e (first_empty (f a) (flat_map f (range_with_len (a + 1) n)) h)
each_empty f a (suc n) (suc i) few h =
    let e : a + suc i ≡ a + 1 + i = omega arith in
    rw e (each_empty f (a + 1) n i (omega (arith, few)) (rest_empty (f a) (flat_map f (range_with_len (a + 1) n)) h))

area_empty : (areas : Areas) (area : Area) (contents : List (List ℕ)) → IsSoundPack areas contents → area_wrongs areas area contents ≡ []
unfolding area_wrongs
area_empty areas area contents sound = all_empty (slot_wrongs areas area contents) 0 32 (λ i low high. slot_empty areas area i contents (sound area i high))

pub sound_is_empty : (areas : Areas) (contents : List (List ℕ)) → IsSoundPack areas contents → wrongs_on areas contents ≡ []
sound_is_empty areas contents sound =
    ap₂ (λ xs ys. xs ++ ys) (ap₂ (λ xs ys. xs ++ ys) (area_empty areas Masters contents sound) (area_empty areas (Level One) contents sound)) (area_empty areas (Level Two) contents sound)

area_right : (areas : Areas) (area : Area) (i : ℕ) (contents : List (List ℕ)) → i < 32 → area_wrongs areas area contents ≡ [] → IsRight (slice_get (slots_in (area_number area) areas) i) contents
unfolding area_wrongs
area_right areas area i contents few h =
    let e : i ≡ 0 + i = omega arith in
    slot_right areas area i contents (ap (slot_wrongs areas area contents) e ∙ each_empty (slot_wrongs areas area contents) 0 32 i few h)

pub empty_is_sound : (areas : Areas) (contents : List (List ℕ)) → wrongs_on areas contents ≡ [] → IsSoundPack areas contents
empty_is_sound areas contents h =
    let front = first_empty (area_wrongs areas Masters contents ++ area_wrongs areas (Level One) contents) (area_wrongs areas (Level Two) contents) h in
    by (first_empty (area_wrongs areas Masters contents) (area_wrongs areas (Level One) contents) front) (rest_empty (area_wrongs areas Masters contents) (area_wrongs areas (Level One) contents) front)
    (rest_empty (area_wrongs areas Masters contents ++ area_wrongs areas (Level One) contents) (area_wrongs areas (Level Two) contents) h)
  where
    by : area_wrongs areas Masters contents ≡ [] → area_wrongs areas (Level One) contents ≡ [] → area_wrongs areas (Level Two) contents ≡ [] → IsSoundPack areas contents
    by a b c Masters i small = area_right areas Masters i contents small a
    by a b c (Level One) i small = area_right areas (Level One) i contents small b
    by a b c (Level Two) i small = area_right areas (Level Two) i contents small c
