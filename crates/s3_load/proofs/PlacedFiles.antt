-- The file that a load fills: the one that is there, or a new one.
use Rattle.std.proofs.Common.{◌≡◌, ◌≢◌, ℕ, zero, suc, ◌+◌, ◌*◌, ◌<◌, ◌⊎◌, inl, inr, Bool, true, false, List, [], ◌∷◌, length, slice_get, slice_set, Option, Some, None, Ok, Err, if◌then◌else◌, refl, sym, ap, ap₂, ◌∙◌, subst, arith}
use Rattle.std.specs.List.{list_any, position_from}
use Rattle.std.proofs.lemmas.Bool.{cases_eq}
use Rattle.s3_cards.specs.declared.levels.LevelId.{LevelId}
use Rattle.s3_cards.specs.declared.levels.LevelId.TheVariants.{One, Two}
use Rattle.s3_cards.specs.declared.name.Name.{Name}
use Rattle.s3_lines.specs.declared.sheet.KeyField.{KeyField}
use Rattle.s3_store.specs.declared.stretch.Stretch.{Stretch}
use Rattle.s3_store.proofs.SectorLists.{slice_get_set_other, slice_get_set_same}
use Rattle.s3_store.proofs.SectorParts.{sector_bytes-same}
use Rattle.s3_slots.specs.Header.{mounted, region_of}
use Rattle.s3_slots.specs.Labels.{file_bytes, is_direct}
use Rattle.s3_slots.specs.Making.{capacity_of, dropped, first_count, made, new_label, put, put_at, put_in, put_over, is_permanent, tracks_of}
use Rattle.s3_slots.specs.Placement.{free_slot, is_free, placed}
use Rattle.s3_slots.specs.Slots.{bears, slot_bytes, slots_of, standing}
use Rattle.s3_slots.specs.declared.header.Format.{Format}
use Rattle.s3_slots.specs.declared.header.Header.{Header}
use Rattle.s3_slots.specs.declared.label.FileLabel.{FileLabel}
use Rattle.s3_slots.specs.declared.label.Organization.{Organization}
use Rattle.s3_slots.specs.declared.label.Organization.TheVariants.{Direct, Indexed, Sequential}
use Rattle.s3_slots.specs.declared.making.LabelFault.TheVariants.{Master, Retained}
use Rattle.s3_slots.specs.declared.making.NewFile.{NewFile}
use Rattle.s3_slots.specs.declared.slot.Slot.{Slot}
use Rattle.s3_slots.specs.declared.slot.Slot.TheVariants.{Damaged, Free, Sound}
use Rattle.s3_slots.specs.declared.slot.Standing.{Standing}
use Rattle.s3_slots.specs.declared.slot.Standing.TheVariants.{Absent, Blocked, Present}
use Rattle.s3_slots.proofs.Judging.{absent_dropped, absent_nowhere}
use Rattle.s3_slots.proofs.Makes.{dropped_is, present_at, present_somewhere}
use Rattle.s3_labels.specs.Areas.{IsLabelSector, area_of}
use Rattle.s3_labels.specs.Inner.Areas.{Areas, IsOfDirect, IsOfMake, IsReady, areas_on, region_at, slots_at, slots_in, with_slots}
use Rattle.s3_labels.specs.Inner.Labelled.{KeepsSaid, SaysSlots}
use Rattle.s3_labels.proofs.Labelled.{judged_as_said, slots_kept as judged_alike}
use Rattle.s3_labels.proofs.MigratedPacks.{file_same}
use Rattle.s3_files.specs.Records.{parts, records_in}
use Rattle.s3_unload.specs.Inner.Ordered.{in_order}
use Rattle.s3_pack_check.specs.Inner.Damages.{first_damaged, is_damaged}
use Rattle.s3_pack_care.specs.Inner.Kept.{IsMounted, IsOther, slot_on}
use Rattle.s3_pack_care.proofs.Named.{first_is}
use Rattle.s3_pack_care.proofs.Placed.{free_there, nowhere}
use Rattle.s3_pack_care.proofs.Relabelled.{file_behind, mounted_same}
use Rattle.s3_load.specs.declared.order.Order.{Order}
use Rattle.s3_load.specs.Inner.Loaded.{HasSpace, IsAsked, IsNewOf, IsPlaced, IsReplaced, IsVacant, MayBeReplaced, has_key, has_key_by, is_damaged_at, records_under, size_asked}
use Rattle.s3_load.specs.Inner.Filling.{counted}
use Rattle.s3_load.proofs.LoadedPacks.{area_few, own_at, own_mounted, own_on, own_within, slot_elsewhere, slots_long}
use Rattle.s3_load.proofs.UndamagedSlots.{undamaged_says}

-- ---- the file that is there
pub there_placed : (order : Order) (areas : Areas) (contents : List (List ℕ)) (label : FileLabel) → order.appends ≡ true → IsMounted areas contents → standing order.name (slots_at order.level areas) ≡ Present label → IsAsked order label
    → IsPlaced order areas.header contents contents label
there_placed order areas contents label appends is stands asked =
    let at = present_at order.name (slots_at order.level areas) label stands in
    let there : slot_on areas.header contents (area_of order.level) at.slot ≡ Some (Sound label) = own_mounted order.level areas contents at.slot is ∙ at.there in
    let on : standing order.name (slots_at order.level (areas_on areas.header contents)) ≡ Present label = ap (λ (a : Areas). standing order.name (slots_at order.level a)) (sym is.judged) ∙ stands in
    record {
      slot = at.slot;
      slot_in = own_within order.level areas.header contents at.slot label there;
      there = there;
      asked = asked;
      begins =
          sym (ap (λ b. if b then records_under (standing order.name (slots_at order.level (areas_on areas.header contents))) contents else []) appends ∙ ap (λ s. records_under s contents) on);
      others = record {
        kept = λ a i other stays. record { slot = refl; bytes = λ one one_there. refl };
        freed = λ a i other replaced. let no : true ≡ false = sym appends ∙ replaced.anew in absurd cc;
      };
      undamaged = λ anew. let no : true ≡ false = sym appends ∙ anew in absurd cc;
      vacant = λ anew. let no : true ≡ false = sym appends ∙ anew in absurd cc;
      kept = λ anew. let no : true ≡ false = sym appends ∙ anew in absurd cc;
      continued = λ _. record { before = label; was = there; same = refl };
      rest = record { labels = λ i few differ stays. refl; sectors = λ n out none. refl };
    }

-- ---- a new file
-- the slots without the old file of that label: all of them, or one is freed
pub record IsFreed (name : Name) (slots : List Slot) : Type 0 where
  pub place : ℕ
  pub at : position_from (bears name) 0 slots ≡ Some place
  pub is : dropped name slots ≡ slice_set slots place Free

abbrev pub IsDropped : Name → List Slot → Type 0
IsDropped name slots = ((position_from (bears name) 0 slots ≡ None) × (dropped name slots ≡ slots)) ⊎ IsFreed name slots

-- the slots after a make
pub record IsMade (format : Format) (region : Stretch) (new : NewFile) (slots after : List Slot) : Type 0 where
  pub at : ℕ
  pub label : FileLabel
  pub named : label.name ≡ new.name
  pub old : IsDropped new.name slots
  pub free : free_slot (dropped new.name slots) ≡ Some at
  pub within : at < length (dropped new.name slots)
  pub set : after ≡ slice_set (dropped new.name slots) at (Sound label)
  pub extents : placed format region (dropped new.name slots) (tracks_of new) ≡ Some label.extents

new_extents : (new : NewFile) (extents : List Stretch) → (new_label new extents).extents ≡ extents
unfolding new_label
new_extents new extents = refl

new_named : (new : NewFile) (extents : List Stretch) → (new_label new extents).name ≡ new.name
unfolding new_label
new_named new extents = refl

put_made : (format : Format) (region : Stretch) (new : NewFile) (slots after : List Slot) → IsDropped new.name slots → put format region new (dropped new.name slots) ≡ Ok after → IsMade format region new slots after
put_made format region new slots after old h = by (free_slot (dropped new.name slots)) refl h
  where
    room : (at : ℕ) (found : Option (List Stretch)) → placed format region (dropped new.name slots) (tracks_of new) ≡ found → free_slot (dropped new.name slots) ≡ Some at → at < length (dropped new.name slots) → put_in new (dropped new.name slots) at found ≡ Ok after → IsMade format region new slots after
    room at None is free low e = absurd cc
    room at (Some extents) is free low e =
        let set : slice_set (dropped new.name slots) at (Sound (new_label new extents)) ≡ after = cc in
        record { at = at; label = new_label new extents; named = new_named new extents; old = old; free = free; within = low; set = sym set; extents = is ∙ ap Some (sym (new_extents new extents)) }

    by : (at : Option ℕ) → free_slot (dropped new.name slots) ≡ at → put_at format region new (dropped new.name slots) at ≡ Ok after → IsMade format region new slots after
    by None free e = absurd cc
    by (Some at) free e = room at (placed format region (dropped new.name slots) (tracks_of new)) refl free (let low = (first_is is_free 0 at (dropped new.name slots) free).within in omega (arith, low)) e

pub made_is : (format : Format) (region : Stretch) (masters : List Slot) (new : NewFile) (slots after : List Slot) → made format region masters new slots ≡ Ok after → IsMade format region new slots after
unfolding made
made_is format region masters new slots after h = own (list_any (bears new.name) masters) h
  where
    freed : (old : FileLabel) → standing new.name slots ≡ Present old → (place : Option ℕ) → position_from (bears new.name) 0 slots ≡ place → IsDropped new.name slots
    freed old stands None at = absurd (present_somewhere new.name slots old stands at)
    freed old stands (Some place) at = inr (record { place = place; at = at; is = dropped_is new.name slots old place stands at })

    over : (permanent : Bool) (old : FileLabel) → standing new.name slots ≡ Present old → (if permanent then Err Retained else put format region new (dropped new.name slots)) ≡ Ok after → IsMade format region new slots after
    over true old stands k = absurd cc
    over false old stands k = put_made format region new slots after (freed old stands (position_from (bears new.name) 0 slots) refl) k

    by : (stands : Standing) → standing new.name slots ≡ stands → put_over format region new slots stands ≡ Ok after → IsMade format region new slots after
    by Absent e k =
        let same = absent_dropped new.name slots e in
        put_made format region new slots after (inl (absent_nowhere new.name slots e, same)) (ap (put format region new) same ∙ k)
    by Blocked e k = absurd cc
    by (Present old) e k = over (is_permanent old.retention) old e k

    own : (b : Bool) → (if b then Err Master else put_over format region new slots (standing new.name slots)) ≡ Ok after → IsMade format region new slots after
    own true k = absurd cc
    own false k = by (standing new.name slots) refl k

-- what a make asks of the slots
pub record IsMakeable (masters : List Slot) (name : Name) (slots : List Slot) : Type 0 where
  pub unmastered : list_any (bears name) masters ≡ false
  pub replaceable : MayBeReplaced (standing name slots)

makeable : (format : Format) (region : Stretch) (masters : List Slot) (new : NewFile) (slots after : List Slot) → made format region masters new slots ≡ Ok after → IsMakeable masters new.name slots
unfolding made
makeable format region masters new slots after h = own (list_any (bears new.name) masters) refl h
  where
    over : (permanent : Bool) (old : FileLabel) → is_permanent old.retention ≡ permanent → (if permanent then Err Retained else put format region new (dropped new.name slots)) ≡ Ok after → MayBeReplaced (Present old)
    over true old is k = absurd cc
    over false old is k = is

    by : (stands : Standing) → put_over format region new slots stands ≡ Ok after → MayBeReplaced stands
    by Absent k = tt
    by Blocked k = absurd cc
    by (Present old) k = over (is_permanent old.retention) old refl k

    own : (b : Bool) → list_any (bears new.name) masters ≡ b → (if b then Err Master else put_over format region new slots (standing new.name slots)) ≡ Ok after → IsMakeable masters new.name slots
    own true is k = absurd cc
    own false is k = record { unmastered = is; replaceable = by (standing new.name slots) k }

-- a slot that isn't the new file's, nor the old one's
kept_slot : (name : Name) (slots : List Slot) (i : ℕ) → IsDropped name slots → (position_from (bears name) 0 slots ≡ Some i → ⊥) → slice_get (dropped name slots) i ≡ slice_get slots i
kept_slot name slots i (inl none) other = ap (λ l. slice_get l i) none.1
kept_slot name slots i (inr gone) other = ap (λ l. slice_get l i) gone.is ∙ slice_get_set_other slots gone.place i Free (λ same. other (gone.at ∙ ap Some (sym same)))

freed_slot : (name : Name) (slots : List Slot) (i : ℕ) → IsDropped name slots → length slots ≡ 32 → i < 32 → position_from (bears name) 0 slots ≡ Some i → slice_get (dropped name slots) i ≡ Some Free
freed_slot name slots i (inl none) long few at = let no : None ≡ Some i = sym none.0 ∙ at in absurd cc
freed_slot name slots i (inr gone) long few at =
    let both : Some gone.place ≡ Some i = sym gone.at ∙ at in
    let same : gone.place ≡ i = cc in
    ap (λ l. slice_get l i) (gone.is ∙ ap (λ p. slice_set slots p Free) same) ∙ slice_get_set_same slots i Free (omega (arith, long, few))

-- a new file that isn't direct has no records yet
none_in_order : (label : FileLabel) (contents : List (List ℕ)) → label.count ≡ 0 → in_order label contents ≡ []
unfolding in_order records_in
none_in_order label contents none = ap (λ count. parts (λ i. i * label.record_length) label.record_length count (file_bytes label contents)) none

none_counted : (new : NewFile) (extents : List Stretch) → (new_label new extents).count ≡ first_count new.organization (capacity_of new)
unfolding new_label
none_counted new extents = refl

no_count : (o : Organization) (capacity : ℕ) → is_direct o ≡ false → first_count o capacity ≡ 0
no_count Sequential capacity h = refl
no_count Indexed capacity h = refl
no_count Direct capacity h = absurd cc

no_records : (new : NewFile) (label : FileLabel) (contents : List (List ℕ)) → is_direct new.organization ≡ false → label ≡ new_label new label.extents → in_order label contents ≡ []
no_records new label contents other is = none_in_order label contents (ap (λ (l : FileLabel). l.count) is ∙ none_counted new label.extents ∙ no_count new.organization (capacity_of new) other)

new_organization : (new : NewFile) (extents : List Stretch) → (new_label new extents).organization ≡ new.organization
unfolding new_label
new_organization new extents = refl

pub set_header : (level : LevelId) (old after : Areas) → after ≡ with_slots level (slots_at level after) old → after.header ≡ old.header
set_header One old after set = ap (λ (a : Areas). a.header) set
set_header Two old after set = ap (λ (a : Areas). a.header) set

abbrev of_parts : Header → (masters level_one level_two : List Slot) → Areas
of_parts header masters level_one level_two = record { header = header; masters = masters; level_one = level_one; level_two = level_two }

-- the areas after a make are those that a mount judges
set_judged : (level : LevelId) (old after : Areas) (s t : List (List ℕ)) → after ≡ with_slots level (slots_at level after) old → old ≡ areas_on old.header s → slots_at level after ≡ slots_of old.header.format (region_of level old.header) (area_of level) t
    → ((n : ℕ) → ¬ IsLabelSector (area_of level) n → slice_get t n ≡ slice_get s n) → after ≡ areas_on old.header t
set_judged One old after s t set judged own kept =
    let masters : old.masters ≡ slots_of old.header.format old.header.masters 0 t =
    ap (λ (a : Areas). a.masters) judged ∙ sym (judged_alike old.header.format old.header.masters 0 s t (λ n is. kept n (λ mine. omega (arith, is.1, mine.0)))) in
    let two : old.level_two ≡ slots_of old.header.format old.header.level_two 2 t =
    ap (λ (a : Areas). a.level_two) judged ∙ sym (judged_alike old.header.format old.header.level_two 2 s t (λ n is. kept n (λ mine. omega (arith, is.0, mine.1)))) in
    set ∙ ap (λ o. of_parts old.header old.masters o old.level_two) own ∙ ap₂ (λ m w. of_parts old.header m (slots_of old.header.format old.header.level_one 1 t) w) masters two
set_judged Two old after s t set judged own kept =
    let masters : old.masters ≡ slots_of old.header.format old.header.masters 0 t =
    ap (λ (a : Areas). a.masters) judged ∙ sym (judged_alike old.header.format old.header.masters 0 s t (λ n is. kept n (λ mine. omega (arith, is.1, mine.0)))) in
    let one : old.level_one ≡ slots_of old.header.format old.header.level_one 1 t =
    ap (λ (a : Areas). a.level_one) judged ∙ sym (judged_alike old.header.format old.header.level_one 1 s t (λ n is. kept n (λ mine. omega (arith, is.1, mine.0)))) in
    set ∙ ap (λ w. of_parts old.header old.masters old.level_one w) own ∙ ap₂ (λ m o. of_parts old.header m o (slots_of old.header.format old.header.level_two 2 t)) masters one

says_on : (level : LevelId) (areas : Areas) (contents : List (List ℕ)) → IsMounted areas contents → SaysSlots level (areas_on areas.header contents) contents → SaysSlots level areas contents
says_on level areas contents is says = subst (λ (a : Areas). SaysSlots level a contents) (sym is.judged) says

own_slots : (level : LevelId) (areas : Areas) → slots_in (area_of level) areas ≡ slots_at level areas
own_slots One areas = refl
own_slots Two areas = refl

not_direct : (key : Option KeyField) (o : Organization) (key_length key_start : ℕ) → has_key_by key o key_length key_start ≡ true → is_direct o ≡ false
not_direct key Sequential key_length key_start h = refl
not_direct key Indexed key_length key_start h = refl
not_direct None Direct key_length key_start h = absurd cc
not_direct (Some key) Direct key_length key_start h = absurd cc

new_retention : (new : NewFile) (extents : List Stretch) → (new_label new extents).retention ≡ new.retention
unfolding new_label
new_retention new extents = refl

new_date : (new : NewFile) (extents : List Stretch) → (new_label new extents).date ≡ new.date
unfolding new_label
new_date new extents = refl

new_length : (new : NewFile) (extents : List Stretch) → (new_label new extents).record_length ≡ new.record_length
unfolding new_label
new_length new extents = refl

new_key : (key : Option KeyField) (new : NewFile) (extents : List Stretch) → has_key key (new_label new extents) ≡ has_key_by key new.organization new.key_length new.key_start
unfolding new_label
new_key key new extents = refl

-- where no slot is damaged none is at any place
none_damaged : (slots : List Slot) (k i : ℕ) → position_from is_damaged k slots ≡ None → is_damaged_at (slice_get slots i) ≡ false
none_damaged [] k i none = refl
none_damaged (slot ∷ slots) k zero none = (nowhere is_damaged k slot slots none).0
none_damaged (slot ∷ slots) k (suc i) none = none_damaged slots (k + 1) i (nowhere is_damaged k slot slots none).1

module _ (order : Order) (new : NewFile) (areas after : Areas) (s t : List (List ℕ)) (label : FileLabel) (slot : ℕ) (anew : order.appends ≡ false) (is : IsMounted areas s) (ready : IsReady after t)
    (none : first_damaged (slots_in (area_of order.level) areas) ≡ None)
    (make : made areas.header.format (region_at order.level areas) areas.masters new (slots_at order.level areas) ≡ Ok (slots_at order.level after)) (set : after ≡ with_slots order.level (slots_at order.level after) areas)
    (there : slice_get (slots_at order.level after) slot ≡ Some (Sound label)) (named : label.name ≡ new.name) (is_new : label ≡ new_label new label.extents) (says : KeepsSaid order.level areas s after t)
    (count : length t ≡ length s)
    (within : (i : ℕ) → ¬ IsOfMake (area_of order.level) new.name (made areas.header.format (region_at order.level areas) areas.masters new (slots_at order.level areas)) i → slice_get t i ≡ slice_get s i)
    (others : (j : ℕ) → j < 32 → position_from (bears new.name) 0 (slots_at order.level areas) ≢ Some j → free_slot (dropped new.name (slots_at order.level areas)) ≢ Some j → slot_bytes (area_of order.level) t j ≡ slot_bytes (area_of order.level) s j)
    (is_asked_for : IsNewOf order new) where
  other_kind : is_direct new.organization ≡ false
  other_kind = not_direct order.key new.organization new.key_length new.key_start is_asked_for.keyed

  own_name : new.name ≡ order.name
  own_name = is_asked_for.named

  asked : IsAsked order label
  asked = record {
    named = named ∙ own_name;
    long = ap (λ (l : FileLabel). l.record_length) is_new ∙ new_length new label.extents ∙ is_asked_for.long;
    keyed = ap (has_key order.key) is_new ∙ new_key order.key new label.extents ∙ is_asked_for.keyed;
  }

  long : length (slots_at order.level areas) ≡ 32
  long = ap (λ (a : Areas). length (slots_at order.level a)) is.judged ∙ ap length (own_at order.level areas.header s) ∙ slots_long areas.header.format (region_of order.level areas.header) (area_of order.level) s

  undamaged : (i : ℕ) (name : Option Name) → slice_get (slots_at order.level areas) i ≡ Some (Damaged name) → ⊥
  undamaged i name damaged =
      let at : slice_get (slots_in (area_of order.level) areas) i ≡ Some (Damaged name) = ap (λ slots. slice_get slots i) (own_slots order.level areas) ∙ damaged in
      let is_so : true ≡ false = sym (ap is_damaged_at at) ∙ none_damaged (slots_in (area_of order.level) areas) 0 i none in
      absurd cc

  no_direct : (n : ℕ) → IsOfDirect (slots_at order.level after) new.name n → ⊥
  no_direct n of =
      let same : of.slot ≡ slot = (ready.own order.level).named of.slot slot of.label label of.there there (of.named ∙ sym named) in
      let both : Some (Sound of.label) ≡ Some (Sound label) = sym of.there ∙ ap (slice_get (slots_at order.level after)) same ∙ there in
      let label_same : of.label ≡ label = cc in
      let direct : is_direct label.organization ≡ true = ap (λ (l : FileLabel). is_direct l.organization) (sym label_same) ∙ of.has.0 in
      let kind : label.organization ≡ new.organization = ap (λ (l : FileLabel). l.organization) is_new ∙ new_organization new label.extents in
      let no : true ≡ false = sym direct ∙ ap is_direct kind ∙ other_kind in
      absurd cc

  frame : (n : ℕ) → ¬ IsLabelSector (area_of order.level) n → slice_get t n ≡ slice_get s n
  frame n out = within n (λ of. elim (subst (λ r. IsOfMake (area_of order.level) new.name r n) make of) [ inl label_sector ↦ absurd (out label_sector) | inr direct ↦ absurd (no_direct n direct) ])

  header_same : after.header ≡ areas.header
  header_same = set_header order.level areas after set

  judged_own : slots_at order.level after ≡ slots_of areas.header.format (region_of order.level areas.header) (area_of order.level) t
  judged_own =
      let on : SaysSlots order.level (areas_on areas.header s) s = undamaged_says order.level areas.header s (λ i name damaged. undamaged i name (ap (λ (a : Areas). slice_get (slots_at order.level a) i) is.judged ∙ damaged)) in
      sym (judged_as_said order.level after t (ready.own order.level) (says (says_on order.level areas s is on))) ∙ ap (λ (h : Header). slots_of h.format (region_of order.level h) (area_of order.level) t) header_same

  made_judged : after ≡ areas_on areas.header t
  made_judged = set_judged order.level areas after s t set is.judged judged_own frame

  mounts : mounted t ≡ Ok areas.header
  mounts = mounted_same s t count (frame 0 (λ sector. omega (arith, sector.0))) ∙ is.mounts

  pub made_mounted : IsMounted after t
  made_mounted = record { mounts = mounts ∙ ap Ok (sym header_same); judged = made_judged ∙ ap (λ h. areas_on h t) (sym header_same) }

  -- ---- slot by slot
  now_on : (i : ℕ) → slot_on areas.header t (area_of order.level) i ≡ slice_get (slots_at order.level after) i
  now_on i = own_on order.level areas.header t i ∙ ap (λ slots. slice_get slots i) (sym judged_own)

  was_on : (i : ℕ) → slot_on areas.header s (area_of order.level) i ≡ slice_get (slots_at order.level areas) i
  was_on i = own_mounted order.level areas s i is

  is_made : IsMade areas.header.format (region_at order.level areas) new (slots_at order.level areas) (slots_at order.level after)
  is_made = made_is areas.header.format (region_at order.level areas) areas.masters new (slots_at order.level areas) (slots_at order.level after) make

  -- the new label is in the slot of the make
  new_place : slot ≡ is_made.at
  new_place =
      let at_place : slice_get (slots_at order.level after) is_made.at ≡ Some (Sound is_made.label) =
      ap (λ slots. slice_get slots is_made.at) is_made.set ∙ slice_get_set_same (dropped new.name (slots_at order.level areas)) is_made.at (Sound is_made.label) is_made.within in
      (ready.own order.level).named slot is_made.at label is_made.label there at_place (named ∙ sym is_made.named)

  made_label : label ≡ is_made.label
  made_label =
      let at_place : slice_get (slots_at order.level after) is_made.at ≡ Some (Sound is_made.label) =
      ap (λ slots. slice_get slots is_made.at) is_made.set ∙ slice_get_set_same (dropped new.name (slots_at order.level areas)) is_made.at (Sound is_made.label) is_made.within in
      let both : Some (Sound label) ≡ Some (Sound is_made.label) = sym there ∙ ap (slice_get (slots_at order.level after)) new_place ∙ at_place in
      cc

  other_slot : (i : ℕ) → i ≢ slot → slice_get (slots_at order.level after) i ≡ slice_get (dropped new.name (slots_at order.level areas)) i
  other_slot i differ = ap (λ slots. slice_get slots i) is_made.set ∙ slice_get_set_other (dropped new.name (slots_at order.level areas)) is_made.at i (Sound is_made.label) (λ e. differ (e ∙ sym new_place))

  replaced_place : (a i : ℕ) → IsReplaced order areas.header s a i → position_from (bears new.name) 0 (slots_at order.level areas) ≡ Some i
  replaced_place a i gone = ap₂ (λ name slots. position_from (bears name) 0 slots) own_name (ap (slots_at order.level) is.judged) ∙ gone.place

  kept_there : (i : ℕ) → i ≢ slot → ¬ IsReplaced order areas.header s (area_of order.level) i → slot_on areas.header t (area_of order.level) i ≡ slot_on areas.header s (area_of order.level) i
  kept_there i differ stays =
      now_on i ∙ other_slot i differ
      ∙ kept_slot new.name (slots_at order.level areas) i is_made.old (λ at. stays (record { anew = anew; own = refl; place = sym (ap₂ (λ name slots. position_from (bears name) 0 slots) own_name (ap (slots_at order.level) is.judged)) ∙ at }))
      ∙ sym (was_on i)

  kept_slots : (a i : ℕ) → IsOther (area_of order.level) slot a i → ¬ IsReplaced order areas.header s a i → slot_on areas.header t a i ≡ slot_on areas.header s a i
  kept_slots a i other stays = elim (cases_eq a (area_of order.level)) [
    | inl here ↦ rw here (kept_there i (λ e. other.other here e) (λ gone. stays (record { anew = gone.anew; own = here; place = gone.place })))
    | inr differ ↦ slot_elsewhere areas.header s t a i other.area_in (λ k sector. frame k (λ mine. differ (omega (arith, sector.0, sector.1, mine.0, mine.1))))
  ]

  kept_bytes : (a i : ℕ) (one : FileLabel) → a < 3 → slot_on areas.header s a i ≡ Some (Sound one) → file_bytes one t ≡ file_bytes one s
  kept_bytes a i one few stands = file_same one t s (λ k has. sector_bytes-same s t k (frame k (λ sector.
      let behind = file_behind areas.header s a i one k is.mounts few stands has in
      let level_few = area_few order.level in
      omega (arith, sector.1, behind, level_few))))

  freed_there : (i : ℕ) → i < 32 → i ≢ slot → position_from (bears new.name) 0 (slots_at order.level areas) ≡ Some i → slot_on areas.header t (area_of order.level) i ≡ Some Free
  freed_there i few differ at = now_on i ∙ other_slot i differ ∙ freed_slot new.name (slots_at order.level areas) i is_made.old long few at

  new_there : slot_on areas.header t (area_of order.level) slot ≡ Some (Sound label)
  new_there = now_on slot ∙ there

  -- the slot of the new file
  same_slots : slots_at order.level areas ≡ slots_at order.level (areas_on areas.header s)
  same_slots = ap (slots_at order.level) is.judged

  gone_at : (i : ℕ) → position_from (bears new.name) 0 (slots_at order.level areas) ≡ Some i → IsReplaced order areas.header s (area_of order.level) i
  gone_at i at = record { anew = anew; own = refl; place = sym (ap₂ (λ name slots. position_from (bears name) 0 slots) own_name same_slots) ∙ at }

  free_at : free_slot (dropped new.name (slots_at order.level areas)) ≡ Some slot
  free_at = is_made.free ∙ ap Some (sym new_place)

  was_free : slice_get (dropped new.name (slots_at order.level areas)) slot ≡ Some Free
  was_free = free_there (dropped new.name (slots_at order.level areas)) slot free_at

  was_there : IsDropped new.name (slots_at order.level areas) → (slot_on areas.header s (area_of order.level) slot ≡ Some Free) ⊎ IsReplaced order areas.header s (area_of order.level) slot
  was_there (inl none) = inl (was_on slot ∙ sym (ap (λ l. slice_get l slot) none.1) ∙ was_free)
  was_there (inr gone) = elim (cases_eq slot gone.place) [
    | inl here ↦ inr (gone_at slot (gone.at ∙ ap Some (sym here)))
    | inr differ ↦ inl (was_on slot ∙ sym (ap (λ l. slice_get l slot) gone.is ∙ slice_get_set_other (slots_at order.level areas) gone.place slot Free differ) ∙ was_free)
  ]

  allowed : IsMakeable areas.masters new.name (slots_at order.level areas)
  allowed = makeable areas.header.format (region_at order.level areas) areas.masters new (slots_at order.level areas) (slots_at order.level after) make

  vacant : IsVacant order areas.header s slot
  vacant = record {
    lowest = sym (ap₂ (λ name slots. free_slot (dropped name slots)) own_name same_slots) ∙ free_at;
    was = was_there is_made.old;
    replaceable = subst MayBeReplaced (ap₂ standing own_name same_slots) allowed.replaceable;
    unmastered = sym (ap₂ (λ name masters. list_any (bears name) masters) own_name (ap (λ (a : Areas). a.masters) is.judged)) ∙ allowed.unmastered;
  }

  pub made_space : (rows : ℕ) → new.size ≡ size_asked order.room rows → HasSpace order rows areas.header s label
  made_space rows sized = record {
    new = new;
    sized = sized;
    is = ap (λ (l : FileLabel). counted l label.count) is_new;
    extents =
        sym (ap₂ (λ name slots. placed areas.header.format (region_at order.level areas) (dropped name slots) (tracks_of new)) own_name same_slots) ∙ is_made.extents
        ∙ ap (λ (l : FileLabel). Some l.extents) (sym made_label);
  }

  pub made_placed : IsPlaced order areas.header s t label
  made_placed = record {
    slot = slot;
    slot_in = own_within order.level areas.header t slot label new_there;
    there = new_there;
    asked = asked;
    begins =
        no_records new label t other_kind is_new
        ∙ sym (ap (λ b. if b then records_under (standing order.name (slots_at order.level (areas_on areas.header s))) s else []) anew);
    vacant = λ _. vacant;
    kept = λ _. record {
      retained = ap (λ (l : FileLabel). l.retention) is_new ∙ new_retention new label.extents ∙ is_asked_for.retained;
      dated = ap (λ (l : FileLabel). l.date) is_new ∙ new_date new label.extents ∙ is_asked_for.dated;
    };
    continued = λ goes_on. let no : true ≡ false = sym goes_on ∙ anew in absurd cc;
    rest = record {
      labels = λ i few differ stays. others i few (λ at. stays (gone_at i at)) (λ at. let same : Some i ≡ Some slot = sym at ∙ free_at in let e : i ≡ slot = cc in differ e);
      sectors = λ n out none. frame n out;
    };
    others = record {
      kept = λ a i other stays. record { slot = kept_slots a i other stays; bytes = λ one stands. kept_bytes a i one other.area_in stands };
      freed = λ a i other gone. rw gone.own (freed_there i other.slot_in (λ e. other.other gone.own e) (replaced_place a i gone));
    };
    undamaged = λ _ i few. ap is_damaged_at (was_on i ∙ ap (λ slots. slice_get slots i) (sym (own_slots order.level areas))) ∙ none_damaged (slots_in (area_of order.level) areas) 0 i none;
  }
