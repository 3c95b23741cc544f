-- Slots of a level that were changed.
use Rattle.std.proofs.Common.{◌≡◌, ◌≢◌, ℕ, List, Option, Some, None, Result, Ok, true, refl, sym, ap, ◌∙◌, subst}
use Rattle.std.specs.List.{position_from}
use Rattle.s3_cards.specs.declared.levels.LevelId.{LevelId}
use Rattle.s3_cards.specs.declared.levels.LevelId.TheVariants.{One, Two}
use Rattle.s3_cards.specs.declared.name.Name.{Name}
use Rattle.s3_store.specs.Inner.State.{PoolState, ChangesWithin}
use Rattle.s3_slots.specs.Slots.{bears, standing, is_count_of}
use Rattle.s3_slots.specs.Inner.Making.{refusal, with_count, without_label, unless_refused, IsNewFile}
use Rattle.s3_slots.specs.Making.{changed_in, counted, dropped, made}
use Rattle.s3_slots.specs.declared.making.LabelFault.{LabelFault}
use Rattle.s3_slots.specs.declared.slot.Slot.{Slot}
use Rattle.s3_slots.specs.declared.slot.Slot.TheVariants.{Free, Sound}
use Rattle.s3_slots.specs.Inner.Kept.{AreKept}
use Rattle.s3_slots.specs.declared.label.FileLabel.{FileLabel}
use Rattle.s3_slots.specs.declared.making.NewFile.{NewFile}
use Rattle.s3_slots.specs.declared.slot.Standing.{Standing}
use Rattle.s3_slots.specs.declared.slot.Standing.TheVariants.{Present}
use Rattle.s3_slots.proofs.Judging.{counted_kept, dropped_kept, made_kept}
use Rattle.s3_labels.specs.Inner.Areas.{Areas, IsReady, MayHave, region_at, slots_at, with_slots}
use Rattle.s3_labels.proofs.Regions.{ready_region, ready_set}

pub at_with : (level : LevelId) (slots : List Slot) (areas : Areas) → slots_at level (with_slots level slots areas) ≡ slots
at_with One slots areas = refl
at_with Two slots areas = refl

pub header_with : (level : LevelId) (slots : List Slot) (areas : Areas) → (with_slots level slots areas).header ≡ areas.header
header_with One slots areas = refl
header_with Two slots areas = refl

counted_at : (name : Name) (n place : ℕ) (slots : List Slot) → position_from (bears name) 0 slots ≡ Some place → counted name n slots ≡ changed_in (λ label. Sound (record label { count = n })) slots (Some place)
unfolding counted
counted_at name n place slots h = ap (changed_in (λ label. Sound (record label { count = n })) slots) h

dropped_at : (name : Name) (place : ℕ) (slots : List Slot) → position_from (bears name) 0 slots ≡ Some place → dropped name slots ≡ changed_in (λ label. Free) slots (Some place)
unfolding dropped
dropped_at name place slots h = ap (changed_in (λ label. Free) slots) h

pub count_set : (level : LevelId) (name : Name) (n place : ℕ) (old new : Areas) → refusal (standing name (slots_at level old)) ≡ None → position_from (bears name) 0 (slots_at level old) ≡ Some place
    → new ≡ with_slots level (changed_in (λ label. Sound (record label { count = n })) (slots_at level old) (Some place)) old → with_count name n (slots_at level old) ≡ Ok (slots_at level new)
count_set level name n place old new sound at set =
    ap (λ fault. unless_refused fault (counted name n (slots_at level old))) sound
    ∙ ap (λ slots. let r : Result (List Slot) LabelFault = Ok slots in r) (counted_at name n place (slots_at level old) at ∙ sym (at_with level (changed_in (λ label. Sound (record label { count = n })) (slots_at level old) (Some place)) old) ∙ sym (ap (slots_at level) set))

pub label_dropped : (level : LevelId) (name : Name) (place : ℕ) (old new : Areas) → refusal (standing name (slots_at level old)) ≡ None → position_from (bears name) 0 (slots_at level old) ≡ Some place
    → new ≡ with_slots level (changed_in (λ label. Free) (slots_at level old) (Some place)) old → without_label name (slots_at level old) ≡ Ok (slots_at level new)
label_dropped level name place old new sound at set =
    ap (λ fault. unless_refused fault (dropped name (slots_at level old))) sound
    ∙ ap (λ slots. let r : Result (List Slot) LabelFault = Ok slots in r) (dropped_at name place (slots_at level old) at ∙ sym (at_with level (changed_in (λ label. Free) (slots_at level old) (Some place)) old) ∙ sym (ap (slots_at level) set))

pub ready_with : (level : LevelId) (slots : List Slot) (old new : Areas) (region : ℕ → Type 0) (s t : PoolState) → new ≡ with_slots level slots old → ChangesWithin region s t → IsReady old s.contents
    → AreKept (region_at level old) slots → IsReady new t.contents
ready_with level slots old new region s t set within ready kept = rw set (ready_set level slots old s.contents t.contents ready kept within.count)

may_have : (n : ℕ) (stands : Standing) (label : FileLabel) → MayHave n stands → stands ≡ Present label → is_count_of label.organization label.capacity n ≡ true
may_have n stands label may e = let h : MayHave n (Present label) = rw e at may in h

pub count_kept : (level : LevelId) (name : Name) (n place : ℕ) (areas : Areas) (contents : List (List ℕ)) → IsReady areas contents → position_from (bears name) 0 (slots_at level areas) ≡ Some place
    → MayHave n (standing name (slots_at level areas)) → AreKept (region_at level areas) (changed_in (λ label. Sound (record label { count = n })) (slots_at level areas) (Some place))
count_kept level name n place areas contents ready at may =
    subst (λ (slots : List Slot). AreKept (region_at level areas) slots) (counted_at name n place (slots_at level areas) at)
    (counted_kept (region_at level areas) name n (slots_at level areas) (λ label e. may_have n (standing name (slots_at level areas)) label may e) (ready.own level))

pub drop_kept : (level : LevelId) (name : Name) (place : ℕ) (areas : Areas) (contents : List (List ℕ)) → IsReady areas contents → position_from (bears name) 0 (slots_at level areas) ≡ Some place
    → AreKept (region_at level areas) (changed_in (λ label. Free) (slots_at level areas) (Some place))
drop_kept level name place areas contents ready at =
    subst (λ (slots : List Slot). AreKept (region_at level areas) slots) (dropped_at name place (slots_at level areas) at) (dropped_kept (region_at level areas) name (slots_at level areas) (ready.own level))

pub made_ready : (level : LevelId) (new : NewFile) (old after : Areas) (region : ℕ → Type 0) (s t : PoolState) → IsReady old s.contents → IsNewFile new
    → made old.header.format (region_at level old) old.masters new (slots_at level old) ≡ Ok (slots_at level after) → after ≡ with_slots level (slots_at level after) old → ChangesWithin region s t
    → IsReady after t.contents
made_ready level new old after region s t ready proper is set within =
    ready_with level (slots_at level after) old after region s t set within ready
    (made_kept old.header.format (region_at level old) old.masters new (slots_at level old) (slots_at level after) (ready_region level old s.contents ready).whole proper (ready.own level) is)

pub other_place : (found : Option ℕ) (place j : ℕ) → found ≡ Some place → found ≢ Some j → j ≢ place
other_place found place j is other = λ e. other (is ∙ ap Some (sym e))
