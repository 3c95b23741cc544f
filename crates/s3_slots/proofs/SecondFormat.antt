-- What a make comes to in either format.
use Rattle.std.proofs.Common.{◌≡◌, ℕ, Bool, true, false, List, Option, Some, None, refl, ap}
use Rattle.std.specs.Prelude.{Err, if◌then◌else◌}
use Rattle.std.specs.List.{list_any}
use Rattle.s3_store.specs.declared.stretch.Stretch.{Stretch}
use Rattle.s3_slots.specs.declared.header.Format.{Format}
use Rattle.s3_slots.specs.declared.header.Format.TheVariants.{First, Second}
use Rattle.s3_slots.specs.declared.making.LabelFault.TheVariants.{Master, NoSpace, Retained}
use Rattle.s3_slots.specs.declared.making.NewFile.{NewFile}
use Rattle.s3_slots.specs.declared.slot.Slot.{Slot}
use Rattle.s3_slots.specs.declared.slot.Standing.{Standing}
use Rattle.s3_slots.specs.declared.slot.Standing.TheVariants.{Absent, Blocked, Present}
use Rattle.s3_slots.specs.Making.{made, put, put_at, put_in, put_over, is_permanent, dropped, tracks_of}
use Rattle.s3_slots.specs.Placement.{free_slot, lowest_place, placed, placed_or}
use Rattle.s3_slots.specs.Slots.{bears, standing}

extents_same : (format : Format) (region : Stretch) (slots : List Slot) (tracks : ℕ) (one : Option Stretch) (extents : List Stretch)
    → placed_or format region slots tracks one ≡ Some extents → placed_or Second region slots tracks one ≡ Some extents
extents_same First region slots tracks (Some extent) extents h = h
extents_same First region slots tracks None extents h = absurd cc
extents_same Second region slots tracks one extents h = h

put_same : (format : Format) (region : Stretch) (new : NewFile) (slots : List Slot) → (put format region new slots ≡ Err NoSpace → ⊥)
    → put Second region new slots ≡ put format region new slots
unfolding placed
put_same format region new slots = by (free_slot slots)
  where
    in_slot : (at : ℕ) (one other : Option (List Stretch)) → ((extents : List Stretch) → one ≡ Some extents → other ≡ Some extents)
        → (put_in new slots at one ≡ Err NoSpace → ⊥) → put_in new slots at other ≡ put_in new slots at one
    in_slot at None other same room = absurd (room refl)
    in_slot at (Some extents) other same room = ap (put_in new slots at) (same extents refl)

    by : (at : Option ℕ) → (put_at format region new slots at ≡ Err NoSpace → ⊥) → put_at Second region new slots at ≡ put_at format region new slots at
    by None room = refl
    by (Some at) room =
        in_slot at (placed format region slots (tracks_of new)) (placed Second region slots (tracks_of new))
        (extents_same format region slots (tracks_of new) (lowest_place region slots (tracks_of new))) room

-- A file that is made in a format is made in the second one with the same slots. A refused file is refused there too, unless space was
-- lacking.
pub made_same : (format : Format) (region : Stretch) (masters : List Slot) (new : NewFile) (slots : List Slot) → (made format region masters new slots ≡ Err NoSpace → ⊥)
    → made Second region masters new slots ≡ made format region masters new slots
unfolding made
made_same format region masters new slots = by (list_any (bears new.name) masters)
  where
    retained : (b : Bool) → ((if b then Err Retained else put format region new (dropped new.name slots)) ≡ Err NoSpace → ⊥)
        → (if b then Err Retained else put Second region new (dropped new.name slots)) ≡ (if b then Err Retained else put format region new (dropped new.name slots))
    retained true room = refl
    retained false room = put_same format region new (dropped new.name slots) room

    over : (old : Standing) → (put_over format region new slots old ≡ Err NoSpace → ⊥) → put_over Second region new slots old ≡ put_over format region new slots old
    over Absent room = put_same format region new slots room
    over Blocked room = refl
    over (Present old) room = retained (is_permanent old.retention) room

    by : (b : Bool) → ((if b then Err Master else put_over format region new slots (standing new.name slots)) ≡ Err NoSpace → ⊥)
        → (if b then Err Master else put_over Second region new slots (standing new.name slots)) ≡ (if b then Err Master else put_over format region new slots (standing new.name slots))
    by true room = refl
    by false room = over (standing new.name slots) room
