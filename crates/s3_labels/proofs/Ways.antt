-- Sectors read, and slots judged one after another.
use Rattle.std.proofs.Common.{◌≡◌, ℕ, ◌+◌, ◌-◌, ◌<◌, List, [], ◌∷◌, ◌++◌, map, length, replicate, slice_get, Some, refl, sym, ap, ◌∙◌}
use Rattle.std.specs.List.{range_with_len}
use Rattle.s3_store.specs.Bytes.{sector_bytes}
use Rattle.s3_slots.specs.declared.header.Format.{Format}
use Rattle.s3_slots.specs.declared.slot.Slot.{Slot}
use Rattle.s3_store.specs.declared.stretch.Stretch.{Stretch}
use Rattle.s3_slots.proofs.Ranges.{take_all, range_more}
use Rattle.s3_slots.specs.Slots.{judged, judged_behind, slot_bytes, slots_of}

pub sector_read : (contents : List (List ℕ)) (n : ℕ) (bytes : List ℕ) → slice_get contents n ≡ Some bytes → length bytes ≡ 256 → bytes ≡ sector_bytes contents n
unfolding sector_bytes
sector_read contents n bytes h l = rw h (sym (take_all 256 bytes (replicate 256 0) l))

pub record IsOnTheWay (format : Format) (region : Stretch) (area : ℕ) (contents : List (List ℕ)) (i : ℕ) (slots : List Slot) : Type 0 where
  pub rest : judged_behind format region slots (map (slot_bytes area contents) (range_with_len i (32 - i))) ≡ slots_of format region area contents

pub way_start : (format : Format) (region : Stretch) (area : ℕ) (contents : List (List ℕ)) → IsOnTheWay format region area contents 0 []
unfolding slots_of
way_start format region area contents = record { rest = refl }

pub way_on : (format : Format) (region : Stretch) (area : ℕ) (contents : List (List ℕ)) (i : ℕ) (slots : List Slot) (slot : Slot) → i < 32
    → IsOnTheWay format region area contents i slots → slot ≡ judged format region slots (slot_bytes area contents i)
    → IsOnTheWay format region area contents (i + 1) (slots ++ slot ∷ [])
way_on format region area contents i slots slot h way is = record {
  rest = rw is (sym (ap (λ l. judged_behind format region slots (map (slot_bytes area contents) l)) (range_more i 32 h)) ∙ way.rest);
}
