-- The free space of an area is in its region.
use Rattle.std.proofs.Common.{◌≡◌, ℕ, zero, suc, ◌+◌, ◌-◌, ◌*◌, ◌/◌, ◌≤◌, ◌==◌, nat_le, true, List, [], ◌∷◌, ◌++◌, refl, sym, ap, ◌∙◌, arith, inl, inr}
use Rattle.std.specs.Prelude.{map}
use Rattle.std.specs.List.{list_all, range_with_len, Contains}
use Rattle.std.proofs.lemmas.Bool.{cases_Bool, and_parts, le-leb, leb-true}
use Rattle.s3_store.specs.Stretches.{end_of, sectors_in}
use Rattle.s3_store.specs.declared.stretch.Stretch.{Stretch}
use Rattle.s3_slots.specs.Placement.{empty_behind, ended, free_runs, free_stretches, grown, tracks_at}
use Rattle.s3_slots.specs.Slots.{is_clear}
use Rattle.s3_slots.specs.Stretches.{IsIn, is_inside}
use Rattle.s3_slots.specs.declared.slot.Slot.{Slot}
use Rattle.s3_slots.proofs.Places.{runs_ended, runs_on}
use Rattle.s3_slots.proofs.Runs.{all_at, of_run}

inside : (region run : Stretch) → region.start ≤ run.start → end_of run ≤ end_of region → is_inside region run ≡ true
inside region run low high = rw (le-leb region.start run.start low, le-leb (end_of run) (end_of region) high) refl

ended_inside : (region run : Stretch) (more : List Stretch) → region.start ≤ run.start → end_of run ≤ end_of region → list_all (is_inside region) more ≡ true
    → list_all (is_inside region) (ended run ++ more) ≡ true
ended_inside region run more low high all = elim (cases_Bool (run.sectors == 0)) [
  | inl none ↦ rw none all
  | inr some ↦ rw (some, inside region run low high) all
]

append_nothing : (xs : List Stretch) → xs ++ [] ≡ xs
append_nothing [] = refl
append_nothing (x ∷ xs) = ap (λ l. x ∷ l) (append_nothing xs)

-- the runs behind an open one, which ends before track i of a region
runs_inside : (region : Stretch) (slots : List Slot) (i n : ℕ) (run : Stretch) → i + n ≡ region.sectors / 24 → region.start ≤ run.start → end_of run ≡ region.start + 24 * i
    → list_all (is_inside region) (free_runs slots run (map (tracks_at region 1) (range_with_len i n))) ≡ true
runs_inside region slots i zero run all low end =
    ap (list_all (is_inside region)) (sym (append_nothing (ended run))) ∙ ended_inside region run [] low (omega (arith, end, all)) refl
runs_inside region slots i (suc n) run all low end = elim (cases_Bool (is_clear slots (tracks_at region 1 i))) [
  | inl clear ↦ rw (runs_on slots run (tracks_at region 1 i) (map (tracks_at region 1) (range_with_len (i + 1) n)) clear)
      (runs_inside region slots (i + 1) n (grown run (tracks_at region 1 i)) (omega (arith, all)) low (omega (arith, end)))
  | inr meets ↦ rw (runs_ended slots run (tracks_at region 1 i) (map (tracks_at region 1) (range_with_len (i + 1) n)) meets)
      (ended_inside region run (free_runs slots (empty_behind (tracks_at region 1 i)) (map (tracks_at region 1) (range_with_len (i + 1) n))) low (omega (arith, end, all))
      (runs_inside region slots (i + 1) n (empty_behind (tracks_at region 1 i)) (omega (arith, all)) (omega arith) (omega arith)))
]

stretches_inside : (region : Stretch) (slots : List Slot) → list_all (is_inside region) (free_stretches region slots) ≡ true
unfolding free_stretches
stretches_inside region slots =
    let e : region.sectors / 24 + 1 - 1 ≡ region.sectors / 24 = omega arith in
    rw e (runs_inside region slots 0 (region.sectors / 24) (record { start = region.start; sectors = 0 }) (omega arith) (omega arith) (omega arith))

-- a free sector of an area is one of its region
pub free_inside : (region : Stretch) (slots : List Slot) (n : ℕ) → Contains (sectors_in (free_stretches region slots)) n → IsIn region n
free_inside region slots n is =
    let of = of_run (free_stretches region slots) n is in
    let within : is_inside region of.run ≡ true = all_at (is_inside region) (free_stretches region slots) of.at of.run (stretches_inside region slots) of.is in
    let parts = and_parts (nat_le region.start of.run.start) (nat_le (end_of of.run) (end_of region)) within in
    let low = leb-true region.start of.run.start parts.0 in
    let high = leb-true (end_of of.run) (end_of region) parts.1 in
    (omega (arith, low, of.inside.0), omega (arith, high, of.inside.1))
