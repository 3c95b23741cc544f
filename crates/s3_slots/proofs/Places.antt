-- The search for free room, from the lowest track up.
use Rattle.std.proofs.Common.{◌≡◌, ℕ, zero, suc, ◌+◌, ◌-◌, ◌*◌, ◌/◌, ◌<◌, ◌≤◌, Bool, true, false, List, [], ◌∷◌, ◌++◌, map, length, take, Some, refl, sym, ap, ◌∙◌, arith, append_assoc}
use Rattle.std.specs.Prelude.{find}
use Rattle.std.specs.List.{range_with_len}
use Rattle.s3_slots.specs.declared.slot.Slot.{Slot}
use Rattle.s3_store.specs.declared.stretch.Stretch.{Stretch}
use Rattle.s3_slots.specs.Slots.{is_clear}
use Rattle.s3_slots.specs.Placement.{tracks_at, lowest_place, ended, grown, empty_behind, free_runs, free_stretches}
use Rattle.s3_slots.proofs.Ranges.{range_more, take_all}

pub find_here : {X : Type 0} (p : X → Bool) (x : X) (xs : List X) → p x ≡ true → find p (x ∷ xs) ≡ Some x
find_here p x xs h = rw h refl

pub find_on : {X : Type 0} (p : X → Bool) (x : X) (xs : List X) → p x ≡ false → find p (x ∷ xs) ≡ find p xs
find_on p x xs h = rw h refl

-- nothing is found before track i of n
pub record IsSought (region : Stretch) (slots : List Slot) (tracks n i : ℕ) : Type 0 where
  pub rest : find (is_clear slots) (map (tracks_at region tracks) (range_with_len i (n - i))) ≡ lowest_place region slots tracks

pub sought_start : (region : Stretch) (slots : List Slot) (tracks n : ℕ) → n ≡ region.sectors / 24 + 1 - tracks → IsSought region slots tracks n 0
unfolding lowest_place
sought_start region slots tracks n h =
    let e : n - 0 ≡ region.sectors / 24 + 1 - tracks = omega (arith, h) in
    record { rest = rw e refl }

pub sought_on : (region : Stretch) (slots : List Slot) (tracks n i : ℕ) → i < n → is_clear slots (tracks_at region tracks i) ≡ false
    → IsSought region slots tracks n i → IsSought region slots tracks n (i + 1)
sought_on region slots tracks n i h meets sought = record {
  rest = sym (ap (λ l. find (is_clear slots) (map (tracks_at region tracks) l)) (range_more i n h)
      ∙ find_on (is_clear slots) (tracks_at region tracks i) (map (tracks_at region tracks) (range_with_len (i + 1) (n - (i + 1)))) meets) ∙ sought.rest;
}

-- ---- the free stretches

take_short : {X : Type 0} (n : ℕ) (xs : List X) → length xs ≤ n → take n xs ≡ xs
take_short zero [] h = refl
take_short zero (x ∷ xs) h = absurd (omega (arith, h))
take_short (suc n) [] h = refl
take_short (suc n) (x ∷ xs) h = ap (λ l. x ∷ l) (take_short n xs (omega (arith, h)))

-- with these runs and an open one before track i of n
pub record IsGathered (region : Stretch) (slots : List Slot) (n i : ℕ) (runs : List Stretch) (run : Stretch) : Type 0 where
  pub end : run.start + run.sectors ≡ region.start + 24 * i
  pub rest : take 4 (runs ++ free_runs slots run (map (tracks_at region 1) (range_with_len i (n - i)))) ≡ take 4 (free_stretches region slots)

pub gathered_start : (region : Stretch) (slots : List Slot) (n : ℕ) → n ≡ region.sectors / 24 → IsGathered region slots n 0 [] (record { start = region.start; sectors = 0 })
unfolding free_stretches
gathered_start region slots n h =
    let e : n - 0 ≡ region.sectors / 24 + 1 - 1 = omega (arith, h) in
    record { end = omega arith; rest = rw e refl }

pub runs_on : (slots : List Slot) (run track : Stretch) (tracks : List Stretch) → is_clear slots track ≡ true → free_runs slots run (track ∷ tracks) ≡ free_runs slots (grown run track) tracks
runs_on slots run track tracks h = rw h refl

pub runs_ended : (slots : List Slot) (run track : Stretch) (tracks : List Stretch) → is_clear slots track ≡ false
    → free_runs slots run (track ∷ tracks) ≡ ended run ++ free_runs slots (empty_behind track) tracks
runs_ended slots run track tracks h = rw h refl

pub gathered_on : (region : Stretch) (slots : List Slot) (n i : ℕ) (runs : List Stretch) (run : Stretch) → i < n → is_clear slots (tracks_at region 1 i) ≡ true
    → IsGathered region slots n i runs run → IsGathered region slots n (i + 1) runs (record { start = run.start; sectors = run.sectors + 24 })
gathered_on region slots n i runs run h clear so = record {
  end = omega (arith, so.end);
  rest = sym (ap (λ l. take 4 (runs ++ free_runs slots run (map (tracks_at region 1) l))) (range_more i n h)
      ∙ ap (λ l. take 4 (runs ++ l)) (runs_on slots run (tracks_at region 1 i) (map (tracks_at region 1) (range_with_len (i + 1) (n - (i + 1)))) clear)) ∙ so.rest;
}

pub gathered_ended : (region : Stretch) (slots : List Slot) (n i : ℕ) (runs : List Stretch) (run : Stretch) → i < n → is_clear slots (tracks_at region 1 i) ≡ false
    → IsGathered region slots n i runs run → IsGathered region slots n (i + 1) (runs ++ ended run) (record { start = region.start + 24 * i + 24; sectors = 0 })
gathered_ended region slots n i runs run h meets so =
    let more : List Stretch = map (tracks_at region 1) (range_with_len (i + 1) (n - (i + 1))) in
    record {
      end = omega arith;
      rest = ap (take 4) (append_assoc runs (ended run) (free_runs slots (empty_behind (tracks_at region 1 i)) more))
          ∙ sym (ap (λ l. take 4 (runs ++ free_runs slots run (map (tracks_at region 1) l))) (range_more i n h)
          ∙ ap (λ l. take 4 (runs ++ l)) (runs_ended slots run (tracks_at region 1 i) more meets)) ∙ so.rest;
    }

pub gathered_full : (region : Stretch) (slots : List Slot) (n i : ℕ) (runs : List Stretch) (run : Stretch) → length runs ≡ 4
    → IsGathered region slots n i runs run → runs ≡ take 4 (free_stretches region slots)
gathered_full region slots n i runs run h so = sym (take_all 4 runs (free_runs slots run (map (tracks_at region 1) (range_with_len i (n - i)))) h) ∙ so.rest
