-- Where the room for a new file lies: whole tracks of the region, in order, which meet no sound extent.
use Rattle.std.proofs.Common.{◌≡◌, ℕ, zero, suc, ◌+◌, ◌-◌, ◌*◌, ◌/◌, ◌%◌, ◌<◌, ◌≤◌, Bool, true, false, nat_le, ◌&&◌, ◌||◌, ◌==◌, List, [], ◌∷◌, ◌++◌, map, length, take, Option, Some, None, refl, sym, ap, ◌∙◌, arith, inl, inr, ◌⊎◌}
use Rattle.std.proofs.lemmas.Bool.{or_cases, or_parts, and_parts, and_from, leb-true, leb-false, eqb-true, eqb-false, le-leb, eq-eqb, cases_Bool, cases_lt, true_from_ne_false}
use Rattle.std.proofs.lemmas.List.Sums.{sum_by-cons}
use Rattle.std.specs.Prelude.{find}
use Rattle.std.specs.List.{list_all, range_with_len, sum_by}
use Rattle.s3_store.specs.Stretches.{end_of}
use Rattle.s3_store.specs.declared.stretch.Stretch.{Stretch}
use Rattle.s3_slots.specs.Stretches.{is_apart, is_apart_from_all, are_apart, is_inside, sectors_of_tracks}
use Rattle.s3_slots.specs.Inner.Stretches.{IsWhole}
use Rattle.s3_slots.specs.Slots.{extents_of, is_apart_from_slot, is_clear, is_extent, are_extents}
use Rattle.s3_slots.specs.Placement.{tracks_at, lowest_place, ended, grown, empty_behind, free_runs, free_stretches, cut, cut_if, lowest_stretches, placed, placed_or}
use Rattle.s3_slots.specs.declared.header.Format.{Format}
use Rattle.s3_slots.specs.declared.header.Format.TheVariants.{First, Second}
use Rattle.s3_slots.specs.declared.slot.Slot.{Slot}
use Rattle.s3_slots.proofs.Places.{find_here, find_on, runs_on, runs_ended}

-- ---- runs that don't meet, sector by sector
pub apart_sectors : (a b : Stretch) (n : ℕ) → is_apart a b ≡ true → a.start ≤ n → n < end_of a → b.start ≤ n → n < end_of b → ⊥
apart_sectors a b n h p q r s =
    elim (or_cases ((a.sectors == 0) || (b.sectors == 0) || nat_le (end_of a) b.start) (nat_le (end_of b) a.start) h) [
      | inl l ↦ elim (or_cases ((a.sectors == 0) || (b.sectors == 0)) (nat_le (end_of a) b.start) l) [
        | inl k ↦ elim (or_cases (a.sectors == 0) (b.sectors == 0) k) [ inl e ↦ omega (arith, eqb-true a.sectors 0 e) | inr e ↦ omega (arith, eqb-true b.sectors 0 e) ]
        | inr e ↦ omega (arith, leb-true (end_of a) b.start e)
      ]
      | inr e ↦ omega (arith, leb-true (end_of b) a.start e)
    ]

pub sectors_apart : (a b : Stretch) → ((n : ℕ) → a.start ≤ n → n < end_of a → b.start ≤ n → n < end_of b → ⊥) → is_apart a b ≡ true
sectors_apart a b each = true_from_ne_false (is_apart a b) meets
  where
    meets : is_apart a b ≡ false → ⊥
    meets h =
        let first = or_parts ((a.sectors == 0) || (b.sectors == 0) || nat_le (end_of a) b.start) (nat_le (end_of b) a.start) h in
        let second = or_parts ((a.sectors == 0) || (b.sectors == 0)) (nat_le (end_of a) b.start) first.0 in
        let third = or_parts (a.sectors == 0) (b.sectors == 0) second.0 in
        let u : a.start < end_of b = leb-false (end_of b) a.start first.1 in
        let v : b.start < end_of a = leb-false (end_of a) b.start second.1 in
        let x : a.sectors ≡ 0 → ⊥ = eqb-false a.sectors 0 third.0 in
        let y : b.sectors ≡ 0 → ⊥ = eqb-false b.sectors 0 third.1 in
        elim (cases_lt a.start b.start) [
          | inl l ↦ each b.start (omega (arith, l)) v (omega arith) (omega (arith, y))
          | inr l ↦ each a.start (omega arith) (omega (arith, x)) l u
        ]

apart_shrunk : (a b e : Stretch) → a.start ≤ b.start → end_of b ≤ end_of a → is_apart a e ≡ true → is_apart b e ≡ true
apart_shrunk a b e low high h = sectors_apart b e (λ n p q r s. apart_sectors a e n h (omega (arith, low, p)) (omega (arith, high, q)) r s)

apart_grown : (run track e : Stretch) → track.start ≡ end_of run → is_apart run e ≡ true → is_apart track e ≡ true → is_apart (grown run track) e ≡ true
apart_grown run track e next h k = sectors_apart (grown run track) e (λ n p q r s. elim (cases_lt n (end_of run)) [
  | inl l ↦ apart_sectors run e n h p l r s
  | inr l ↦ apart_sectors track e n k (omega (arith, next, l)) (omega (arith, next, q)) r s
])

apart_empty : (run e : Stretch) → run.sectors ≡ 0 → is_apart run e ≡ true
apart_empty run e none = sectors_apart run e (λ n p q r s. omega (arith, none, p, q))

-- ---- tests of all in a list
pub all_from : {X : Type 0} (p q : X → Bool) (xs : List X) → ((x : X) → p x ≡ true → q x ≡ true) → list_all p xs ≡ true → list_all q xs ≡ true
all_from p q [] h all = refl
all_from p q (x ∷ xs) h all =
    let parts = and_parts (p x) (list_all p xs) all in and_from (q x) (list_all q xs) (h x parts.0) (all_from p q xs h parts.1)

pub all_two : {X : Type 0} (p q r : X → Bool) (xs : List X) → ((x : X) → p x ≡ true → q x ≡ true → r x ≡ true) → list_all p xs ≡ true → list_all q xs ≡ true → list_all r xs ≡ true
all_two p q r [] h all more = refl
all_two p q r (x ∷ xs) h all more =
    let one = and_parts (p x) (list_all p xs) all in
    let two = and_parts (q x) (list_all q xs) more in
    and_from (r x) (list_all r xs) (h x one.0 two.0) (all_two p q r xs h one.1 two.1)

pub all_any : {X : Type 0} (q : X → Bool) (xs : List X) → ((x : X) → q x ≡ true) → list_all q xs ≡ true
all_any q [] h = refl
all_any q (x ∷ xs) h = and_from (q x) (list_all q xs) (h x) (all_any q xs h)

clear_shrunk : (slots : List Slot) (a b : Stretch) → a.start ≤ b.start → end_of b ≤ end_of a → is_clear slots a ≡ true → is_clear slots b ≡ true
clear_shrunk slots a b low high h =
    all_from (is_apart_from_slot a) (is_apart_from_slot b) slots (λ slot. all_from (is_apart a) (is_apart b) (extents_of slot) (λ e. apart_shrunk a b e low high)) h

clear_grown : (slots : List Slot) (run track : Stretch) → track.start ≡ end_of run → is_clear slots run ≡ true → is_clear slots track ≡ true → is_clear slots (grown run track) ≡ true
clear_grown slots run track next h k =
    all_two (is_apart_from_slot run) (is_apart_from_slot track) (is_apart_from_slot (grown run track)) slots
    (λ slot. all_two (is_apart run) (is_apart track) (is_apart (grown run track)) (extents_of slot) (λ e. apart_grown run track e next)) h k

clear_empty : (slots : List Slot) (run : Stretch) → run.sectors ≡ 0 → is_clear slots run ≡ true
clear_empty slots run none = all_any (is_apart_from_slot run) slots (λ slot. all_any (is_apart run) (extents_of slot) (λ e. apart_empty run e none))

-- ---- rooms
-- whole tracks of the region, from a sector on, that meet no sound extent
pub record IsRoom (region : Stretch) (slots : List Slot) (low : ℕ) (run : Stretch) : Type 0 where
  pub from : low ≤ run.start
  pub start : run.start % 24 ≡ 0
  pub whole : run.sectors % 24 ≡ 0
  pub some : 24 ≤ run.sectors
  pub high : end_of run ≤ end_of region
  pub clear : is_clear slots run ≡ true

-- one after another
abbrev pub AreRooms : Stretch → List Slot → ℕ → List Stretch → Type 0
AreRooms region slots low [] = Unit {0}
AreRooms region slots low (run ∷ runs) = IsRoom region slots low run × AreRooms region slots (end_of run) runs

room_lower : (region : Stretch) (slots : List Slot) (low lower : ℕ) (run : Stretch) → lower ≤ low → IsRoom region slots low run → IsRoom region slots lower run
room_lower region slots low lower run h room = record { from = omega (arith, h, room.from); start = room.start; whole = room.whole; some = room.some; high = room.high; clear = room.clear }

rooms_lower : (region : Stretch) (slots : List Slot) (low lower : ℕ) (runs : List Stretch) → lower ≤ low → AreRooms region slots low runs → AreRooms region slots lower runs
rooms_lower region slots low lower [] h rooms = tt
rooms_lower region slots low lower (run ∷ runs) h rooms = (room_lower region slots low lower run h rooms.0, rooms.1)

rooms_take : (region : Stretch) (slots : List Slot) (low k : ℕ) (runs : List Stretch) → AreRooms region slots low runs → AreRooms region slots low (take k runs)
rooms_take region slots low zero runs rooms = tt
rooms_take region slots low (suc k) [] rooms = tt
rooms_take region slots low (suc k) (run ∷ runs) rooms = (rooms.0, rooms_take region slots (end_of run) k runs rooms.1)

-- an open run before track i of a region
record IsOpen (region : Stretch) (slots : List Slot) (low i : ℕ) (run : Stretch) : Type 0 where
  pub from : low ≤ run.start
  pub start : run.start % 24 ≡ 0
  pub whole : run.sectors % 24 ≡ 0
  pub end : end_of run ≡ region.start + 24 * i
  pub clear : is_clear slots run ≡ true

ended_rooms : (region : Stretch) (slots : List Slot) (low i : ℕ) (run : Stretch) (more : List Stretch) → IsOpen region slots low i run → end_of run ≤ end_of region
    → AreRooms region slots (end_of run) more → AreRooms region slots low (ended run ++ more)
ended_rooms region slots low i run more so within rooms = by (cases_Bool (run.sectors == 0))
  where
    by : (run.sectors == 0 ≡ true) ⊎ (run.sectors == 0 ≡ false) → AreRooms region slots low (ended run ++ more)
    by (inl none) = rw none (rooms_lower region slots (end_of run) low more (omega (arith, so.from)) rooms)
    by (inr some) = rw some ((record { from = so.from; start = so.start; whole = so.whole; some = omega (arith, so.whole, eqb-false run.sectors 0 some); high = within; clear = so.clear }), rooms)

runs_rooms : (region : Stretch) (slots : List Slot) (low i n : ℕ) (run : Stretch) → IsWhole region → i + n ≡ region.sectors / 24 → IsOpen region slots low i run
    → AreRooms region slots low (free_runs slots run (map (tracks_at region 1) (range_with_len i n)))
runs_rooms region slots low i zero run whole all so =
    let e = append_nothing (ended run) in
    let h : AreRooms region slots low (ended run ++ []) = ended_rooms region slots low i run [] so (omega (arith, so.end, all, whole.1)) tt in
    rw e at h
  where
    append_nothing : (xs : List Stretch) → xs ++ [] ≡ xs
    append_nothing [] = refl
    append_nothing (x ∷ xs) = ap (λ l. x ∷ l) (append_nothing xs)
runs_rooms region slots low i (suc n) run whole all so = elim (cases_Bool (is_clear slots (tracks_at region 1 i))) [
  | inl clear ↦ rw (runs_on slots run (tracks_at region 1 i) (map (tracks_at region 1) (range_with_len (i + 1) n)) clear)
      (runs_rooms region slots low (i + 1) n (grown run (tracks_at region 1 i)) whole (omega (arith, all)) (record {
        from = so.from;
        start = so.start;
        whole = omega (arith, so.whole);
        end = omega (arith, so.end);
        clear = clear_grown slots run (tracks_at region 1 i) (omega (arith, so.end)) so.clear clear;
      }))
  | inr meets ↦ rw (runs_ended slots run (tracks_at region 1 i) (map (tracks_at region 1) (range_with_len (i + 1) n)) meets)
      (ended_rooms region slots low i run (free_runs slots (empty_behind (tracks_at region 1 i)) (map (tracks_at region 1) (range_with_len (i + 1) n))) so (omega (arith, so.end, all, whole.1))
      (runs_rooms region slots (end_of run) (i + 1) n (empty_behind (tracks_at region 1 i)) whole (omega (arith, all)) (record {
        from = omega (arith, so.end);
        start = omega (arith, whole.0);
        whole = refl;
        end = omega arith;
        clear = clear_empty slots (empty_behind (tracks_at region 1 i)) refl;
      })))
]

free_rooms : (region : Stretch) (slots : List Slot) → IsWhole region → AreRooms region slots region.start (free_stretches region slots)
unfolding free_stretches
free_rooms region slots whole =
    let e : region.sectors / 24 + 1 - 1 ≡ region.sectors / 24 = omega arith in
    rw e (runs_rooms region slots region.start 0 (region.sectors / 24) (record { start = region.start; sectors = 0 }) whole (omega arith) (record {
      from = omega arith;
      start = whole.0;
      whole = refl;
      end = omega arith;
      clear = clear_empty slots (record { start = region.start; sectors = 0 }) refl;
    }))

-- ---- cut to so many sectors
cut_here : (sectors : ℕ) (run : Stretch) (runs : List Stretch) → nat_le sectors run.sectors ≡ true → cut sectors (run ∷ runs) ≡ record run { sectors = sectors } ∷ []
cut_here sectors run runs h = rw h refl

cut_on : (sectors : ℕ) (run : Stretch) (runs : List Stretch) → nat_le sectors run.sectors ≡ false → cut sectors (run ∷ runs) ≡ run ∷ cut (sectors - run.sectors) runs
cut_on sectors run runs h = rw h refl

rooms_cut : (region : Stretch) (slots : List Slot) (low sectors : ℕ) (runs : List Stretch) → sectors % 24 ≡ 0 → 24 ≤ sectors → AreRooms region slots low runs → AreRooms region slots low (cut sectors runs)
rooms_cut region slots low sectors [] whole some rooms = tt
rooms_cut region slots low sectors (run ∷ runs) whole some rooms = elim (cases_Bool (nat_le sectors run.sectors)) [
  | inl enough ↦
      let fits = leb-true sectors run.sectors enough in
      rw (cut_here sectors run runs enough) (
        (record {
          from = rooms.0.from;
          start = rooms.0.start;
          whole = whole;
          some = some;
          high = omega (arith, rooms.0.high, fits);
          clear = clear_shrunk slots run (record run { sectors = sectors }) (omega arith) (omega (arith, fits)) rooms.0.clear;
        }),
        tt,
      )
  | inr less ↦
      let more = leb-false sectors run.sectors less in
      rw (cut_on sectors run runs less) (rooms.0, rooms_cut region slots (end_of run) (sectors - run.sectors) runs (omega (arith, whole, rooms.0.whole, more)) (omega (arith, whole, rooms.0.whole, more)) rooms.1)
]

cut_sum : (sectors : ℕ) (runs : List Stretch) → sectors ≤ sum_by (λ stretch. stretch.sectors) runs → sum_by (λ stretch. stretch.sectors) (cut sectors runs) ≡ sectors
cut_sum sectors [] h = omega (arith, h)
cut_sum sectors (run ∷ runs) h =
    let all = sum_by-cons (λ (stretch : Stretch). stretch.sectors) run runs in
    elim (cases_Bool (nat_le sectors run.sectors)) [
      | inl enough ↦ rw (cut_here sectors run runs enough) (omega arith)
      | inr less ↦
          let more = leb-false sectors run.sectors less in
          let rest = cut_sum (sectors - run.sectors) runs (omega (arith, h, all, more)) in
          let both = sum_by-cons (λ (stretch : Stretch). stretch.sectors) run (cut (sectors - run.sectors) runs) in
          rw (cut_on sectors run runs less) (omega (arith, rest, both, more))
    ]

cut_short : (sectors : ℕ) (runs : List Stretch) → length (cut sectors runs) ≤ length runs
cut_short sectors [] = omega arith
cut_short sectors (run ∷ runs) = elim (cases_Bool (nat_le sectors run.sectors)) [
  | inl enough ↦ rw (cut_here sectors run runs enough) (omega arith)
  | inr less ↦ let rest = cut_short (sectors - run.sectors) runs in rw (cut_on sectors run runs less) (omega (arith, rest))
]

-- ---- what rooms are
room_extent : (region : Stretch) (slots : List Slot) (low : ℕ) (run : Stretch) → region.start ≤ low → IsRoom region slots low run → is_extent region run ≡ true
room_extent region slots low run h room =
    and_from ((run.start % 24 == 0) && (run.sectors % 24 == 0) && nat_le 24 run.sectors) (is_inside region run)
    (and_from ((run.start % 24 == 0) && (run.sectors % 24 == 0)) (nat_le 24 run.sectors)
    (and_from (run.start % 24 == 0) (run.sectors % 24 == 0) (eq-eqb (run.start % 24) 0 room.start) (eq-eqb (run.sectors % 24) 0 room.whole))
    (le-leb 24 run.sectors room.some))
    (and_from (nat_le region.start run.start) (nat_le (end_of run) (end_of region)) (le-leb region.start run.start (omega (arith, h, room.from))) (le-leb (end_of run) (end_of region) room.high))

rooms_extents : (region : Stretch) (slots : List Slot) (low : ℕ) (runs : List Stretch) → region.start ≤ low → AreRooms region slots low runs → list_all (is_extent region) runs ≡ true
rooms_extents region slots low [] h rooms = refl
rooms_extents region slots low (run ∷ runs) h rooms =
    and_from (is_extent region run) (list_all (is_extent region) runs) (room_extent region slots low run h rooms.0) (rooms_extents region slots (end_of run) runs (omega (arith, h, rooms.0.from)) rooms.1)

rooms_clear : (region : Stretch) (slots : List Slot) (low : ℕ) (runs : List Stretch) → AreRooms region slots low runs → list_all (is_clear slots) runs ≡ true
rooms_clear region slots low [] rooms = refl
rooms_clear region slots low (run ∷ runs) rooms = and_from (is_clear slots run) (list_all (is_clear slots) runs) rooms.0.clear (rooms_clear region slots (end_of run) runs rooms.1)

rooms_behind : (region : Stretch) (slots : List Slot) (low : ℕ) (first : Stretch) (runs : List Stretch) → end_of first ≤ low → AreRooms region slots low runs → is_apart_from_all first runs ≡ true
rooms_behind region slots low first [] h rooms = refl
rooms_behind region slots low first (run ∷ runs) h rooms =
    and_from (is_apart first run) (is_apart_from_all first runs) (sectors_apart first run (λ n p q r s. omega (arith, h, rooms.0.from, q, r)))
    (rooms_behind region slots (end_of run) first runs (omega (arith, h, rooms.0.from)) rooms.1)

rooms_apart : (region : Stretch) (slots : List Slot) (low : ℕ) (runs : List Stretch) → AreRooms region slots low runs → are_apart runs ≡ true
rooms_apart region slots low [] rooms = refl
rooms_apart region slots low (run ∷ runs) rooms =
    and_from (is_apart_from_all run runs) (are_apart runs) (rooms_behind region slots (end_of run) run runs (omega arith) rooms.1) (rooms_apart region slots (end_of run) runs rooms.1)

-- the extents of a new file of so many tracks
pub record IsPlacing (region : Stretch) (slots : List Slot) (tracks : ℕ) (extents : List Stretch) : Type 0 where
  pub few : length extents ≤ 4
  pub whole : are_extents region extents ≡ true
  pub clear : list_all (is_clear slots) extents ≡ true
  pub sectors : sum_by (λ extent. extent.sectors) extents ≡ 24 * tracks

sum_some : (runs : List Stretch) → 24 ≤ sum_by (λ extent. extent.sectors) runs → 1 ≤ length runs
sum_some [] h = omega (arith, h)
sum_some (run ∷ runs) h = omega arith

rooms_placing : (region : Stretch) (slots : List Slot) (tracks : ℕ) (runs : List Stretch) → 1 ≤ tracks → length runs ≤ 4 → sum_by (λ extent. extent.sectors) runs ≡ 24 * tracks
    → AreRooms region slots region.start runs → IsPlacing region slots tracks runs
rooms_placing region slots tracks runs some few sum rooms = record {
  few = few;
  whole = and_from (nat_le 1 (length runs) && list_all (is_extent region) runs) (are_apart runs)
      (and_from (nat_le 1 (length runs)) (list_all (is_extent region) runs) (le-leb 1 (length runs) (sum_some runs (omega (arith, sum, some)))) (rooms_extents region slots region.start runs (omega arith) rooms))
      (rooms_apart region slots region.start runs rooms);
  clear = rooms_clear region slots region.start runs rooms;
  sectors = sum;
}

-- ---- the search for one place
record IsFound (p : Stretch → Bool) (f : ℕ → Stretch) (i n : ℕ) (x : Stretch) : Type 0 where
  pub at : ℕ
  pub below : at < i + n
  pub is : x ≡ f at
  pub passes : p x ≡ true

found_in : (p : Stretch → Bool) (f : ℕ → Stretch) (i n : ℕ) (x : Stretch) → find p (map f (range_with_len i n)) ≡ Some x → IsFound p f i n x
found_in p f i zero x h = absurd cc
found_in p f i (suc n) x h = elim (cases_Bool (p (f i))) [
  | inl passes ↦
      let e : Some (f i) ≡ Some x = sym (find_here p (f i) (map f (range_with_len (i + 1) n)) passes) ∙ h in
      let same : x ≡ f i = cc in
      record { at = i; below = omega arith; is = same; passes = ap p same ∙ passes }
  | inr fails ↦
      let rest = found_in p f (i + 1) n x (sym (find_on p (f i) (map f (range_with_len (i + 1) n)) fails) ∙ h) in
      record { at = rest.at; below = omega (arith, rest.below); is = rest.is; passes = rest.passes }
]

one_placing : (region : Stretch) (slots : List Slot) (tracks : ℕ) (extent : Stretch) → IsWhole region → 1 ≤ tracks → lowest_place region slots tracks ≡ Some extent → IsPlacing region slots tracks (extent ∷ [])
unfolding lowest_place
one_placing region slots tracks extent whole some h =
    let found = found_in (is_clear slots) (tracks_at region tracks) 0 (region.sectors / 24 + 1 - tracks) extent h in
    let start : extent.start ≡ region.start + 24 * found.at = ap (λ stretch. stretch.start) found.is in
    let sectors : extent.sectors ≡ 24 * tracks = ap (λ stretch. stretch.sectors) found.is in
    rooms_placing region slots tracks (extent ∷ []) some (omega arith) (omega (arith, sectors)) (
      (record {
        from = omega (arith, start);
        start = omega (arith, start, whole.0);
        whole = omega (arith, sectors);
        some = omega (arith, sectors, some);
        high = omega (arith, start, sectors, found.below, whole.1);
        clear = found.passes;
      }),
      tt,
    )

take_few : (k : ℕ) (runs : List Stretch) → length (take k runs) ≤ k
take_few zero runs = omega arith
take_few (suc k) [] = omega arith
take_few (suc k) (run ∷ runs) = let e = take_few k runs in omega (arith, e)

many_placing : (region : Stretch) (slots : List Slot) (tracks : ℕ) (extents : List Stretch) → IsWhole region → 1 ≤ tracks → lowest_stretches region slots (sectors_of_tracks tracks) ≡ Some extents
    → IsPlacing region slots tracks extents
many_placing region slots tracks extents whole some h = by (cases_Bool (nat_le (24 * tracks) (sum_by (λ stretch. stretch.sectors) (take 4 (free_stretches region slots)))))
  where
    by : (nat_le (24 * tracks) (sum_by (λ stretch. stretch.sectors) (take 4 (free_stretches region slots))) ≡ true) ⊎ (nat_le (24 * tracks) (sum_by (λ stretch. stretch.sectors) (take 4 (free_stretches region slots))) ≡ false)
        → IsPlacing region slots tracks extents
    by (inl enough) =
        let cuts : cut_if true (24 * tracks) (take 4 (free_stretches region slots)) ≡ Some extents = sym (ap (λ b. cut_if b (24 * tracks) (take 4 (free_stretches region slots))) enough) ∙ h in
        let same : cut (24 * tracks) (take 4 (free_stretches region slots)) ≡ extents = cc in
        rw (sym same) (rooms_placing region slots tracks (cut (24 * tracks) (take 4 (free_stretches region slots))) some
        (omega (arith, cut_short (24 * tracks) (take 4 (free_stretches region slots)), take_few 4 (free_stretches region slots)))
        (cut_sum (24 * tracks) (take 4 (free_stretches region slots)) (leb-true (24 * tracks) (sum_by (λ stretch. stretch.sectors) (take 4 (free_stretches region slots))) enough))
        (rooms_cut region slots region.start (24 * tracks) (take 4 (free_stretches region slots)) (omega arith) (omega (arith, some)) (rooms_take region slots region.start 4 (free_stretches region slots) (free_rooms region slots whole))))
    by (inr less) =
        let cuts : cut_if false (24 * tracks) (take 4 (free_stretches region slots)) ≡ Some extents = sym (ap (λ b. cut_if b (24 * tracks) (take 4 (free_stretches region slots))) less) ∙ h in
        absurd cc

-- What is placed lies in the region and meets no sound extent.
pub placed_is : (format : Format) (region : Stretch) (slots : List Slot) (tracks : ℕ) (extents : List Stretch) → IsWhole region → 1 ≤ tracks → placed format region slots tracks ≡ Some extents
    → IsPlacing region slots tracks extents
unfolding placed
placed_is format region slots tracks extents whole some h = by format (lowest_place region slots tracks) refl h
  where
    by : (f : Format) (place : Option Stretch) → lowest_place region slots tracks ≡ place → placed_or f region slots tracks place ≡ Some extents → IsPlacing region slots tracks extents
    by f (Some extent) e h = let same : extents ≡ extent ∷ [] = cc in rw same (one_placing region slots tracks extent whole some e)
    by First None e h = absurd cc
    by Second None e h = many_placing region slots tracks extents whole some h

pub placed_extents : (format : Format) (region : Stretch) (slots : List Slot) (tracks : ℕ) (extents : List Stretch) → IsWhole region → 1 ≤ tracks → placed format region slots tracks ≡ Some extents
    → are_extents region extents ≡ true
placed_extents format region slots tracks extents whole some h = (placed_is format region slots tracks extents whole some h).whole
