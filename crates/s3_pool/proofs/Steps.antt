-- What each step of a pool keeps.
use Rattle.std.proofs.Common.{◌≡◌, ◌≢◌, ℕ, ◌+◌, ◌<◌, ◌≤◌, true, false, List, [], length, slice_get, slice_set, Option, Result, Ok, Err, OnOk, OnErr, IsErrOf, ◌↔◌, Some, None, IsSomeAnd, MatchOption, refl, sym, ap, ◌∙◌, subst, arith, length-set, ◌⊎◌, inl, inr}
use Rattle.std.proofs.lemmas.Option.{slice_get_within}
use Rattle.std.proofs.lemmas.Bool.Decides.{eqb_tells}
use Rattle.s3_store.specs.declared.sector_fault.SectorFault.{SectorFault}
use Rattle.s3_store.specs.Inner.State.{PoolState, KeepsContents, ChangesWithin}
use Rattle.s3_store.proofs.Frames.{keeps_trans, within_from_keeps}
use Rattle.s3_store.proofs.SectorLists.{slice_get_set_same, slice_get_set_other, slice_set_known, slice_set_set_same}
use Rattle.s3_pool.specs.declared.buffers.Buffer.{Buffer}
use Rattle.s3_pool.specs.declared.buffers.Buffers.{Buffers}
use Rattle.s3_pool.specs.Inner.Buffers.{laid, IsAt, IsMissed, IsSound, KeepsLaid, Overwrites, pool_state}
use Rattle.s3_pool.specs.Inner.BufferLending.{dirty, with_buffer, place, with_taken, IsInStep}
use Rattle.s3_pool.specs.Inner.Places.{IsPlaced, IsIndexed}
use Rattle.s3_pool.specs.Inner.Lending.{ChangesSector, KeepsAll}
use Rattle.s3_pool.specs.Inner.Loads.{failed_loads}
use Rattle.s3_pool.specs.declared.pool_fault.PoolFault.{PoolFault}
use Rattle.s3_pool.specs.declared.pool_fault.PoolFault.TheVariants.{NoSector}
use Rattle.s3_pool.proofs.Laid.{but, but_missed, length_laid, laid_missed, laid_written, laid_append, IsElsewhere, laid_over, laid_held, set_tells, append_tells, laid_set, laid_nothing}

-- ---- steps together

pub laid_refl : {b : List (List ℕ)} {f : List Buffer} → IsSound b f → KeepsLaid b f b f
laid_refl s = record { sound = s; contents = refl; stored = record { each = λ i. inl refl } }

pub laid_trans : {b b' b'' : List (List ℕ)} {f f' f'' : List Buffer} → KeepsLaid b f b' f' → KeepsLaid b' f' b'' f'' → KeepsLaid b f b'' f''
laid_trans {b} {b'} {b''} {f} {f'} {f''} first second =
    let joined = keeps_trans (record { contents = laid f b; stored = b; failures = 0 }) (record { contents = laid f' b'; stored = b'; failures = 0 }) (record { contents = laid f'' b''; stored = b''; failures = 0 }) (record { contents = first.contents; stored = first.stored }) (record { contents = second.contents; stored = second.stored }) in
    record { sound = second.sound; contents = joined.contents; stored = joined.stored }

pub same_length : {b b' : List (List ℕ)} {f f' : List Buffer} → KeepsLaid b f b' f' → length b' ≡ length b
same_length {b} {b'} {f} {f'} k = sym (length_laid f' b') ∙ ap length k.contents ∙ length_laid f b

-- the buffer in a slot is of another sector than the others
elsewhere : (b : List (List ℕ)) (xs : List Buffer) (k : ℕ) (x : Buffer) → slice_get xs k ≡ Some x → IsSound b xs → IsElsewhere k x.sector xs
elsewhere b xs k x on s = λ j z differ at same. differ (s.apart j k z x at on same)

-- ---- a slot that is written back

-- the store has what a slot holds
pub saved : (b : List (List ℕ)) (xs : List Buffer) (k : ℕ) (x : Buffer) → slice_get xs k ≡ Some x → IsSound b xs → KeepsLaid b xs (slice_set b x.sector x.bytes.value) xs
saved b xs k x on s =
    let n = x.sector in let v = x.bytes.value in
    let other = elsewhere b xs k x on s in
    let within : n < length b = s.in_range k x on in
    record {
      sound = record {
        apart = s.apart;
        in_range = λ j z at. omega (arith, s.in_range j z at, length-set b n v);
        clean = λ j z at c. elim (eqb_tells j k) [
          | inl same ↦ let it : x ≡ z = cc in ap (λ y. slice_get (slice_set b n v) y.sector) (sym it) ∙ slice_get_set_same b n v within ∙ ap (λ y. Some y.bytes.value) it
          | inr differ ↦ slice_get_set_other b n z.sector v (other j z differ.1 at) ∙ s.clean j z at c
        ];
      };
      contents =
          laid_over k xs x (slice_set b n v) on other
          ∙ ap (λ l. slice_set l n v) (laid_written n (but k xs) b v (but_missed k n xs other))
          ∙ slice_set_set_same (laid (but k xs) b) n v v
          ∙ sym (laid_over k xs x b on other);
      stored = record {
        each = λ i. elim (eqb_tells i n) [
          | inl same ↦ inr (ap (λ j. slice_get (slice_set b n v) j) same.1 ∙ slice_get_set_same b n v within ∙ sym (ap (λ j. slice_get (laid xs b) j) same.1 ∙ laid_held k xs x b on other within))
          | inr differ ↦ inl (slice_get_set_other b n i v differ.1)
        ];
      };
    }

-- and is in step
pub saved_in_step : (b : List (List ℕ)) (xs : List Buffer) (k : ℕ) (x : Buffer) → slice_get xs k ≡ Some x → IsSound b xs → IsInStep (slice_set b x.sector x.bytes.value) xs k
saved_in_step b xs k x on s = rw on (slice_get_set_same b x.sector x.bytes.value (s.in_range k x on))

-- those that were in step stay so
pub stays_in_step : (b : List (List ℕ)) (xs : List Buffer) (k : ℕ) (x : Buffer) → slice_get xs k ≡ Some x → IsSound b xs
    → ((j : ℕ) (z : Buffer) → j < k → slice_get xs j ≡ Some z → slice_get b z.sector ≡ Some z.bytes.value)
    → (j : ℕ) (z : Buffer) → j < k + 1 → slice_get xs j ≡ Some z → slice_get (slice_set b x.sector x.bytes.value) z.sector ≡ Some z.bytes.value
stays_in_step b xs k x on s before j z below at = elim (eqb_tells j k) [
  | inl same ↦ let it : x ≡ z = cc in ap (λ y. slice_get (slice_set b x.sector x.bytes.value) y.sector) (sym it) ∙ slice_get_set_same b x.sector x.bytes.value (s.in_range k x on) ∙ ap (λ y. Some y.bytes.value) it
  | inr differ ↦ slice_get_set_other b x.sector z.sector x.bytes.value (elsewhere b xs k x on s j z differ.1 at) ∙ before j z (omega (arith, below, differ.1)) at
]

-- where all are in step, they can go
pub all_gone : {b b' : List (List ℕ)} {xs : List Buffer} → KeepsLaid b xs b' xs → ((j : ℕ) (z : Buffer) → j < length xs → slice_get xs j ≡ Some z → slice_get b' z.sector ≡ Some z.bytes.value) → KeepsLaid b xs b' []
all_gone {b} {b'} {xs} keeps is = record {
  sound = record {
    apart = λ i j x y at there same. absurd cc;
    in_range = λ i x at. absurd cc;
    clean = λ i x at c. absurd cc;
  };
  contents = sym (laid_nothing xs b' (λ j z at. is j z (slice_get_within xs j z at) at)) ∙ keeps.contents;
  stored = keeps.stored;
}

-- ---- a sector that gets a slot

-- there is room for one more, or the store has what the slot holds
abbrev pub IsOpen : List (List ℕ) → List Buffer → Option ℕ → Type 0
IsOpen b xs way = MatchOption way (length xs < 16) (λ slot. IsInStep b xs slot)

known : (b : List (List ℕ)) (xs : List Buffer) (k : ℕ) → IsInStep b xs k → (x : Buffer) × (slice_get xs k ≡ Some x) × (slice_get b x.sector ≡ Some x.bytes.value)
known b xs k step = of (slice_get xs k) refl step
  where
    of : (o : Option Buffer) → slice_get xs k ≡ o → IsSomeAnd o (λ x. slice_get b x.sector ≡ Some x.bytes.value) → (x : Buffer) × (slice_get xs k ≡ Some x) × (slice_get b x.sector ≡ Some x.bytes.value)
    of None e h = absurd h
    of (Some x) e h = (x, e, h)

pub in_range_of : (b : List (List ℕ)) (xs : List Buffer) (way : Option ℕ) → IsOpen b xs way → MatchOption way (length xs < 16) (λ slot. slot < length xs)
in_range_of b xs None way_is = way_is
in_range_of b xs (Some k) way_is = let x = known b xs k way_is in slice_get_within xs k x.0 x.1

taken_tells : (b : List (List ℕ)) (xs : List Buffer) (way : Option ℕ) (y : Buffer) → IsOpen b xs way → (j : ℕ) (z : Buffer) → slice_get (with_taken xs way y) j ≡ Some z → ((j ≡ place xs way) × (y ≡ z)) ⊎ ((j ≢ place xs way) × (slice_get xs j ≡ Some z))
taken_tells b xs None y way_is j z on = append_tells xs y j z on
taken_tells b xs (Some k) y way_is j z on = set_tells xs k y (in_range_of b xs (Some k) way_is) j z on

taken_sound : (b : List (List ℕ)) (xs : List Buffer) (way : Option ℕ) (y : Buffer) → IsSound b xs → IsOpen b xs way → IsMissed y.sector xs → y.sector < length b → (y.is_dirty ≡ false → slice_get b y.sector ≡ Some y.bytes.value) → IsSound b (with_taken xs way y)
taken_sound b xs way y s way_is missed within clean =
    let tells = taken_tells b xs way y way_is in
    record {
      apart = λ i j u v at there same. elim (tells i u at) [
        | inl one ↦ elim (tells j v there) [
          | inl two ↦ one.0 ∙ sym two.0
          | inr two ↦ absurd (missed j v two.1 (sym same ∙ ap (λ w. w.sector) (sym one.1)))
        ]
        | inr one ↦ elim (tells j v there) [
          | inl two ↦ absurd (missed i u one.1 (same ∙ ap (λ w. w.sector) (sym two.1)))
          | inr two ↦ s.apart i j u v one.1 two.1 same
        ]
      ];
      in_range = λ i u at. elim (tells i u at) [
        | inl one ↦ subst (λ w. w.sector < length b) one.1 within
        | inr one ↦ s.in_range i u one.1
      ];
      clean = λ i u at c. elim (tells i u at) [
        | inl one ↦ subst (λ w. w.is_dirty ≡ false → slice_get b w.sector ≡ Some w.bytes.value) one.1 clean c
        | inr one ↦ s.clean i u one.1 c
      ];
    }

laid_taken : (b : List (List ℕ)) (xs : List Buffer) (way : Option ℕ) (y : Buffer) → IsSound b xs → IsOpen b xs way → IsMissed y.sector xs → laid (with_taken xs way y) b ≡ slice_set (laid xs b) y.sector y.bytes.value
laid_taken b xs None y s way_is missed = laid_append xs y b ∙ laid_written y.sector xs b y.bytes.value missed
laid_taken b xs (Some k) y s way_is missed =
    let x = known b xs k way_is in
    let other = elsewhere b xs k x.0 x.1 s in
    let over = laid_over k xs x.0 b x.1 other in
    let nothing = slice_set_known (laid (but k xs) b) x.0.sector x.0.bytes.value (laid_missed x.0.sector (but k xs) b (but_missed k x.0.sector xs other) ∙ x.2) in
    laid_set k xs y b (in_range_of b xs (Some k) way_is) (λ j z differ at. missed j z at) ∙ ap (λ l. slice_set l y.sector y.bytes.value) (sym (over ∙ nothing))

-- which it is read into
pub was_read : {b b' : List (List ℕ)} {xs : List Buffer} (way : Option ℕ) (y : Buffer) → KeepsLaid b xs b' xs → IsOpen b' xs way → IsMissed y.sector xs → y.sector < length b → slice_get b' y.sector ≡ Some y.bytes.value → KeepsLaid b xs b' (with_taken xs way y)
was_read {b} {b'} {xs} way y keeps way_is missed within is = record {
  sound = taken_sound b' xs way y keeps.sound way_is missed (omega (arith, within, same_length keeps)) (λ c. is);
  contents = laid_taken b' xs way y keeps.sound way_is missed ∙ slice_set_known (laid xs b') y.sector y.bytes.value (laid_missed y.sector xs b' missed ∙ is) ∙ keeps.contents;
  stored = keeps.stored;
}

-- which has its new bytes
pub missed_overwritten : {b b' : List (List ℕ)} {xs : List Buffer} (way : Option ℕ) (y : Buffer) → KeepsLaid b xs b' xs → IsOpen b' xs way → IsMissed y.sector xs → y.sector < length b → y.is_dirty ≡ true → Overwrites y.sector y.bytes.value b xs b' (with_taken xs way y)
missed_overwritten {b} {b'} {xs} way y keeps way_is missed within is_dirty = record {
  sound = taken_sound b' xs way y keeps.sound way_is missed (omega (arith, within, same_length keeps)) (λ c. absurd cc);
  contents = laid_taken b' xs way y keeps.sound way_is missed ∙ ap (λ l. slice_set l y.sector y.bytes.value) keeps.contents;
  stored = λ i other. keeps.stored.each i;
}

-- ---- the places of sectors

-- a store that is written to has as many sectors
pub still_indexed : {b b' : List (List ℕ)} {xs ys : List Buffer} (f : Buffers) → KeepsLaid b xs b' ys → IsIndexed b f → IsIndexed b' f
still_indexed f keeps i = record { whole = i.whole ∙ sym (same_length keeps); placed = i.placed }

-- buffers that stay where they are have their places
pub unmoved : {b b' : List (List ℕ)} {xs ys : List Buffer} (f f' : Buffers) → KeepsLaid b xs b' ys → IsIndexed b f → f'.slots.items ≡ f.slots.items → f'.places.items ≡ f.places.items → IsIndexed b' f'
unmoved f f' keeps i slots places = record {
  whole = ap length places ∙ i.whole ∙ sym (same_length keeps);
  placed = subst (λ l. IsPlaced l f'.slots.items) (sym places) (subst (λ l. IsPlaced f.places.items l) (sym slots) i.placed);
}

-- no buffer, no place to know
pub none_indexed : {b b' : List (List ℕ)} {xs ys : List Buffer} (f f' : Buffers) → KeepsLaid b xs b' ys → IsIndexed b f → f'.places.items ≡ f.places.items → f'.slots.items ≡ [] → IsIndexed b' f'
none_indexed f f' keeps i places none = record {
  whole = ap length places ∙ i.whole ∙ sym (same_length keeps);
  placed = λ j z on. let on' = rw none at on in absurd cc;
}

taken_placed : (b : List (List ℕ)) (places : List ℕ) (xs : List Buffer) (way : Option ℕ) (y : Buffer) → IsOpen b xs way → IsMissed y.sector xs → y.sector < length places → IsPlaced places xs → IsPlaced (slice_set places y.sector (place xs way)) (with_taken xs way y)
taken_placed b places xs way y way_is missed within placed = λ j z on. elim (taken_tells b xs way y way_is j z on) [
  | inl new ↦ ap (λ u. slice_get (slice_set places y.sector (place xs way)) u.sector) (sym new.1) ∙ slice_get_set_same places y.sector (place xs way) within ∙ ap Some (sym new.0)
  | inr old ↦ slice_get_set_other places y.sector z.sector (place xs way) (missed j z old.1) ∙ placed j z old.1
]

-- a sector that gets a slot has it as its place
pub taken_indexed : {b b' : List (List ℕ)} (f f' : Buffers) (way : Option ℕ) (y : Buffer) → KeepsLaid b f.slots.items b' f.slots.items → IsOpen b' f.slots.items way → IsMissed y.sector f.slots.items → y.sector < length b → IsIndexed b f → f'.slots.items ≡ with_taken f.slots.items way y → f'.places.items ≡ slice_set f.places.items y.sector (place f.slots.items way) → IsIndexed b' f'
taken_indexed {b} {b'} f f' way y keeps way_is missed within i slots places =
    let placed = taken_placed b' f.places.items f.slots.items way y way_is missed (omega (arith, within, i.whole)) i.placed in
    record {
      whole = ap length places ∙ length-set f.places.items y.sector (place f.slots.items way) ∙ i.whole ∙ sym (same_length keeps);
      placed = subst (λ l. IsPlaced l f'.slots.items) (sym places) (subst (λ l. IsPlaced (slice_set f.places.items y.sector (place f.slots.items way)) l) (sym slots) placed);
    }

-- ---- what is lent

at_of : (n k : ℕ) (xs : List Buffer) → IsAt n k xs → (x : Buffer) × (slice_get xs k ≡ Some x) × (x.sector ≡ n)
at_of n k xs at = of (slice_get xs k) refl at
  where
    of : (o : Option Buffer) → slice_get xs k ≡ o → IsSomeAnd o (λ x. x.sector ≡ n) → (x : Buffer) × (slice_get xs k ≡ Some x) × (x.sector ≡ n)
    of None e h = absurd h
    of (Some x) e h = (x, e, h)

pub at_within : (n k : ℕ) (xs : List Buffer) → IsAt n k xs → k < length xs
at_within n k xs at = let x = at_of n k xs at in slice_get_within xs k x.0 x.1

pub at_sector : (n k : ℕ) (xs : List Buffer) (x : Buffer) → IsAt n k xs → slice_get xs k ≡ Some x → x.sector ≡ n
at_sector n k xs x at on = let y = at_of n k xs at in let same : y.0 ≡ x = cc in ap (λ z. z.sector) (sym same) ∙ y.2

pub written_sound : (b : List (List ℕ)) (xs : List Buffer) (k : ℕ) (x : Buffer) (w : List ℕ) → slice_get xs k ≡ Some x → IsSound b xs → IsSound b (slice_set xs k (dirty x w))
written_sound b xs k x w on s =
    let tells = set_tells xs k (dirty x w) (slice_get_within xs k x on) in
    let sector = λ (u : Buffer) (e : dirty x w ≡ u). let same : x.sector ≡ u.sector = ap (λ y. y.sector) e in same in
    record {
      apart = λ i j u v at there same. elim (tells i u at) [
        | inl one ↦ elim (tells j v there) [
          | inl two ↦ one.0 ∙ sym two.0
          | inr two ↦ one.0 ∙ s.apart k j x v on two.1 (sector u one.1 ∙ same)
        ]
        | inr one ↦ elim (tells j v there) [
          | inl two ↦ s.apart i k u x one.1 on (same ∙ sym (sector v two.1)) ∙ sym two.0
          | inr two ↦ s.apart i j u v one.1 two.1 same
        ]
      ];
      in_range = λ i u at. elim (tells i u at) [
        | inl one ↦ subst (λ j. j < length b) (sector u one.1) (s.in_range k x on)
        | inr one ↦ s.in_range i u one.1
      ];
      clean = λ i u at c. elim (tells i u at) [
        | inl one ↦ let is_dirty : true ≡ u.is_dirty = ap (λ y. y.is_dirty) one.1 in absurd cc
        | inr one ↦ s.clean i u one.1 c
      ];
    }

-- and its place
pub written_indexed : {b : List (List ℕ)} (f : Buffers) (k : ℕ) (x : Buffer) (w : List ℕ) → slice_get f.slots.items k ≡ Some x → IsIndexed b f → IsIndexed b (with_buffer f k (dirty x w))
written_indexed f k x w on i =
    let xs = f.slots.items in
    record {
      whole = i.whole;
      placed = λ j z at. elim (set_tells xs k (dirty x w) (slice_get_within xs k x on) j z at) [
        | inl new ↦ ap (λ u. slice_get f.places.items u.sector) (sym new.1) ∙ i.placed k x on ∙ ap Some (sym new.0)
        | inr old ↦ i.placed j z old.1
      ];
    }

laid_dirty : (b : List (List ℕ)) (xs : List Buffer) (k : ℕ) (x : Buffer) (w : List ℕ) → slice_get xs k ≡ Some x → IsSound b xs → laid (slice_set xs k (dirty x w)) b ≡ slice_set (laid xs b) x.sector w
laid_dirty b xs k x w on s =
    let other = elsewhere b xs k x on s in
    laid_set k xs (dirty x w) b (slice_get_within xs k x on) other
    ∙ sym (slice_set_set_same (laid (but k xs) b) x.sector x.bytes.value w)
    ∙ ap (λ l. slice_set l x.sector w) (sym (laid_over k xs x b on other))

pub written : {b b' : List (List ℕ)} (f f' : Buffers) (m m' : ℕ) (n k : ℕ) (x : Buffer) (w : List ℕ) → KeepsLaid b f.slots.items b' f'.slots.items → m' ≡ m → IsAt n k f'.slots.items → slice_get f'.slots.items k ≡ Some x → ChangesSector n (pool_state b m f) (pool_state b' m' (with_buffer f' k (dirty x w))) w
written {b} {b'} f f' m m' n k x w keeps same at on = record {
  contents = laid_dirty b' f'.slots.items k x w on keeps.sound ∙ ap (λ l. slice_set l x.sector w) keeps.contents ∙ ap (λ j. slice_set (laid f.slots.items b) j w) (at_sector n k f'.slots.items x at on);
  stored = keeps.stored;
  failures = same;
}

-- ---- a sector that is wholly overwritten

-- a buffer that held it has the new bytes
pub held_overwritten : {b : List (List ℕ)} {xs : List Buffer} (n k : ℕ) (x : Buffer) (w : List ℕ) → IsSound b xs → IsAt n k xs → slice_get xs k ≡ Some x → Overwrites n w b xs b (slice_set xs k (dirty x w))
held_overwritten {b} {xs} n k x w s at on = record {
  sound = written_sound b xs k x w on s;
  contents = laid_dirty b xs k x w on s ∙ ap (λ j. slice_set (laid xs b) j w) (at_sector n k xs x at on);
  stored = λ i other. inl refl;
}

-- the store has them, if no buffer had the sector
pub stored_overwritten : {b : List (List ℕ)} {xs : List Buffer} (n : ℕ) (w : List ℕ) → IsSound b xs → IsMissed n xs → Overwrites n w b xs (slice_set b n w) xs
stored_overwritten {b} {xs} n w s missed = record {
  sound = record {
    apart = s.apart;
    in_range = λ j z at. omega (arith, s.in_range j z at, length-set b n w);
    clean = λ j z at c. slice_get_set_other b n z.sector w (missed j z at) ∙ s.clean j z at c;
  };
  contents = laid_written n xs b w missed;
  stored = λ i other. inl (slice_get_set_other b n i w other);
}

pub overwritten_within : {b b' : List (List ℕ)} (f f' : Buffers) (m m' : ℕ) (n : ℕ) (w : List ℕ) → Overwrites n w b f.slots.items b' f'.slots.items → ChangesWithin (λ i. i ≡ n) (pool_state b m f) (pool_state b' m' f')
overwritten_within {b} {b'} f f' m m' n w o = record {
  count = ap length o.contents ∙ length-set (laid f.slots.items b) n w;
  contents = λ i other. ap (λ l. slice_get l i) o.contents ∙ slice_get_set_other (laid f.slots.items b) n i w other;
  stored = λ i other. o.stored i other;
}

-- ---- what an answer says of it

pub keeps_contents : {b b' : List (List ℕ)} (f f' : Buffers) (m m' : ℕ) → KeepsLaid b f.slots.items b' f'.slots.items → KeepsContents (pool_state b m f) (pool_state b' m' f')
keeps_contents f f' m m' k = record { contents = k.contents; stored = k.stored }

pub changes_one : {T : Type 0} (b b' : List (List ℕ)) (f f' : Buffers) (m m' : ℕ) (n : ℕ) (w : List ℕ) (r : Result T SectorFault) → OnOk r (Overwrites n w b f.slots.items b' f'.slots.items) → OnErr r (KeepsLaid b f.slots.items b' f'.slots.items) → ChangesWithin (λ i. i ≡ n) (pool_state b m f) (pool_state b' m' f')
changes_one b b' f f' m m' n w (Ok x) o k = overwritten_within f f' m m' n w o
changes_one b b' f f' m m' n w (Err fault) o k = within_from_keeps _ _ _ (keeps_contents f f' m m' k)

-- one sector is as a reference has left it
pub changed_within : {s t : PoolState} (n : ℕ) (w : List ℕ) → ChangesSector n s t w → ChangesWithin (λ i. i ≡ n) s t
changed_within {s} {t} n w c = record {
  count = ap length c.contents ∙ length-set s.contents n w;
  contents = λ i other. ap (λ l. slice_get l i) c.contents ∙ slice_get_set_other s.contents n i w other;
  stored = λ i other. c.stored.each i;
}

-- what a slot holds is the sector that was there before its load
pub held_contents : {b b' : List (List ℕ)} {f f' : List Buffer} (n k : ℕ) (x : Buffer) → KeepsLaid b f b' f' → n < length b → IsAt n k f' → slice_get f' k ≡ Some x → slice_get (laid f b) n ≡ Some x.bytes.value
held_contents {b} {b'} {f} {f'} n k x keeps within at on =
    let sector = at_sector n k f' x at on in
    let inside : x.sector < length b' = omega (arith, sector, within, same_length keeps) in
    ap (λ l. slice_get l n) (sym keeps.contents) ∙ ap (slice_get (laid f' b')) (sym sector) ∙ laid_held k f' x b' on (elsewhere b' f' k x on keeps.sound) inside

-- ---- the ends of the calls

pub kept : {b b' : List (List ℕ)} {T : Type 0} (f f' : Buffers) (m m' : ℕ) (result : Result T PoolFault) → KeepsLaid b f.slots.items b' f'.slots.items → m' ≡ m + failed_loads result → KeepsAll (pool_state b m f) result (pool_state b' m' f')
kept f f' m m' result keeps failures = record { contents = keeps_contents f f' m m' keeps; failures = failures }

-- a number below the count of the contents is one below the store's
pub inside : (n : ℕ) (b : List (List ℕ)) (f : List Buffer) → n < length (laid f b) → n < length b
inside n b f within = omega (arith, within, length_laid f b)

-- a refusal by the store's count of sectors is one by the count of the contents
pub no_sector_err : {T U : Type 0} (n : ℕ) (b : List (List ℕ)) (f : List Buffer) (fault : PoolFault) → (IsErrOf {T = U} (Err fault) NoSector ↔ (length b ≤ n)) → IsErrOf {T = T} (Err fault) NoSector ↔ (length (laid f b) ≤ n)
no_sector_err n b f fault h = (λ is. let past : length b ≤ n = h.0 cc in omega (arith, length_laid f b), λ past. let is = h.1 (omega (arith, length_laid f b)) in cc)

pub no_sector_ok : {T : Type 0} (n : ℕ) (b : List (List ℕ)) (f : List Buffer) (x : T) → n < length b → IsErrOf (Ok x) NoSector ↔ (length (laid f b) ≤ n)
no_sector_ok n b f x within = (λ is. absurd cc, λ past. absurd (omega (arith, length_laid f b)))
