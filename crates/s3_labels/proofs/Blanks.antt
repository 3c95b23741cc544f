-- Sectors filled one after another.
use Rattle.std.proofs.Common.{◌≡◌, ℕ, ◌+◌, ◌≤◌, ◌<◌, List, ◌∷◌, length, slice_get, slice_set, Some, replicate, sym, ap, ◌∙◌, arith, inl, inr, ◌⊎◌}
use Rattle.std.proofs.lemmas.Bool.{cases_eq, cases_lt}
use Rattle.std.proofs.lemmas.List.Elements.{Contains-append_cases}
use Rattle.std.specs.Prelude.{Result, Ok, Err, OnOk, true}
use Rattle.std.specs.List.{Contains, range_with_len}
use Rattle.s3_store.proofs.Frames.{within_trans, within_weaker}
use Rattle.s3_store.proofs.SectorLists.{slice_get_set_same, slice_get_set_other}
use Rattle.s3_store.specs.Inner.State.{PoolState, ChangesWithin}
use Rattle.s3_store.specs.Stretches.{end_of, sectors_in}
use Rattle.s3_store.specs.declared.stretch.Stretch.{Stretch}
use Rattle.s3_slots.specs.Stretches.{IsIn}
use Rattle.s3_slots.proofs.Runs.{range_in, in_first, in_rest}
use Rattle.s3_slots.specs.Labels.{is_direct, sectors_of}
use Rattle.s3_slots.specs.declared.label.FileLabel.{FileLabel}
use Rattle.s3_slots.specs.declared.label.Organization.TheVariants.{Direct}
use Rattle.s3_labels.specs.Inner.Areas.{AreFilled, IsRecordOfDirect}

-- the sectors from a first one up to n are this one
pub record AreSet (sector : List ℕ) (start n : ℕ) (contents : List (List ℕ)) : Type 0 where
  pub each : (m : ℕ) → start ≤ m → m < n → slice_get contents m ≡ Some sector

pub set_on : (sector : List ℕ) (start n : ℕ) (contents new : List (List ℕ)) → n < length contents → new ≡ slice_set contents n sector → AreSet sector start n contents
    → AreSet sector start (n + 1) new
set_on sector start n contents new there set so = record {
  each = λ m low high. elim (cases_eq m n) [
    | inl e ↦ rw (set, e) (slice_get_set_same contents n sector there)
    | inr differ ↦ rw set (slice_get_set_other contents n m sector differ ∙ so.each m low (omega (arith, high, differ)))
  ];
}

pub step_within : (run : Stretch) (n : ℕ) (s t u : PoolState) → run.start ≤ n → n < end_of run → ChangesWithin (IsIn run) s t → ChangesWithin (λ i. i ≡ n) t u → ChangesWithin (IsIn run) s u
step_within run n s t u low high first second =
    within_trans (IsIn run) s t u first (within_weaker (λ i. i ≡ n) (IsIn run) t u (λ i e. (omega (arith, e, low), omega (arith, e, high))) second)

-- ---- run after run
pub runs_within : (run : Stretch) (runs : List Stretch) (s t u : PoolState) → ChangesWithin (Contains (sectors_in runs)) s t → ChangesWithin (IsIn run) t u
    → ChangesWithin (Contains (sectors_in (run ∷ runs))) s u
runs_within run runs s t u first second =
    within_trans (Contains (sectors_in (run ∷ runs))) s t u
    (within_weaker (Contains (sectors_in runs)) (Contains (sectors_in (run ∷ runs))) s t (λ i h. in_rest run runs i h) first)
    (within_weaker (IsIn run) (Contains (sectors_in (run ∷ runs))) t u (λ i h. in_first run runs i h) second)

pub rest_within : (run : Stretch) (runs : List Stretch) (s t : PoolState) → ChangesWithin (Contains (sectors_in runs)) s t → ChangesWithin (Contains (sectors_in (run ∷ runs))) s t
rest_within run runs s t first = within_weaker (Contains (sectors_in runs)) (Contains (sectors_in (run ∷ runs))) s t (λ i h. in_rest run runs i h) first

inside_or : (run : Stretch) (n : ℕ) → IsIn run n ⊎ (IsIn run n → ⊥)
inside_or run n = elim (cases_lt n run.start) [
  | inl before ↦ inr (λ is. omega (arith, before, is.0))
  | inr from ↦ elim (cases_lt n (end_of run)) [
    | inl here ↦ inl (from, here)
    | inr behind ↦ inr (λ is. omega (arith, behind, is.1))
  ]
]

pub filled_more : (byte : ℕ) (run : Stretch) (runs : List Stretch) (s t : PoolState) → AreFilled byte (sectors_in runs) s.contents → ChangesWithin (IsIn run) s t
    → ((n : ℕ) → IsIn run n → slice_get t.contents n ≡ Some (replicate 256 byte)) → AreFilled byte (sectors_in (run ∷ runs)) t.contents
filled_more byte run runs s t filled within here = λ n h. elim (Contains-append_cases (range_with_len run.start run.sectors) (sectors_in runs) n h) [
  | inl first ↦ here n (range_in run.start run.sectors n first)
  | inr later ↦ elim (inside_or run n) [
    | inl is ↦ here n is
    | inr out ↦ within.contents n out ∙ filled n later
  ]
]

pub ok_map : {T E : Type 0} (P Q : Type 0) (result : Result T E) → (P → Q) → OnOk result P → OnOk result Q
ok_map P Q (Ok x) f p = f p
ok_map P Q (Err e) f p = tt

pub all_filled : (byte : ℕ) (runs : List Stretch) (run : Stretch) (rest : List Stretch) (s t : PoolState) → runs ≡ run ∷ rest → AreFilled byte (sectors_in rest) s.contents → ChangesWithin (IsIn run) s t
    → ((n : ℕ) → IsIn run n → slice_get t.contents n ≡ Some (replicate 256 byte)) → AreFilled byte (sectors_in runs) t.contents
all_filled byte runs run rest s t e filled within here = rw e (filled_more byte run rest s t filled within here)

pub all_within : (runs : List Stretch) (run : Stretch) (rest : List Stretch) (s t u : PoolState) → runs ≡ run ∷ rest → ChangesWithin (Contains (sectors_in rest)) s t → ChangesWithin (IsIn run) t u
    → ChangesWithin (Contains (sectors_in runs)) s u
all_within runs run rest s t u e first second = rw e (runs_within run rest s t u first second)

pub some_within : (runs : List Stretch) (run : Stretch) (rest : List Stretch) (s t : PoolState) → runs ≡ run ∷ rest → ChangesWithin (Contains (sectors_in rest)) s t
    → ChangesWithin (Contains (sectors_in runs)) s t
some_within runs run rest s t e first = rw e (rest_within run rest s t first)

-- ---- the extents of a direct file
pub direct_filled : (byte : ℕ) (label : FileLabel) (runs : List Stretch) (contents : List (List ℕ)) → runs ≡ label.extents → AreFilled byte (sectors_in runs) contents
    → is_direct label.organization ≡ true → AreFilled byte (sectors_of label) contents
unfolding sectors_of
direct_filled byte label runs contents e filled direct = λ n h. filled n (rw e h)

pub direct_within : (label : FileLabel) (runs : List Stretch) (s t : PoolState) → label.organization ≡ Direct → runs ≡ label.extents → ChangesWithin (Contains (sectors_in runs)) s t
    → ChangesWithin (IsRecordOfDirect label) s t
unfolding sectors_of
direct_within label runs s t is e c = within_weaker (Contains (sectors_in runs)) (IsRecordOfDirect label) s t (λ i h. (ap is_direct is, rw (sym e) h)) c
