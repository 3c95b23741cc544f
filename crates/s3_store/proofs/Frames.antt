-- How the relations between two states of sectors go together.
use Rattle.std.proofs.Common.{ℕ, length, slice_get, refl, sym, ap, ◌∙◌, inl, inr}
use Rattle.s3_store.specs.Inner.State.{PoolState, KeepsContents, ChangesWithin, KeepsInStep}

-- ---- calls that change no sector

pub keeps_refl : (s : PoolState) → KeepsContents s s
keeps_refl s = record { contents = refl; stored = record { each = λ i. inl refl } }

pub keeps_trans : (s t u : PoolState) → KeepsContents s t → KeepsContents t u → KeepsContents s u
keeps_trans s t u first second = record {
  contents = second.contents ∙ first.contents;
  stored = record {
    each = λ i. elim (second.stored.each i) [
      | inl was ↦ elim (first.stored.each i) [ inl before ↦ inl (was ∙ before) | inr here ↦ inr (was ∙ here) ]
      | inr now ↦ inr (now ∙ ap (λ l. slice_get l i) first.contents)
    ];
  };
}

-- ---- calls that change sectors of a region alone

pub within_refl : (region : ℕ → Type 0) (s : PoolState) → ChangesWithin region s s
within_refl region s = record { count = refl; contents = λ i _. refl; stored = λ i _. inl refl }

pub within_trans : (region : ℕ → Type 0) (s t u : PoolState) → ChangesWithin region s t → ChangesWithin region t u → ChangesWithin region s u
within_trans region s t u first second = record {
  count = second.count ∙ first.count;
  contents = λ i out. second.contents i out ∙ first.contents i out;
  stored = λ i out. elim (second.stored i out) [
    | inl was ↦ elim (first.stored i out) [ inl before ↦ inl (was ∙ before) | inr here ↦ inr (was ∙ here) ]
    | inr now ↦ inr (now ∙ first.contents i out)
  ];
}

pub within_weaker : (region wider : ℕ → Type 0) (s t : PoolState) → ((i : ℕ) → region i → wider i) → ChangesWithin region s t → ChangesWithin wider s t
within_weaker region wider s t more c = record {
  count = c.count;
  contents = λ i out. c.contents i (λ inside. out (more i inside));
  stored = λ i out. c.stored i (λ inside. out (more i inside));
}

pub within_from_keeps : (region : ℕ → Type 0) (s t : PoolState) → KeepsContents s t → ChangesWithin region s t
within_from_keeps region s t k = record {
  count = ap length k.contents;
  contents = λ i _. ap (λ l. slice_get l i) k.contents;
  stored = λ i _. k.stored.each i;
}

pub keeps_within : (region : ℕ → Type 0) (s t u : PoolState) → KeepsContents s t → ChangesWithin region t u → ChangesWithin region s u
keeps_within region s t u k c = within_trans region s t u (within_from_keeps region s t k) c

-- ---- sectors that are kept, and that stay in step where they were

pub step_refl : (IsKept : ℕ → Type 0) (s : PoolState) → KeepsInStep IsKept s s
step_refl IsKept s = record { count = refl; contents = λ i kept. refl; stored = λ i kept same. same }

pub step_trans : (IsKept : ℕ → Type 0) (s t u : PoolState) → KeepsInStep IsKept s t → KeepsInStep IsKept t u → KeepsInStep IsKept s u
step_trans IsKept s t u first second = record {
  count = second.count ∙ first.count;
  contents = λ i kept. second.contents i kept ∙ first.contents i kept;
  stored = λ i kept same. second.stored i kept (first.stored i kept same);
}

pub step_weaker : (IsKept IsFewer : ℕ → Type 0) (s t : PoolState) → ((i : ℕ) → IsFewer i → IsKept i) → KeepsInStep IsKept s t → KeepsInStep IsFewer s t
step_weaker IsKept IsFewer s t fewer k = record {
  count = k.count;
  contents = λ i kept. k.contents i (fewer i kept);
  stored = λ i kept same. k.stored i (fewer i kept) same;
}

-- what lies outside a region that alone changes is kept
pub step_from_within : (region IsKept : ℕ → Type 0) (s t : PoolState) → ((i : ℕ) → IsKept i → ¬ region i) → ChangesWithin region s t → KeepsInStep IsKept s t
step_from_within region IsKept s t outside c = record {
  count = c.count;
  contents = λ i kept. c.contents i (outside i kept);
  stored = λ i kept same. elim (c.stored i (outside i kept)) [
    | inl was ↦ was ∙ same ∙ sym (c.contents i (outside i kept))
    | inr now ↦ now ∙ sym (c.contents i (outside i kept))
  ];
}

pub step_from_keeps : (IsKept : ℕ → Type 0) (s t : PoolState) → KeepsContents s t → KeepsInStep IsKept s t
step_from_keeps IsKept s t k = step_from_within (λ _. ⊥) IsKept s t (λ i kept inside. inside) (within_from_keeps (λ _. ⊥) s t k)
