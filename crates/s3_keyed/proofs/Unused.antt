-- The bytes of an indexed file that are in no record and in no entry.
use Rattle.std.proofs.Common.{◌≡◌, ℕ, zero, suc, ◌+◌, ◌-◌, ◌*◌, ◌<◌, ◌≤◌, List, [], ◌∷◌, take, drop, slice_get, refl, sym, ap, subst, ◌∙◌, arith, inl, inr, ◌⊎◌}
use Rattle.std.proofs.Math.Nat.{add-mul, mul-le-mul_right}
use Rattle.s3_store.specs.Bytes.{bytes_at}
use Rattle.s3_store.specs.Inner.Bytes.{SameOutside}
use Rattle.s3_store.specs.Inner.State.{PoolState, KeepsContents}
use Rattle.s3_keyed.specs.Index.{Layout, entry_place}
use Rattle.s3_keyed.specs.Inner.Unused.{IsInIndex, KeepsUnused}

-- ---- one byte
get_before : (n k : ℕ) (s : List ℕ) → k < n → slice_get (take n s) k ≡ slice_get s k
get_before zero k s h = absurd (omega (arith, h))
get_before (suc n) k [] h = refl
get_before (suc n) zero (x ∷ s) h = refl
get_before (suc n) (suc k) (x ∷ s) h = get_before n k s (omega (arith, h))

get_behind : (n k : ℕ) (s : List ℕ) → slice_get (drop n s) k ≡ slice_get s (n + k)
get_behind zero k s = let e : 0 + k ≡ k = omega arith in ap (slice_get s) (sym e)
get_behind (suc n) k [] = refl
get_behind (suc n) k (x ∷ s) = let e : suc n + k ≡ suc (n + k) = omega arith in rw e (get_behind n k s)

split : (a b : ℕ) → (a < b) ⊎ (b ≤ a)
split zero zero = inr (omega arith)
split zero (suc b) = inl (omega arith)
split (suc a) zero = inr (omega arith)
split (suc a) (suc b) = elim (split a b) [ inl l ↦ inl (omega (arith, l)) | inr r ↦ inr (omega (arith, r)) ]

outside_same : (at width k : ℕ) (s t : List ℕ) → SameOutside at width s t → ((at ≤ k) × (k < at + width) → ⊥) → slice_get t k ≡ slice_get s k
outside_same at width k s t same out = by (split k at)
  where
    past : at + width ≤ k → slice_get t k ≡ slice_get s k
    past far =
        let there : at + width + (k - (at + width)) ≡ k = omega (arith, far) in
        let one : (l : List ℕ) → slice_get (drop (at + width) l) (k - (at + width)) ≡ slice_get l k = λ l. get_behind (at + width) (k - (at + width)) l ∙ ap (slice_get l) there in
        sym (one t) ∙ (ap (λ l. slice_get l (k - (at + width))) same.after ∙ one s)

    by : (k < at) ⊎ (at ≤ k) → slice_get t k ≡ slice_get s k
    by (inl below) = sym (get_before at k t below) ∙ (ap (λ l. slice_get l k) same.before ∙ get_before at k s below)
    by (inr from) = elim (split k (at + width)) [ inl less ↦ absurd (out (from, less)) | inr far ↦ past far ]

-- ---- what is written
pub unused_same : (layout : Layout) (count : ℕ) (s : List ℕ) → KeepsUnused layout count s s
unused_same layout count s = record { others = λ k no_record no_entry. refl }

-- a record
pub record_unused : (layout : Layout) (count i : ℕ) (s t : List ℕ) → i < count → SameOutside (i * layout.record_length) layout.record_length s t → KeepsUnused layout count s t
record_unused layout count i s t below same = record { others = λ k no_record no_entry. outside_same (i * layout.record_length) layout.record_length k s t same (λ inside. no_record (within k inside.1)) }
  where
    within : (k : ℕ) → k < i * layout.record_length + layout.record_length → k < count * layout.record_length
    within k less =
        let next : (i + 1) * layout.record_length ≡ i * layout.record_length + 1 * layout.record_length = add-mul i 1 layout.record_length in
        let few : (i + 1) * layout.record_length ≤ count * layout.record_length = mul-le-mul_right layout.record_length (omega (arith, below)) in
        omega (arith, less, next, few)

-- an entry
pub entry_unused : (layout : Layout) (count i : ℕ) (s t : List ℕ) → i < count → SameOutside (entry_place layout i) (layout.key.length + 4) s t → KeepsUnused layout count s t
entry_unused layout count i s t below same =
    record { others = λ k no_record no_entry. outside_same (entry_place layout i) (layout.key.length + 4) k s t same (λ inside. no_entry (record { entry = i; counted = below; from = inside.0; to = inside.1 })) }

-- ---- one step after another
pub unused_then : (layout : Layout) (count : ℕ) (s t u : List ℕ) → KeepsUnused layout count s t → KeepsUnused layout count t u → KeepsUnused layout count s u
unused_then layout count s t u before after = record { others = λ k no_record no_entry. after.others k no_record no_entry ∙ before.others k no_record no_entry }

-- with more records, fewer bytes are unused
pub unused_more : (layout : Layout) (n m : ℕ) (s t : List ℕ) → n ≤ m → KeepsUnused layout n s t → KeepsUnused layout m s t
unused_more layout n m s t few same = record {
  others = λ k no_record no_entry.
      same.others k
      (λ inside. let more : n * layout.record_length ≤ m * layout.record_length = mul-le-mul_right layout.record_length few in no_record (omega (arith, inside, more)))
      (λ inside. let counted = inside.counted in no_entry (record { entry = inside.entry; counted = omega (arith, counted, few); from = inside.from; to = inside.to }));
}

-- a call that changes no sector
pub unused_kept : (layout : Layout) (count : ℕ) (sectors : List ℕ) (old new : PoolState) → KeepsContents old new → KeepsUnused layout count (bytes_at sectors old.contents) (bytes_at sectors new.contents)
unused_kept layout count sectors old new keeps = record { others = λ k no_record no_entry. ap (λ l. slice_get (bytes_at sectors l) k) keeps.contents }

pub unused_behind : (layout : Layout) (count : ℕ) (sectors : List ℕ) (old middle new : PoolState) → KeepsContents old middle → KeepsUnused layout count (bytes_at sectors middle.contents) (bytes_at sectors new.contents)
    → KeepsUnused layout count (bytes_at sectors old.contents) (bytes_at sectors new.contents)
unused_behind layout count sectors old middle new keeps after =
    unused_then layout count (bytes_at sectors old.contents) (bytes_at sectors middle.contents) (bytes_at sectors new.contents) (unused_kept layout count sectors old middle keeps) after

-- an entry is written after a call that changes no sector
pub unused_step : (layout : Layout) (count at : ℕ) (sectors begun : List ℕ) (old middle new : PoolState) → at < count → KeepsUnused layout count begun (bytes_at sectors old.contents) → KeepsContents old middle
    → SameOutside (entry_place layout at) (layout.key.length + 4) (bytes_at sectors middle.contents) (bytes_at sectors new.contents) → KeepsUnused layout count begun (bytes_at sectors new.contents)
unused_step layout count at sectors begun old middle new below before keeps same =
    unused_then layout count begun (bytes_at sectors old.contents) (bytes_at sectors new.contents) before
    (unused_behind layout count sectors old middle new keeps (entry_unused layout count at (bytes_at sectors middle.contents) (bytes_at sectors new.contents) below same))
