-- Slots that aren't of the kind that they were.
use Rattle.std.proofs.Common.{◌≡◌, ◌≢◌, ℕ, ◌+◌, ◌*◌, ◌/◌, ◌%◌, ◌<◌, ◌≤◌, ◌&&◌, Bool, true, false, not, List, length, slice_get, refl, sym, ap, ap₂, ◌∙◌, subst, arith, inl, inr}
use Rattle.std.specs.Prelude.{nat_eq, nat_lt}
use Rattle.std.proofs.lemmas.Bool.{and_parts, both_ways, cases_Bool, eq-eqb, eqb-true, ltb-false, ltb-true, not-true}
use Rattle.s3_store.specs.Inner.Bytes.{with_piece}
use Rattle.s3_slots.specs.Slots.{labels_at}
use Rattle.s3_labels.specs.Inner.Areas.{Areas, areas_on, slots_in}
use Rattle.s3_pack_care.specs.Inner.Kept.{IsChanged, IsMounted, IsOther, alike, with_slot}
use Rattle.s3_pack_care.proofs.Relabelled.{eq_or, mounted_same, other_sector, same_header}

changed_parts : (i written : ℕ) (b : Bool) → not (nat_eq i written) && not b ≡ true → (i ≢ written) × (b ≡ false)
changed_parts i written b h =
    let parts = and_parts (not (nat_eq i written)) (not b) h in
    ((λ e. both_ways (nat_eq i written) (not-true (nat_eq i written) parts.0) (eq-eqb i written e)), not-true b parts.1)

kept_if : (same b : Bool) → not same && not b ≡ false → (same ≡ true → ⊥) → b ≡ true
kept_if same true h differ = refl
kept_if true false h differ = absurd (differ refl)
kept_if false false h differ = absurd cc

pub others_on : (old new : Areas) (area written i : ℕ) → ((k : ℕ) → k < i → k ≢ written → alike (slice_get (slots_in area old) k) (slice_get (slots_in area new) k) ≡ true)
    → not (nat_eq i written) && not (alike (slice_get (slots_in area old) i) (slice_get (slots_in area new) i)) ≡ false
    → (k : ℕ) → k < i + 1 → k ≢ written → alike (slice_get (slots_in area old) k) (slice_get (slots_in area new) k) ≡ true
others_on old new area written i before h k few differ = elim (cases_Bool (nat_lt k i)) [
  | inl yes_so ↦ before k (ltb-true k i yes_so) differ
  | inr not_so ↦
      let low = ltb-false k i not_so in
      let e : k ≡ i = omega (arith, few, low) in
      ap (λ j. alike (slice_get (slots_in area old) j) (slice_get (slots_in area new) j)) e
      ∙ kept_if (nat_eq i written) (alike (slice_get (slots_in area old) i) (slice_get (slots_in area new) i)) h (λ q. differ (e ∙ eqb-true i written q))
]

other_differs : (area slot a i written : ℕ) → IsOther area slot a i → (a ≡ area → written ≡ slot) → (a ≢ area → written ≡ 32) → i ≢ written
other_differs area slot a i written is own none = λ e. elim (eq_or a area) [
  | inl same ↦ is.other same (e ∙ own same)
  | inr differ ↦ let place = none differ in let few = is.slot_in in omega (arith, e, place, few)
]

pub areas_more : (old new : Areas) (area slot a written : ℕ) → ((k i : ℕ) → k < a → IsOther area slot k i → alike (slice_get (slots_in k old) i) (slice_get (slots_in k new) i) ≡ true)
    → ((i : ℕ) → i < 32 → i ≢ written → alike (slice_get (slots_in a old) i) (slice_get (slots_in a new) i) ≡ true) → (a ≡ area → written ≡ slot) → (a ≢ area → written ≡ 32)
    → (k i : ℕ) → k < a + 1 → IsOther area slot k i → alike (slice_get (slots_in k old) i) (slice_get (slots_in k new) i) ≡ true
areas_more old new area slot a written before each own none k i few is = elim (cases_Bool (nat_lt k a)) [
  | inl yes_so ↦ before k i (ltb-true k a yes_so) is
  | inr not_so ↦
      let low = ltb-false k a not_so in
      let e : k ≡ a = omega (arith, few, low) in
      ap (λ n. alike (slice_get (slots_in n old) i) (slice_get (slots_in n new) i)) e
      ∙ each i is.slot_in (other_differs area slot a i written (subst (λ n. IsOther area slot n i) e is) own none)
]

pub changed_is : (old new : Areas) (area slot a i written : ℕ) → a < 3 → i < 32 → (a ≡ area → written ≡ slot)
    → not (nat_eq i written) && not (alike (slice_get (slots_in a old) i) (slice_get (slots_in a new) i)) ≡ true → IsChanged area slot old new i
changed_is old new area slot a i written few small own h =
    let parts = changed_parts i written (alike (slice_get (slots_in a old) i) (slice_get (slots_in a new) i)) h in
    record {
      in_area = a;
      is = record { area_in = few; slot_in = small; other = λ same_area same_slot. parts.0 (same_slot ∙ sym (own same_area)) };
      unlike = parts.1;
    }

pub uncovered_is : (area slot at : ℕ) (bytes : List ℕ) (before after : Areas) (old new : List (List ℕ)) (i : ℕ) → area < 3 → slot < 32 → 25 ≤ length old → length bytes ≡ 64 → at ≡ slot % 4
    → new ≡ with_piece old (labels_at area + slot / 4) (at * 64) bytes → length new ≡ length old → IsMounted before old → IsMounted after new → IsChanged area slot before after i
    → IsChanged area slot (areas_on before.header old) (areas_on before.header (with_slot area slot bytes old)) i
uncovered_is area slot at bytes before after old new i area_in slot_in room width e set count was is changed =
    let whole : new ≡ with_slot area slot bytes old = set ∙ ap (λ n. with_piece old (labels_at area + slot / 4) (n * 64) bytes) e in
    let mounts = mounted_same old new count (other_sector area slot at bytes old new area_in slot_in room width e set 0 (λ q. omega (arith, q))) in
    let headers = same_header before after old new was is mounts in
    let one : after ≡ areas_on before.header (with_slot area slot bytes old) = is.judged ∙ ap₂ areas_on headers whole in
    subst (λ (a : Areas). IsChanged area slot a (areas_on before.header (with_slot area slot bytes old)) i) was.judged (subst (λ (a : Areas). IsChanged area slot before a i) one changed)
