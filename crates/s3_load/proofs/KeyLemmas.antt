-- Rows that are compared one after another.
use Rattle.std.proofs.Common.{◌≡◌, ℕ, zero, suc, ◌+◌, ◌-◌, ◌<◌, ◌≤◌, inl, inr, sym, ap, ap₂, ◌∙◌, subst, arith, false, List, length, get_or}
use Rattle.std.specs.Prelude.{◌⊎◌}
use Rattle.std.specs.Cmp.{IsStrictWeakOrder}
use Rattle.std.specs.Cmp.Lexicographic.{slice_cmp}
use Rattle.std.specs.Ordering.{is_eq, is_lt, nat_cmp, ordering_reverse}
use Rattle.std.specs.declared.cmp.Ordering.{Ordering}
use Rattle.std.specs.declared.cmp.Ordering.TheVariants.{Less, Equal, Greater}
use Rattle.std.proofs.lemmas.Bool.{cases_eq}
use Rattle.std.proofs.lemmas.Cmp.{nat_list_cmp_total}
use Rattle.std.proofs.lemmas.List.{get_or_default}
use Rattle.std.proofs.lemmas.List.MinMax.{ranks_by}
use Rattle.std.proofs.lemmas.List.Sorted.{sorted_far}
use Rattle.std.proofs.lemmas.Map.Text.{is_eq-slice_cmp}
use Rattle.std.proofs.lemmas.Slice.Eq.{bytes_eq-Decides}
use Rattle.std.specs.List.{AllPairs}
use Rattle.s3_lines.specs.declared.sheet.KeyField.{KeyField}
use Rattle.s3_load.specs.declared.rows.Row.{Row}
use Rattle.s3_load.specs.declared.fault.ValueFault.{ValueFault}
use Rattle.s3_load.specs.Inner.KeyOrder.{AreSorted, ComesBefore, comes_before, key_in}
use Rattle.s3_load.specs.Inner.Reasons.{HasSameKey, IsSameKey}

-- each row below a place comes before the next one
pub record AscendBelow (key : KeyField) (rows : List Row) (place : ℕ) : Type 0 where
  pub each : (k : ℕ) (d : Row) → k + 1 < place → ComesBefore key (get_or rows k d) (get_or rows (k + 1) d)

pub none_compared : (key : KeyField) (rows : List Row) → AscendBelow key rows 1
none_compared key rows = record { each = λ k d h. absurd (omega (arith, h)) }

pub one_more_compared : (key : KeyField) (rows : List Row) (place : ℕ) (one next : Row) → 1 ≤ place → place < length rows → one ≡ get_or rows (place - 1) one → next ≡ get_or rows place next
    → AscendBelow key rows place → ComesBefore key one next → AscendBelow key rows (place + 1)
one_more_compared key rows place one next some within is_one is_next before behind = record {
  each = λ k d h. elim (cases_eq (k + 1) place) [
    | inl here ↦
        let at : k ≡ place - 1 = omega (arith, here) in
        let first : get_or rows k d ≡ one = ap (λ n. get_or rows n d) at ∙ get_or_default rows (place - 1) d one (omega (arith, within)) ∙ sym is_one in
        let second : get_or rows (k + 1) d ≡ next = ap (λ n. get_or rows n d) here ∙ get_or_default rows place d next within ∙ sym is_next in
        subst (λ (r : Row). ComesBefore key r (get_or rows (k + 1) d)) (sym first) (subst (λ (r : Row). ComesBefore key one r) (sym second) behind)
    | inr other ↦ before.each k d (omega (arith, h, other))
  ];
}

apart : (key : KeyField) (rows : List Row) → ((k : ℕ) (d : Row) → k + 1 < length rows → ComesBefore key (get_or rows k d) (get_or rows (k + 1) d)) → (i n : ℕ) (d : Row) → i + n + 1 < length rows
    → ComesBefore key (get_or rows i d) (get_or rows (i + n + 1) d)
apart key rows each i zero d h = let e : i + 0 + 1 ≡ i + 1 = omega arith in subst (λ j. ComesBefore key (get_or rows i d) (get_or rows j d)) (sym e) (each i d (omega (arith, h)))
apart key rows each i (suc n) d h =
    let e : i + suc n + 1 ≡ i + n + 1 + 1 = omega arith in
    let before = apart key rows each i n d (omega (arith, h)) in
    let last = each (i + n + 1) d (omega (arith, h)) in
    subst (λ j. ComesBefore key (get_or rows i d) (get_or rows j d)) (sym e)
    (nat_list_cmp_total.trans (key_in key (get_or rows i d).bytes.items) (key_in key (get_or rows (i + n + 1) d).bytes.items) (key_in key (get_or rows (i + n + 1 + 1) d).bytes.items) before last)

pub all_compared : (key : KeyField) (rows : List Row) (place : ℕ) → length rows ≤ place → AscendBelow key rows place → AllPairs (ComesBefore key) rows
all_compared key rows place whole below = λ i j d less within.
    let e : j ≡ i + (j - i - 1) + 1 = omega (arith, less) in
    subst (λ n. ComesBefore key (get_or rows i d) (get_or rows n d)) (sym e)
    (apart key rows (λ k d h. below.each k d (omega (arith, h, whole))) i (j - i - 1) d (omega (arith, less, within)))

-- ---- rows with the same key
not_greater : (order : Ordering) → Greater ≡ ordering_reverse order → is_lt order ≡ false → ⊥
not_greater Less is sorted = absurd (cc sorted)
not_greater Equal is sorted = absurd (cc is)
not_greater Greater is sorted = absurd (cc is)

equal_keys : (xs ys : List ℕ) (order : Ordering) → order ≡ slice_cmp nat_cmp xs ys → (order ≡ Equal) ⊎ (order ≡ Greater) → is_lt (slice_cmp nat_cmp ys xs) ≡ false → xs ≡ ys
equal_keys xs ys Less is other sorted = elim other [ inl equal ↦ absurd (cc equal) | inr greater ↦ absurd (cc greater) ]
equal_keys xs ys Equal is other sorted = (bytes_eq-Decides xs ys).0 (sym (is_eq-slice_cmp xs ys) ∙ ap is_eq (sym is))
equal_keys xs ys Greater is other sorted = absurd (not_greater (slice_cmp nat_cmp ys xs) (is ∙ nat_list_cmp_total.antisymm xs ys) sorted)

-- two rows neither of which comes before the other have the same key
pub same_key : (key : KeyField) (one next : Row) (order : Ordering) → order ≡ slice_cmp nat_cmp (key_in key one.bytes.items) (key_in key next.bytes.items) → (order ≡ Equal) ⊎ (order ≡ Greater) → comes_before key next one ≡ false
    → key_in key one.bytes.items ≡ key_in key next.bytes.items
same_key key one next order is other sorted = equal_keys (key_in key one.bytes.items) (key_in key next.bytes.items) order is other sorted

pub key_ranks : (key : KeyField) → IsStrictWeakOrder (comes_before key)
key_ranks key = ranks_by nat_list_cmp_total (λ (row : Row). key_in key row.bytes.items)

-- a row doesn't come before the one before it
pub not_before : (key : KeyField) (rows : List Row) (place : ℕ) (one next : Row) → AreSorted key rows → 1 ≤ place → place < length rows → one ≡ get_or rows (place - 1) one → next ≡ get_or rows place next
    → comes_before key next one ≡ false
not_before key rows place one next sorted some within is_one is_next =
    let first : get_or rows (place - 1) next ≡ one = get_or_default rows (place - 1) next one (omega (arith, within)) ∙ sym is_one in
    ap₂ (comes_before key) is_next (sym first) ∙ sorted_far (comes_before key) (key_ranks key) rows sorted (place - 1) place next (omega arith) within

pub of_rows : (key : KeyField) (rows : List Row) (place : ℕ) (one next : Row) → 1 ≤ place → place < length rows → one ≡ get_or rows (place - 1) one → next ≡ get_or rows place next
    → (fault : ValueFault) → HasSameKey key one next fault → IsSameKey key rows fault
of_rows key rows place one next some within is_one is_next fault same =
    let at : place ≡ place - 1 + 1 = omega (arith, some) in
    record {
      place = place - 1;
      within = omega (arith, some, within);
      one = one;
      next = next;
      is_one = is_one;
      is_next = subst (λ i. next ≡ get_or rows i next) at is_next;
      same = same;
    }
