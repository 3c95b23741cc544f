-- Positions that two fields have in common, and the walk over the lines of the O sheet.
use Rattle.std.proofs.Common.{◌≡◌, ℕ, zero, suc, ◌+◌, ◌<◌, ◌≤◌, ◌++◌, ◌||◌, ◌&&◌, length, drop, get_or, List, ◌∷◌, sym, ◌∙◌, ap, arith, drop-cons, append_assoc}
use Rattle.std.specs.Prelude.{nat_eq, nat_le, nat_lt}
use Rattle.std.specs.List.{list_any, range_with_len}
use Rattle.std.proofs.lemmas.Bool.Decides.{nat_tests}
use Rattle.std.proofs.lemmas.List.{append-nil, at_drop_all}
use Rattle.s3_lines.specs.declared.sheet.Line.{Line}
use Rattle.s3_warnings.specs.declared.kinds.Warning.{Warning}
use Rattle.s3_warnings.specs.declared.overlaps.Printed.{Printed}
use Rattle.s3_warnings.specs.Inner.Facts.{Facts}
use Rattle.s3_warnings.specs.Inner.Overlaps.{are_overlapping, fields_with, overlap_on, overlaps_from}

-- ---- positions
pub is_among : (position first width : ℕ) → list_any (nat_eq position) (range_with_len first width) ≡ (nat_le first position && nat_lt position (first + width))
is_among position first zero = grind (arith, nat_tests)
is_among position first (suc width) =
    ap (λ b. nat_eq position first || b) (is_among position (first + 1) width) ∙ among_more position first width
  where
    among_more : (position first width : ℕ)
        → (nat_eq position first || (nat_le (first + 1) position && nat_lt position (first + 1 + width))) ≡ (nat_le first position && nat_lt position (first + suc width))
    among_more position first width = grind (arith, nat_tests)

-- a position of both: both have positions, and each begins before the other ends
pub common_ones : (first width other_first other_width : ℕ)
    → list_any (λ position. list_any (nat_eq position) (range_with_len other_first other_width)) (range_with_len first width)
    ≡ ((nat_lt 0 width && nat_lt 0 other_width) && (nat_lt first (other_first + other_width) && nat_lt other_first (first + width)))
common_ones first zero other_first other_width = grind (arith, nat_tests)
common_ones first (suc width) other_first other_width =
    ap (λ b. list_any (nat_eq first) (range_with_len other_first other_width) || b) (common_ones (first + 1) width other_first other_width)
    ∙ (ap (λ b. b || ((nat_lt 0 width && nat_lt 0 other_width) && (nat_lt (first + 1) (other_first + other_width) && nat_lt other_first (first + 1 + width)))) (is_among first other_first other_width)
    ∙ common_more first width other_first other_width)
  where
    common_more : (first width other_first other_width : ℕ)
        → ((nat_le other_first first && nat_lt first (other_first + other_width))
        || ((nat_lt 0 width && nat_lt 0 other_width) && (nat_lt (first + 1) (other_first + other_width) && nat_lt other_first (first + 1 + width))))
        ≡ ((nat_lt 0 (suc width) && nat_lt 0 other_width) && (nat_lt first (other_first + other_width) && nat_lt other_first (first + suc width)))
    common_more first width other_first other_width = grind (arith, nat_tests)

-- .. so one of them begins within the other
pub overlap_by_first : (field other : Printed)
    → are_overlapping field other
    ≡ ((nat_lt 0 field.width && (nat_le other.first field.first && nat_lt field.first (other.first + other.width)))
    || (nat_lt 0 other.width && (nat_le field.first other.first && nat_lt other.first (field.first + field.width))))
overlap_by_first field other = common_ones field.first field.width other.first other.width ∙ by_first field.first field.width other.first other.width
  where
    by_first : (first width other_first other_width : ℕ)
        → ((nat_lt 0 width && nat_lt 0 other_width) && (nat_lt first (other_first + other_width) && nat_lt other_first (first + width)))
        ≡ ((nat_lt 0 width && (nat_le other_first first && nat_lt first (other_first + other_width)))
        || (nat_lt 0 other_width && (nat_le first other_first && nat_lt other_first (first + width))))
    by_first first width other_first other_width = grind (arith, nat_tests)

-- ---- the walk
pub overlaps_more : (facts : Facts) (old_fields new_fields : List Printed) (old new all : List Warning) (lines : List Line) (i : ℕ) (d : Line) → i < length lines
    → new ≡ old ++ overlap_on facts old_fields (get_or lines i d)
    → new_fields ≡ fields_with facts old_fields (get_or lines i d).sheet
    → old ++ overlaps_from facts old_fields (drop i lines) ≡ all → new ++ overlaps_from facts new_fields (drop (i + 1) lines) ≡ all
unfolding overlaps_from
overlaps_more facts old_fields new_fields old new all lines i d within more fields so_far =
    let here = get_or lines i d in
    let rest = drop (i + 1) lines in
    let further : suc i ≡ i + 1 = omega arith in
    let split : drop i lines ≡ here ∷ rest = drop-cons lines i d within ∙ ap (λ n. here ∷ drop n lines) further in
    let parted : overlaps_from facts old_fields (drop i lines) ≡ overlap_on facts old_fields here ++ overlaps_from facts new_fields rest =
    ap (overlaps_from facts old_fields) split
    ∙ ap (λ (earlier : List Printed). overlap_on facts old_fields here ++ overlaps_from facts earlier rest) (sym fields) in
    ap (λ found. found ++ overlaps_from facts new_fields rest) more
    ∙ (append_assoc old (overlap_on facts old_fields here) (overlaps_from facts new_fields rest)
    ∙ (ap (λ found. old ++ found) (sym parted) ∙ so_far))

-- after the last line nothing is left
pub overlaps_all : (facts : Facts) (fields : List Printed) (found all : List Warning) (lines : List Line) (i : ℕ) → length lines ≤ i
    → found ++ overlaps_from facts fields (drop i lines) ≡ all → found ≡ all
unfolding overlaps_from
overlaps_all facts fields found all lines i done so_far =
    sym (append-nil found) ∙ (sym (at_drop_all (λ left. found ++ overlaps_from facts fields left) lines i done) ∙ so_far)
