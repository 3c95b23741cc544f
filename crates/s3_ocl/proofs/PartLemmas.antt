-- Lemmas about texts between commas.
use Rattle.std.proofs.Common.{◌≡◌, ℕ, ◌+◌, ◌<◌, ◌≤◌, ◌≢◌, List, [], ◌∷◌, sym, ◌∙◌, ap, subst, arith, length, take, drop}
use Rattle.std.specs.List.{before_first, slice_split, position_or_len}
use Rattle.std.proofs.lemmas.List.{take_all}
use Rattle.std.proofs.lemmas.List.Sums.{fails_before_first}
use Rattle.std.proofs.lemmas.List.Splits.{slice_split_first, slice_split_none}
use Rattle.s3_ocl.specs.Signs.{is_comma}

pub parts_at_comma : (w : List ℕ) (end : ℕ) → end ≡ position_or_len is_comma w → end < length w
    → slice_split is_comma w ≡ take end w ∷ slice_split is_comma (drop (end + 1) w)
parts_at_comma w end is within =
    subst (λ (e : ℕ). slice_split is_comma w ≡ take e w ∷ slice_split is_comma (drop (e + 1) w)) (sym is)
    (slice_split_first is_comma w 0 (omega (arith, is, within)))

pub last_part : (w : List ℕ) (end : ℕ) → end ≡ position_or_len is_comma w → end ≡ length w → slice_split is_comma w ≡ before_first is_comma w ∷ []
last_part w end is whole = slice_split_none is_comma w (λ k d below. fails_before_first is_comma w k d (omega (arith, is, whole, below)))
    ∙ ap (λ (x : List ℕ). x ∷ []) (sym (take_all (position_or_len is_comma w) w (omega (arith, is, whole))))

pub parts_before_comma : (w after : List ℕ) (end : ℕ) → end ≡ position_or_len is_comma w → end ≤ length w → end ≢ length w → after ≡ drop (end + 1) w
    → slice_split is_comma w ≡ before_first is_comma w ∷ slice_split is_comma after
parts_before_comma w after end is within not_whole e =
    parts_at_comma w end is (omega arith) ∙ (ap (λ (n : ℕ). take n w ∷ slice_split is_comma (drop (end + 1) w)) is ∙ ap (λ (x : List ℕ). before_first is_comma w ∷ slice_split is_comma x) (sym e))
