use Rattle.std.proofs.Common.{◌≡◌, ℕ, ◌<◌, ◌≤◌, ◌-◌, ◌/◌, ◌^◌, get_or}
use Rattle.s3_decimal.specs.Records.{digit_at}
use Rattle.s3_edit.specs.Picture.{digit_character}
use Rattle.s3_edit.proofs.digits.edit_digits.Given as goal

abbrev pub invariant-loop-place : goal.invariant-loop-place
invariant-loop-place l = record {
  left : l.rest ≡ l.number / 10 ^ l.place;
  written : (k : ℕ) → k < l.place → get_or l.out (l.end - 1 - k) 0 ≡ digit_character (digit_at k l.number);
  kept : (i : ℕ) → l.end ≤ i → get_or l.out i 0 ≡ get_or l.initial.out i 0;
}
