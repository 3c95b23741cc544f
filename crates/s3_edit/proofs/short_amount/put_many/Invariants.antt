use Rattle.std.proofs.Common.{◌≡◌, ℕ, ◌<◌, ◌≤◌, ◌-◌, ◌/◌, ◌^◌, get_or}
use Rattle.s3_edit.specs.Picture.{suppressed_at}
use Rattle.s3_edit.proofs.short_amount.put_many.Given as goal

abbrev pub invariant-pairs : goal.invariant-pairs
invariant-pairs l = record {
  within : l.place ≤ l.end;
  left : l.rest ≡ l.number / 10 ^ l.place;
  written : (k : ℕ) → k < l.place → get_or l.text (l.end - 1 - k) 0 ≡ suppressed_at l.number k;
  before : (i : ℕ) → i < l.end - l.place → get_or l.text i 0 ≡ 0x40;
  kept : (i : ℕ) → l.end ≤ i → get_or l.text i 0 ≡ get_or l.initial.text i 0;
}

abbrev pub decreases-pairs : goal.decreases-pairs
decreases-pairs l = l.rest - 99
