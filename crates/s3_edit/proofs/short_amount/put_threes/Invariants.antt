use Rattle.std.proofs.Common.{◌≡◌, ℕ, ◌<◌, ◌≤◌, ◌+◌, ◌-◌, ◌^◌, get_or}
use Rattle.s3_edit.specs.Inner.Passes.{whole_at}
use Rattle.s3_edit.specs.Picture.{whole_digits}
use Rattle.s3_edit.proofs.short_amount.put_threes.Given as goal

abbrev pub invariant-threes : goal.invariant-threes
invariant-threes l = record {
  within : l.place ≤ l.end;
  fits : l.rest < 10 ^ whole_digits l.commas (l.end - l.place);
  ahead : (k : ℕ) → whole_at l.commas l.number (k + l.place) ≡ whole_at l.commas l.rest k;
  written : (k : ℕ) → k < l.place → get_or l.text (l.end - 1 - k) 0 ≡ whole_at l.commas l.number k;
  before : (i : ℕ) → i < l.end - l.place → get_or l.text i 0 ≡ 0x40;
  kept : (i : ℕ) → l.end ≤ i → get_or l.text i 0 ≡ get_or l.initial.text i 0;
}

abbrev pub decreases-threes : goal.decreases-threes
decreases-threes l = l.rest
