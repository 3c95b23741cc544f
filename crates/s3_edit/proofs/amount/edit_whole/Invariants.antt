use Rattle.std.proofs.Common.{◌≡◌, ℕ, ◌<◌, ◌≤◌, ◌+◌, ◌-◌, get_or}
use Rattle.s3_edit.specs.Inner.Passes.{whole_at}
use Rattle.s3_edit.proofs.amount.edit_whole.Given as goal

abbrev pub invariant-threes : goal.invariant-threes
invariant-threes l = record {
  within : l.place ≤ l.end;
  ahead : (k : ℕ) → whole_at l.commas l.number (k + l.place) ≡ whole_at l.commas l.rest k;
  written : (k : ℕ) → k < l.place → get_or l.out (l.end - 1 - k) 0 ≡ whole_at l.commas l.number k;
  kept : (i : ℕ) → l.end ≤ i → get_or l.out i 0 ≡ get_or l.initial.out i 0;
}

abbrev pub decreases-threes : goal.decreases-threes
decreases-threes l = l.end - l.place
