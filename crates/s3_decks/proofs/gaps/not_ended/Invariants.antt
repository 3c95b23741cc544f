-- The ranges that are left say the same of each place from this one on.
use Rattle.std.proofs.Common.{◌≡◌, ◌≤◌, ℕ, true, length}
use Rattle.s3_decks.specs.Inner.Decks.{is_left_out}
use Rattle.s3_decks.specs.Inner.Gaps.{begin_in_order}
use Rattle.s3_decks.proofs.gaps.not_ended.Given as goal

abbrev pub invariant-loop-first : goal.invariant-loop-first
invariant-loop-first l = ((p : ℕ) → l.place ≤ p → is_left_out l.rest p ≡ is_left_out l.ranges p) × (begin_in_order 0 l.ranges ≡ true → begin_in_order 0 l.rest ≡ true)

abbrev pub decreases-loop-first : goal.decreases-loop-first
decreases-loop-first l = length l.rest
