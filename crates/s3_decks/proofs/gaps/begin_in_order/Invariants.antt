-- The order of the ranges that are left, from the last one on.
use Rattle.std.proofs.Common.{◌≡◌, drop}
use Rattle.s3_decks.specs.Inner.Gaps.{begin_in_order}
use Rattle.s3_decks.proofs.gaps.begin_in_order.Given as goal

abbrev pub invariant-loop-place : goal.invariant-loop-place
invariant-loop-place l = begin_in_order 0 l.ranges ≡ begin_in_order l.from (drop l._place l.ranges)
