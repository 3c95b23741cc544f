-- The zeros so far.
use Rattle.std.proofs.Common.{◌≡◌, ◌++◌, replicate, vec_items}
use Rattle.s3_cards.proofs.numbers.push_number.Given as goal

abbrev pub invariant-loop-zero : goal.invariant-loop-zero
invariant-loop-zero l = vec_items l.text ≡ vec_items l.initial.text ++ replicate l._zero 48
