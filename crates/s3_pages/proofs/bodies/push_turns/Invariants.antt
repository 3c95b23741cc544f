-- The turns so far.
use Rattle.std.proofs.Common.{◌≡◌, ◌++◌, vec_items}
use Rattle.std.specs.List.{flat_map, range_with_len}
use Rattle.s3_pages.specs.Inner.Bodies.{label_turn}
use Rattle.s3_pages.proofs.bodies.push_turns.Given as goal

abbrev pub invariant-loop-turn : goal.invariant-loop-turn
invariant-loop-turn l = vec_items l.text ≡ vec_items l.initial.text ++ flat_map label_turn (range_with_len 0 l.turn)
