use Rattle.s3_pages.specs.Inner.Bodies.{label_turn}
use Rattle.s3_pages.proofs.Ranges.{numbers_step}
use Rattle.s3_pages.proofs.bodies.push_turns.Goals as goal

pub loop-turn-preserved : goal.loop-turn-preserved
loop-turn-preserved c = numbers_step label_turn _ _ _ c.loop-turn.turn c.loop-turn.invariant c.in_ok-push_turn.ensures
