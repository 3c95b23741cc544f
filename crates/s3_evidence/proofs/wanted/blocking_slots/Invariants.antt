-- Those so far are of the level's own area or of the masters.
use Rattle.std.specs.List.{All}
use Rattle.s3_evidence.specs.Inner.About.{IsOwnArea}
use Rattle.s3_evidence.proofs.wanted.blocking_slots.Given as goal

abbrev pub invariant-loop-statement : goal.invariant-loop-statement
invariant-loop-statement l = All (λ place. IsOwnArea l.fn.asked.level place.area) l.slots.items
