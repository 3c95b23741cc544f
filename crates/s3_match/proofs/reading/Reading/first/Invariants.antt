use Rattle.s3_match.specs.Inner.Beginning.{AreFirst}
use Rattle.s3_match.proofs.reading.Reading.first.Given as goal

abbrev pub invariant-loop-slot : goal.invariant-loop-slot
invariant-loop-slot l = AreFirst l.program l.switches l.slot l.files.items
