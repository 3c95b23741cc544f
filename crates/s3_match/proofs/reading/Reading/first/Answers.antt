use Rattle.std.proofs.Common.{arith}
use Rattle.s3_match.proofs.BeginLemmas.{first_is}
use Rattle.s3_match.proofs.reading.Reading.first.Goals as goal

pub returns-clause-reading : goal.returns-clause-reading
returns-clause-reading c = λ e begins. first_is c.args.program.now c.args.switches c.loop-slot.slot c.loop-slot.files.items c.in_ok-none.field-0 e (omega arith) c.loop-slot.invariant c.in_ok-none.ensures begins
