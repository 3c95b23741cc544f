use Rattle.s3_keyed.specs.KeyOrder.{number_of}
use Rattle.s3_keyed.proofs.InMemory.{by_halves, found_under, not_under}
use Rattle.s3_keyed.proofs.added.AddedEntries.number_of.Goals as goal

pub returns-in-Some : goal.returns-in-Some
returns-in-Some c = found_under _ by_halves c.number.result (number_of c.args.key.now.bytes) c.in-Some.number.now c.args.self.now.numbers.entries c.number.ensures.whole c.in-Some.ensures.value

pub returns-in-None : goal.returns-in-None
returns-in-None c = not_under _ by_halves c.number.result (number_of c.args.key.now.bytes) c.args.self.now.numbers.entries c.number.ensures.whole c.in-None.ensures.value
