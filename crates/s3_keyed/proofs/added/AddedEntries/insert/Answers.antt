use Rattle.s3_keyed.specs.KeyOrder.{number_of}
use Rattle.s3_keyed.proofs.InMemory.{by_halves, put_under}
use Rattle.s3_keyed.proofs.added.AddedEntries.insert.Goals as goal

pub returns-clause-ok : goal.returns-clause-ok
returns-clause-ok c = put_under _ by_halves c.number.result (number_of c.args.entry.key.bytes) c.args.entry.number c.args.self.now.numbers.entries c.insert.new.self.entries c.number.ensures.whole c.in_ok-insert.ensures.entries c.requires.is_new
