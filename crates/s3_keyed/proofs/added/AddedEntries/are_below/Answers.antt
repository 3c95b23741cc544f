use Rattle.std.proofs.Common.{sym, ◌∙◌}
use Rattle.s3_keyed.specs.KeyOrder.{number_of}
use Rattle.s3_keyed.specs.Inner.Added.{entries_of}
use Rattle.s3_keyed.specs.Inner.Shape.{entry_of}
use Rattle.s3_keyed.proofs.Highest.{last_says}
use Rattle.s3_keyed.proofs.added.AddedEntries.are_below.Goals as goal

pub returns-in-Some : goal.returns-in-Some
returns-in-Some c = last_says (number_of c.args.key.now.bytes) (entries_of c.args.self.now) (entry_of c.in-Some.last) c.requires.ascending c.in-Some.ensures ∙ sym c.is_above.ensures
