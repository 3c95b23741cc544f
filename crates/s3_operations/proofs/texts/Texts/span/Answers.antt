use Rattle.s3_operations.proofs.TextLemmas.{lies_seen}
use Rattle.s3_operations.proofs.texts.Texts.span.Goals as goal

pub returns-clause-lies : goal.returns-clause-lies
returns-clause-lies c = lies_seen c.self.inside.spans.items c.self.inside.bytes.items c.args.self.now c.args.slot c.index.result.now c.self.view_is c.self.invariant c.requires c.index.ensures
