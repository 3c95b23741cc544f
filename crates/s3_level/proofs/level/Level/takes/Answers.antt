use Rattle.std.proofs.Common.{sym, ◌∙◌}
use Rattle.s3_level.proofs.Fitting.{none_allowed}
use Rattle.s3_level.proofs.level.Level.takes.Goals as goal

pub returns-in-None-clause-world : goal.returns-in-None-clause-world
returns-in-None-clause-world c = λ s. none_allowed s c.args.self.now c.args.digit (sym c.asked.ensures ∙ c.in-None.is)
