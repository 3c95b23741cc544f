use Rattle.std.proofs.Common.{◌∙◌, ap}
use Rattle.std.specs.Prelude.{if◌then◌else◌}
use Rattle.s3_operations.specs.Inner.Places.{is_set}
use Rattle.s3_operations.proofs.indicators.Indicators.set.Goals as goal

pub returns : goal.returns
returns c = λ other. c.turn_bits.ensures other ∙ ap (λ b. if b then c.args.to else is_set c.args.self.now.words other) (c.at.ensures.places other)
