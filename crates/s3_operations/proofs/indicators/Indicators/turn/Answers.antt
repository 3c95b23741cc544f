use Rattle.std.proofs.Common.{◌∙◌, ap}
use Rattle.std.specs.Prelude.{if◌then◌else◌}
use Rattle.s3_operations.specs.Inner.Indicators.{on_in}
use Rattle.s3_operations.specs.Inner.Places.{indicator_place}
use Rattle.s3_operations.proofs.PlaceLemmas.{same_place}
use Rattle.s3_operations.proofs.indicators.Indicators.turn.Goals as goal

pub returns : goal.returns
returns c = λ other.
    c.turn_bits.ensures (indicator_place other)
    ∙ ap (λ b. if b then c.args.to else on_in c.args.self.now other) (c.of.ensures.places (indicator_place other) ∙ same_place other c.args.indicator c.requires)
