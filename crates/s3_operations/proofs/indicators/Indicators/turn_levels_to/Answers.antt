use Rattle.std.proofs.Common.{◌∙◌}
use Rattle.s3_operations.specs.Inner.Indicators.{on_in}
use Rattle.s3_operations.proofs.IndicatingLemmas.{no_level_yet, level_more}
use Rattle.s3_operations.proofs.indicators.Indicators.turn_levels_to.Goals as goal

pub loop-number-init : goal.loop-number-init
loop-number-init c = λ other. no_level_yet other c.args.to (on_in c.args.self.now other)

pub loop-number-preserved : goal.loop-number-preserved
loop-number-preserved c = λ other.
    c.turn.ensures other ∙ level_more c.loop-number.number other c.args.to (on_in c.args.self.now other) (on_in c.loop-number.self other) (c.loop-number.invariant other)
