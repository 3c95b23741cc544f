use Rattle.std.proofs.Common.{refl, ◌∙◌, ◌||◌}
use Rattle.s3_meaning.specs.Selection.{is_level_to}
use Rattle.s3_operations.specs.Inner.Indicators.{on_in}
use Rattle.s3_operations.proofs.IndicatingLemmas.{turned_by, raised_to}
use Rattle.s3_operations.proofs.values.Values.raise_levels.Goals as goal

pub returns : goal.returns
returns c = turned_by (λ on other. is_level_to c.args.level other || on other) c.args.program.now c.args.self.now _ c.requires.sound refl refl refl refl
    (λ other. c.turn_levels_to.ensures other ∙ raised_to (is_level_to c.args.level other) (on_in c.args.self.now.indicators other))
