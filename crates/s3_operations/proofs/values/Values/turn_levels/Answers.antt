use Rattle.std.proofs.Common.{refl}
use Rattle.std.specs.Prelude.{if◌then◌else◌}
use Rattle.s3_meaning.specs.Environment.{is_level}
use Rattle.s3_operations.proofs.IndicatingLemmas.{turned_by}
use Rattle.s3_operations.proofs.values.Values.turn_levels.Goals as goal

pub returns : goal.returns
returns c = turned_by (λ on other. if is_level other then c.args.to else on other) c.args.program.now c.args.self.now _ c.requires.sound refl refl refl refl c.turn_levels.ensures
