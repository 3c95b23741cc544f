use Rattle.std.proofs.Common.{◌∙◌, ap, refl}
use Rattle.s3_meaning.specs.Environment.{turn_levels}
use Rattle.s3_meaning.specs.Cycle.{without_types}
use Rattle.s3_program.specs.Inner.Stands.{source_named}
use Rattle.s3_operations.specs.Inner.Held.{held}
use Rattle.s3_cycle.proofs.ClearingLemmas.{types_cleared}
use Rattle.s3_cycle.proofs.indicating.clear.Goals as goal

pub returns : goal.returns
returns c =
    let cleared = types_cleared c.args.program.now c.args.values.now _ c.requires.sound refl refl refl refl c.turn_off.ensures in
    record {
      sound = c.turn_levels.ensures.sound;
      held = λ rest.
          c.turn_levels.ensures.held rest
          ∙ (ap (turn_levels c.is_on-is_last.result) (cleared.held rest)
          ∙ ap (λ last. turn_levels last (without_types (source_named c.args.program.now) (held c.args.program.now c.args.values.now rest))) (c.is_on-is_last.ensures rest));
    }
