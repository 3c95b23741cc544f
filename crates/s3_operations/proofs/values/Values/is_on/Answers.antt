use Rattle.std.proofs.Common.{◌∙◌, sym}
use Rattle.s3_operations.proofs.IndicatingLemmas.{held_on}
use Rattle.s3_operations.proofs.values.Values.is_on.Goals as goal

pub returns : goal.returns
returns c = λ rest. c.is_on.ensures ∙ sym (held_on c.args.program.now c.args.self.now rest c.args.indicator)
