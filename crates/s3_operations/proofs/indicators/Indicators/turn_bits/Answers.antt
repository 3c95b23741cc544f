use Rattle.std.proofs.Common.{rules}
use Rattle.s3_operations.proofs.PlaceLemmas.{bits_turned}
use Rattle.s3_operations.proofs.indicators.Indicators.turn_bits.Goals as goal

pub returns : goal.returns
returns c = λ place. bits_turned c.args.self.now.words c.args.bits c.args.to c.with_bits.result place (search rules) (λ bit within. c.with_bits.ensures bit within)
