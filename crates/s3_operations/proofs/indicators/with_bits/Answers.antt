use Rattle.std.proofs.Common.{◌∙◌, ◌==◌, ap, sym, arith}
use Rattle.std.specs.Prelude.{if◌then◌else◌}
use Rattle.std.specs.Int.{bit_at}
use Rattle.s3_operations.proofs.PlaceLemmas.{bits_cleared, bits_set}
use Rattle.s3_operations.proofs.indicators.with_bits.Goals as goal

pub returns-then-to : goal.returns-then-to
returns-then-to c = λ bit within.
    bits_set c.args.word c.args.mask bit ∙ ap (λ b. if bit_at c.args.mask bit == 1 then b else bit_at c.args.word bit == 1) (sym c.if-to.true)

pub returns-else-to : goal.returns-else-to
returns-else-to c = λ bit within.
    bits_cleared c.args.word c.args.mask bit (omega (arith, c.ranges.mask)) within ∙ ap (λ b. if bit_at c.args.mask bit == 1 then b else bit_at c.args.word bit == 1) (sym c.if-to.false)
