use Rattle.std.proofs.Common.{arith}
use Rattle.s3_keyed.proofs.KeyNumbers.{halves_written}
use Rattle.s3_keyed.proofs.keys.KeyNumber.bytes.Goals as goal

pub returns : goal.returns
returns c = halves_written c.args.self.now.high c.args.self.now.low c.write_u128.new.buf c.write_u128-2.new.buf _ _ c.write_u128.ensures c.write_u128-2.ensures (omega arith) (omega arith) (omega arith) c.args.self.now.in_range
