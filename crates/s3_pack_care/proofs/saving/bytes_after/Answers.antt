use Rattle.std.proofs.Common.{arith}
use Rattle.s3_pack_care.proofs.Frames.{after_is}
use Rattle.s3_pack_care.proofs.saving.bytes_after.Goals as goal

pub returns : goal.returns
returns c = after_is c.args.pack.now c.min-sectors.result (omega (arith, c.min-sectors.ensures))
