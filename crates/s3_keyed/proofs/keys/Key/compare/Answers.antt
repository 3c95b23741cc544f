use Rattle.std.proofs.Common.{length, ◌∙◌, ◌≡◌, arith}
use Rattle.s3_keyed.proofs.KeyNumbers.{headed, bytes_from_index}
use Rattle.s3_keyed.proofs.keys.Key.compare.Goals as goal

pub returns : goal.returns
returns c =
    let long : length c.args.self.now.bytes ≡ length c.args.other.now.bytes = omega arith in
    rw (c.number.ensures.high, c.number.ensures.low, c.number-2.ensures.high, c.number-2.ensures.low) at c.compare.ensures
    ∙ headed 16 c.args.self.now.bytes c.args.other.now.bytes long (bytes_from_index c.args.self.now.bytes c.args.self.now.in_range) (bytes_from_index c.args.other.now.bytes c.args.other.now.in_range)
