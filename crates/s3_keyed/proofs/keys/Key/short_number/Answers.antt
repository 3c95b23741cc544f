use Rattle.std.proofs.Common.{◌≡◌, length, ap, ◌∙◌, arith}
use Rattle.byteorder.specs.Endian.{big_number}
use Rattle.s3_keyed.proofs.KeyNumbers.{last_eight}
use Rattle.s3_keyed.proofs.Places.{rest_of}
use Rattle.s3_keyed.proofs.keys.Key.short_number.Goals as goal

pub returns : goal.returns
returns c =
    let key = c.args.self.now in
    let long : length key.bytes ≡ 32 = omega arith in
    c.read_u64.ensures ∙ ap (big_number 8) (rest_of 32 24 key.bytes long) ∙ last_eight 8 key.bytes (omega arith) long c.requires
