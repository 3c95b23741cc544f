use Rattle.std.proofs.Common.{◌≡◌, ◌-◌, drop, length, ap, ◌∙◌, arith}
use Rattle.s3_keyed.specs.KeyOrder.{number_of}
use Rattle.s3_keyed.proofs.KeyNumbers.{short_drop}
use Rattle.s3_keyed.proofs.Places.{encoded, rest_of}
use Rattle.s3_keyed.proofs.write.encode.Goals as goal

pub returns : goal.returns
returns c =
    let front = c.copy_from_slice.new.self in
    let long : length front ≡ c.args.key_length = c.copy_from_slice.ensures.len ∙ c.split_at_mut-key.ensures.front_len in
    rw c.write_u32.ensures (encoded c.args.key_length c.args.entry.now.number front (drop 4 c.split_at_mut-key.result.1.now) c.args.entry.now.key.bytes long (omega arith) (ap number_of (c.copy_from_slice.ensures.after ∙ rest_of 32 (32 - c.args.key_length) c.args.entry.now.key.bytes (omega arith)) ∙ short_drop (32 - c.args.key_length) c.args.key_length c.args.entry.now.key.bytes (omega arith) c.requires.short))
