use Rattle.std.proofs.Common.{◌-◌, ◌*◌, ◌/◌, ◌^◌, ap, ◌∙◌, arith}
use Rattle.s3_keyed.proofs.KeyNumbers.{bytes_from_index, shifted}
use Rattle.s3_keyed.proofs.index_sector.number_at.Goals as goal

pub returns : goal.returns
returns c =
    let k = c.args.key_length in
    let bytes = c.args.bytes.now in
    ap (λ n. n / 2 ^ (64 - 8 * k)) c.read_u64.ensures ∙ shifted k bytes c.requires.short c.requires.whole (bytes_from_index bytes (λ i. omega (arith, c.type_inv.bytes i)))
