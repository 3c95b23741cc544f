use Rattle.std.proofs.Common.{◌≡◌, ◌-◌, ◌+◌, length, length-drop, take, drop, ap, sym, ◌∙◌, arith}
use Rattle.std.specs.Ordering.{nat_cmp, is_ne}
use Rattle.byteorder.specs.Endian.{big_number}
use Rattle.s3_keyed.specs.KeyOrder.{number_of}
use Rattle.s3_keyed.proofs.KeyNumbers.{bytes_from_index, bytes_dropped, short_drop, head_tells}
use Rattle.s3_keyed.proofs.Places.{rest_of}
use Rattle.s3_keyed.proofs.index_sector.compare_head.Goals as goal

pub returns-then-is_ne : goal.returns-then-is_ne
returns-then-is_ne c =
    let k = c.args.key_length in
    let zeros = 32 - k in
    let entry = c.args.entry.now in
    let key = c.args.key.now in
    let long : length key.bytes ≡ zeros + k = omega (arith, c.requires.short) in
    let rest : length (drop zeros key.bytes) ≡ k = omega (arith, length-drop zeros key.bytes, long) in
    c.cmp-head.ensures
    ∙ head_tells k entry (drop zeros key.bytes) c.read_u64.result c.read_u64-2.result c.requires.long c.requires.whole rest
    (bytes_from_index entry (λ i. omega (arith, c.type_inv.entry i)))
    (bytes_dropped zeros key.bytes (bytes_from_index key.bytes key.in_range))
    c.read_u64.ensures
    (c.read_u64-2.ensures ∙ ap (big_number 8) (rest_of 32 zeros key.bytes (omega arith)))
    (ap is_ne (sym c.cmp-head.ensures) ∙ sym c.is_ne.ensures ∙ c.if-is_ne.true)
    ∙ ap (nat_cmp (number_of (take k entry))) (short_drop zeros k key.bytes long c.requires.short_key)
