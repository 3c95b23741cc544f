use Rattle.std.proofs.Common.{◌≡◌, ◌+◌, ◌-◌, length, length-drop, take, drop, length-take-le, ap, ◌∙◌, arith}
use Rattle.std.specs.Ordering.{nat_cmp}
use Rattle.std.specs.Cmp.Lexicographic.{slice_cmp}
use Rattle.s3_keyed.specs.KeyOrder.{number_of}
use Rattle.s3_keyed.proofs.KeyNumbers.{compared, short_drop, bytes_from_index, bytes_taken, bytes_dropped}
use Rattle.s3_keyed.proofs.Places.{rest_of}
use Rattle.s3_keyed.proofs.index_sector.compare_bytes.Goals as goal

pub returns : goal.returns
returns c =
    let k = c.args.key_length in
    let zeros = 32 - k in
    let entry = c.args.entry.now in
    let key = c.args.key.now in
    let long : length key.bytes ≡ zeros + k = omega (arith, c.requires.short) in
    let same : length (take k entry) ≡ length (drop zeros key.bytes) = omega (arith, length-take-le k entry (omega (arith, c.requires.whole)), length-drop zeros key.bytes, long) in
    c.cmp.ensures
    ∙ ap (λ l. slice_cmp nat_cmp (take k entry) l) (rest_of 32 zeros key.bytes (omega arith))
    ∙ compared (take k entry) (drop zeros key.bytes) same
    (bytes_taken k entry (bytes_from_index entry (λ i. omega (arith, c.type_inv.entry i))))
    (bytes_dropped zeros key.bytes (bytes_from_index key.bytes key.in_range))
    ∙ ap (nat_cmp (number_of (take k entry))) (short_drop zeros k key.bytes long c.requires.short_key)
