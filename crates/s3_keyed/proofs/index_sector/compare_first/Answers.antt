use Rattle.std.proofs.Common.{◌≡◌, length, take, length-take-le, ◌∙◌, sym, arith}
use Rattle.s3_keyed.proofs.KeyNumbers.{compared, bytes_from_index, bytes_taken}
use Rattle.s3_keyed.proofs.index_sector.compare_first.Goals as goal

pub returns-in_default : goal.returns-in_default
returns-in_default c =
    let n = c.args.count in
    let one = c.args.one.now in
    let other = c.args.other.now in
    let same : length (take n one) ≡ length (take n other) = length-take-le n one c.requires.one ∙ sym (length-take-le n other c.requires.other) in
    c.cmp.ensures
    ∙ compared (take n one) (take n other) same
    (bytes_taken n one (bytes_from_index one (λ i. omega (arith, c.type_inv.one i))))
    (bytes_taken n other (bytes_from_index other (λ i. omega (arith, c.type_inv.other i))))
