use Rattle.std.proofs.Common.{◌-◌, length, ap, ◌∙◌, refl, arith}
use Rattle.byteorder.specs.Endian.{big_number}
use Rattle.s3_keyed.proofs.KeyNumbers.{bytes_from_index}
use Rattle.s3_keyed.proofs.Places.{rest_of}
use Rattle.s3_keyed.proofs.Few.{two_ends}
use Rattle.s3_keyed.proofs.keys.few_number.Goals as goal

pub returns : goal.returns
returns c =
    let key = c.args.key.now in
    two_ends (length key) key c.from-first.result c.from-last.result c.requires.some c.requires.few refl
    (bytes_from_index key (λ i. omega (arith, c.type_inv.key i)))
    (c.from-first.ensures ∙ c.read_u32.ensures)
    (c.from-last.ensures ∙ c.read_u32-2.ensures ∙ ap (big_number 4) (rest_of (length key) (length key - 4) key refl))
