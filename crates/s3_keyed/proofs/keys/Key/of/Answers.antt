use Rattle.std.proofs.Common.{◌<◌, ◌^◌, length, refl, sym, subst, arith}
use Rattle.s3_keyed.proofs.KeyNumbers.{number_of-over, fits-over, number_of-fits, bytes_from_index}
use Rattle.s3_keyed.proofs.keys.Key.of.Goals as goal

pub returns-clause-number : goal.returns-clause-number
returns-clause-number c = number_of-over 32 (length c.args.key.now) c.args.key.now c.copy_from_slice.new.self c.copy_from_slice.ensures.after refl (omega arith)

pub returns-clause-short : goal.returns-clause-short
returns-clause-short c =
    subst (λ n. n < 256 ^ length c.args.key.now) (sym (number_of-over 32 (length c.args.key.now) c.args.key.now c.copy_from_slice.new.self c.copy_from_slice.ensures.after refl (omega arith)))
    (number_of-fits c.args.key.now (bytes_from_index c.args.key.now (λ i. omega (arith, c.type_inv.key i))))

pub invariant_of-result : goal.invariant_of-result
invariant_of-result c = record { in_range = fits-over 32 (length c.args.key.now) c.args.key.now c.copy_from_slice.new.self c.copy_from_slice.ensures.after refl (omega arith) (λ i. omega (arith, c.type_inv.key i)) }
