use Rattle.std.proofs.Common.{◌∙◌, ap, arith}
use Rattle.s3_operations.specs.Inner.Words.{number_of}
use Rattle.s3_operations.proofs.WordLemmas.{first_codes}
use Rattle.s3_operations.proofs.comparing.code_order.Goals as goal

pub returns : goal.returns
returns g c =
    first_codes _ c.number.result c.number-2.result c.args.left.now c.args.right.now c.cmp.result c.requires.left c.requires.right (λ i. omega (arith, c.type_inv.left i)) (λ i. omega (arith, c.type_inv.right i))
    (c.number.ensures ∙ ap number_of c.part.ensures) (c.number-2.ensures ∙ ap number_of c.part-2.ensures) c.cmp.ensures
