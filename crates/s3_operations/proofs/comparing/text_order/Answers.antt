use Rattle.std.proofs.Common.{sym, ◌∙◌, arith}
use Rattle.s3_operations.proofs.WordLemmas.{as_they_are, first_differs}
use Rattle.s3_operations.proofs.comparing.text_order.Goals as goal

pub returns-then-is_ne : goal.returns-then-is_ne
returns-then-is_ne c =
    first_differs c.args.left.now c.args.right.now c.code_order-order.result (omega (arith, c.if-left-gt0.true)) (omega (arith, c.if-right-gt0.true)) c.code_order-order.ensures (sym c.is_ne.ensures ∙ c.if-is_ne.true)

pub returns-then-left-right : goal.returns-then-left-right
returns-then-left-right c = as_they_are c.args.left.now c.args.right.now c.order_of_same.result c.if-left-right.true c.order_of_same.ensures
