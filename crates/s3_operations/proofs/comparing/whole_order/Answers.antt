use Rattle.std.proofs.Common.{sym, ◌∙◌}
use Rattle.s3_operations.proofs.WordLemmas.{left_ends, right_ends, texts_differ}
use Rattle.s3_operations.proofs.comparing.whole_order.Goals as goal

pub returns-then-is_ne : goal.returns-then-is_ne
returns-then-is_ne c =
    texts_differ c.args.left.now c.args.right.now c.min-common.result c.order_of_same-order.result c.min-common.ensures c.order_of_same-order.ensures (sym c.is_ne.ensures ∙ c.if-is_ne.true)

pub returns-then-common-left : goal.returns-then-common-left
returns-then-common-left c =
    c.reverse.ensures
    ∙ right_ends c.args.left.now c.args.right.now c.min-common.result c.order_of_same-order.result c.blank_order.result c.min-common.ensures c.if-common-left.true
    c.order_of_same-order.ensures (sym c.is_ne.ensures ∙ c.if-is_ne.false) c.blank_order.ensures

pub returns-else-common-left : goal.returns-else-common-left
returns-else-common-left c =
    left_ends c.args.left.now c.args.right.now c.min-common.result c.order_of_same-order.result c.blank_order-else-common-left.result c.min-common.ensures c.if-common-left.false
    c.order_of_same-order.ensures (sym c.is_ne.ensures ∙ c.if-is_ne.false) c.blank_order-else-common-left.ensures
