use Rattle.std.proofs.Common.{sym, ◌∙◌}
use Rattle.s3_operations.proofs.WordLemmas.{ends_found, ends_last}
use Rattle.s3_operations.proofs.comparing.order_by_ends.Goals as goal

pub returns-then-is_ne : goal.returns-then-is_ne
returns-then-is_ne g c = ends_found _ c.args.left.now c.args.right.now c.code_order-order.result c.code_order-order.ensures (sym c.is_ne.ensures ∙ c.if-is_ne.true)

pub returns : goal.returns
returns g c =
    ends_last g.row.N c.args.left.now c.args.right.now c.code_order-order.result c.code_order.result c.requires.same c.requires.reaches c.requires.covers
    c.code_order-order.ensures (sym c.is_ne.ensures ∙ c.if-is_ne.false) c.code_order.ensures
