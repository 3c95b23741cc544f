use Rattle.std.proofs.Common.{refl, sym, ◌∙◌, arith}
use Rattle.std.specs.Ordering.{nat_cmp}
use Rattle.std.specs.Cmp.Lexicographic.{slice_cmp}
use Rattle.s3_operations.proofs.WordLemmas.{as_long, ends_found, next_eight}
use Rattle.s3_operations.proofs.comparing.order_of_same.Goals as goal

pub loop-ahead-init : goal.loop-ahead-init
loop-ahead-init c = (c.requires, refl)

pub code_order-order-requires-clause-right : goal.code_order-order-requires-clause-right
code_order-order-requires-clause-right c = omega (arith, c.loop-ahead.invariant.0, c.loop-ahead-test.true)

pub returns-then-is_ne : goal.returns-then-is_ne
returns-then-is_ne c =
    ends_found 8 c.loop-ahead.ahead.now c.loop-ahead.others.now c.code_order-order.result c.code_order-order.ensures (sym c.is_ne.ensures ∙ c.if-is_ne.true) ∙ c.loop-ahead.invariant.1

pub loop-ahead-preserved : goal.loop-ahead-preserved
loop-ahead-preserved c = (
  as_long c.loop-ahead.ahead.now c.loop-ahead.others.now c.loop-ahead.invariant.0,
  next_eight c.loop-ahead.ahead.now c.loop-ahead.others.now c.code_order-order.result (slice_cmp nat_cmp c.args.left.now c.args.right.now) c.code_order-order.ensures (sym c.is_ne.ensures ∙ c.if-is_ne.false) c.loop-ahead.invariant.1,
)

pub short_order-requires-clause-same : goal.short_order-requires-clause-same
short_order-requires-clause-same c = c.loop-ahead.invariant.0

pub returns : goal.returns
returns c = c.short_order.ensures ∙ c.loop-ahead.invariant.1
