use Rattle.std.proofs.Common.{length, replicate, sym, ◌∙◌}
use Rattle.std.specs.Ordering.{nat_cmp}
use Rattle.std.specs.Cmp.Lexicographic.{slice_cmp}
use Rattle.s3_operations.proofs.WordLemmas.{blanks_found, blanks_last, blanks_rest}
use Rattle.s3_operations.proofs.comparing.blank_order.Goals as goal

pub returns-then-is_ne : goal.returns-then-is_ne
returns-then-is_ne c =
    blanks_found c.loop-ahead.ahead.now c.code_order-order.result c.loop-ahead-test.true c.code_order-order.ensures (sym c.is_ne.ensures ∙ c.if-is_ne.true) ∙ c.loop-ahead.invariant

pub loop-ahead-preserved : goal.loop-ahead-preserved
loop-ahead-preserved c =
    blanks_rest c.loop-ahead.ahead.now c.code_order-order.result (slice_cmp nat_cmp (replicate (length c.args.text.now) 0x40) c.args.text.now) c.loop-ahead-test.true c.code_order-order.ensures
    (sym c.is_ne.ensures ∙ c.if-is_ne.false) c.loop-ahead.invariant

pub returns : goal.returns
returns c =
    blanks_last c.loop-ahead.ahead.now c.short_order.result (slice_cmp nat_cmp (replicate (length c.args.text.now) 0x40) c.args.text.now) c.loop-ahead-test.false c.short_order.ensures c.loop-ahead.invariant
