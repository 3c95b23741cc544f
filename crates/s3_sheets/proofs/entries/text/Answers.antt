use Rattle.std.proofs.Common.{◌∙◌, sym, arith}
use Rattle.s3_sheets.proofs.TextLemmas.{next_read, closed_from, no_room_left, ended_at, unended_at}
use Rattle.s3_sheets.proofs.entries.text.Goals as goal

pub returns-then-is_behind : goal.returns-then-is_behind
returns-then-is_behind c =
    c.unless_filled.ensures ∙ closed_from _ _ _ _ _ c.loop-place.invariant c.loop-place-test.true (sym c.is_behind.ensures ∙ c.if-is_behind.true)

pub returns-in_err-text : goal.returns-in_err-text
returns-in_err-text c = c.from_residual.ensures ∙
    no_room_left _ _ _ _ _ c.loop-place.invariant c.loop-place-test.true c.requires (sym c.is_behind.ensures ∙ c.if-is_behind.false) (sym c.with_next.ensures ∙ c.in_err-text.was)

pub loop-place-preserved : goal.loop-place-preserved
loop-place-preserved c =
    next_read _ _ _ _ _ _ _ c.loop-place.invariant c.loop-place-test.true (sym c.is_behind.ensures ∙ c.if-is_behind.false) (sym c.with_next.ensures ∙ c.in_ok-text.was)

pub returns-then-ended : goal.returns-then-ended
returns-then-ended c = ended_at _ _ _ _ c.loop-place.invariant (omega arith) c.if-ended.true

pub returns-else-ended : goal.returns-else-ended
returns-else-ended c = unended_at _ _ _ _ c.loop-place.invariant (omega arith) c.if-ended.false
