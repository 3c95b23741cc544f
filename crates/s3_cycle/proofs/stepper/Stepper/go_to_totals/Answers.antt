use Rattle.std.proofs.Common.{sym, ◌∙◌}
use Rattle.s3_cycle.proofs.AnswerLemmas.{totals_ended, totals_reached}
use Rattle.s3_cycle.proofs.stepper.Stepper.go_to_totals.Goals as goal

pub returns-then-is_last : goal.returns-then-is_last
returns-then-is_last c =
    totals_ended c.args.self.now c.turn_last_record_on.new.self c.turn.new.self _ (sym c.is_on-is_last.ensures ∙ c.if-is_last.true) c.turn_last_record_on.ensures c.turn.ensures c.end.ensures

pub returns-else-is_last : goal.returns-else-is_last
returns-else-is_last c =
    totals_reached c.args.self.now c.turn_last_record_on.new.self c.turn.new.self _ (sym c.is_on-is_last.ensures ∙ c.if-is_last.false) c.turn_last_record_on.ensures c.turn.ensures c.total_last.ensures
