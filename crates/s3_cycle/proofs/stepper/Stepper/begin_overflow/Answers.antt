use Rattle.std.proofs.Common.{sym, ◌∙◌}
use Rattle.s3_cycle.proofs.TotalLemmas.{overflow_begun, overflow_passed}
use Rattle.s3_cycle.proofs.stepper.Stepper.begin_overflow.Goals as goal

pub returns-then-is_entry_on : goal.returns-then-is_entry_on
returns-then-is_entry_on c = overflow_begun c.args.self.now _ c.args.selection c.requires.running (sym c.is_entry_on.ensures ∙ c.if-is_entry_on.true) c.put_time_overflow.ensures

pub returns-else-is_entry_on : goal.returns-else-is_entry_on
returns-else-is_entry_on c = overflow_passed c.args.self.now _ c.args.selection c.requires.running (sym c.is_entry_on.ensures ∙ c.if-is_entry_on.false) c.move_record.ensures
