use Rattle.std.proofs.Common.{rules, ap, ◌∙◌}
use Rattle.s3_operator.specs.Halts.{with_reply}
use Rattle.s3_operator.proofs.HaltLemmas.{filled, none_filled}
use Rattle.s3_operator.proofs.halt_log.HaltLog.fill.Goals.{in-Some, in_default}
use Rattle.s3_operator.proofs.halt_log.HaltLog.fill.Goals as goal

pub returns : goal.returns
returns c = elim c.match-last_mut.branch [
  | in-Some w ↦ rw w.self-inside-is (filled c.args.digit c.self.inside.halts.items w.in-Some.halt.now c.self.inside.halts.len (search rules) (search rules) (search rules) ∙ ap (with_reply c.args.digit) c.self.view_is)
  | in_default w ↦ rw w.self-inside-is (none_filled c.args.digit c.self.inside.halts.items (search rules) ∙ ap (with_reply c.args.digit) c.self.view_is)
]
