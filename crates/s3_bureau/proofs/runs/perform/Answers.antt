use Rattle.std.proofs.Common.{arith}
use Rattle.std.proofs.lemmas.List.{take_more}
use Rattle.s3_bureau.specs.Inner.Held.{held_by}
use Rattle.s3_bureau.proofs.Performing.{command_more, commands_leave, commands_stopped}
use Rattle.s3_bureau.proofs.runs.perform.Goals as goal

pub loop-command-preserved : goal.loop-command-preserved
loop-command-preserved g c = (
  command_more _ _ _ (held_by c.args.bureau.now) (held_by c.loop-command.bureau) (held_by c.repeat.new.bureau) (take_more c.args.commands.now c.loop-command.command-index _ c.loop-command-test.true)
      c.loop-command.invariant.0 c.in_ok-repeat.ensures.worlds,
  (
    c.in_ok-repeat.ensures.goes_on,
    (
      commands_leave _ _ _ c.args.bureau.now c.loop-command.bureau c.repeat.new.bureau (take_more c.args.commands.now c.loop-command.command-index _ c.loop-command-test.true) c.loop-command.invariant.1.1.0
          c.in_ok-repeat.ensures.leaves,
      (omega (arith, c.in_ok-repeat.ensures.failures, c.loop-command.invariant.1.1.1.0), λ level said. c.in_ok-repeat.ensures.said level (c.loop-command.invariant.1.1.1.1 level said)),
    ),
  ),
)

pub returns-in_err-repeat-clause-leaves : goal.returns-in_err-repeat-clause-leaves
returns-in_err-repeat-clause-leaves g c =
    commands_stopped c.loop-command.command-index c.args.commands.now _ c.args.bureau.now c.loop-command.bureau c.repeat.new.bureau (take_more c.args.commands.now c.loop-command.command-index _ c.loop-command-test.true)
    c.loop-command.invariant.1.1.0 c.in_err-repeat.ensures.leaves
