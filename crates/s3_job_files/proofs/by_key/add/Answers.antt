use Rattle.std.proofs.Common.{ap, sym, ◌∙◌}
use Rattle.s3_keyed.specs.Inner.Keyed.{shown}
use Rattle.s3_job_files.specs.Records.{by_key}
use Rattle.s3_job_files.proofs.Keys.{order_left, refusal_puts}
use Rattle.s3_job_files.proofs.by_key.add.Goals as goal

pub returns-in-Ok-clause-puts : goal.returns-in-Ok-clause-puts
returns-in-Ok-clause-puts g c = ap by_key c.in-Ok.ensures.added

pub returns-in_ok-pass_on-in-Err-clause-puts : goal.returns-in_ok-pass_on-in-Err-clause-puts
returns-in_ok-pass_on-in-Err-clause-puts g c =
    refusal_puts _ c.in-Err.fault c.halt_for.result (shown c.args.file.now) (shown c.add.new.self) _ _ (sym c.pass_on.ensures ∙ c.in_ok-pass_on-in-Err.was) c.halt_for.ensures c.in-Err.ensures.added c.in-Err.ensures.refused

pub returns-in_ok-pass_on-in-Err-clause-ordered : goal.returns-in_ok-pass_on-in-Err-clause-ordered
returns-in_ok-pass_on-in-Err-clause-ordered g c =
    order_left (shown c.args.file.now) (shown c.add.new.self) _ _ c.in-Err.fault (sym c.pass_on.ensures ∙ c.in_ok-pass_on-in-Err.was) c.in-Err.ensures.refused c.requires.ordered
