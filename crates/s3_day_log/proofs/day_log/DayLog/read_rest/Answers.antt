use Rattle.std.proofs.Common.{◌≡◌, Err, rules}
use Rattle.s3_day_log.specs.Inner.Logged.{log_in}
use Rattle.s3_day_log.proofs.LogLemmas.{followed_end, followed_more, followed_none, refused_at}
use Rattle.s3_day_log.proofs.day_log.DayLog.read_rest.Goals as goal

pub loop-line-init : goal.loop-line-init
loop-line-init c = (search rules, followed_none c.args.text.now (log_in c.args.self.now))

pub loop-line-preserved : goal.loop-line-preserved
loop-line-preserved c = (
  search rules,
  followed_more c.args.text.now c.loop-line.rest.now (log_in c.args.self.now) (log_in c.loop-line.self) (log_in c.take_line.new.self) c.loop-line.number c.in-Some.line c.in-Some.after c.loop-line.invariant.1 c.in-Some.ensures.cases c.in_ok-take_line.ensures,
)

pub returns-in_err-take_line : goal.returns-in_err-take_line
returns-in_err-take_line c =
    let is : c.from_residual.result ≡ Err c.in_err-take_line.field-0.0 = search rules in
    refused_at c.args.text.now c.loop-line.rest.now c.args.self.now c.loop-line.self c.take_line.new.self c.loop-line.number c.in-Some.line c.in-Some.after c.in_err-take_line.field-0.0 c.from_residual.result c.loop-line.invariant.1 c.in-Some.ensures.cases
    c.in_err-take_line.ensures is

pub returns : goal.returns
returns c = followed_end c.args.text.now c.loop-line.rest.now (log_in c.args.self.now) (log_in c.loop-line.self) c.loop-line.number c.loop-line.invariant.1 c.in_default.ensures.cases
