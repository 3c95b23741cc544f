use Rattle.std.proofs.Common.{◌≡◌, Err, map, rules}
use Rattle.s3_journal.specs.Inner.Days.{day_of}
use Rattle.s3_journal.proofs.JournalLemmas.{begun_end, followed_end, followed_first, followed_taken, refused_at}
use Rattle.s3_journal.proofs.reading.Lines.take_all.Goals as goal

pub loop-line-init : goal.loop-line-init
loop-line-init c = (search rules, λ none no_days. followed_first c.args.text.now c.args.self.now.last.now c.args.self.now.days.items none no_days)

pub loop-line-preserved : goal.loop-line-preserved
loop-line-preserved c = (
  search rules,
  λ none no_days. followed_taken c.args.text.now c.loop-line.rest.now c.loop-line.self.last.now (map day_of c.loop-line.self.days.items) (map day_of c.take.new.self.days.items) c.in-Some.line c.in-Some.after c.take.new.self.last
      (c.loop-line.invariant.1 none no_days) c.in-Some.ensures.cases c.in_ok-take.ensures.taken c.in_ok-take.ensures.last,
)

pub returns-in_err-take : goal.returns-in_err-take
returns-in_err-take c =
    let is : c.from_residual.result ≡ Err c.in_err-take.field-0.0 = search rules in
    refused_at c.args.text.now c.loop-line.rest.now c.args.self.now c.loop-line.self c.take.new.self c.in-Some.line c.in-Some.after c.in_err-take.field-0.0 c.from_residual.result c.loop-line.invariant.1 c.in-Some.ensures.cases
    c.in_err-take.ensures.taken is

pub returns : goal.returns
returns c = λ none no_days. (
  followed_end c.args.text.now c.loop-line.rest.now c.loop-line.self.last.now (map day_of c.loop-line.self.days.items) (c.loop-line.invariant.1 none no_days) c.in_default.ensures.cases,
  begun_end c.args.text.now c.loop-line.rest.now c.loop-line.self.last.now (map day_of c.loop-line.self.days.items) (c.loop-line.invariant.1 none no_days) c.in_default.ensures.cases,
)
