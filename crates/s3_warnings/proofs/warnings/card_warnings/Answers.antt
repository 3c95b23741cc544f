use Rattle.s3_warnings.specs.Inner.Shown.{facts_shown}
use Rattle.s3_warnings.specs.Inner.Warnings.{warnings_on}
use Rattle.s3_warnings.proofs.FactLemmas.{warnings_more}
use Rattle.s3_warnings.proofs.warnings.card_warnings.Goals as goal

pub loop-line-preserved : goal.loop-line-preserved
loop-line-preserved c =
    warnings_more (warnings_on (facts_shown c.args.known.now) c.args.lines.now) c.loop-line.found.items c.push_warnings.new.found.items c.args.lines.now c.loop-line.line-index _
    c.loop-line-test.true c.in_ok-push_warnings.ensures c.loop-line.invariant
