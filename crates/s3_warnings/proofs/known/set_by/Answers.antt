use Rattle.s3_warnings.specs.Inner.Entries.{set_on}
use Rattle.s3_warnings.proofs.FactLemmas.{more_on_line}
use Rattle.s3_warnings.proofs.known.set_by.Goals as goal

pub loop-line-preserved : goal.loop-line-preserved
loop-line-preserved c =
    more_on_line set_on c.loop-line.set c.add_all.new.set c.args.lines.now c.loop-line.line-index _ c.set_on.result c.loop-line-test.true c.set_on.ensures c.in_ok-add_all.ensures c.loop-line.invariant
