use Rattle.std.proofs.Common.{refl}
use Rattle.s3_lines.specs.Inner.Ranges.{file_in_range}
use Rattle.s3_opening.specs.Inner.Starts.{settings_of}
use Rattle.s3_opening.proofs.Lines.{here_at, line_there, testing_end, testing_fails, testing_on}
use Rattle.s3_opening.proofs.Plans.{ready_kept, right_kept}
use Rattle.s3_opening.proofs.Readings.{reads_ok, reads_then}
use Rattle.s3_opening.proofs.testing.test_lines.Goals as goal

pub test_line-requires-clause-line : goal.test_line-requires-clause-line
test_line-requires-clause-line g c =
    line_there c.args.lines.now c.loop-line.line-index _ file_in_range c.requires.lines (here_at c.args.lines.now c.loop-line.line-index _ c.loop-line-test.true)

pub test_line-requires-clause-ready : goal.test_line-requires-clause-ready
test_line-requires-clause-ready g c = ready_kept c.loop-line.invariant.reads c.requires.ready

pub test_line-requires-clause-right : goal.test_line-requires-clause-right
test_line-requires-clause-right g c = right_kept c.args.level _ _ c.loop-line.invariant.reads refl c.loop-line.invariant.right

pub returns-in-Err-clause-tested : goal.returns-in-Err-clause-tested
returns-in-Err-clause-tested g c =
    testing_fails (Unit {0}) c.args.level (settings_of c.args.settings.now) c.args.lines.now _ _ _ _ _ _ _ c.loop-line.line-index _ c.in-Err.fault c.loop-line.invariant
    (here_at c.args.lines.now c.loop-line.line-index _ c.loop-line-test.true) c.in-Err.ensures.tested

pub returns-in-Err-clause-reads : goal.returns-in-Err-clause-reads
returns-in-Err-clause-reads g c = reads_then c.loop-line.invariant.reads c.in-Err.ensures.reads

pub loop-line-preserved : goal.loop-line-preserved
loop-line-preserved g c =
    testing_on c.args.level (settings_of c.args.settings.now) c.args.lines.now _ _ _ _ _ _ _ _ _ c.loop-line.line-index _ c.loop-line.invariant
    (here_at c.args.lines.now c.loop-line.line-index _ c.loop-line-test.true) c.in-Ok.ensures.tested c.in-Ok.ensures.right c.in-Ok.ensures.reads

pub returns-clause-tested : goal.returns-clause-tested
returns-clause-tested g c =
    testing_end c.args.level (settings_of c.args.settings.now) c.args.lines.now _ _ _ _ _ _ c.loop-line.line-index c.loop-line-test.false c.loop-line.invariant

pub returns-clause-reads : goal.returns-clause-reads
returns-clause-reads g c = reads_ok _ c.loop-line.invariant.reads
