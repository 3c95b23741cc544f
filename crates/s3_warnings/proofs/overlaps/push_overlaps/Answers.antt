use Rattle.std.proofs.Common.{◌++◌, arith}
use Rattle.s3_warnings.specs.Inner.Overlaps.{overlaps}
use Rattle.s3_warnings.specs.Inner.Shown.{facts_shown}
use Rattle.s3_warnings.proofs.OverlapLemmas.{overlaps_more, overlaps_all}
use Rattle.s3_warnings.proofs.overlaps.push_overlaps.Goals as goal

pub loop-line-preserved : goal.loop-line-preserved
loop-line-preserved c =
    overlaps_more (facts_shown c.args.known.now) c.loop-line.earlier.items c.push_overlap.new.earlier.items c.loop-line.found.items c.push_overlap.new.found.items
    (c.args.found.now.items ++ overlaps (facts_shown c.args.known.now) c.args.lines.now) c.args.lines.now c.loop-line.line-index _
    c.loop-line-test.true c.in_ok-push_overlap.ensures.found c.in_ok-push_overlap.ensures.fields c.loop-line.invariant

pub returns : goal.returns
returns c =
    overlaps_all (facts_shown c.args.known.now) c.loop-line.earlier.items c.loop-line.found.items (c.args.found.now.items ++ overlaps (facts_shown c.args.known.now) c.args.lines.now)
    c.args.lines.now c.loop-line.line-index (omega (arith, c.loop-line-test.false)) c.loop-line.invariant
