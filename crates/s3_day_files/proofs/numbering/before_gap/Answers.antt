use Rattle.std.proofs.Common.{sym, ◌∙◌, ap}
use Rattle.s3_day_files.specs.Inner.Numbering.{begins_with_gap}
use Rattle.s3_day_files.proofs.NumberLemmas.{gap_step, gap_none, rest_is}
use Rattle.s3_day_files.proofs.numbering.before_gap.Goals as goal

pub loop-start-preserved : goal.loop-start-preserved
loop-start-preserved c =
    gap_step c.args.names.now c.loop-start.start c.loop-start-test.true
    (ap begins_with_gap (sym (rest_is c.args.names.now c.loop-start.start)) ∙ sym c.begins_with_gap.ensures ∙ c.if-begins_with_gap.false)
    c.loop-start.invariant

pub returns : goal.returns
returns c = gap_none c.args.names.now c.loop-start.start c.loop-start-test.false c.loop-start.invariant
