use Rattle.s3_blame.specs.Inner.Names.{names_known}
use Rattle.s3_blame.proofs.OwnLemmas.{all_passed, one_more_passed}
use Rattle.s3_blame.proofs.lines.entries_of_lines.Goals as goal

pub loop-place-preserved : goal.loop-place-preserved
loop-place-preserved c = record {
  only = c.in_ok-pass_line.ensures.only c.loop-place.invariant.only;
  passed = λ order from ascend.
      one_more_passed (names_known c.args.known.now) from c.args.lines.now c.args.told.now c.loop-place.rest.now c.from_card-rest.result.now c.loop-place.place _ c.loop-place.found.items _
      c.loop-place-test.true order ascend c.from_card-rest.ensures c.in_ok-pass_line.ensures.passes (c.loop-place.invariant.passed order from ascend);
}

pub returns-clause-marked : goal.returns-clause-marked
returns-clause-marked c = λ order from ascend.
    all_passed (names_known c.args.known.now) c.args.lines.now c.args.told.now c.loop-place.place c.loop-place.rest.now c.loop-place.found.items c.loop-place-test.false (c.loop-place.invariant.passed order from ascend)
