use Rattle.s3_diagnose.specs.Inner.Shown.{known_shown}
use Rattle.s3_diagnose.proofs.Walks.{ranged_here, found_next, within_next}
use Rattle.s3_diagnose.proofs.diagnose.diagnostics.Goals as goal

pub diagnose-requires-clause-ranged : goal.diagnose-requires-clause-ranged
diagnose-requires-clause-ranged c =
    ranged_here (known_shown c.args.known.now).meanings c.args.lines.now c.loop-place.place _ c.meant_line-meant.result c.loop-place-test.true c.requires c.meant_line-meant.ensures

pub loop-place-preserved : goal.loop-place-preserved
loop-place-preserved c = record {
  found = found_next (known_shown c.args.known.now) c.args.lines.now c.loop-place.place _ c.loop-place.at c.behind-at.result c.meant_line-meant.result c.loop-place.found.items c.diagnose.new.found.items _
      c.loop-place-test.true c.meant_line-meant.ensures c.in_ok-diagnose.ensures c.behind-at.ensures c.loop-place.invariant.found;
  within = within_next c.loop-place.place c.loop-place.at c.behind-at.result c.meant_line-meant.result c.behind-at.ensures c.loop-place.invariant.within;
}
