use Rattle.s3_match.specs.Inner.Types.{is_type_start}
use Rattle.s3_operations.specs.Inner.Indicators.{on_in}
use Rattle.s3_operations.specs.Inner.Places.{indicator_place}
use Rattle.s3_cycle.proofs.ClearingLemmas.{holds_at}
use Rattle.s3_cycle.proofs.FileTypeLemmas.{one_type_off}
use Rattle.s3_cycle.proofs.indicating.turn_types_off.Goals as goal

pub place_of-requires-clause-starts : goal.place_of-requires-clause-starts
place_of-requires-clause-starts c = holds_at (is_type_start c.args.program.now) c.args.starts.now c.loop-start.start-index _ c.requires.starts c.loop-start-test.true

pub set-requires : goal.set-requires
set-requires c = c.place_of.ensures.within

pub loop-start-preserved : goal.loop-start-preserved
loop-start-preserved c = λ other.
    one_type_off c.args.program.now c.loop-start.indicators c.set.new.self c.args.starts.now c.loop-start.start-index c.place_of.result _ other (on_in c.args.indicators.now other) c.loop-start-test.true
    (holds_at (is_type_start c.args.program.now) c.args.starts.now c.loop-start.start-index _ c.requires.starts c.loop-start-test.true)
    c.place_of.ensures.place (c.set.ensures (indicator_place other)) (c.loop-start.invariant other)
