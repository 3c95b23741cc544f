use Rattle.std.proofs.Common.{refl, arith}
use Rattle.s3_lines.specs.declared.indicator.Indicator.TheVariants.{LastRecord}
use Rattle.s3_operations.specs.Inner.Indicators.{on_in}
use Rattle.s3_operations.specs.Inner.Places.{indicator_place}
use Rattle.s3_cycle.proofs.ClearingLemmas.{one_more_off, only_off, type_place_within}
use Rattle.s3_cycle.proofs.indicating.turn_off.Goals as goal

pub set-requires : goal.set-requires
set-requires c = type_place_within c.args.places.now c.args.program.now 0 _ c.requires (omega arith) refl

pub returns-then-places-eq1 : goal.returns-then-places-eq1
returns-then-places-eq1 c = λ other. only_off c.args.program.now c.args.indicators.now c.set.new.self c.args.places.now _ LastRecord other c.requires (omega arith) refl (c.set.ensures (indicator_place other))

pub set-requires-in-loop-place : goal.set-requires-in-loop-place
set-requires-in-loop-place c = type_place_within c.args.places.now c.args.program.now c.loop-place.place-index _ c.requires c.loop-place-test.true refl

pub loop-place-preserved : goal.loop-place-preserved
loop-place-preserved c = λ other.
    one_more_off c.args.program.now c.loop-place.indicators c.set-in-loop-place.new.self c.args.places.now c.loop-place.place-index _ LastRecord other (on_in c.args.indicators.now other) c.requires c.loop-place-test.true refl
    (c.set-in-loop-place.ensures (indicator_place other)) (c.loop-place.invariant other)
