use Rattle.s3_labels.specs.Inner.AreaNumbers.{area_number}
use Rattle.s3_pack_care.proofs.Changed.{areas_more, changed_is}
use Rattle.s3_pack_care.proofs.relabelling.first_changed.Goals as goal

pub loop-a-preserved : goal.loop-a-preserved
loop-a-preserved c = λ k i few is.
    areas_more c.args.old.now c.args.new.now (area_number c.args.area) c.args.slot c.loop-a.a c.written_in.result c.loop-a.invariant (rw c.area_of.ensures at c.in_default.ensures.none) (rw c.number-own.ensures.value at c.written_in.ensures.own) (rw c.number-own.ensures.value at c.written_in.ensures.none) k i few is

pub returns-in-Some-clause-some : goal.returns-in-Some-clause-some
returns-in-Some-clause-some c =
    changed_is c.args.old.now c.args.new.now (area_number c.args.area) c.args.slot c.loop-a.a c.in-Some.other c.written_in.result c.loop-a-test.true c.in-Some.ensures.few (rw c.number-own.ensures.value at c.written_in.ensures.own) (rw c.area_of.ensures at c.in-Some.ensures.changed)
