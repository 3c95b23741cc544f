use Rattle.std.proofs.Common.{arith, ap, length}
use Rattle.s3_cycle.proofs.LineLemmas.{due_guarded, due_there, line_within, passes_all, passes_more, passes_none}
use Rattle.s3_cycle.proofs.stepper.Stepper.next_line.Goals as goal

pub loop-place-init : goal.loop-place-init
loop-place-init c = passes_none c.args.self.now c.args.walk c.args.next

pub number-requires-clause-within : goal.number-requires-clause-within
number-requires-clause-within c = omega (arith, c.loop-place-test.true, ap length c.starts-place-end.ensures)

pub index-line-requires : goal.index-line-requires
index-line-requires c =
    omega (arith, line_within c.args.self.now c.args.walk c.loop-place.place c.number.result c.requires c.number.ensures (omega (arith, c.loop-place-test.true, ap length c.starts-place-end.ensures)), c.args.self.now.outputs.lines.ok.0)

pub loop-place-preserved : goal.loop-place-preserved
loop-place-preserved c =
    let told = due_guarded c.args.self.now c.args.walk c.loop-place.place c.number.result c.index-line.result.now c.is_at_overflow-at_overflow.result c.holds.result c.requires c.number.ensures c.index-line.ensures c.is_at_overflow-at_overflow.ensures c.holds.ensures in
    passes_more c.args.self.now c.args.walk c.args.next c.loop-place.place c.holds.result told (omega (arith, c.loop-place-test.true, ap length c.starts-place-end.ensures)) c.if-holds.false c.loop-place.invariant

pub returns-then-holds-clause-found : goal.returns-then-holds-clause-found
returns-then-holds-clause-found c =
    let told = due_guarded c.args.self.now c.args.walk c.loop-place.place c.number.result c.index-line.result.now c.is_at_overflow-at_overflow.result c.holds.result c.requires c.number.ensures c.index-line.ensures c.is_at_overflow-at_overflow.ensures c.holds.ensures in
    (due_there c.args.self.now c.args.walk c.loop-place.place c.holds.result told (omega (arith, c.loop-place-test.true, ap length c.starts-place-end.ensures)) c.if-holds.true, c.loop-place.invariant)

pub returns-clause-none : goal.returns-clause-none
returns-clause-none c = passes_all c.args.self.now c.args.walk c.args.next c.loop-place.place c.loop-place.invariant (omega (arith, c.loop-place-test.false, ap length c.starts-place-end.ensures))
