use Rattle.std.proofs.Common.{◌-◌, ◌/◌, sym, ◌∙◌, arith}
use Rattle.s3_slots.proofs.Capacities.{halved_start, halved_lower}
use Rattle.s3_slots.proofs.making.greatest_capacity.Goals as goal

pub loop-least-init : goal.loop-least-init
loop-least-init c = rw c.from.ensures (halved_start c.args.new.now c.args.sectors)

pub loop-least-preserved : goal.loop-least-preserved
loop-least-preserved c =
    let least = c.loop-least.least in
    let most = c.loop-least.most in
    halved_lower c.args.new.now c.args.sectors least most (most - (most - least) / 2) c.requires.key (omega (arith, c.loop-least-test.true)) (omega arith) (sym c.does_fit.ensures ∙ c.if-does_fit.false) c.loop-least.invariant
