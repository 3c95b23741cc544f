use Rattle.std.proofs.Common.{◌≡◌, ◌≤◌, ◌+◌, ◌-◌, ℕ, replicate, subst, sym, arith}
use Rattle.s3_solo.specs.World.{World}
use Rattle.s3_solo.specs.Solo.{solo}
use Rattle.s3_bureau.specs.Inner.Held.{HoldsFor, held_by}
use Rattle.s3_bureau.specs.Inner.Underway.{Leaves, Performs}
use Rattle.s3_bureau.proofs.Idling.{times_taken}
use Rattle.s3_bureau.proofs.Performing.{leaves_entry, leaves_more, leaves_stopped, times_more}
use Rattle.s3_bureau.proofs.runs.repeat.Goals as goal

pub loop-most-preserved : goal.loop-most-preserved
loop-most-preserved g c =
    let some = c.in_ok-taken.ensures.times.some in
    let few : c.in_ok-taken.taken.times ≤ c.loop-most.left = omega (arith, c.in_ok-taken.ensures.times.few, c.in-Some.ensures) in
    let within = c.loop-most.invariant.1.1.1.1.1 in
    let fewer = c.left_behind-left.ensures.fewer in
    let further : (c.args.count - c.loop-most.left) + (c.loop-most.left - c.left_behind-left.result) ≡ c.args.count - c.left_behind-left.result = omega (arith, fewer, within) in (
      subst (λ (n : ℕ). Performs (replicate n c.args.entry) (held_by c.args.bureau.now) (held_by c.repeat.new.self)) further
          (times_more c.args.entry (c.args.count - c.loop-most.left) (c.loop-most.left - c.left_behind-left.result) (held_by c.args.bureau.now) (held_by c.loop-most.bureau) (held_by c.repeat.new.self) c.loop-most.invariant.0
          (subst (λ (n : ℕ). (w : World) → HoldsFor c.args.entry.level c.loop-most.bureau w → HoldsFor c.args.entry.level c.repeat.new.self (solo w (replicate (c.loop-most.left - n) c.args.entry.action))) (sym c.left_behind-left.ensures.value)
          (times_taken c.args.entry.action c.in_ok-taken.taken c.loop-most.left (HoldsFor c.args.entry.level c.loop-most.bureau) (HoldsFor c.args.entry.level c.repeat.new.self) some few c.in_ok-taken.ensures.own))
          c.in_ok-taken.ensures.other),
      (
        c.in_ok-taken.ensures.goes_on,
        (
          subst (λ (n : ℕ). Leaves (replicate n c.args.entry) c.args.bureau.now c.repeat.new.self) further
              (leaves_more c.args.entry (c.args.count - c.loop-most.left) (c.loop-most.left - c.left_behind-left.result) c.args.bureau.now c.loop-most.bureau c.repeat.new.self (omega (arith, fewer)) c.loop-most.invariant.1.1.0
              (leaves_entry c.args.entry c.loop-most.bureau c.repeat.new.self c.in_ok-taken.ensures.stays c.in_ok-taken.ensures.unchanged c.in_ok-taken.ensures.header)),
          (
            omega (arith, c.in_ok-taken.ensures.failures, c.loop-most.invariant.1.1.1.0),
            (λ level said. c.in_ok-taken.ensures.said level (c.loop-most.invariant.1.1.1.1.0 level said), omega (arith, fewer, within)),
          ),
        ),
      ),
    )

pub returns-in_err-taken-clause-leaves : goal.returns-in_err-taken-clause-leaves
returns-in_err-taken-clause-leaves g c =
    let within = c.loop-most.invariant.1.1.1.1.1 in
    leaves_stopped c.args.entry (c.args.count - c.loop-most.left) c.args.count c.args.bureau.now c.loop-most.bureau c.repeat.new.self (omega (arith, c.in-Some.most.ok, c.in-Some.ensures, within)) c.loop-most.invariant.1.1.0
    (leaves_entry c.args.entry c.loop-most.bureau c.repeat.new.self c.in_err-taken.ensures.stays c.in_err-taken.ensures.unchanged c.in_err-taken.ensures.header)
