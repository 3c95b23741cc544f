use Rattle.std.proofs.Common.{IfSome, Ok, Option, refl, sym, subst, arith, ◌≡◌}
use Rattle.s3_cards.specs.declared.levels.LevelId.TheVariants.{One, Two}
use Rattle.s3_desk.specs.declared.ends.End.TheVariants.{Cut as CutOff, OutOfReplies}
use Rattle.s3_desk.specs.declared.ends.Ends.{Ends}
use Rattle.s3_desk.specs.Inner.Desk.{GoesOn, HasReached, IsPastReply, IsSpent, RoundEnds, Spends}
use Rattle.s3_desk.proofs.Rounds.{sits_at_first, sits_on_and_on, sits_to_end}
use Rattle.s3_desk.proofs.Sittings.{both_then, counts_none, counts_then, has_reached, has_replied, none_taken, spends_then}
use Rattle.s3_desk.proofs.desk.operate.Goals as goal

pub loop-ends-init : goal.loop-ends-init
loop-ends-init g c = (
  λ first before. before,
  (
    sits_at_first g.M.Machine.holds g.O.Operator.meets (λ level entries. IsPastReply level c.args.performed.now entries) (λ level entries. HasReached level c.args.performed.now entries c.args.bounds) c.args.performed.now c.args.bureau.now c.args.operator.now c.new-seat_one.result.is_shown c.new-seat_two.result.is_shown
        c.new-seat_one.ensures.unshown c.new-seat_two.ensures.unshown,
    (
      subst (Spends One c.args.performed.now c.args.performed.now c.args.bounds) (sym c.new-seat_one.ensures.left) (none_taken One c.args.performed.now c.args.performed.now c.args.bounds refl),
      (
        subst (Spends Two c.args.performed.now c.args.performed.now c.args.bounds) (sym c.new-seat_two.ensures.left) (none_taken Two c.args.performed.now c.args.performed.now c.args.bounds refl),
        (λ first before. before, (λ first kept. kept, (refl, (counts_none One c.args.performed.now c.new-seat_one.result.answers c.new-seat_one.ensures.none, counts_none Two c.args.performed.now c.new-seat_two.result.answers c.new-seat_two.ensures.none)))),
      ),
    ),
  ),
)

pub returns-in_err-ends-clause-kept : goal.returns-in_err-ends-clause-kept
returns-in_err-ends-clause-kept g c = λ first kept. c.in_err-ends.ensures.kept first (c.loop-ends.invariant.1.1.1.1.1.0 first kept)

pub returns-in-Some-clause-ends : goal.returns-in-Some-clause-ends
returns-in-Some-clause-ends g c =
    both_then g.M.Machine.holds c.args.performed.now c.loop-ends.performed c.round.new.performed c.args.bureau.now c.loop-ends.bureau c.round.new.bureau c.in-Some.ends c.loop-ends.invariant.0
    (subst (λ (o : Option Ends). RoundEnds g.M.Machine.holds c.loop-ends.performed c.round.new.performed c.loop-ends.bureau c.round.new.bureau (Ok o)) c.in-Some.is c.in_ok-ends.ensures.ends)

pub returns-in-Some-clause-sits : goal.returns-in-Some-clause-sits
returns-in-Some-clause-sits g c =
    sits_to_end g.M.Machine.holds g.O.Operator.meets c.args.bounds c.args.performed.now c.loop-ends.performed c.round.new.performed c.args.bureau.now c.loop-ends.bureau c.args.operator.now c.loop-ends.operator c.round.new.operator
    c.loop-ends.seat_one.is_shown c.loop-ends.seat_two.is_shown c.round.new.seat_one.is_shown c.round.new.seat_two.is_shown c.loop-ends.seat_one.left c.loop-ends.seat_two.left c.loop-ends.seat_one.answers c.loop-ends.seat_two.answers c.in_ok-ends.field-0 c.loop-ends.invariant.0
    c.loop-ends.invariant.1.1.0 c.loop-ends.invariant.1.1.1.0 c.loop-ends.invariant.1.1.1.1.1.1.1.0 c.loop-ends.invariant.1.1.1.1.1.1.1.1 c.loop-ends.invariant.1.0 c.in_ok-ends.ensures.sits c.in-Some.ends c.in-Some.is

pub returns-in-Some-clause-one_out : goal.returns-in-Some-clause-one_out
returns-in-Some-clause-one_out g c = λ out.
    has_replied One c.args.performed.now c.loop-ends.performed c.round.new.performed c.loop-ends.seat_one.answers c.round.new.seat_one.answers c.loop-ends.invariant.1.1.1.1.1.1.1.0 c.in_ok-ends.ensures.one_counts
    (subst (λ (o : Option Ends). IfSome o (λ ends. ends.one ≡ OutOfReplies → c.round.new.seat_one.answers ≡ 65535)) c.in-Some.is c.in_ok-ends.ensures.one_out out)

pub returns-in-Some-clause-two_out : goal.returns-in-Some-clause-two_out
returns-in-Some-clause-two_out g c = λ out.
    has_replied Two c.args.performed.now c.loop-ends.performed c.round.new.performed c.loop-ends.seat_two.answers c.round.new.seat_two.answers c.loop-ends.invariant.1.1.1.1.1.1.1.1 c.in_ok-ends.ensures.two_counts
    (subst (λ (o : Option Ends). IfSome o (λ ends. ends.two ≡ OutOfReplies → c.round.new.seat_two.answers ≡ 65535)) c.in-Some.is c.in_ok-ends.ensures.two_out out)

pub returns-in-Some-clause-one_cut : goal.returns-in-Some-clause-one_cut
returns-in-Some-clause-one_cut g c = λ cut.
    has_reached One c.args.performed.now c.round.new.performed c.args.bounds c.round.new.seat_one.left
    (spends_then One c.args.performed.now c.loop-ends.performed c.round.new.performed c.args.bounds c.loop-ends.seat_one.left c.round.new.seat_one.left c.loop-ends.invariant.1.1.0 c.in_ok-ends.ensures.one_spends)
    (subst (λ (o : Option Ends). IfSome o (λ ends. ends.one ≡ CutOff → IsSpent c.round.new.seat_one.left)) c.in-Some.is c.in_ok-ends.ensures.one_cut cut)

pub returns-in-Some-clause-two_cut : goal.returns-in-Some-clause-two_cut
returns-in-Some-clause-two_cut g c = λ cut.
    has_reached Two c.args.performed.now c.round.new.performed c.args.bounds c.round.new.seat_two.left
    (spends_then Two c.args.performed.now c.loop-ends.performed c.round.new.performed c.args.bounds c.loop-ends.seat_two.left c.round.new.seat_two.left c.loop-ends.invariant.1.1.1.0 c.in_ok-ends.ensures.two_spends)
    (subst (λ (o : Option Ends). IfSome o (λ ends. ends.two ≡ CutOff → IsSpent c.round.new.seat_two.left)) c.in-Some.is c.in_ok-ends.ensures.two_cut cut)

pub returns-in-Some-clause-after : goal.returns-in-Some-clause-after
returns-in-Some-clause-after g c = λ first before. c.in_ok-ends.ensures.after first (c.loop-ends.invariant.1.1.1.1.0 first before)

pub returns-in-Some-clause-kept : goal.returns-in-Some-clause-kept
returns-in-Some-clause-kept g c = λ first kept. c.in_ok-ends.ensures.kept first (c.loop-ends.invariant.1.1.1.1.1.0 first kept)

pub returns-in-Some-clause-failed : goal.returns-in-Some-clause-failed
returns-in-Some-clause-failed g c = omega (arith, c.in_ok-ends.ensures.failed, c.loop-ends.invariant.1.1.1.1.1.1.0)

pub loop-ends-smaller : goal.loop-ends-smaller
loop-ends-smaller g c = c.in_ok-ends.ensures.less_work c.in_default.is

pub loop-ends-preserved : goal.loop-ends-preserved
loop-ends-preserved g c =
    let goes : GoesOn g.M.Machine.holds c.loop-ends.performed c.round.new.performed c.loop-ends.bureau c.round.new.bureau =
    subst (λ (o : Option Ends). RoundEnds g.M.Machine.holds c.loop-ends.performed c.round.new.performed c.loop-ends.bureau c.round.new.bureau (Ok o)) c.in_default.is c.in_ok-ends.ensures.ends in (
      λ first before. goes first (c.loop-ends.invariant.0 first before),
      (
        sits_on_and_on g.M.Machine.holds g.O.Operator.meets c.args.bounds c.args.performed.now c.loop-ends.performed c.round.new.performed c.args.bureau.now c.loop-ends.bureau c.args.operator.now c.loop-ends.operator
            c.round.new.operator c.loop-ends.seat_one.is_shown c.loop-ends.seat_two.is_shown c.round.new.seat_one.is_shown c.round.new.seat_two.is_shown c.loop-ends.seat_one.left c.loop-ends.seat_two.left c.loop-ends.seat_one.answers c.loop-ends.seat_two.answers c.in_ok-ends.field-0
            c.loop-ends.invariant.0 c.loop-ends.invariant.1.1.0 c.loop-ends.invariant.1.1.1.0 c.loop-ends.invariant.1.1.1.1.1.1.1.0 c.loop-ends.invariant.1.1.1.1.1.1.1.1 c.loop-ends.invariant.1.0 c.in_ok-ends.ensures.sits c.in_default.is,
        (
          spends_then One c.args.performed.now c.loop-ends.performed c.round.new.performed c.args.bounds c.loop-ends.seat_one.left c.round.new.seat_one.left c.loop-ends.invariant.1.1.0 c.in_ok-ends.ensures.one_spends,
          (
            spends_then Two c.args.performed.now c.loop-ends.performed c.round.new.performed c.args.bounds c.loop-ends.seat_two.left c.round.new.seat_two.left c.loop-ends.invariant.1.1.1.0 c.in_ok-ends.ensures.two_spends,
            (
              λ first before. c.in_ok-ends.ensures.after first (c.loop-ends.invariant.1.1.1.1.0 first before),
              (
                λ first kept. c.in_ok-ends.ensures.kept first (c.loop-ends.invariant.1.1.1.1.1.0 first kept),
                (
                  omega (arith, c.in_ok-ends.ensures.failed, c.loop-ends.invariant.1.1.1.1.1.1.0),
                  (
                    counts_then One c.args.performed.now c.loop-ends.performed c.round.new.performed 0 c.loop-ends.seat_one.answers c.round.new.seat_one.answers c.loop-ends.invariant.1.1.1.1.1.1.1.0 c.in_ok-ends.ensures.one_counts,
                    counts_then Two c.args.performed.now c.loop-ends.performed c.round.new.performed 0 c.loop-ends.seat_two.answers c.round.new.seat_two.answers c.loop-ends.invariant.1.1.1.1.1.1.1.1 c.in_ok-ends.ensures.two_counts,
                  ),
                ),
              ),
            ),
          ),
        ),
      ),
    )
