use Rattle.std.proofs.Common.{arith, false, inl, refl, true}
use Rattle.s3_desk.proofs.Asking.{asks_as, asks_none, counted_no, counted_yes}
use Rattle.s3_desk.proofs.Sittings.{counts_same}
use Rattle.s3_desk.proofs.desk.ask_at_rest.Goals as goal

pub returns-then-isnt_asked-clause-asks : goal.returns-then-isnt_asked-clause-asks
returns-then-isnt_asked-clause-asks g c =
    asks_none g.M.Machine.holds g.O.Operator.meets c.args.level c.args.went c.args.seat.now.answers c.args.performed.now c.args.bureau.now c.args.operator.now (inl (c.isnt_asked.ensures.yes c.if-isnt_asked.true))

pub returns-then-isnt_asked-clause-counts : goal.returns-then-isnt_asked-clause-counts
returns-then-isnt_asked-clause-counts g c = counts_same c.args.level c.args.performed.now c.args.performed.now c.args.seat.now.answers refl

pub returns-then-is_taken-clause-spends : goal.returns-then-is_taken-clause-spends
returns-then-is_taken-clause-spends g c = c.in_ok-is_taken.ensures.spends c.args.seat.now.left

pub returns-clause-spends : goal.returns-clause-spends
returns-clause-spends g c = c.in_ok-is_taken.ensures.spends c.args.seat.now.left

pub returns-then-is_taken-clause-asks : goal.returns-then-is_taken-clause-asks
returns-then-is_taken-clause-asks g c =
    asks_as g.M.Machine.holds g.O.Operator.meets c.args.level c.args.went c.args.seat.now.answers c.args.performed.now c.ask.new.performed c.args.bureau.now c.args.operator.now c.ask.new.operator c.in_ok-is_taken.is_taken true
    (c.isnt_asked.ensures.no c.if-isnt_asked.false).0 c.if-is_taken.true c.in_ok-is_taken.ensures.asks

pub returns-clause-asks : goal.returns-clause-asks
returns-clause-asks g c =
    asks_as g.M.Machine.holds g.O.Operator.meets c.args.level c.args.went c.args.seat.now.answers c.args.performed.now c.ask.new.performed c.args.bureau.now c.args.operator.now c.ask.new.operator c.in_ok-is_taken.is_taken false
    (c.isnt_asked.ensures.no c.if-isnt_asked.false).0 c.if-is_taken.false c.in_ok-is_taken.ensures.asks

pub returns-then-is_taken-clause-counts : goal.returns-then-is_taken-clause-counts
returns-then-is_taken-clause-counts g c =
    counted_yes c.args.level c.args.performed.now c.ask.new.performed c.args.seat.now.answers _ c.in_ok-is_taken.is_taken c.in_ok-is_taken.ensures.counts c.if-is_taken.true (omega arith)

pub returns-clause-counts : goal.returns-clause-counts
returns-clause-counts g c =
    counted_no c.args.level c.args.performed.now c.ask.new.performed c.args.seat.now.answers c.in_ok-is_taken.is_taken c.in_ok-is_taken.ensures.counts c.if-is_taken.false
