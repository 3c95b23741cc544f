use Rattle.std.proofs.Common.{ℕ, ◌-◌, ap, arith, sym, subst}
use Rattle.s3_cards.specs.declared.levels.LevelId.TheVariants.{One, Two}
use Rattle.s3_desk.specs.Inner.Desk.{IsSpent, replies_left, room}
use Rattle.s3_desk.proofs.Rounds.{few_answers, round_ends_day, round_goes_on, round_takes_first, round_takes_second}
use Rattle.s3_desk.proofs.Sittings.{all_go, asks_alone, asks_goes, asks_quiet, both_go, counts_same, counts_then, few_replies, goes_alone, goes_less, has_reached, less_replies, less_room, none_taken, round_ends, spends_then, spent_cut}
use Rattle.s3_desk.proofs.desk.round.Goals as goal

pub returns-then-has_gone_on-clause-ends : goal.returns-then-has_gone_on-clause-ends
returns-then-has_gone_on-clause-ends g c =
    let was = c.args.performed.now in
    let p1 = c.serve.new.performed in
    let p2 = c.serve-2.new.performed in
    let old = c.args.bureau.now in
    let b1 = c.serve.new.bureau in
    let b2 = c.serve-2.new.bureau in
    both_go g.M.Machine.holds was p1 p2 p2 p2 old b1 b2 b2 b2 c.in_ok-one.one c.in_ok-two.two c.in_ok-one.ensures.goes c.in_ok-two.ensures.goes

pub returns-then-first-clause-ends : goal.returns-then-first-clause-ends
returns-then-first-clause-ends g c =
    let was = c.args.performed.now in
    let p1 = c.serve.new.performed in
    let p2 = c.serve-2.new.performed in
    let old = c.args.bureau.now in
    let b1 = c.serve.new.bureau in
    let b2 = c.serve-2.new.bureau in
    let p3 = c.ask_at_rest.new.performed in
    let b3 = c.ask_at_rest.new.bureau in
    all_go g.M.Machine.holds was p1 p2 p3 p3 old b1 b2 b3 b3 c.in_ok-one.one c.in_ok-two.two c.in_ok-one.ensures.goes c.in_ok-two.ensures.goes (asks_goes g.M.Machine.holds One p2 p3 b2 b3 c.in_ok-first.first c.in_ok-first.ensures.goes) (λ first before. before)

pub returns-then-second-clause-ends : goal.returns-then-second-clause-ends
returns-then-second-clause-ends g c =
    let was = c.args.performed.now in
    let p1 = c.serve.new.performed in
    let p2 = c.serve-2.new.performed in
    let old = c.args.bureau.now in
    let b1 = c.serve.new.bureau in
    let b2 = c.serve-2.new.bureau in
    let p3 = c.ask_at_rest.new.performed in
    let b3 = c.ask_at_rest.new.bureau in
    let p4 = c.ask_at_rest-2.new.performed in
    let b4 = c.ask_at_rest-2.new.bureau in
    all_go g.M.Machine.holds was p1 p2 p3 p4 old b1 b2 b3 b4 c.in_ok-one.one c.in_ok-two.two c.in_ok-one.ensures.goes c.in_ok-two.ensures.goes (asks_goes g.M.Machine.holds One p2 p3 b2 b3 c.in_ok-first.first c.in_ok-first.ensures.goes) (asks_goes g.M.Machine.holds Two p3 p4 b3 b4 c.in_ok-second.second c.in_ok-second.ensures.goes)

pub returns-clause-ends : goal.returns-clause-ends
returns-clause-ends g c =
    let was = c.args.performed.now in
    let p1 = c.serve.new.performed in
    let p2 = c.serve-2.new.performed in
    let old = c.args.bureau.now in
    let b1 = c.serve.new.bureau in
    let b2 = c.serve-2.new.bureau in
    let p3 = c.ask_at_rest.new.performed in
    let b3 = c.ask_at_rest.new.bureau in
    let p4 = c.ask_at_rest-2.new.performed in
    let b4 = c.ask_at_rest-2.new.bureau in
    round_ends g.M.Machine.holds was p1 p2 p3 p4 old b1 b2 b3 b4 c.in_ok-one.one c.in_ok-two.two c.in_ok-one.ensures.goes c.in_ok-two.ensures.goes c.end_of.result c.end_of-2.result
    (asks_quiet g.M.Machine.holds One p2 p3 b2 b3 c.in_ok-first.first c.in_ok-first.ensures.goes c.if-first.false)
    (asks_quiet g.M.Machine.holds Two p3 p4 b3 b4 c.in_ok-second.second c.in_ok-second.ensures.goes c.if-second.false)
    c.end_of.ensures.ends c.end_of-2.ensures.ends

pub returns-then-has_gone_on-clause-one_spends : goal.returns-then-has_gone_on-clause-one_spends
returns-then-has_gone_on-clause-one_spends g c =
    let was = c.args.performed.now in
    let p1 = c.serve.new.performed in
    let p2 = c.serve-2.new.performed in
    let old = c.args.bureau.now in
    let b1 = c.serve.new.bureau in
    let b2 = c.serve-2.new.bureau in
    spends_then One was p1 p2 c.args.seat_one.now.left c.serve.new.seat.left c.serve.new.seat.left c.in_ok-one.ensures.uses.spends (none_taken One p1 p2 c.serve.new.seat.left (goes_alone g.M.Machine.holds Two p1 p2 b1 b2 c.in_ok-two.two c.in_ok-two.ensures.goes))

pub returns-then-has_gone_on-clause-two_spends : goal.returns-then-has_gone_on-clause-two_spends
returns-then-has_gone_on-clause-two_spends g c =
    let was = c.args.performed.now in
    let p1 = c.serve.new.performed in
    let p2 = c.serve-2.new.performed in
    let old = c.args.bureau.now in
    let b1 = c.serve.new.bureau in
    let b2 = c.serve-2.new.bureau in
    spends_then Two was p1 p2 c.args.seat_two.now.left c.args.seat_two.now.left c.serve-2.new.seat.left (none_taken Two was p1 c.args.seat_two.now.left (goes_alone g.M.Machine.holds One was p1 old b1 c.in_ok-one.one c.in_ok-one.ensures.goes)) c.in_ok-two.ensures.uses.spends

pub returns-then-first-clause-one_spends : goal.returns-then-first-clause-one_spends
returns-then-first-clause-one_spends g c =
    let was = c.args.performed.now in
    let p1 = c.serve.new.performed in
    let p2 = c.serve-2.new.performed in
    let old = c.args.bureau.now in
    let b1 = c.serve.new.bureau in
    let b2 = c.serve-2.new.bureau in
    let p3 = c.ask_at_rest.new.performed in
    let b3 = c.ask_at_rest.new.bureau in
    spends_then One was p2 p3 c.args.seat_one.now.left c.serve.new.seat.left c.ask_at_rest.new.seat.left (spends_then One was p1 p2 c.args.seat_one.now.left c.serve.new.seat.left c.serve.new.seat.left c.in_ok-one.ensures.uses.spends (none_taken One p1 p2 c.serve.new.seat.left (goes_alone g.M.Machine.holds Two p1 p2 b1 b2 c.in_ok-two.two c.in_ok-two.ensures.goes))) c.in_ok-first.ensures.spends

pub returns-then-first-clause-two_spends : goal.returns-then-first-clause-two_spends
returns-then-first-clause-two_spends g c =
    let was = c.args.performed.now in
    let p1 = c.serve.new.performed in
    let p2 = c.serve-2.new.performed in
    let old = c.args.bureau.now in
    let b1 = c.serve.new.bureau in
    let b2 = c.serve-2.new.bureau in
    let p3 = c.ask_at_rest.new.performed in
    let b3 = c.ask_at_rest.new.bureau in
    spends_then Two was p2 p3 c.args.seat_two.now.left c.serve-2.new.seat.left c.serve-2.new.seat.left (spends_then Two was p1 p2 c.args.seat_two.now.left c.args.seat_two.now.left c.serve-2.new.seat.left (none_taken Two was p1 c.args.seat_two.now.left (goes_alone g.M.Machine.holds One was p1 old b1 c.in_ok-one.one c.in_ok-one.ensures.goes)) c.in_ok-two.ensures.uses.spends) (none_taken Two p2 p3 c.serve-2.new.seat.left (asks_alone g.M.Machine.holds One p2 p3 b2 b3 c.in_ok-first.first c.in_ok-first.ensures.goes))

pub returns-then-second-clause-one_spends : goal.returns-then-second-clause-one_spends
returns-then-second-clause-one_spends g c =
    let was = c.args.performed.now in
    let p1 = c.serve.new.performed in
    let p2 = c.serve-2.new.performed in
    let old = c.args.bureau.now in
    let b1 = c.serve.new.bureau in
    let b2 = c.serve-2.new.bureau in
    let p3 = c.ask_at_rest.new.performed in
    let b3 = c.ask_at_rest.new.bureau in
    let p4 = c.ask_at_rest-2.new.performed in
    let b4 = c.ask_at_rest-2.new.bureau in
    spends_then One was p3 p4 c.args.seat_one.now.left c.ask_at_rest.new.seat.left c.ask_at_rest.new.seat.left (spends_then One was p2 p3 c.args.seat_one.now.left c.serve.new.seat.left c.ask_at_rest.new.seat.left (spends_then One was p1 p2 c.args.seat_one.now.left c.serve.new.seat.left c.serve.new.seat.left c.in_ok-one.ensures.uses.spends (none_taken One p1 p2 c.serve.new.seat.left (goes_alone g.M.Machine.holds Two p1 p2 b1 b2 c.in_ok-two.two c.in_ok-two.ensures.goes))) c.in_ok-first.ensures.spends) (none_taken One p3 p4 c.ask_at_rest.new.seat.left (asks_alone g.M.Machine.holds Two p3 p4 b3 b4 c.in_ok-second.second c.in_ok-second.ensures.goes))

pub returns-then-second-clause-two_spends : goal.returns-then-second-clause-two_spends
returns-then-second-clause-two_spends g c =
    let was = c.args.performed.now in
    let p1 = c.serve.new.performed in
    let p2 = c.serve-2.new.performed in
    let old = c.args.bureau.now in
    let b1 = c.serve.new.bureau in
    let b2 = c.serve-2.new.bureau in
    let p3 = c.ask_at_rest.new.performed in
    let b3 = c.ask_at_rest.new.bureau in
    let p4 = c.ask_at_rest-2.new.performed in
    let b4 = c.ask_at_rest-2.new.bureau in
    spends_then Two was p3 p4 c.args.seat_two.now.left c.serve-2.new.seat.left c.ask_at_rest-2.new.seat.left (spends_then Two was p2 p3 c.args.seat_two.now.left c.serve-2.new.seat.left c.serve-2.new.seat.left (spends_then Two was p1 p2 c.args.seat_two.now.left c.args.seat_two.now.left c.serve-2.new.seat.left (none_taken Two was p1 c.args.seat_two.now.left (goes_alone g.M.Machine.holds One was p1 old b1 c.in_ok-one.one c.in_ok-one.ensures.goes)) c.in_ok-two.ensures.uses.spends) (none_taken Two p2 p3 c.serve-2.new.seat.left (asks_alone g.M.Machine.holds One p2 p3 b2 b3 c.in_ok-first.first c.in_ok-first.ensures.goes))) c.in_ok-second.ensures.spends

pub returns-clause-one_spends : goal.returns-clause-one_spends
returns-clause-one_spends g c =
    let was = c.args.performed.now in
    let p1 = c.serve.new.performed in
    let p2 = c.serve-2.new.performed in
    let old = c.args.bureau.now in
    let b1 = c.serve.new.bureau in
    let b2 = c.serve-2.new.bureau in
    let p3 = c.ask_at_rest.new.performed in
    let b3 = c.ask_at_rest.new.bureau in
    let p4 = c.ask_at_rest-2.new.performed in
    let b4 = c.ask_at_rest-2.new.bureau in
    spends_then One was p3 p4 c.args.seat_one.now.left c.ask_at_rest.new.seat.left c.ask_at_rest.new.seat.left (spends_then One was p2 p3 c.args.seat_one.now.left c.serve.new.seat.left c.ask_at_rest.new.seat.left (spends_then One was p1 p2 c.args.seat_one.now.left c.serve.new.seat.left c.serve.new.seat.left c.in_ok-one.ensures.uses.spends (none_taken One p1 p2 c.serve.new.seat.left (goes_alone g.M.Machine.holds Two p1 p2 b1 b2 c.in_ok-two.two c.in_ok-two.ensures.goes))) c.in_ok-first.ensures.spends) (none_taken One p3 p4 c.ask_at_rest.new.seat.left (asks_alone g.M.Machine.holds Two p3 p4 b3 b4 c.in_ok-second.second c.in_ok-second.ensures.goes))

pub returns-clause-two_spends : goal.returns-clause-two_spends
returns-clause-two_spends g c =
    let was = c.args.performed.now in
    let p1 = c.serve.new.performed in
    let p2 = c.serve-2.new.performed in
    let old = c.args.bureau.now in
    let b1 = c.serve.new.bureau in
    let b2 = c.serve-2.new.bureau in
    let p3 = c.ask_at_rest.new.performed in
    let b3 = c.ask_at_rest.new.bureau in
    let p4 = c.ask_at_rest-2.new.performed in
    let b4 = c.ask_at_rest-2.new.bureau in
    spends_then Two was p3 p4 c.args.seat_two.now.left c.serve-2.new.seat.left c.ask_at_rest-2.new.seat.left (spends_then Two was p2 p3 c.args.seat_two.now.left c.serve-2.new.seat.left c.serve-2.new.seat.left (spends_then Two was p1 p2 c.args.seat_two.now.left c.args.seat_two.now.left c.serve-2.new.seat.left (none_taken Two was p1 c.args.seat_two.now.left (goes_alone g.M.Machine.holds One was p1 old b1 c.in_ok-one.one c.in_ok-one.ensures.goes)) c.in_ok-two.ensures.uses.spends) (none_taken Two p2 p3 c.serve-2.new.seat.left (asks_alone g.M.Machine.holds One p2 p3 b2 b3 c.in_ok-first.first c.in_ok-first.ensures.goes))) c.in_ok-second.ensures.spends

pub returns-clause-one_cut : goal.returns-clause-one_cut
returns-clause-one_cut g c =
    λ cut. subst IsSpent (sym c.in_ok-first.ensures.same_left)
    (spent_cut One c.args.performed.now c.serve.new.performed c.args.seat_one.now.left c.serve.new.seat.left c.in_ok-one.one c.in_ok-one.ensures.uses (c.has_gone_on.ensures.no c.if-has_gone_on.false).0 (c.end_of.ensures.cut cut))

pub returns-clause-two_cut : goal.returns-clause-two_cut
returns-clause-two_cut g c =
    λ cut. subst IsSpent (sym c.in_ok-second.ensures.same_left)
    (spent_cut Two c.serve.new.performed c.serve-2.new.performed c.args.seat_two.now.left c.serve-2.new.seat.left c.in_ok-two.two c.in_ok-two.ensures.uses (c.has_gone_on.ensures.no c.if-has_gone_on.false).1 (c.end_of-2.ensures.cut cut))

pub returns-then-has_gone_on-clause-less_work : goal.returns-then-has_gone_on-clause-less_work
returns-then-has_gone_on-clause-less_work g c =
    λ is. less_room (room c.args.seat_one.now.left) (room c.args.seat_two.now.left) (room c.serve.new.seat.left) (room c.serve-2.new.seat.left) (replies_left c.args.seat_one.now) (replies_left c.args.seat_two.now) (replies_left c.serve.new.seat) (replies_left c.serve-2.new.seat)
    c.in_ok-one.ensures.uses.spends.less c.in_ok-two.ensures.uses.spends.less
    (goes_less c.args.performed.now c.serve.new.performed c.serve.new.performed c.serve-2.new.performed c.args.seat_one.now.left c.args.seat_two.now.left c.serve.new.seat.left c.serve-2.new.seat.left c.in_ok-one.one c.in_ok-two.two c.in_ok-one.ensures.uses c.in_ok-two.ensures.uses (c.has_gone_on.ensures.yes c.if-has_gone_on.true))
    (few_replies c.serve.new.seat) (few_replies c.serve-2.new.seat)

pub returns-then-first-clause-less_work : goal.returns-then-first-clause-less_work
returns-then-first-clause-less_work g c =
    let same = c.in_ok-two.ensures.answers (c.has_gone_on.ensures.no c.if-has_gone_on.false).1 in
    let taken = c.in_ok-first.ensures.taken c.if-first.true in
    let before = c.in_ok-one.ensures.answers (c.has_gone_on.ensures.no c.if-has_gone_on.false).0 in
    λ is. less_replies (room c.args.seat_one.now.left) (room c.args.seat_two.now.left) (room c.ask_at_rest.new.seat.left) (room c.serve-2.new.seat.left) (replies_left c.args.seat_one.now) (replies_left c.args.seat_two.now) (replies_left c.ask_at_rest.new.seat) (replies_left c.serve-2.new.seat)
    (omega (arith, c.in_ok-one.ensures.uses.spends.less, ap room c.in_ok-first.ensures.same_left)) c.in_ok-two.ensures.uses.spends.less (omega (arith, same, taken, before))

pub returns-then-second-clause-less_work : goal.returns-then-second-clause-less_work
returns-then-second-clause-less_work g c =
    let same = c.in_ok-two.ensures.answers (c.has_gone_on.ensures.no c.if-has_gone_on.false).1 in
    let kept = ap (λ (answers : ℕ). 65535 - answers) (c.in_ok-first.ensures.not_taken c.if-first.false) in
    let before = c.in_ok-one.ensures.answers (c.has_gone_on.ensures.no c.if-has_gone_on.false).0 in
    let taken = c.in_ok-second.ensures.taken c.if-second.true in
    λ is. less_replies (room c.args.seat_one.now.left) (room c.args.seat_two.now.left) (room c.ask_at_rest.new.seat.left) (room c.ask_at_rest-2.new.seat.left) (replies_left c.args.seat_one.now) (replies_left c.args.seat_two.now) (replies_left c.ask_at_rest.new.seat) (replies_left c.ask_at_rest-2.new.seat)
    (omega (arith, c.in_ok-one.ensures.uses.spends.less, ap room c.in_ok-first.ensures.same_left)) (omega (arith, c.in_ok-two.ensures.uses.spends.less, ap room c.in_ok-second.ensures.same_left)) (omega (arith, same, kept, before, taken))

pub returns-then-has_gone_on-clause-sits : goal.returns-then-has_gone_on-clause-sits
returns-then-has_gone_on-clause-sits g c =
    let was = c.args.performed.now in
    let p1 = c.serve.new.performed in
    let p2 = c.serve-2.new.performed in
    let old = c.args.bureau.now in
    let b1 = c.serve.new.bureau in
    let b2 = c.serve-2.new.bureau in
    round_goes_on g.M.Machine.holds g.O.Operator.meets was p1 p2 old b1 b2 c.args.operator.now c.serve.new.operator c.serve-2.new.operator
    c.args.seat_one.now.is_shown c.serve.new.seat.is_shown c.args.seat_two.now.is_shown c.serve-2.new.seat.is_shown c.args.seat_one.now.left c.args.seat_two.now.left c.args.seat_one.now.answers c.args.seat_two.now.answers
    c.in_ok-one.one c.in_ok-two.two c.in_ok-one.ensures.goes c.in_ok-two.ensures.goes c.in_ok-one.ensures.serves c.in_ok-two.ensures.serves

pub returns-then-first-clause-sits : goal.returns-then-first-clause-sits
returns-then-first-clause-sits g c =
    let was = c.args.performed.now in
    let p1 = c.serve.new.performed in
    let p2 = c.serve-2.new.performed in
    let old = c.args.bureau.now in
    let b1 = c.serve.new.bureau in
    let b2 = c.serve-2.new.bureau in
    let p3 = c.ask_at_rest.new.performed in
    let b3 = c.ask_at_rest.new.bureau in
    round_takes_first g.M.Machine.holds g.O.Operator.meets was p1 p2 old b1 b2 c.args.operator.now c.serve.new.operator c.serve-2.new.operator
    c.args.seat_one.now.is_shown c.serve.new.seat.is_shown c.args.seat_two.now.is_shown c.serve-2.new.seat.is_shown c.args.seat_one.now.left c.args.seat_two.now.left c.args.seat_one.now.answers c.args.seat_two.now.answers
    c.in_ok-one.one c.in_ok-two.two c.in_ok-one.ensures.goes c.in_ok-two.ensures.goes c.in_ok-one.ensures.serves c.in_ok-two.ensures.serves
    (c.has_gone_on.ensures.no c.if-has_gone_on.false).0 (c.has_gone_on.ensures.no c.if-has_gone_on.false).1
    (λ not_on not_rests. has_reached One was p2 c.args.seat_one.now.left c.serve.new.seat.left (spends_then One was p1 p2 c.args.seat_one.now.left c.serve.new.seat.left c.serve.new.seat.left c.in_ok-one.ensures.uses.spends (none_taken One p1 p2 c.serve.new.seat.left (goes_alone g.M.Machine.holds Two p1 p2 b1 b2 c.in_ok-two.two c.in_ok-two.ensures.goes))) (spent_cut One was p1 c.args.seat_one.now.left c.serve.new.seat.left c.in_ok-one.one c.in_ok-one.ensures.uses not_on not_rests))
    (λ not_on not_rests. has_reached Two was p2 c.args.seat_two.now.left c.serve-2.new.seat.left (spends_then Two was p1 p2 c.args.seat_two.now.left c.args.seat_two.now.left c.serve-2.new.seat.left (none_taken Two was p1 c.args.seat_two.now.left (goes_alone g.M.Machine.holds One was p1 old b1 c.in_ok-one.one c.in_ok-one.ensures.goes)) c.in_ok-two.ensures.uses.spends) (spent_cut Two p1 p2 c.args.seat_two.now.left c.serve-2.new.seat.left c.in_ok-two.two c.in_ok-two.ensures.uses not_on not_rests))
    p3 b3 c.ask_at_rest.new.operator c.serve.new.seat.answers c.in_ok-first.first c.in_ok-first.ensures.asks
    c.ask_at_rest.new.seat.is_shown c.if-first.true (c.in_ok-first.ensures.shown_anew c.if-first.true)

pub returns-then-second-clause-sits : goal.returns-then-second-clause-sits
returns-then-second-clause-sits g c =
    let was = c.args.performed.now in
    let p1 = c.serve.new.performed in
    let p2 = c.serve-2.new.performed in
    let old = c.args.bureau.now in
    let b1 = c.serve.new.bureau in
    let b2 = c.serve-2.new.bureau in
    let p3 = c.ask_at_rest.new.performed in
    let b3 = c.ask_at_rest.new.bureau in
    let p4 = c.ask_at_rest-2.new.performed in
    let b4 = c.ask_at_rest-2.new.bureau in
    round_takes_second g.M.Machine.holds g.O.Operator.meets was p1 p2 old b1 b2 c.args.operator.now c.serve.new.operator c.serve-2.new.operator
    c.args.seat_one.now.is_shown c.serve.new.seat.is_shown c.args.seat_two.now.is_shown c.serve-2.new.seat.is_shown c.args.seat_one.now.left c.args.seat_two.now.left c.args.seat_one.now.answers c.args.seat_two.now.answers
    c.in_ok-one.one c.in_ok-two.two c.in_ok-one.ensures.goes c.in_ok-two.ensures.goes c.in_ok-one.ensures.serves c.in_ok-two.ensures.serves
    (c.has_gone_on.ensures.no c.if-has_gone_on.false).0 (c.has_gone_on.ensures.no c.if-has_gone_on.false).1
    (λ not_on not_rests. has_reached One was p2 c.args.seat_one.now.left c.serve.new.seat.left (spends_then One was p1 p2 c.args.seat_one.now.left c.serve.new.seat.left c.serve.new.seat.left c.in_ok-one.ensures.uses.spends (none_taken One p1 p2 c.serve.new.seat.left (goes_alone g.M.Machine.holds Two p1 p2 b1 b2 c.in_ok-two.two c.in_ok-two.ensures.goes))) (spent_cut One was p1 c.args.seat_one.now.left c.serve.new.seat.left c.in_ok-one.one c.in_ok-one.ensures.uses not_on not_rests))
    (λ not_on not_rests. has_reached Two was p2 c.args.seat_two.now.left c.serve-2.new.seat.left (spends_then Two was p1 p2 c.args.seat_two.now.left c.args.seat_two.now.left c.serve-2.new.seat.left (none_taken Two was p1 c.args.seat_two.now.left (goes_alone g.M.Machine.holds One was p1 old b1 c.in_ok-one.one c.in_ok-one.ensures.goes)) c.in_ok-two.ensures.uses.spends) (spent_cut Two p1 p2 c.args.seat_two.now.left c.serve-2.new.seat.left c.in_ok-two.two c.in_ok-two.ensures.uses not_on not_rests))
    p3 b3 c.ask_at_rest.new.operator c.serve.new.seat.answers c.in_ok-first.first c.in_ok-first.ensures.asks
    c.if-first.false (asks_goes g.M.Machine.holds One p2 p3 b2 b3 c.in_ok-first.first c.in_ok-first.ensures.goes)
    p4 b4 c.ask_at_rest-2.new.operator c.serve-2.new.seat.answers c.in_ok-second.second c.in_ok-second.ensures.asks
    c.ask_at_rest.new.seat.is_shown c.ask_at_rest-2.new.seat.is_shown c.if-second.true (c.in_ok-first.ensures.still_shown c.if-first.false) (c.in_ok-second.ensures.shown_anew c.if-second.true)

pub returns-clause-sits : goal.returns-clause-sits
returns-clause-sits g c =
    let was = c.args.performed.now in
    let p1 = c.serve.new.performed in
    let p2 = c.serve-2.new.performed in
    let old = c.args.bureau.now in
    let b1 = c.serve.new.bureau in
    let b2 = c.serve-2.new.bureau in
    let p3 = c.ask_at_rest.new.performed in
    let b3 = c.ask_at_rest.new.bureau in
    let p4 = c.ask_at_rest-2.new.performed in
    let b4 = c.ask_at_rest-2.new.bureau in
    round_ends_day g.M.Machine.holds g.O.Operator.meets was p1 p2 old b1 b2 c.args.operator.now c.serve.new.operator c.serve-2.new.operator
    c.args.seat_one.now.is_shown c.serve.new.seat.is_shown c.args.seat_two.now.is_shown c.serve-2.new.seat.is_shown c.args.seat_one.now.left c.args.seat_two.now.left c.args.seat_one.now.answers c.args.seat_two.now.answers
    c.in_ok-one.one c.in_ok-two.two c.in_ok-one.ensures.goes c.in_ok-two.ensures.goes c.in_ok-one.ensures.serves c.in_ok-two.ensures.serves
    (c.has_gone_on.ensures.no c.if-has_gone_on.false).0 (c.has_gone_on.ensures.no c.if-has_gone_on.false).1
    (λ not_on not_rests. has_reached One was p2 c.args.seat_one.now.left c.serve.new.seat.left (spends_then One was p1 p2 c.args.seat_one.now.left c.serve.new.seat.left c.serve.new.seat.left c.in_ok-one.ensures.uses.spends (none_taken One p1 p2 c.serve.new.seat.left (goes_alone g.M.Machine.holds Two p1 p2 b1 b2 c.in_ok-two.two c.in_ok-two.ensures.goes))) (spent_cut One was p1 c.args.seat_one.now.left c.serve.new.seat.left c.in_ok-one.one c.in_ok-one.ensures.uses not_on not_rests))
    (λ not_on not_rests. has_reached Two was p2 c.args.seat_two.now.left c.serve-2.new.seat.left (spends_then Two was p1 p2 c.args.seat_two.now.left c.args.seat_two.now.left c.serve-2.new.seat.left (none_taken Two was p1 c.args.seat_two.now.left (goes_alone g.M.Machine.holds One was p1 old b1 c.in_ok-one.one c.in_ok-one.ensures.goes)) c.in_ok-two.ensures.uses.spends) (spent_cut Two p1 p2 c.args.seat_two.now.left c.serve-2.new.seat.left c.in_ok-two.two c.in_ok-two.ensures.uses not_on not_rests))
    p3 b3 c.ask_at_rest.new.operator c.serve.new.seat.answers c.in_ok-first.first c.in_ok-first.ensures.asks
    c.if-first.false (asks_goes g.M.Machine.holds One p2 p3 b2 b3 c.in_ok-first.first c.in_ok-first.ensures.goes)
    p4 b4 c.ask_at_rest-2.new.operator c.serve-2.new.seat.answers c.in_ok-second.second c.in_ok-second.ensures.asks
    c.ask_at_rest.new.seat.is_shown c.ask_at_rest-2.new.seat.is_shown _ c.if-second.false (asks_goes g.M.Machine.holds Two p3 p4 b3 b4 c.in_ok-second.second c.in_ok-second.ensures.goes)
    (λ halted. few_answers c.in_ok-one.one c.serve.new.seat.answers c.ask_at_rest.new.seat.answers _ (c.in_ok-first.ensures.not_taken c.if-first.false) (c.end_of.ensures.halted halted))
    (λ halted. few_answers c.in_ok-two.two c.serve-2.new.seat.answers c.ask_at_rest-2.new.seat.answers _ (c.in_ok-second.ensures.not_taken c.if-second.false) (c.end_of-2.ensures.halted halted))

pub returns-then-has_gone_on-clause-one_counts : goal.returns-then-has_gone_on-clause-one_counts
returns-then-has_gone_on-clause-one_counts g c =
    let was = c.args.performed.now in
    let p1 = c.serve.new.performed in
    let p2 = c.serve-2.new.performed in
    let old = c.args.bureau.now in
    let b1 = c.serve.new.bureau in
    let b2 = c.serve-2.new.bureau in
    counts_then One was p1 p2 c.args.seat_one.now.answers c.serve.new.seat.answers c.serve.new.seat.answers c.in_ok-one.ensures.counts (counts_same One p1 p2 c.serve.new.seat.answers (goes_alone g.M.Machine.holds Two p1 p2 b1 b2 c.in_ok-two.two c.in_ok-two.ensures.goes))

pub returns-then-has_gone_on-clause-two_counts : goal.returns-then-has_gone_on-clause-two_counts
returns-then-has_gone_on-clause-two_counts g c =
    let was = c.args.performed.now in
    let p1 = c.serve.new.performed in
    let p2 = c.serve-2.new.performed in
    let old = c.args.bureau.now in
    let b1 = c.serve.new.bureau in
    let b2 = c.serve-2.new.bureau in
    counts_then Two was p1 p2 c.args.seat_two.now.answers c.args.seat_two.now.answers c.serve-2.new.seat.answers (counts_same Two was p1 c.args.seat_two.now.answers (goes_alone g.M.Machine.holds One was p1 old b1 c.in_ok-one.one c.in_ok-one.ensures.goes)) c.in_ok-two.ensures.counts

pub returns-then-first-clause-one_counts : goal.returns-then-first-clause-one_counts
returns-then-first-clause-one_counts g c =
    let was = c.args.performed.now in
    let p1 = c.serve.new.performed in
    let p2 = c.serve-2.new.performed in
    let old = c.args.bureau.now in
    let b1 = c.serve.new.bureau in
    let b2 = c.serve-2.new.bureau in
    let p3 = c.ask_at_rest.new.performed in
    let b3 = c.ask_at_rest.new.bureau in
    counts_then One was p2 p3 c.args.seat_one.now.answers c.serve.new.seat.answers c.ask_at_rest.new.seat.answers (counts_then One was p1 p2 c.args.seat_one.now.answers c.serve.new.seat.answers c.serve.new.seat.answers c.in_ok-one.ensures.counts (counts_same One p1 p2 c.serve.new.seat.answers (goes_alone g.M.Machine.holds Two p1 p2 b1 b2 c.in_ok-two.two c.in_ok-two.ensures.goes))) c.in_ok-first.ensures.counts

pub returns-then-first-clause-two_counts : goal.returns-then-first-clause-two_counts
returns-then-first-clause-two_counts g c =
    let was = c.args.performed.now in
    let p1 = c.serve.new.performed in
    let p2 = c.serve-2.new.performed in
    let old = c.args.bureau.now in
    let b1 = c.serve.new.bureau in
    let b2 = c.serve-2.new.bureau in
    let p3 = c.ask_at_rest.new.performed in
    let b3 = c.ask_at_rest.new.bureau in
    counts_then Two was p2 p3 c.args.seat_two.now.answers c.serve-2.new.seat.answers c.serve-2.new.seat.answers (counts_then Two was p1 p2 c.args.seat_two.now.answers c.args.seat_two.now.answers c.serve-2.new.seat.answers (counts_same Two was p1 c.args.seat_two.now.answers (goes_alone g.M.Machine.holds One was p1 old b1 c.in_ok-one.one c.in_ok-one.ensures.goes)) c.in_ok-two.ensures.counts) (counts_same Two p2 p3 c.serve-2.new.seat.answers (asks_alone g.M.Machine.holds One p2 p3 b2 b3 c.in_ok-first.first c.in_ok-first.ensures.goes))

pub returns-then-second-clause-one_counts : goal.returns-then-second-clause-one_counts
returns-then-second-clause-one_counts g c =
    let was = c.args.performed.now in
    let p1 = c.serve.new.performed in
    let p2 = c.serve-2.new.performed in
    let old = c.args.bureau.now in
    let b1 = c.serve.new.bureau in
    let b2 = c.serve-2.new.bureau in
    let p3 = c.ask_at_rest.new.performed in
    let b3 = c.ask_at_rest.new.bureau in
    let p4 = c.ask_at_rest-2.new.performed in
    let b4 = c.ask_at_rest-2.new.bureau in
    counts_then One was p3 p4 c.args.seat_one.now.answers c.ask_at_rest.new.seat.answers c.ask_at_rest.new.seat.answers (counts_then One was p2 p3 c.args.seat_one.now.answers c.serve.new.seat.answers c.ask_at_rest.new.seat.answers (counts_then One was p1 p2 c.args.seat_one.now.answers c.serve.new.seat.answers c.serve.new.seat.answers c.in_ok-one.ensures.counts (counts_same One p1 p2 c.serve.new.seat.answers (goes_alone g.M.Machine.holds Two p1 p2 b1 b2 c.in_ok-two.two c.in_ok-two.ensures.goes))) c.in_ok-first.ensures.counts) (counts_same One p3 p4 c.ask_at_rest.new.seat.answers (asks_alone g.M.Machine.holds Two p3 p4 b3 b4 c.in_ok-second.second c.in_ok-second.ensures.goes))

pub returns-then-second-clause-two_counts : goal.returns-then-second-clause-two_counts
returns-then-second-clause-two_counts g c =
    let was = c.args.performed.now in
    let p1 = c.serve.new.performed in
    let p2 = c.serve-2.new.performed in
    let old = c.args.bureau.now in
    let b1 = c.serve.new.bureau in
    let b2 = c.serve-2.new.bureau in
    let p3 = c.ask_at_rest.new.performed in
    let b3 = c.ask_at_rest.new.bureau in
    let p4 = c.ask_at_rest-2.new.performed in
    let b4 = c.ask_at_rest-2.new.bureau in
    counts_then Two was p3 p4 c.args.seat_two.now.answers c.serve-2.new.seat.answers c.ask_at_rest-2.new.seat.answers (counts_then Two was p2 p3 c.args.seat_two.now.answers c.serve-2.new.seat.answers c.serve-2.new.seat.answers (counts_then Two was p1 p2 c.args.seat_two.now.answers c.args.seat_two.now.answers c.serve-2.new.seat.answers (counts_same Two was p1 c.args.seat_two.now.answers (goes_alone g.M.Machine.holds One was p1 old b1 c.in_ok-one.one c.in_ok-one.ensures.goes)) c.in_ok-two.ensures.counts) (counts_same Two p2 p3 c.serve-2.new.seat.answers (asks_alone g.M.Machine.holds One p2 p3 b2 b3 c.in_ok-first.first c.in_ok-first.ensures.goes))) c.in_ok-second.ensures.counts

pub returns-clause-one_counts : goal.returns-clause-one_counts
returns-clause-one_counts g c =
    let was = c.args.performed.now in
    let p1 = c.serve.new.performed in
    let p2 = c.serve-2.new.performed in
    let old = c.args.bureau.now in
    let b1 = c.serve.new.bureau in
    let b2 = c.serve-2.new.bureau in
    let p3 = c.ask_at_rest.new.performed in
    let b3 = c.ask_at_rest.new.bureau in
    let p4 = c.ask_at_rest-2.new.performed in
    let b4 = c.ask_at_rest-2.new.bureau in
    counts_then One was p3 p4 c.args.seat_one.now.answers c.ask_at_rest.new.seat.answers c.ask_at_rest.new.seat.answers (counts_then One was p2 p3 c.args.seat_one.now.answers c.serve.new.seat.answers c.ask_at_rest.new.seat.answers (counts_then One was p1 p2 c.args.seat_one.now.answers c.serve.new.seat.answers c.serve.new.seat.answers c.in_ok-one.ensures.counts (counts_same One p1 p2 c.serve.new.seat.answers (goes_alone g.M.Machine.holds Two p1 p2 b1 b2 c.in_ok-two.two c.in_ok-two.ensures.goes))) c.in_ok-first.ensures.counts) (counts_same One p3 p4 c.ask_at_rest.new.seat.answers (asks_alone g.M.Machine.holds Two p3 p4 b3 b4 c.in_ok-second.second c.in_ok-second.ensures.goes))

pub returns-clause-two_counts : goal.returns-clause-two_counts
returns-clause-two_counts g c =
    let was = c.args.performed.now in
    let p1 = c.serve.new.performed in
    let p2 = c.serve-2.new.performed in
    let old = c.args.bureau.now in
    let b1 = c.serve.new.bureau in
    let b2 = c.serve-2.new.bureau in
    let p3 = c.ask_at_rest.new.performed in
    let b3 = c.ask_at_rest.new.bureau in
    let p4 = c.ask_at_rest-2.new.performed in
    let b4 = c.ask_at_rest-2.new.bureau in
    counts_then Two was p3 p4 c.args.seat_two.now.answers c.serve-2.new.seat.answers c.ask_at_rest-2.new.seat.answers (counts_then Two was p2 p3 c.args.seat_two.now.answers c.serve-2.new.seat.answers c.serve-2.new.seat.answers (counts_then Two was p1 p2 c.args.seat_two.now.answers c.args.seat_two.now.answers c.serve-2.new.seat.answers (counts_same Two was p1 c.args.seat_two.now.answers (goes_alone g.M.Machine.holds One was p1 old b1 c.in_ok-one.one c.in_ok-one.ensures.goes)) c.in_ok-two.ensures.counts) (counts_same Two p2 p3 c.serve-2.new.seat.answers (asks_alone g.M.Machine.holds One p2 p3 b2 b3 c.in_ok-first.first c.in_ok-first.ensures.goes))) c.in_ok-second.ensures.counts
