use Rattle.std.proofs.Common.{ap, inr, is_some, refl, ◌∙◌}
use Rattle.s3_operator.specs.Inner.Halts.{halt_of}
use Rattle.s3_desk.specs.declared.desk.Went.TheVariants.{Rests}
use Rattle.s3_desk.proofs.Asking.{asks_no_reply, asks_none, asks_reply, counts_given}
use Rattle.s3_desk.proofs.Sittings.{counts_same, gives_asks}
use Rattle.s3_desk.proofs.desk.ask.Goals as goal

pub returns-in_default-clause-asks : goal.returns-in_default-clause-asks
returns-in_default-clause-asks g c = λ answers. asks_none g.M.Machine.holds g.O.Operator.meets c.args.level Rests answers c.args.performed.now c.args.bureau.now c.args.operator.now (inr (λ w held. c.waiting.ensures.some w held ∙ ap (λ halt. is_some halt) c.in_default.is))

pub returns-in_default-reply-clause-asks : goal.returns-in_default-reply-clause-asks
returns-in_default-reply-clause-asks g c = λ answers.
    asks_no_reply g.M.Machine.holds g.O.Operator.meets c.args.level c.args.performed.now c.args.bureau.now (halt_of c.in-Some.halt.now) c.reply.result c.args.operator.now c.reply.new.self answers c.reply.ensures c.in_default-reply.is
    (λ w held. record { last = c.in-Some.ensures.last w held; unanswered = c.in-Some.ensures.unanswered })

pub returns-clause-goes : goal.returns-clause-goes
returns-clause-goes g c =
    gives_asks g.M.Machine.holds c.args.level c.in-Some-reply.digit c.args.performed.now c.give.new.performed c.args.bureau.now c.give.new.bureau c.give.result c.give.ensures.goes

pub returns-clause-asks : goal.returns-clause-asks
returns-clause-asks g c =
    asks_reply g.M.Machine.holds g.O.Operator.meets c.args.level c.args.performed.now c.give.new.performed c.args.bureau.now c.give.new.bureau (halt_of c.in-Some.halt.now) c.reply.result c.in-Some-reply.digit
    c.args.operator.now c.reply.new.self c.give.result c.reply.ensures c.in-Some-reply.is (λ w held. record { last = c.in-Some.ensures.last w held; unanswered = c.in-Some.ensures.unanswered }) c.give.ensures.goes c.give.ensures.allowed

pub returns-in_default-clause-counts : goal.returns-in_default-clause-counts
returns-in_default-clause-counts g c = λ answers. counts_same c.args.level c.args.performed.now c.args.performed.now answers refl

pub returns-in_default-reply-clause-counts : goal.returns-in_default-reply-clause-counts
returns-in_default-reply-clause-counts g c = λ answers. counts_same c.args.level c.args.performed.now c.args.performed.now answers refl

pub returns-clause-counts : goal.returns-clause-counts
returns-clause-counts g c =
    counts_given g.M.Machine.holds g.O.Operator.meets c.args.level c.in-Some-reply.digit c.args.performed.now c.give.new.performed c.args.bureau.now c.give.new.bureau c.give.result c.give.ensures.goes
