use Rattle.std.proofs.Common.{ap, inl, inr, is_some, refl, sym, true≢false, ◌∙◌}
use Rattle.s3_operator.specs.Inner.Halts.{halt_of}
use Rattle.s3_desk.proofs.desk.show.Goals as goal

pub returns-then-has_no_new_halt-clause-shows : goal.returns-then-has_no_new_halt-clause-shows
returns-then-has_no_new_halt-clause-shows g c = inl (record { same = refl; why = λ w held. (refl, c.has_no_new_halt.ensures.yes c.if-has_no_new_halt.true w held) })

pub returns-in_default-clause-shows : goal.returns-in_default-clause-shows
returns-in_default-clause-shows g c =
    inl (record {
      same = refl;
      why = λ w held.
          let waits = (c.has_no_new_halt.ensures.no c.if-has_no_new_halt.false).1 w held in
          let none = c.waiting.ensures.some w (c.in_ok-evidence.ensures.held c.args.level w held) in
          absurd (true≢false (sym waits ∙ (none ∙ ap (λ halt. is_some halt) c.in_default.is)));
    })

pub returns-clause-shows : goal.returns-clause-shows
returns-clause-shows g c =
    inr (record {
      halt = halt_of c.in-Some.halt.now;
      met = c.show.ensures;
      waits = λ w held. record { last = c.in-Some.ensures.last w (c.in_ok-evidence.ensures.held c.args.level w held); unanswered = c.in-Some.ensures.unanswered };
      was_not = (c.has_no_new_halt.ensures.no c.if-has_no_new_halt.false).0;
      is_now = refl;
    })
