use Rattle.std.proofs.Common.{rules, ◌≡◌, ◌≤◌, ◌<◌, false, true≢false, length, sym}
use Rattle.s3_operator.specs.Inner.Halts.{halt_of}
use Rattle.s3_level.specs.Inner.Queries.{has_work}
use Rattle.s3_desk.proofs.Over.{is_over_so, prints_on, shows_none, works_on}
use Rattle.s3_desk.proofs.bureau.is_over.Goals as goal

pub returns-then-has_work : goal.returns-then-has_work
returns-then-has_work g c = record {
  so = λ yes. absurd (true≢false (sym yes));
  only = λ w held. works_on w c.has_work.result (c.has_work.ensures.world c.args.bureau.now.beside w (c.level.ensures.world w held)) c.if-has_work.true;
}

pub returns-then-queued-gt0 : goal.returns-then-queued-gt0
returns-then-queued-gt0 g c = record {
  so = λ yes. absurd (true≢false (sym yes));
  only = λ w held. let some : 0 < c.queued.result = search rules in prints_on w c.queued.result (c.queued.ensures.world w held) some;
}

pub returns : goal.returns
returns g c = record {
  so = λ yes w held.
      let no_work : has_work w ≡ false = search rules in
      let none : c.queued.result ≤ 0 = search rules in
      let empty : length c.halts.result.now ≡ 0 = search rules in
      is_over_so halt_of w c.queued.result c.halts.result.now no_work (sym (c.queued.ensures.world w held)) none (c.halts.ensures.world w held) empty;
  only = λ w held over. let none : length c.halts.result.now ≡ 0 = shows_none halt_of w c.halts.result.now (c.halts.ensures.world w held) over in search rules;
}
