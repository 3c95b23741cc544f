use Rattle.std.proofs.Common.{ℕ, ◌∙◌, subst}
use Rattle.std.specs.Int.NonZero.{non_zero_u16_get}
use Rattle.s3_desk.specs.Inner.Desk.{StepsAlike}
use Rattle.s3_desk.specs.Inner.Rounds.{ShowsHalt}
use Rattle.s3_desk.proofs.Sittings.{counts_went, follows_all, level_goes, level_kept}
use Rattle.s3_desk.proofs.desk.serve.Goals as goal

pub returns-clause-goes : goal.returns-clause-goes
returns-clause-goes g c =
    level_kept g.M.Machine.holds c.args.level c.args.performed.now c.go_on.new.performed c.args.bureau.now c.go_on.new.bureau c.show.new.bureau c.in_ok-went.went c.in_ok-went.ensures.goes c.in_ok-show.ensures.held

pub returns-clause-serves : goal.returns-clause-serves
returns-clause-serves g c =
    let goes = level_goes g.M.Machine.holds c.args.level c.args.performed.now c.go_on.new.performed c.args.bureau.now c.go_on.new.bureau c.in_ok-went.went c.in_ok-went.ensures.goes in
    record {
      middle = c.go_on.new.bureau;
      half = c.follow.new.operator;
      goes = goes.goes;
      keeps = c.in_ok-show.ensures.held;
      alike = subst (λ (stride : ℕ). StepsAlike g.M.Machine.holds stride c.args.level c.args.performed.now c.go_on.new.performed c.args.bureau.now) c.stride.ensures c.in_ok-went.ensures.alike;
      followed = follows_all g.M.Machine.holds g.O.Operator.meets c.args.level c.in_ok-went.went c.args.performed.now c.go_on.new.performed c.go_on.new.bureau c.args.operator.now c.follow.new.operator c.in_ok-follow.ensures.met c.follow.ensures.rests c.in_ok-went.ensures.idle;
      shows = subst (λ b. ShowsHalt g.M.Machine.holds g.O.Operator.meets c.args.level c.go_on.new.bureau c.follow.new.operator c.show.new.operator b c.show.new.seat.is_shown) c.follow.ensures.same_shown c.in_ok-show.ensures.shows;
    }

pub returns-clause-counts : goal.returns-clause-counts
returns-clause-counts g c =
    counts_went g.M.Machine.holds (non_zero_u16_get c.stride.result) c.args.level c.args.performed.now c.go_on.new.performed c.args.bureau.now c.args.seat.now.left c.go_on.new.left c.args.seat.now.answers c.show.new.seat.answers
    c.in_ok-went.went c.in_ok-went.ensures.alike c.in_ok-went.ensures.uses (λ on. c.show.ensures.same_answers ∙ c.follow.ensures.none on) c.in_ok-went.ensures.idle (λ not_on. c.show.ensures.same_answers ∙ c.follow.ensures.same_answers not_on)
