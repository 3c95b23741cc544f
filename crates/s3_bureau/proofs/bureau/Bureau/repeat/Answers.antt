use Rattle.std.proofs.Common.{◌≡◌, Err, rules}
use Rattle.s3_bureau.specs.Inner.Stops.{stop_of}
use Rattle.s3_bureau.proofs.Entering.{cause_failed, foreign_unchanged, has_none, header_stays, is_cause, is_stopped, lines_stay, other_keeps, other_kept, own_repeats, own_stops, stays_open, was_open}
use Rattle.s3_bureau.proofs.bureau.Bureau.repeat.Goals as goal

pub returns-clause-other : goal.returns-clause-other
returns-clause-other g c = other_keeps c.args.entry.level c.args.entry.action _ c.in_ok-taken.taken _ _ c.in_ok-taken.ensures

pub returns-clause-no_other : goal.returns-clause-no_other
returns-clause-no_other g c = other_kept c.args.entry.level c.args.entry.action _ c.in_ok-taken.taken _ _ c.in_ok-taken.ensures

pub returns-clause-unchanged : goal.returns-clause-unchanged
returns-clause-unchanged g c = foreign_unchanged c.args.entry.level c.args.entry.action _ _ _ _ c.in_ok-taken.ensures

pub returns-in_err-taken-clause-unchanged : goal.returns-in_err-taken-clause-unchanged
returns-in_err-taken-clause-unchanged g c = foreign_unchanged c.args.entry.level c.args.entry.action _ _ _ _ c.in_err-taken.ensures

pub returns-clause-own : goal.returns-clause-own
returns-clause-own g c = own_repeats c.args.entry.level c.args.entry.action _ c.in_ok-taken.taken _ _ c.in_ok-taken.ensures

pub returns-clause-job_ends : goal.returns-clause-job_ends
returns-clause-job_ends g c = own_stops c.args.entry.level c.args.entry.action _ c.in_ok-taken.taken _ _ c.in_ok-taken.ensures

pub returns-clause-said : goal.returns-clause-said
returns-clause-said g c = λ level said. c.in_ok-taken.ensures.says level said

pub returns-clause-quiet : goal.returns-clause-quiet
returns-clause-quiet g c = c.in_ok-taken.ensures.quiet

pub returns-clause-spares : goal.returns-clause-spares
returns-clause-spares g c = λ is. c.in_ok-taken.ensures.spares

pub returns-in_err-taken-clause-spares : goal.returns-in_err-taken-clause-spares
returns-in_err-taken-clause-spares g c = λ is. c.in_err-taken.ensures.spares

pub returns-in_err-taken-clause-memory : goal.returns-in_err-taken-clause-memory
returns-in_err-taken-clause-memory g c =
    let is : c.from_residual.result ≡ Err (stop_of c.in_err-taken.field-0.0) = search rules in
    rw is (λ takes w held. c.in_err-taken.ensures.comes.2 w held.world)

pub returns-in_err-taken-clause-lines : goal.returns-in_err-taken-clause-lines
returns-in_err-taken-clause-lines g c =
    let is : c.from_residual.result ≡ Err (stop_of c.in_err-taken.field-0.0) = search rules in
    rw is (lines_stay c.args.entry.level c.args.entry.action _ c.in_err-taken.field-0.0 _ _ c.in_err-taken.ensures)

pub returns-clause-stays : goal.returns-clause-stays
returns-clause-stays g c = c.in_ok-taken.ensures.stays

pub returns-in_err-taken-clause-stays : goal.returns-in_err-taken-clause-stays
returns-in_err-taken-clause-stays g c = c.in_err-taken.ensures.stays

pub returns-clause-header : goal.returns-clause-header
returns-clause-header g c = header_stays c.args.entry.level c.args.entry.action _ _ _ _ c.in_ok-taken.ensures

pub returns-in_err-taken-clause-header : goal.returns-in_err-taken-clause-header
returns-in_err-taken-clause-header g c = header_stays c.args.entry.level c.args.entry.action _ _ _ _ c.in_err-taken.ensures

pub returns-clause-stopped : goal.returns-clause-stopped
returns-clause-stopped g c = was_open _ c.args.entry.level c.args.entry.action _ _ _ _ c.in_ok-taken.ensures

pub returns-in_err-taken-clause-stopped : goal.returns-in_err-taken-clause-stopped
returns-in_err-taken-clause-stopped g c = was_open _ c.args.entry.level c.args.entry.action _ _ _ _ c.in_err-taken.ensures

pub returns-in_err-taken-clause-not_before : goal.returns-in_err-taken-clause-not_before
returns-in_err-taken-clause-not_before g c =
    let is : c.from_residual.result ≡ Err (stop_of c.in_err-taken.field-0.0) = search rules in
    λ takes. is_cause c.in_err-taken.field-0.0 c.from_residual.result is

pub returns-clause-goes_on : goal.returns-clause-goes_on
returns-clause-goes_on g c = stays_open c.args.entry.level c.args.entry.action _ c.in_ok-taken.taken _ _ c.in_ok-taken.ensures

pub returns-in_err-taken-clause-stops : goal.returns-in_err-taken-clause-stops
returns-in_err-taken-clause-stops g c =
    let is : c.from_residual.result ≡ Err (stop_of c.in_err-taken.field-0.0) = search rules in
    rw is (is_stopped c.args.entry.level c.args.entry.action _ c.in_err-taken.field-0.0 _ _ c.in_err-taken.ensures)

pub returns-in_err-taken-clause-holds_none : goal.returns-in_err-taken-clause-holds_none
returns-in_err-taken-clause-holds_none g c =
    let is : c.from_residual.result ≡ Err (stop_of c.in_err-taken.field-0.0) = search rules in
    rw is (λ takes. has_none c.args.entry.level c.args.entry.action _ c.in_err-taken.field-0.0 _ _ c.in_err-taken.ensures)

pub returns-clause-failures : goal.returns-clause-failures
returns-clause-failures g c = c.in_ok-taken.ensures.failures

pub returns-in_err-taken-clause-failures : goal.returns-in_err-taken-clause-failures
returns-in_err-taken-clause-failures g c =
    let is : c.from_residual.result ≡ Err (stop_of c.in_err-taken.field-0.0) = search rules in
    rw is (cause_failed c.args.entry.level c.args.entry.action _ c.in_err-taken.field-0.0 _ _ c.in_err-taken.ensures)
