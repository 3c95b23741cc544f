use Rattle.std.proofs.Common.{◌≡◌, Err, rules}
use Rattle.s3_bureau.proofs.Closing.{both_closed, first_stopped, second_ready, second_stopped}
use Rattle.s3_bureau.proofs.bureau.close_both.Goals as goal

pub returns-in_err-close_level : goal.returns-in_err-close_level
returns-in_err-close_level g c =
    let is : c.from_residual.result ≡ Err c.in_err-close_level.field-0.0 = search rules in
    rw is (first_stopped c.in_err-close_level.field-0.0 _ _ _ _ _ c.requires c.in_err-close_level.ensures)

pub close_level-requires-2-clause-ready : goal.close_level-requires-2-clause-ready
close_level-requires-2-clause-ready g c = second_ready _ _ _ _ _ c.requires c.in_ok-close_level.ensures

pub returns-in_err-close_level-2 : goal.returns-in_err-close_level-2
returns-in_err-close_level-2 g c =
    let is : c.from_residual-in_err-close_level-2.result ≡ Err c.in_err-close_level-2.field-0.0 = search rules in
    rw is (second_stopped c.in_err-close_level-2.field-0.0 _ _ _ _ _ _ _ c.requires c.in_ok-close_level.ensures c.in_err-close_level-2.ensures)

pub returns : goal.returns
returns g c =
    both_closed c.flush.result _ _ _ _ _ _ _ _ _ _ c.requires c.in_ok-close_level.ensures c.in_ok-close_level-2.ensures c.flush.ensures.flushed c.flush.ensures.keeps c.flush.ensures.failures c.flush.ensures.fault
