use Rattle.std.proofs.Common.{◌≡◌, Err, rules}
use Rattle.s3_bureau.proofs.Closing.{level_closed, level_stopped}
use Rattle.s3_bureau.proofs.bureau.close_level.Goals as goal

pub returns-in_err-close : goal.returns-in_err-close
returns-in_err-close g c =
    let is : c.from_residual.result ≡ Err c.in_err-close.field-0.0 = search rules in
    rw is (level_stopped c.in_err-close.field-0.0 _ _ _ _ _ _ c.args.spool.now c.requires.ready.files.pack c.requires.blocks c.in_err-close.ensures.others c.in_err-close.ensures.rests c.in_err-close.ensures.ends c.in_err-close.ensures.failures
    c.in_err-close.ensures.stays)

pub returns : goal.returns
returns g c =
    level_closed c.drain_all.result _ _ _ _ _ _ _ c.args.spool.now _ c.requires.ready.files.pack c.requires.blocks c.in_ok-close.ensures.world c.in_ok-close.ensures.others c.in_ok-close.ensures.rests
    c.in_ok-close.ensures.failures c.in_ok-close.ensures.stays c.drain_all.ensures.world c.drain_all.ensures.ready c.drain_all.ensures.spares c.drain_all.ensures.keeps c.drain_all.ensures.failures c.drain_all.ensures.id
    c.in_ok-close.ensures.says c.drain_all.ensures.areas c.drain_all.ensures.none
