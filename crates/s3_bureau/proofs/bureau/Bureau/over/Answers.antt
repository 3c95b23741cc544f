use Rattle.std.proofs.Common.{refl}
use Rattle.s3_level.specs.Inner.Holds.{around}
use Rattle.s3_bureau.proofs.Opening.{is_fresh}
use Rattle.s3_bureau.proofs.bureau.Bureau.over.Goals as goal

pub invariant_of-result : goal.invariant_of-result
invariant_of-result g c = λ is.
    let fresh = (is_fresh c.args.pack.areas c.args.pack.pool c.in-Ok.spool c.quota.result c.quota-2.result c.requires.areas c.requires.ready c.in-Ok.ensures.one c.in-Ok.ensures.two c.quota.ensures c.quota-2.ensures) in
    record {
      one_is = c.new-in-Ok.ensures.id;
      two_is = c.new-in-Ok-2.ensures.id;
      one_ready = c.new-in-Ok.ensures.ready (around c.args.pack.areas c.args.pack.pool c.in-Ok.spool) fresh;
      two_ready = c.new-in-Ok-2.ensures.ready (around c.args.pack.areas c.args.pack.pool c.in-Ok.spool) fresh;
      blocks = c.in-Ok.ensures.blocks;
    }

pub returns-in-Ok-clause-one : goal.returns-in-Ok-clause-one
returns-in-Ok-clause-one g c = record {
  goes_on = refl;
  world = c.new-in-Ok.ensures.world (around c.args.pack.areas c.args.pack.pool c.in-Ok.spool) (is_fresh c.args.pack.areas c.args.pack.pool c.in-Ok.spool c.quota.result c.quota-2.result c.requires.areas c.requires.ready c.in-Ok.ensures.one c.in-Ok.ensures.two c.quota.ensures c.quota-2.ensures);
}

pub returns-in-Ok-clause-two : goal.returns-in-Ok-clause-two
returns-in-Ok-clause-two g c = record {
  goes_on = refl;
  world = c.new-in-Ok-2.ensures.world (around c.args.pack.areas c.args.pack.pool c.in-Ok.spool) (is_fresh c.args.pack.areas c.args.pack.pool c.in-Ok.spool c.quota.result c.quota-2.result c.requires.areas c.requires.ready c.in-Ok.ensures.one c.in-Ok.ensures.two c.quota.ensures c.quota-2.ensures);
}
