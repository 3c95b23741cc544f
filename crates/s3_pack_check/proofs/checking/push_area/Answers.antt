use Rattle.std.proofs.Common.{◌++◌, ap, ◌∙◌, refl, arith}
use Rattle.s3_pack_check.specs.Inner.Wrongs.{slot_wrongs}
use Rattle.s3_pack_check.proofs.Told.{begun, gone_on, ended}
use Rattle.s3_pack_check.proofs.checking.push_area.Goals as goal

pub loop-i-init : goal.loop-i-init
loop-i-init g c = record {
  told = begun c.args.areas.now c.args.area (g.P.Sectors.state c.args.pool.now).contents c.args.wrongs.now.items;
  keeps = refl;
}

pub loop-i-preserved : goal.loop-i-preserved
loop-i-preserved g c = record {
  told =
      gone_on (slot_wrongs c.args.areas.now c.args.area (g.P.Sectors.state c.args.pool.now).contents) _ c.loop-i.wrongs.items c.push_slot.new.wrongs.items c.loop-i.i c.loop-i-test.true c.loop-i.invariant.told
      (c.in_ok-push_slot.ensures.ok ∙ ap (λ k. c.loop-i.wrongs.items ++ slot_wrongs c.args.areas.now c.args.area k c.loop-i.i) c.loop-i.invariant.keeps);
  keeps = c.in_ok-push_slot.ensures.keeps ∙ c.loop-i.invariant.keeps;
}

pub returns-clause-ok : goal.returns-clause-ok
returns-clause-ok g c =
    ended (slot_wrongs c.args.areas.now c.args.area (g.P.Sectors.state c.args.pool.now).contents) _ c.loop-i.wrongs.items c.loop-i.i (omega arith) c.loop-i.invariant.told
