use Rattle.s3_slots.specs.declared.label.FileLabel.{FileLabel}
use Rattle.s3_opening.proofs.MadeFiles.{made_is, make_failed, make_leaves}
use Rattle.s3_opening.proofs.starting.make_label.Goals as goal

pub returns-in-Ok-clause-made : goal.returns-in-Ok-clause-made
returns-in-Ok-clause-made g c =
    made_is c.args.level c.args.new.now c.in-Ok.label c.args.pack.now.areas c.make.new.self.areas _ _ c.make.ensures.ready c.in-Ok.ensures.ok c.make.ensures.alone
    c.in-Ok.ensures.label c.in-Ok.ensures.on_pack c.in-Ok.ensures.written c.in-Ok.ensures.blank c.make.ensures.within

pub returns-in-Ok-clause-leaves : goal.returns-in-Ok-clause-leaves
returns-in-Ok-clause-leaves g c = make_leaves _ c.requires.ready c.requires.proper c.make.ensures.ready c.make.ensures.alone c.make.ensures.within c.in-Ok.ensures.says c.in-Ok.ensures.failures

pub returns-in-Err-Sectors-clause-leaves : goal.returns-in-Err-Sectors-clause-leaves
returns-in-Err-Sectors-clause-leaves g c =
    make_leaves _ c.requires.ready c.requires.proper c.make.ensures.ready c.make.ensures.alone c.make.ensures.within tt
    (make_failed FileLabel c.in-Err-Sectors.field-0 c.in-Err-Sectors.fault (g.P.Sectors.state c.args.pack.now.pool) (g.P.Sectors.state c.make.new.self.pool) c.in-Err-Sectors.field-0-is c.in-Err-Sectors.ensures.failures)
