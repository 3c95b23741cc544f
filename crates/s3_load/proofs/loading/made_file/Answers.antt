use Rattle.s3_load.proofs.PlacedFiles.{made_mounted, made_placed, made_space}
use Rattle.s3_load.proofs.loading.made_file.Goals as goal

pub returns-clause-placed : goal.returns-clause-placed
returns-clause-placed c =
    let made = c.in_ok-label.ensures in
    made_placed c.args.order.now c.in_ok-new.new c.args.mounted.now.areas c.make.new.self.areas c.args.mounted.now.pool c.make.new.self.pool c.in_ok-label.label made.written.slot c.requires.anew c.requires.mounted c.make.ensures.ready
    c.in_ok-refuse_damaged.ensures.none
    made.ok c.make.ensures.alone made.written.there made.named made.label made.says c.make.ensures.within.count c.make.ensures.within.contents c.make.ensures.others c.in_ok-new.ensures.asked

pub returns-clause-mounted : goal.returns-clause-mounted
returns-clause-mounted c =
    let made = c.in_ok-label.ensures in
    made_mounted c.args.order.now c.in_ok-new.new c.args.mounted.now.areas c.make.new.self.areas c.args.mounted.now.pool c.make.new.self.pool c.in_ok-label.label made.written.slot c.requires.anew c.requires.mounted c.make.ensures.ready
    c.in_ok-refuse_damaged.ensures.none
    made.ok c.make.ensures.alone made.written.there made.named made.label made.says c.make.ensures.within.count c.make.ensures.within.contents c.make.ensures.others c.in_ok-new.ensures.asked

pub returns-clause-space : goal.returns-clause-space
returns-clause-space c =
    let made = c.in_ok-label.ensures in
    made_space c.args.order.now c.in_ok-new.new c.args.mounted.now.areas c.make.new.self.areas c.args.mounted.now.pool c.make.new.self.pool c.in_ok-label.label made.written.slot c.requires.anew c.requires.mounted c.make.ensures.ready
    c.in_ok-refuse_damaged.ensures.none
    made.ok c.make.ensures.alone made.written.there made.named made.label made.says c.make.ensures.within.count c.make.ensures.within.contents c.make.ensures.others c.in_ok-new.ensures.asked c.args.count c.in_ok-new.ensures.sized
