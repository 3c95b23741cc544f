use Rattle.std.proofs.Common.{◌∙◌, ap, sym, arith}
use Rattle.s3_slots.specs.Slots.{standing}
use Rattle.s3_load.proofs.LoadedPacks.{counted_is}
use Rattle.s3_load.proofs.loading.set_count.Goals as goal

pub returns-clause-counted : goal.returns-clause-counted
returns-clause-counted c =
    counted_is c.args.order.now.level c.args.order.now.name c.args.count c.args.mounted.now.areas c.args.mounted.now.pool c.set_count.new.self.pool c.in-Present.label c.requires.mounted
    (sym (c.standing_of.ensures ∙ ap (standing c.args.order.now.name) c.slots.ensures.slots) ∙ c.in-Present.is) (sym c.may_have.ensures ∙ c.if-not-may_have.false) (omega arith) c.in_ok-set_count.ensures.written c.set_count.ensures.others
    c.set_count.ensures.within.count c.set_count.ensures.within.contents
