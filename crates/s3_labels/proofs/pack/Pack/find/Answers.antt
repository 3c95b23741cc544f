use Rattle.std.proofs.Common.{sym, ap, ◌∙◌}
use Rattle.s3_slots.specs.Slots.{standing}
use Rattle.s3_slots.specs.declared.slot.Standing.TheVariants.{Absent, Blocked, Present}
use Rattle.s3_labels.specs.Inner.Areas.{slots_at}
use Rattle.s3_labels.proofs.Makes.{found_behind, found_own}
use Rattle.s3_labels.proofs.Regions.{master_on_pack, own_on_pack}
use Rattle.s3_labels.proofs.pack.Pack.find.Goals as goal

pub returns-in-Present-clause-value : goal.returns-in-Present-clause-value
returns-in-Present-clause-value g c =
    let areas = c.args.self.now.areas in
    found_own c.args.name (slots_at c.args.level areas) areas.masters _ (c.in-Present.ensures ∙ ap (standing c.args.name) c.slots.ensures.slots)

pub returns-in-Present-clause-on_pack : goal.returns-in-Present-clause-on_pack
returns-in-Present-clause-on_pack g c = λ ready.
    own_on_pack c.args.level c.args.self.now.areas _ c.args.name c.in-Present.label (sym (c.in-Present.ensures ∙ ap (standing c.args.name) c.slots.ensures.slots)) ready

pub returns-in-Blocked-clause-value : goal.returns-in-Blocked-clause-value
returns-in-Blocked-clause-value g c =
    let areas = c.args.self.now.areas in
    found_own c.args.name (slots_at c.args.level areas) areas.masters _ (c.in-Blocked.ensures ∙ ap (standing c.args.name) c.slots.ensures.slots)

pub returns-in-Blocked-clause-on_pack : goal.returns-in-Blocked-clause-on_pack
returns-in-Blocked-clause-on_pack g c = λ _. tt

pub returns-in-Present-standing_of-clause-value : goal.returns-in-Present-standing_of-clause-value
returns-in-Present-standing_of-clause-value g c =
    let areas = c.args.self.now.areas in
    found_behind c.args.name (slots_at c.args.level areas) areas.masters (Present c.in-Present-standing_of.label) (c.in-Absent.ensures ∙ ap (standing c.args.name) c.slots.ensures.slots) cc

pub returns-in-Present-standing_of-clause-on_pack :
    goal.returns-in-Present-standing_of-clause-on_pack
returns-in-Present-standing_of-clause-on_pack g c = λ ready.
    master_on_pack c.args.self.now.areas (g.P.Sectors.state c.args.self.now.pool).contents c.args.name c.in-Present-standing_of.label (cc) ready

pub returns-in-Blocked-standing_of-clause-value : goal.returns-in-Blocked-standing_of-clause-value
returns-in-Blocked-standing_of-clause-value g c =
    let areas = c.args.self.now.areas in
    found_behind c.args.name (slots_at c.args.level areas) areas.masters Blocked (c.in-Absent.ensures ∙ ap (standing c.args.name) c.slots.ensures.slots) cc

pub returns-in-Blocked-standing_of-clause-on_pack :
    goal.returns-in-Blocked-standing_of-clause-on_pack
returns-in-Blocked-standing_of-clause-on_pack g c = λ _. tt

pub returns-in-Absent-standing_of-clause-value : goal.returns-in-Absent-standing_of-clause-value
returns-in-Absent-standing_of-clause-value g c =
    let areas = c.args.self.now.areas in
    found_behind c.args.name (slots_at c.args.level areas) areas.masters Absent (c.in-Absent.ensures ∙ ap (standing c.args.name) c.slots.ensures.slots) cc

pub returns-in-Absent-standing_of-clause-on_pack :
    goal.returns-in-Absent-standing_of-clause-on_pack
returns-in-Absent-standing_of-clause-on_pack g c = λ _. tt
