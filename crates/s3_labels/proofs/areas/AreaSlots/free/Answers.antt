use Rattle.std.proofs.Common.{List, length, drop, sym, ap, ◌∙◌}
use Rattle.s3_slots.specs.declared.slot.Slot.{Slot}
use Rattle.s3_slots.proofs.Ranges.{take_all}
use Rattle.s3_labels.specs.Inner.Areas.{Areas}
use Rattle.s3_labels.proofs.areas.AreaSlots.free.Goals as goal

pub returns-in-One : goal.returns-in-One
returns-in-One c =
    let back = take_all c.self.inside.level_one.len c.free.new.slots (drop (length c.free.new.slots) c.self.inside.level_one.items) (rw c.deref_mut.ensures.value at c.free.auto.slots ∙ sym c.self.inside.level_one.ok.0) in
    let set = λ (slots : List Slot). let areas : Areas = record { header = c.self.inside.header; masters = c.self.inside.masters.items; level_one = slots; level_two = c.self.inside.level_two.items } in areas in
    rw (← c.self.view_is, c.in-One.is, back) (ap set (rw c.deref_mut.ensures.value at c.free.ensures))

pub returns-in-Two : goal.returns-in-Two
returns-in-Two c =
    let back = take_all c.self.inside.level_two.len c.free-in-Two.new.slots (drop (length c.free-in-Two.new.slots) c.self.inside.level_two.items) (rw c.deref_mut-in-Two.ensures.value at c.free-in-Two.auto.slots ∙ sym c.self.inside.level_two.ok.0) in
    let set = λ (slots : List Slot). let areas : Areas = record { header = c.self.inside.header; masters = c.self.inside.masters.items; level_one = c.self.inside.level_one.items; level_two = slots } in areas in
    rw (← c.self.view_is, c.in-Two.is, back) (ap set (rw c.deref_mut-in-Two.ensures.value at c.free-in-Two.ensures))
