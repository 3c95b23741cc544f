use Rattle.std.proofs.Common.{List, length, drop, refl, sym, ap, ◌∙◌}
use Rattle.s3_slots.specs.declared.slot.Slot.{Slot}
use Rattle.s3_slots.proofs.Ranges.{take_all}
use Rattle.s3_labels.specs.Inner.Areas.{Areas}
use Rattle.s3_labels.proofs.Outcomes.{err_map}
use Rattle.s3_labels.proofs.areas.AreaSlots.make.Goals as goal

pub make_in-requires-clause-fits : goal.make_in-requires-clause-fits
make_in-requires-clause-fits c = rw (← c.self.view_is, c.in-One.is) at c.requires.fits

pub make_in-requires-clause-whole : goal.make_in-requires-clause-whole
make_in-requires-clause-whole c = rw (← c.self.view_is, c.in-One.is) at c.requires.whole

pub returns-in-One-clause-ok : goal.returns-in-One-clause-ok
returns-in-One-clause-ok c =
    let back = take_all c.self.inside.level_one.len c.make_in.new.slots (drop (length c.make_in.new.slots) c.self.inside.level_one.items) (rw c.deref_mut.ensures.value at c.make_in.auto.slots ∙ sym c.self.inside.level_one.ok.0) in
    rw (← c.self.view_is, c.in-One.is, back) (rw (c.deref.ensures.value, c.deref_mut.ensures.value) at c.make_in.ensures.ok)

pub returns-in-One-clause-err : goal.returns-in-One-clause-err
returns-in-One-clause-err c = rw (← c.self.view_is, c.in-One.is) (rw (c.deref.ensures.value, c.deref_mut.ensures.value) at c.make_in.ensures.err)

pub returns-in-One-clause-same : goal.returns-in-One-clause-same
returns-in-One-clause-same c =
    let back = take_all c.self.inside.level_one.len c.make_in.new.slots (drop (length c.make_in.new.slots) c.self.inside.level_one.items) (rw c.deref_mut.ensures.value at c.make_in.auto.slots ∙ sym c.self.inside.level_one.ok.0) in
    rw (← c.self.view_is, back) (err_map _ _ c.make_in.result (λ same. ap (λ (slots : List Slot). let areas : Areas = record { header = c.self.inside.header; masters = c.self.inside.masters.items; level_one = slots; level_two = c.self.inside.level_two.items } in areas) (same ∙ c.deref_mut.ensures.value)) c.make_in.ensures.same)

pub returns-in-One-clause-alone : goal.returns-in-One-clause-alone
returns-in-One-clause-alone c = rw (← c.self.view_is, c.in-One.is) refl

pub returns-in-One-clause-there : goal.returns-in-One-clause-there
returns-in-One-clause-there c =
    let back = take_all c.self.inside.level_one.len c.make_in.new.slots (drop (length c.make_in.new.slots) c.self.inside.level_one.items) (rw c.deref_mut.ensures.value at c.make_in.auto.slots ∙ sym c.self.inside.level_one.ok.0) in
    rw (c.in-One.is, back) c.make_in.ensures.there

pub returns-in-One-clause-slot : goal.returns-in-One-clause-slot
returns-in-One-clause-slot c = rw (← c.self.view_is, c.in-One.is) (rw c.deref_mut.ensures.value at c.make_in.ensures.slot)

pub returns-in-One-clause-old : goal.returns-in-One-clause-old
returns-in-One-clause-old c = rw (← c.self.view_is, c.in-One.is) (rw c.deref_mut.ensures.value at c.make_in.ensures.old)

pub returns-in-One-clause-within : goal.returns-in-One-clause-within
returns-in-One-clause-within c = rw (c.deref_mut.ensures.value, c.self.invariant.1.0) at c.make_in.ensures.within

pub returns-in-One-clause-freed : goal.returns-in-One-clause-freed
returns-in-One-clause-freed c = rw (c.deref_mut.ensures.value, c.self.invariant.1.0) at c.make_in.ensures.freed

pub returns-in-One-clause-placed : goal.returns-in-One-clause-placed
returns-in-One-clause-placed c = rw (← c.self.view_is, c.in-One.is) c.make_in.ensures.placed

pub returns-in-One-clause-named : goal.returns-in-One-clause-named
returns-in-One-clause-named c = c.make_in.ensures.named

pub returns-in-One-clause-label : goal.returns-in-One-clause-label
returns-in-One-clause-label c = c.make_in.ensures.label

pub make_in-requires-in-Two-clause-fits : goal.make_in-requires-in-Two-clause-fits
make_in-requires-in-Two-clause-fits c = rw (← c.self.view_is, c.in-Two.is) at c.requires.fits

pub make_in-requires-in-Two-clause-whole : goal.make_in-requires-in-Two-clause-whole
make_in-requires-in-Two-clause-whole c = rw (← c.self.view_is, c.in-Two.is) at c.requires.whole

pub returns-in-Two-clause-ok : goal.returns-in-Two-clause-ok
returns-in-Two-clause-ok c =
    let back = take_all c.self.inside.level_two.len c.make_in-in-Two.new.slots (drop (length c.make_in-in-Two.new.slots) c.self.inside.level_two.items) (rw c.deref_mut-in-Two.ensures.value at c.make_in-in-Two.auto.slots ∙ sym c.self.inside.level_two.ok.0) in
    rw (← c.self.view_is, c.in-Two.is, back) (rw (c.deref-in-Two.ensures.value, c.deref_mut-in-Two.ensures.value) at c.make_in-in-Two.ensures.ok)

pub returns-in-Two-clause-err : goal.returns-in-Two-clause-err
returns-in-Two-clause-err c = rw (← c.self.view_is, c.in-Two.is) (rw (c.deref-in-Two.ensures.value, c.deref_mut-in-Two.ensures.value) at c.make_in-in-Two.ensures.err)

pub returns-in-Two-clause-same : goal.returns-in-Two-clause-same
returns-in-Two-clause-same c =
    let back = take_all c.self.inside.level_two.len c.make_in-in-Two.new.slots (drop (length c.make_in-in-Two.new.slots) c.self.inside.level_two.items) (rw c.deref_mut-in-Two.ensures.value at c.make_in-in-Two.auto.slots ∙ sym c.self.inside.level_two.ok.0) in
    rw (← c.self.view_is, back) (err_map _ _ c.make_in-in-Two.result (λ same. ap (λ (slots : List Slot). let areas : Areas = record { header = c.self.inside.header; masters = c.self.inside.masters.items; level_one = c.self.inside.level_one.items; level_two = slots } in areas) (same ∙ c.deref_mut-in-Two.ensures.value)) c.make_in-in-Two.ensures.same)

pub returns-in-Two-clause-alone : goal.returns-in-Two-clause-alone
returns-in-Two-clause-alone c = rw (← c.self.view_is, c.in-Two.is) refl

pub returns-in-Two-clause-there : goal.returns-in-Two-clause-there
returns-in-Two-clause-there c =
    let back = take_all c.self.inside.level_two.len c.make_in-in-Two.new.slots (drop (length c.make_in-in-Two.new.slots) c.self.inside.level_two.items) (rw c.deref_mut-in-Two.ensures.value at c.make_in-in-Two.auto.slots ∙ sym c.self.inside.level_two.ok.0) in
    rw (c.in-Two.is, back) c.make_in-in-Two.ensures.there

pub returns-in-Two-clause-slot : goal.returns-in-Two-clause-slot
returns-in-Two-clause-slot c = rw (← c.self.view_is, c.in-Two.is) (rw c.deref_mut-in-Two.ensures.value at c.make_in-in-Two.ensures.slot)

pub returns-in-Two-clause-old : goal.returns-in-Two-clause-old
returns-in-Two-clause-old c = rw (← c.self.view_is, c.in-Two.is) (rw c.deref_mut-in-Two.ensures.value at c.make_in-in-Two.ensures.old)

pub returns-in-Two-clause-within : goal.returns-in-Two-clause-within
returns-in-Two-clause-within c = rw (c.deref_mut-in-Two.ensures.value, c.self.invariant.1.1) at c.make_in-in-Two.ensures.within

pub returns-in-Two-clause-freed : goal.returns-in-Two-clause-freed
returns-in-Two-clause-freed c = rw (c.deref_mut-in-Two.ensures.value, c.self.invariant.1.1) at c.make_in-in-Two.ensures.freed

pub returns-in-Two-clause-placed : goal.returns-in-Two-clause-placed
returns-in-Two-clause-placed c = rw (← c.self.view_is, c.in-Two.is) c.make_in-in-Two.ensures.placed

pub returns-in-Two-clause-named : goal.returns-in-Two-clause-named
returns-in-Two-clause-named c = c.make_in-in-Two.ensures.named

pub returns-in-Two-clause-label : goal.returns-in-Two-clause-label
returns-in-Two-clause-label c = c.make_in-in-Two.ensures.label
