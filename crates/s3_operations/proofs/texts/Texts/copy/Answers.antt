use Rattle.std.proofs.Common.{◌≡◌, ◌≤◌, ℕ, ap, subst, length, ◌∙◌}
use Rattle.std.specs.List.{copy_within}
use Rattle.s3_operations.specs.Inner.Texts.{Area}
use Rattle.s3_operations.proofs.TextLemmas.{lies_inside, part_copied, within_area, room_inside}
use Rattle.s3_operations.proofs.texts.Texts.copy.Goals as goal

pub lay_within-requires-clause-source_within : goal.lay_within-requires-clause-source_within
lay_within-requires-clause-source_within c = within_area _ _ _ c.deref_mut.ensures.value (lies_inside c.self.inside.spans.items c.self.inside.bytes.items c.args.self.now c.args.from c.self.view_is c.requires.lies).below

pub lay_within-requires-clause-target_within : goal.lay_within-requires-clause-target_within
lay_within-requires-clause-target_within c = within_area _ _ _ c.deref_mut.ensures.value (room_inside c.self.inside.spans.items c.self.inside.bytes.items c.args.self.now _ c.self.view_is c.requires.room)

pub returns : goal.returns
returns c =
    let lies = lies_inside c.self.inside.spans.items c.self.inside.bytes.items c.args.self.now c.args.from c.self.view_is c.requires.lies in
    let laid =
    part_copied c.self.inside.bytes c.deref_mut.result.now c.lay_within.new.bytes c.args.from.from c.args.from.to c.args.to c.deref_mut.ensures.value lies.some lies.below
    (subst (λ (n : ℕ). n ≤ length c.self.inside.bytes.items) c.requires.target (room_inside c.self.inside.spans.items c.self.inside.bytes.items c.args.self.now _ c.self.view_is c.requires.room)) c.lay_within.ensures in
    let moved : ◌≡◌ {A = Area} _ _ = λ i. record { spans = c.self.inside.spans.items; bytes = laid i } in
    moved ∙ ap (λ (area : Area). record area { bytes = copy_within area.bytes c.args.from.from c.args.from.to c.args.to }) c.self.view_is
