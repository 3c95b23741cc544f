-- The shape of a file that is replaced, by what a pack has.
use Rattle.std.proofs.Common.{◌≡◌, ℕ, true, List, Ok, ap, ap₂, sym, ◌∙◌}
use Rattle.std.specs.Prelude.{Result}
use Rattle.s3_slots.specs.Header.{mounted}
use Rattle.s3_slots.specs.Slots.{standing}
use Rattle.s3_labels.specs.Inner.Areas.{Areas, areas_on, slots_at}
use Rattle.s3_pack_care.specs.Inner.Kept.{IsMounted}
use Rattle.s3_load.specs.declared.order.Order.{Order}
use Rattle.s3_load.specs.Inner.Shapes.{KeepsShape, keeps_shape}

same_ok : {X E : Type 0} (x y : X) (r : Result X E) → r ≡ Ok x → r ≡ Ok y → x ≡ y
same_ok x y r one other = cc

pub shape_on : (order : Order) (areas : Areas) (pool contents : List (List ℕ)) → IsMounted areas pool → pool ≡ contents → keeps_shape order (standing order.name (slots_at order.level areas)) ≡ true → KeepsShape order contents
shape_on order areas pool contents is same keeps = λ header mounts.
    let at : areas.header ≡ header = same_ok areas.header header (mounted contents) (sym (ap mounted same) ∙ is.mounts) mounts in
    let on : areas ≡ areas_on header contents = is.judged ∙ ap₂ areas_on at same in
    sym (ap (λ (a : Areas). keeps_shape order (standing order.name (slots_at order.level a))) on) ∙ keeps
