-- A label that is found is one of the pack.
use Rattle.std.proofs.Common.{◌≡◌, ℕ, List, length}
use Rattle.s3_cards.specs.declared.levels.LevelId.TheVariants.{One, Two}
use Rattle.s3_cards.specs.declared.name.Name.{Name}
use Rattle.s3_slots.specs.Inner.Kept.{IsOfPack}
use Rattle.s3_slots.specs.Slots.{standing}
use Rattle.s3_slots.specs.declared.label.FileLabel.{FileLabel}
use Rattle.s3_slots.specs.declared.slot.Standing.TheVariants.{Present}
use Rattle.s3_labels.specs.Inner.Areas.{Areas, IsReady, slots_in}
use Rattle.s3_labels.proofs.Regions.{master_on_pack, own_on_pack}
use Rattle.s3_labels.specs.Inner.AreaNumbers.{area_number}
use Rattle.s3_labels.specs.declared.area.Area.{Area}
use Rattle.s3_labels.specs.declared.area.Area.TheVariants.{Masters, Level}

pub found_on_pack : (area : Area) (areas : Areas) (contents : List (List ℕ)) (name : Name) (label : FileLabel) → standing name (slots_in (area_number area) areas) ≡ Present label → IsReady areas contents → IsOfPack (length contents) label
found_on_pack Masters areas contents name label stands ready = master_on_pack areas contents name label stands ready
found_on_pack (Level One) areas contents name label stands ready = own_on_pack One areas contents name label stands ready
found_on_pack (Level Two) areas contents name label stands ready = own_on_pack Two areas contents name label stands ready
