-- The file of a label in an area of a pack.
use Rattle.std.specs.Prelude.{◌≡◌, ℕ, List, Ok}
use Rattle.s3_cards.specs.declared.name.Name.{Name}
use Rattle.s3_slots.specs.Header.{mounted}
use Rattle.s3_slots.specs.Slots.{standing}
use Rattle.s3_slots.specs.declared.header.Header.{Header}
use Rattle.s3_slots.specs.declared.label.FileLabel.{FileLabel}
use Rattle.s3_slots.specs.declared.slot.Standing.TheVariants.{Present}
use Rattle.s3_labels.specs.Inner.AreaNumbers.{area_number}
use Rattle.s3_labels.specs.Inner.Areas.{areas_on, slots_in}
use Rattle.s3_labels.specs.declared.area.Area.{Area}

-- a mount of the sectors finds this file for the label in the area
pub record IsFound (area : Area) (name : Name) (contents : List (List ℕ)) (label : FileLabel) : Type 0 where
  pub header : Header
  pub is_mounted : mounted contents ≡ Ok header
  pub stands : standing name (slots_in (area_number area) (areas_on header contents)) ≡ Present label
