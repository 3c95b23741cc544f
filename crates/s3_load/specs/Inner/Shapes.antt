-- A file that is replaced has the shape of the new one.
use Rattle.std.specs.Prelude.{◌≡◌, ℕ, ◌==◌, ◌&&◌, ◌||◌, Bool, true, List, Ok}
use Rattle.s3_slots.specs.Header.{mounted}
use Rattle.s3_slots.specs.Slots.{standing}
use Rattle.s3_slots.specs.declared.header.Header.{Header}
use Rattle.s3_slots.specs.declared.label.FileLabel.{FileLabel}
use Rattle.s3_slots.specs.declared.slot.Standing.{Standing}
use Rattle.s3_slots.specs.declared.slot.Standing.TheVariants.{Absent, Blocked, Present}
use Rattle.s3_labels.specs.Inner.Areas.{areas_on, slots_at}
use Rattle.s3_load.specs.declared.order.Order.{Order}
use Rattle.s3_load.specs.Inner.Loaded.{has_key}

-- a file has the record length and the key of the order
abbrev pub has_shape : Order → FileLabel → Bool
has_shape order label = has_key order.key label && (label.record_length == order.layout.now.record_length)

-- the existing file is kept, or has the shape of the new one, unless the order allows another shape
abbrev pub keeps_shape : Order → Standing → Bool
keeps_shape order (Present label) = order.appends || order.reshapes || has_shape order label
keeps_shape order Absent = true
keeps_shape order Blocked = true

-- the same statement for a pack, if it can be mounted
abbrev pub KeepsShape : Order → (contents : List (List ℕ)) → Type 0
KeepsShape order contents = (header : Header) → mounted contents ≡ Ok header → keeps_shape order (standing order.name (slots_at order.level (areas_on header contents))) ≡ true
