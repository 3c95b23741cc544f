-- The lines of the slots so far.
use Rattle.std.proofs.Common.{◌≡◌, ◌++◌, take, vec_items}
use Rattle.s3_labels.specs.Inner.AreaNumbers.{area_number}
use Rattle.s3_listing.specs.Inner.Listing.{area_text}
use Rattle.s3_labels.specs.Inner.AreaNumbers.{area_number}
use Rattle.s3_listing.proofs.lines.push_area.Given as goal

abbrev pub invariant-loop-slot : goal.invariant-loop-slot
invariant-loop-slot l = vec_items l.text ≡ vec_items l.initial.text ++ area_text (area_number l.area) (take l.slot-index l.slots)
