use Rattle.std.proofs.Common.{◌≡◌, ◌<◌, ℕ, true, slice_get}
use Rattle.s3_labels.specs.Inner.Areas.{slots_in}
use Rattle.s3_labels.specs.Inner.AreaNumbers.{area_number}
use Rattle.s3_pack_care.specs.Inner.Kept.{IsOther, alike}
use Rattle.s3_pack_care.proofs.relabelling.first_changed.Given as goal

abbrev pub invariant-loop-a : goal.invariant-loop-a
invariant-loop-a l = (k i : ℕ) → k < l.a → IsOther (area_number l.fn.area) l.slot k i → alike (slice_get (slots_in k l.old) i) (slice_get (slots_in k l.new) i) ≡ true
