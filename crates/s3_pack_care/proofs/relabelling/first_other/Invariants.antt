use Rattle.std.proofs.Common.{◌≡◌, ◌≢◌, ◌<◌, ℕ, true, slice_get}
use Rattle.s3_labels.specs.Inner.Areas.{slots_in}
use Rattle.s3_labels.specs.Inner.AreaNumbers.{area_number}
use Rattle.s3_pack_care.specs.Inner.Kept.{alike}
use Rattle.s3_pack_care.proofs.relabelling.first_other.Given as goal

abbrev pub invariant-loop-i : goal.invariant-loop-i
invariant-loop-i l = (k : ℕ) → k < l.i → k ≢ l.written → alike (slice_get (slots_in (area_number l.area) l.old) k) (slice_get (slots_in (area_number l.area) l.new) k) ≡ true
