use Rattle.std.proofs.Common.{◌≡◌, ◌&&◌, not, false, slice_get}
use Rattle.std.specs.Prelude.{nat_eq}
use Rattle.s3_labels.specs.Inner.Areas.{slots_in}
use Rattle.s3_labels.specs.Inner.AreaNumbers.{area_number}
use Rattle.s3_pack_care.specs.Inner.Kept.{alike}
use Rattle.s3_pack_care.proofs.Changed.{others_on}
use Rattle.s3_pack_care.proofs.relabelling.first_other.Goals as goal

pub loop-i-preserved : goal.loop-i-preserved
loop-i-preserved c =
    let same : not (nat_eq c.loop-i.i c.args.written) && not (alike (slice_get (slots_in (area_number c.args.area) c.args.old.now) c.loop-i.i) (slice_get (slots_in (area_number c.args.area) c.args.new.now) c.loop-i.i)) ≡ false = cc in
    λ k few differ. others_on c.args.old.now c.args.new.now (area_number c.args.area) c.args.written c.loop-i.i c.loop-i.invariant same k few differ
