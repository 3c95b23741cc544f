use Rattle.std.proofs.Common.{arith, ◌≢◌, ◌<◌, ◌-◌, length, get_or, slice_set, get_or-set_other, get_or-set_same}
use Rattle.std.proofs.Math.Seq.{lt-length-set}
use Rattle.s3_edit.proofs.ShortLemmas.{pair_digit}
use Rattle.s3_edit.proofs.short_amount.put_pair.Goals as goal

pub returns-clause-digits : goal.returns-clause-digits
returns-clause-digits c = λ place few.
    let ne : c.args.end - 2 ≢ c.args.end - 1 = omega arith in
    let tens : c.args.end - 2 < length c.args.text.now = omega arith in
    let units : c.args.end - 1 < length (slice_set c.args.text.now (c.args.end - 2) (get_or c.pair_of-pair.result 0 0)) = lt-length-set _ _ _ (omega arith) in
    pair_digit c.args.number c.args.end place (slice_set (slice_set c.args.text.now (c.args.end - 2) (get_or c.pair_of-pair.result 0 0)) (c.args.end - 1) (get_or c.pair_of-pair.result 1 0)) (omega arith)
    (rw get_or-set_other (rw get_or-set_same c.pair_of-pair.ensures.tens))
    (rw get_or-set_same c.pair_of-pair.ensures.units) few
