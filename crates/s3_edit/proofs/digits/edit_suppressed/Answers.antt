use Rattle.std.proofs.Common.{arith, ◌≡◌, ◌≢◌, ◌<◌, ◌-◌, ◌/◌, ◌^◌, ◌∙◌, ap, length, below_more, get_or-set_other, get_or-set_same}
use Rattle.s3_edit.proofs.Places.{suppressed, suppressed_digit, tenth}
use Rattle.s3_edit.proofs.digits.edit_suppressed.Goals as goal
use Rattle.s3_edit.proofs.digits.edit_suppressed.Goals.{then-digits-test+else-place-end, else-digits-test}

pub digits-preserved : goal.digits-preserved
digits-preserved c = record {
  within = omega arith;
  left = ap (λ r. r / 10) c.digits.invariant.left ∙ tenth c.args.number c.digits.place;
  written = below_more _ _
      (λ k h. let ne : c.args.end - 1 - k ≢ c.args.end - 1 - c.digits.place = omega arith in rw get_or-set_other (c.digits.invariant.written k h))
      (let lt : c.args.end - 1 - c.digits.place < length c.digits.out = omega arith in rw get_or-set_same (suppressed_digit c.args.number c.digits.place c.digits.rest c.digits.invariant.left c.digits-test.true));
  kept = λ i h. let ne : i ≢ c.args.end - 1 - c.digits.place = omega arith in rw get_or-set_other (c.digits.invariant.kept i h);
}

pub returns-clause-picture : goal.returns-clause-picture
returns-clause-picture c =
    let stop : c.digits.place < c.args.end → c.args.number / 10 ^ c.digits.place ≡ 0 = λ h. elim c.digits-test.branch [
      | then-digits-test+else-place-end w ↦ omega (arith, h, w.if-place-end.false)
      | else-digits-test w ↦ omega (arith, w.digits-test.false, c.digits.invariant.left)
    ] in
    rw c.blank.ensures (suppressed c.args.number c.args.end c.digits.place c.digits.out c.digits.invariant.within stop c.digits.invariant.written)
