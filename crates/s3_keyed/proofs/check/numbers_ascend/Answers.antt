use Rattle.std.proofs.Common.{◌≡◌, ◌-◌, ◌+◌, ◌∙◌, ap, subst, arith}
use Rattle.s3_keyed.specs.Inner.KeyOrder.{IsAscending}
use Rattle.s3_keyed.specs.Inner.Shape.{entry_here}
use Rattle.s3_keyed.proofs.Checked.{ascends_one, ascends_more, not_ascending}
use Rattle.s3_keyed.proofs.check.numbers_ascend.Goals as goal

pub returns-then-key-last : goal.returns-then-key-last
returns-then-key-last c =
    let entry = entry_here c.args.key_length c.args.sector.now in
    not_ascending entry c.args.entries c.loop-j.j (omega (arith, c.loop-j.auto.j)) c.loop-j-test.true (omega (arith, c.if-key-last.true, c.key_number-key.ensures, c.loop-j.invariant.last))

pub returns : goal.returns
returns c = subst (IsAscending (entry_here c.args.key_length c.args.sector.now)) (omega (arith, c.loop-j-test.false, c.loop-j.auto.j-end, c.requires.some)) c.loop-j.invariant.ascending

pub loop-j-init : goal.loop-j-init
loop-j-init c = record {
  last = c.key_number-last.ensures;
  ascending = ascends_one (entry_here c.args.key_length c.args.sector.now);
}

pub loop-j-preserved : goal.loop-j-preserved
loop-j-preserved c =
    let entry = entry_here c.args.key_length c.args.sector.now in
    let j = c.loop-j.j in
    let back : j ≡ j + 1 - 1 = omega arith in
    record {
      last = c.key_number-key.ensures ∙ ap (λ m. (entry m).key) back;
      ascending = ascends_more entry j (omega (arith, c.loop-j.auto.j)) c.loop-j.invariant.ascending (omega (arith, c.if-key-last.false, c.key_number-key.ensures, c.loop-j.invariant.last));
    }
