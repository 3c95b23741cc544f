use Rattle.std.proofs.Common.{◌≡◌, ◌-◌, ◌+◌, ◌<◌, ◌∙◌, ap, subst, arith}
use Rattle.s3_keyed.specs.KeyOrder.{number_of}
use Rattle.s3_keyed.specs.Inner.KeyOrder.{IsAscending}
use Rattle.s3_keyed.specs.Inner.Shape.{entry_here}
use Rattle.s3_keyed.proofs.Checked.{ascends_more}
use Rattle.s3_keyed.proofs.InMemory.{less_is}
use Rattle.s3_keyed.proofs.check.keys_ascend.Goals as goal

pub returns : goal.returns
returns c = subst (IsAscending (entry_here c.args.key_length c.args.sector.now)) (omega (arith, c.loop-j-test.false, c.loop-j.auto.j-end, c.requires.some)) c.loop-j.invariant.ascending

pub loop-j-preserved : goal.loop-j-preserved
loop-j-preserved c =
    let entry = entry_here c.args.key_length c.args.sector.now in
    let j = c.loop-j.j in
    let back : j ≡ j + 1 - 1 = omega arith in
    let above : number_of c.loop-j.last.bytes < (entry j).key = less_is _ _ c.is_entry_above.result c.is_entry_above.ensures c.if-not-is_entry_above.false in
    record {
      last = c.key_of_entry-last-in-loop-j.ensures.key ∙ ap (λ m. (entry m).key) back;
      short = c.key_of_entry-last-in-loop-j.ensures.short;
      ascending = ascends_more entry j (omega (arith, c.loop-j.auto.j)) c.loop-j.invariant.ascending (subst (λ n. n < (entry j).key) c.loop-j.invariant.last above);
    }
