use Rattle.std.proofs.Common.{◌∙◌, ap, refl, arith}
use Rattle.s3_load.specs.Inner.KeyOrder.{key_in}
use Rattle.s3_load.specs.Inner.Reasons.{HasSameKey}
use Rattle.s3_load.proofs.KeyLemmas.{same_key}
use Rattle.s3_load.proofs.ReasonLemmas.{reports_one}
use Rattle.s3_load.proofs.table.tell_same_key.Goals as goal

pub returns-in_ok-add-in-Equal : goal.returns-in_ok-add-in-Equal
returns-in_ok-add-in-Equal c = record {
  behind = λ none. absurd (omega (arith, c.add.ensures.some, none));
  before = λ none. absurd (omega (arith, c.add.ensures.some, none));
  reported = reports_one (HasSameKey c.args.key c.args.one.now c.args.next.now) _ c.args.faults.now c.add.new.self record {
    same = same_key c.args.key c.args.one.now c.args.next.now c.order_by.result c.order_by.ensures c.in-Equal.is c.requires.sorted;
    line = refl;
    reason = (refl, c.in_ok-codes-in-Equal.ensures.items ∙ c.key_in.ensures ∙ ap (key_in c.args.key) c.deref.ensures.value);
  } c.in_ok-add-in-Equal.ensures.adds;
}
