use Rattle.std.proofs.Common.{Some, ap, sym, ◌∙◌}
use Rattle.std.specs.String.{string_bytes}
use Rattle.json.specs.Find.{as_str}
use Rattle.s3_day_log.proofs.ListLemmas.{each_more, none_at}
use Rattle.s3_day_log.proofs.reading.texts_of_list.Goals as goal

pub returns-in-None : goal.returns-in-None
returns-in-None c = none_at as_str c.args.list.now c.loop-item.item-index c.item-item.result c.loop-item-test.true c.item-item.is (sym c.in-None.ensures)

pub loop-item-preserved : goal.loop-item-preserved
loop-item-preserved c =
    each_more as_str string_bytes c.args.list.now c.loop-item.item-index c.item-item.result c.loop-item.texts.items c.push.new.self.items c.in_ok-from_str-in-Some.field-0 c.loop-item-test.true c.item-item.is
    (sym c.in-Some.ensures ∙ ap Some (sym c.in_ok-from_str-in-Some.ensures.ok)) c.in_ok-push-in-Some.ensures.items c.loop-item.invariant
