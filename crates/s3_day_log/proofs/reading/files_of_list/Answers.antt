use Rattle.std.proofs.Common.{option_map, ap, sym, ◌∙◌}
use Rattle.s3_day_log.specs.Inner.Events.{file_of}
use Rattle.s3_day_log.specs.Inner.Lines.{file_at}
use Rattle.s3_day_log.proofs.ListLemmas.{each_more, none_at}
use Rattle.s3_day_log.proofs.reading.files_of_list.Goals as goal

pub returns-in-None : goal.returns-in-None
returns-in-None c = none_at file_at c.args.list.now c.loop-item.item-index c.item-item.result c.loop-item-test.true c.item-item.is (sym c.in_ok-file.ensures ∙ ap (option_map file_of) c.in-None.is)

pub loop-item-preserved : goal.loop-item-preserved
loop-item-preserved c =
    each_more file_at file_of c.args.list.now c.loop-item.item-index c.item-item.result c.loop-item.files.items c.push.new.self.items c.in-Some.file c.loop-item-test.true c.item-item.is
    (sym c.in_ok-file.ensures ∙ ap (option_map file_of) c.in-Some.is) c.in_ok-push-in-Some.ensures.items c.loop-item.invariant
