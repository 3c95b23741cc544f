-- The items so far are read as the files so far.
use Rattle.std.proofs.Common.{◌≡◌, take, map, Some}
use Rattle.json.specs.Value.{items_view}
use Rattle.s3_day_log.specs.Inner.Events.{file_of}
use Rattle.s3_day_log.specs.Inner.Lines.{file_at}
use Rattle.s3_day_log.specs.Inner.Members.{read_each}
use Rattle.s3_day_log.proofs.reading.files_of_list.Given as goal

abbrev pub invariant-loop-item : goal.invariant-loop-item
invariant-loop-item l = read_each file_at (items_view (take l.item-index l.list)) ≡ Some (map file_of l.files.items)
