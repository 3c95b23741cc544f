-- The items so far are read as the texts so far.
use Rattle.std.proofs.Common.{◌≡◌, take, map, Some}
use Rattle.std.specs.String.{string_bytes}
use Rattle.json.specs.Find.{as_str}
use Rattle.json.specs.Value.{items_view}
use Rattle.s3_day_log.specs.Inner.Members.{read_each}
use Rattle.s3_day_log.proofs.reading.texts_of_list.Given as goal

abbrev pub invariant-loop-item : goal.invariant-loop-item
invariant-loop-item l = read_each as_str (items_view (take l.item-index l.list)) ≡ Some (map string_bytes l.texts.items)
