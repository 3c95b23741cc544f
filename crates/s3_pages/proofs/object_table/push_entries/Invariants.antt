-- The entries so far.
use Rattle.std.proofs.Common.{◌≡◌, ◌++◌, take, vec_items}
use Rattle.std.specs.List.{flat_map}
use Rattle.s3_pages.specs.Inner.Objects.{entry_text}
use Rattle.s3_pages.proofs.object_table.push_entries.Given as goal

abbrev pub invariant-loop-start : goal.invariant-loop-start
invariant-loop-start l = vec_items l.text ≡ vec_items l.initial.text ++ flat_map entry_text (take l.start-index l.starts)
