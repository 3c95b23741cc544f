use Rattle.std.proofs.Common.{◌≡◌, ◌++◌, drop}
use Rattle.s3_layout.specs.Inner.Entries.{entries_from, first}
use Rattle.s3_layout.proofs.entries.entries_meant.Given as goal

abbrev pub invariant-loop-line : goal.invariant-loop-line
invariant-loop-line l =
    entries_from l.file l.record_type first l.lines ≡ l.entries.items ++ entries_from l.file l.record_type l.place (drop l.line-index l.lines)
