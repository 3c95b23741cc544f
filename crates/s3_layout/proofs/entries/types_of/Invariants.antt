use Rattle.std.proofs.Common.{◌≡◌, ◌++◌, drop}
use Rattle.s3_layout.specs.Inner.Entries.{first, types_from}
use Rattle.s3_layout.proofs.entries.types_of.Given as goal

abbrev pub invariant-loop-line : goal.invariant-loop-line
invariant-loop-line l =
    types_from l.file first l.lines ≡ l.types.items ++ types_from l.file l.place (drop l.line-index l.lines)
