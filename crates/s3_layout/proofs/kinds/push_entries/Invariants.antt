use Rattle.std.proofs.Common.{◌≡◌, ◌++◌, drop}
use Rattle.s3_meaning.specs.Names.{entries}
use Rattle.s3_layout.proofs.kinds.push_entries.Given as goal

abbrev pub invariant-loop-code : goal.invariant-loop-code
invariant-loop-code l = l.initial.codes.items ++ entries l.line ≡ l.codes.items ++ entries (drop l.code-index l.line)
