use Rattle.std.proofs.Common.{◌≡◌}
use Rattle.s3_dump.specs.Inner.Entries.{seen}
use Rattle.s3_dump.specs.Inner.Indexes.{entries_to}
use Rattle.s3_dump.proofs.index.entries_of.Given as goal

abbrev pub invariant-loop-i : goal.invariant-loop-i
invariant-loop-i l = seen l.entries ≡ entries_to l.line l.records l.i
