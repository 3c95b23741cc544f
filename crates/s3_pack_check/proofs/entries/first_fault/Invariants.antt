use Rattle.std.proofs.Common.{◌≡◌, ◌-◌}
use Rattle.std.specs.List.{range_with_len}
use Rattle.s3_pack_check.specs.Inner.Entries.{first_fault, first_of, wrong_entry}
use Rattle.s3_pack_check.proofs.entries.first_fault.Given as goal

abbrev pub invariant-loop-i : goal.invariant-loop-i
invariant-loop-i l = first_of (wrong_entry l.label l.bytes) (range_with_len l.i (l.label.count - l.i)) ≡ first_fault l.label l.bytes
