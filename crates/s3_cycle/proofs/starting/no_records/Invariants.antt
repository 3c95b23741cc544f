use Rattle.std.proofs.Common.{◌≡◌, replicate}
use Rattle.std.specs.Prelude.{None}
use Rattle.s3_cycle.proofs.starting.no_records.Given as goal

abbrev pub invariant-loop : goal.invariant-loop
invariant-loop l = l.current.items ≡ replicate l.counter None
