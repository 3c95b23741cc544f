use Rattle.std.proofs.Common.{rules, ◌≡◌}
use Rattle.std.specs.Prelude.{Option, Some, None, IfNone}
use Rattle.s3_dump.specs.declared.reading.Mode.{Mode}
use Rattle.s3_dump.proofs.DumpLemmas.{refused_here}
use Rattle.s3_dump.proofs.reading.restore.Goals as goal

none_of : (next : Option Mode) (P : Type 0) → next ≡ None → IfNone next P → P
none_of None P h p = p
none_of (Some mode) P h p = absurd cc

pub returns-in-None-clause-refused : goal.returns-in-None-clause-refused
returns-in-None-clause-refused c =
    refused_here c.args.text.now c.loop-place.place _ _ c.loop-place.mode c.loop-place.bytes.items c.loop-place-test.true (search rules) c.loop-place.invariant
    (none_of c.in_ok-next.field-0 _ c.in-None.is c.in_ok-next.ensures.none) (search rules)
