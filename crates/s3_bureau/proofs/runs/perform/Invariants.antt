-- The commands so far were performed, and the bureau is open.
use Rattle.std.proofs.Common.{◌≡◌, take, true}
use Rattle.s3_bureau.specs.Inner.Held.{held_by, is_open}
use Rattle.std.specs.List.{flat_map}
use Rattle.s3_bureau.specs.Inner.Underway.{KeepSaying, Leaves, Performs}
use Rattle.s3_bureau.specs.Script.{entries_by}
use Rattle.s3_bureau.proofs.runs.perform.Given as goal

abbrev pub invariant-loop-command : goal.invariant-loop-command
invariant-loop-command g l =
    Performs (flat_map entries_by (take l.command-index l.commands)) (held_by l.initial.bureau) (held_by l.bureau)
    × ((is_open l.bureau ≡ true)
    × (Leaves (flat_map entries_by (take l.command-index l.commands)) l.initial.bureau l.bureau × ((l.bureau.beside.state.failures ≡ l.initial.bureau.beside.state.failures) × KeepSaying l.initial.bureau l.bureau)))
