use Rattle.std.proofs.Common.{◌≡◌, drop}
use Rattle.std.specs.Prelude.{find}
use Rattle.s3_record_types.specs.Inner.Chosen.{codes_in, is_kind}
use Rattle.s3_record_types.proofs.chosen.codes_of.Given as goal

abbrev pub invariant-loop-kind : goal.invariant-loop-kind
invariant-loop-kind l = find (is_kind l.indicator) l.kinds ≡ find (is_kind l.indicator) (drop l.kind-index l.kinds)
