use Rattle.std.proofs.Common.{◌≡◌, drop}
use Rattle.s3_record_types.specs.Inner.Chosen.{type_in}
use Rattle.s3_record_types.proofs.chosen.type_in.Given as goal

abbrev pub invariant-loop-kind : goal.invariant-loop-kind
invariant-loop-kind l = type_in l.kinds l.bytes ≡ type_in (drop l.kind-index l.kinds) l.bytes
