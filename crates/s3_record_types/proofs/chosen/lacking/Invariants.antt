use Rattle.std.proofs.Common.{◌≡◌, true, take}
use Rattle.std.specs.List.{list_all}
use Rattle.s3_meaning.specs.Selection.{code_holds}
use Rattle.s3_record_types.proofs.chosen.lacking.Given as goal

abbrev pub invariant-loop-code : goal.invariant-loop-code
invariant-loop-code l = list_all (code_holds l.bytes) (take l.code-index l.codes) ≡ true
