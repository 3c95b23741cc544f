use Rattle.std.proofs.Common.{◌≡◌, ◌++◌, drop}
use Rattle.s3_meaning.specs.Names.{entries}
use Rattle.s3_meaning.specs.RecordTypes.{further_codes}
use Rattle.s3_layout.proofs.kinds.codes_of.Given as goal

abbrev pub invariant-loop-line : goal.invariant-loop-line
invariant-loop-line l = entries l.first ++ further_codes l.lines ≡ l.codes.items ++ further_codes (drop l.line-index l.lines)
