use Rattle.std.proofs.Common.{◌≡◌, take}
use Rattle.std.specs.Prelude.{filter_map}
use Rattle.s3_program.specs.Inner.Given.{firsts}
use Rattle.s3_blame.specs.Inner.Names.{tag_on}
use Rattle.s3_blame.proofs.known.tags_defined.Given as goal

abbrev pub invariant-loop-line : goal.invariant-loop-line
invariant-loop-line l = l.table.entries ≡ firsts (filter_map tag_on (take l.line-index l.lines))
