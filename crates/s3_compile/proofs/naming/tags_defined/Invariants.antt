use Rattle.std.proofs.Common.{◌≡◌, drop}
use Rattle.std.specs.Prelude.{filter_map}
use Rattle.s3_meaning.specs.Source.{calculation_line}
use Rattle.s3_program.specs.Inner.Given.{all_noted, firsts}
use Rattle.s3_program.specs.Standings.{first_calculation}
use Rattle.s3_diagnose.specs.Inner.Early.{IsWithin}
use Rattle.s3_diagnose.specs.Lookups.{tags_from}
use Rattle.s3_compile.proofs.naming.tags_defined.Given as goal

abbrev pub invariant-loop-line : goal.invariant-loop-line
invariant-loop-line l = record {
  found : all_noted l.table.entries (tags_from l.at (filter_map calculation_line (drop l.line-index l.lines))) ≡ firsts (tags_from first_calculation (filter_map calculation_line l.lines));
  within : IsWithin l.line-index l.at;
}
