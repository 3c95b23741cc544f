use Rattle.std.proofs.Common.{◌≤◌, drop}
use Rattle.std.specs.Prelude.{filter_map}
use Rattle.s3_cards.specs.Names.{same_name}
use Rattle.s3_meaning.specs.Source.{file_line}
use Rattle.s3_program.specs.Conditions.{file_places}
use Rattle.s3_compile.proofs.NoteLemmas.{Covers}
use Rattle.s3_compile.proofs.file_places.file_places.Given as goal

abbrev pub invariant-loop-line : goal.invariant-loop-line
invariant-loop-line l = record {
  found : Covers same_name l.table (file_places l.place (filter_map file_line (drop l.line-index l.lines))) (file_places 0 (filter_map file_line l.lines));
  within : l.place ≤ l.line-index;
}
