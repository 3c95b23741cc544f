use Rattle.std.specs.Prelude.{filter_map, List}
use Rattle.s3_cards.specs.Names.{same_name}
use Rattle.s3_lines.specs.declared.sheet.Line.{Line}
use Rattle.s3_meaning.specs.Source.{file_line}
use Rattle.s3_program.specs.Conditions.{file_places}
use Rattle.s3_compile.specs.Inner.Noted.{place_on, place_behind}
use Rattle.s3_compile.proofs.NoteLemmas.{covers_next}
use Rattle.s3_compile.proofs.NameLemmas.{places_step, place_within}
use Rattle.s3_compile.proofs.file_places.file_places.Goals as goal

pub loop-line-preserved : goal.loop-line-preserved
loop-line-preserved c = record {
  found = covers_next same_name place_on place_behind (λ place (lines : List Line). file_places place (filter_map file_line lines)) places_step c.loop-line.table c.note_place.new.table c.loop-line.place c.place_behind_line-place.result
      c.args.lines.now c.loop-line.line-index _ (file_places 0 (filter_map file_line c.args.lines.now)) c.loop-line-test.true c.place_behind_line-place.ensures c.in_ok-note_place.ensures c.loop-line.invariant.found;
  within = place_within c.loop-line.place c.place_behind_line-place.result c.args.lines.now c.loop-line.line-index _ c.place_behind_line-place.ensures c.loop-line.invariant.within;
}
