use Rattle.std.proofs.Common.{◌∙◌, ap, arith}
use Rattle.s3_program.specs.Matching.{same_type_mark, type_marks_from}
use Rattle.s3_program.specs.Standings.{first_input, behind_input}
use Rattle.s3_program.specs.declared.standing.InputStanding.{InputStanding}
use Rattle.s3_compile.specs.Inner.Noted.{in_type_on}
use Rattle.s3_compile.proofs.NoteLemmas.{covers_next, type_step, next_place}
use Rattle.s3_compile.proofs.marking.marks_in_type.Goals as goal

pub loop-line-preserved : goal.loop-line-preserved
loop-line-preserved c = record {
  found = covers_next same_type_mark in_type_on behind_input type_marks_from type_step c.loop-line.table c.note_in_type.new.table c.loop-line.at c.behind_input-at.result c.args.lines.now c.loop-line.line-index _
      (type_marks_from first_input c.args.lines.now) c.loop-line-test.true c.behind_input-at.ensures c.in_ok-note_in_type.ensures c.loop-line.invariant.found;
  within = (let p = c.loop-line.invariant.within in let e = ap (λ (s : InputStanding). s.place) c.behind_input-at.ensures ∙ next_place c.loop-line.at _ in omega (arith, p, e));
}
