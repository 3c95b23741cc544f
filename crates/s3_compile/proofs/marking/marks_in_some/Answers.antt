use Rattle.std.proofs.Common.{◌∙◌, ap, arith}
use Rattle.s3_program.specs.Matching.{same_group_mark, some_marks_from, same_type}
use Rattle.s3_program.specs.Standings.{first_input, behind_input}
use Rattle.s3_program.specs.declared.standing.InputStanding.{InputStanding}
use Rattle.indexmap.specs.IndexSet.{contains}
use Rattle.s3_compile.specs.Inner.Noted.{some_on}
use Rattle.s3_compile.proofs.NoteLemmas.{covers_next, some_step, next_place}
use Rattle.s3_compile.proofs.marking.marks_in_some.Goals as goal

pub loop-line-preserved : goal.loop-line-preserved
loop-line-preserved c = record {
  found = covers_next same_group_mark (some_on (contains same_type c.args.types.now)) behind_input (some_marks_from (contains same_type c.args.types.now)) (some_step (contains same_type c.args.types.now)) c.loop-line.table c.note_in_some.new.table c.loop-line.at c.behind_input-at.result c.args.lines.now c.loop-line.line-index _
      ((some_marks_from (contains same_type c.args.types.now)) first_input c.args.lines.now) c.loop-line-test.true c.behind_input-at.ensures c.in_ok-note_in_some.ensures c.loop-line.invariant.found;
  within = (let p = c.loop-line.invariant.within in let e = ap (λ (s : InputStanding). s.place) c.behind_input-at.ensures ∙ next_place c.loop-line.at _ in omega (arith, p, e));
}
