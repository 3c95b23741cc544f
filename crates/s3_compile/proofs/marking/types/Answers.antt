use Rattle.std.proofs.Common.{◌∙◌, ap, arith}
use Rattle.s3_program.specs.Matching.{same_type, types_from}
use Rattle.s3_program.specs.Standings.{first_input, behind_input}
use Rattle.s3_program.specs.declared.standing.InputStanding.{InputStanding}
use Rattle.s3_program.specs.Matching.{type_on}
use Rattle.std.specs.Option.{option_to_list}
use Rattle.s3_compile.proofs.NoteLemmas.{covers_keys_next, types_step, next_place}
use Rattle.s3_compile.proofs.marking.types.Goals as goal

pub loop-line-preserved : goal.loop-line-preserved
loop-line-preserved c = record {
  found = covers_keys_next same_type (λ at line. option_to_list (type_on at line)) behind_input types_from types_step c.loop-line.types c.note_type.new.types c.loop-line.at c.behind_input-at.result c.args.lines.now c.loop-line.line-index _
      (types_from first_input c.args.lines.now) c.loop-line-test.true c.behind_input-at.ensures c.in_ok-note_type.ensures c.loop-line.invariant.found;
  within = (let p = c.loop-line.invariant.within in let e = ap (λ (s : InputStanding). s.place) c.behind_input-at.ensures ∙ next_place c.loop-line.at _ in omega (arith, p, e));
}
