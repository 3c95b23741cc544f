use Rattle.std.proofs.Common.{length, ◌∙◌, ap, map}
use Rattle.std.specs.Prelude.{filter, List}
use Rattle.std.specs.List.{range_with_len}
use Rattle.s3_program.specs.declared.starts.TypeStart.{TypeStart}
use Rattle.s3_program.specs.declared.starts.OutputStart.{OutputStart}
use Rattle.s3_program.specs.declared.starts.Walk.{Walk}
use Rattle.s3_program.specs.declared.starts.Walk.TheVariants as walk
use Rattle.s3_program.specs.Inner.Starts.{types_of_file, is_walked}
use Rattle.s3_program.proofs.starting.starts_of.Goals as goal

put : Walk → List OutputStart → List OutputStart
put w starts = filter (λ start. is_walked w start.kind) starts

pub returns : goal.returns
unfolding put
returns c = record {
  types = c.in_ok-types_by_file.ensures ∙ ap (λ (starts : List TypeStart). map (types_of_file starts) (range_with_len 0 (length c.args.files.now))) (c.deref.ensures.value ∙ c.in_ok-types.ensures);
  beginning = c.in_ok-walked.ensures ∙ ap (put walk.Beginning) (c.deref-2.ensures.value ∙ c.in_ok-lines.ensures);
  totals = c.in_ok-walked-2.ensures ∙ ap (put walk.Totals) (c.deref-3.ensures.value ∙ c.in_ok-lines.ensures);
  exceptions = c.in_ok-walked-3.ensures ∙ ap (put walk.Exceptions) (c.deref-4.ensures.value ∙ c.in_ok-lines.ensures);
  overflow = c.in_ok-walked-4.ensures ∙ ap (put walk.Overflow) (c.deref-5.ensures.value ∙ c.in_ok-lines.ensures);
  sections = λ i. record { totals = c.totals.ensures i; subroutines = c.subroutines.ensures i };
}
