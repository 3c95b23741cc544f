use Rattle.std.proofs.Common.{◌∙◌, ap, sym}
use Rattle.std.specs.Prelude.{is_some}
use Rattle.s3_program.specs.declared.mark.Key.TheVariants as key
use Rattle.s3_match.proofs.HoldLemmas.{due_with, due_without}
use Rattle.s3_match.proofs.controls.makes_totals_due.Goals as goal

pub returns-in-Some : goal.returns-in-Some
returns-in-Some c = λ program are is.
    due_with program c.args.start c.in-Some.fields.now (c.in-Some.ensures.fields key.Control program are is) (sym (ap is_some c.in-Some.is) ∙ c.of_type.ensures.named key.Control program are is)

pub returns-in-None : goal.returns-in-None
returns-in-None c = λ program are is.
    due_without program c.args.start (sym (ap is_some c.in-None.is) ∙ c.of_type.ensures.named key.Control program are is)
