use Rattle.std.proofs.Common.{◌∙◌, ap, sym}
use Rattle.std.specs.Prelude.{is_some}
use Rattle.s3_program.specs.declared.mark.Key.TheVariants as key
use Rattle.s3_match.specs.Inner.Controls.{held_in}
use Rattle.s3_match.proofs.HoldLemmas.{none_breaks, none_is_held}
use Rattle.s3_match.proofs.NamedLemmas.{none_of_unnamed}
use Rattle.s3_match.proofs.controls.Controls.break_and_hold.Goals as goal

pub returns-in-Some-clause-level : goal.returns-in-Some-clause-level
returns-in-Some-clause-level c = λ program are is. (c.hold.ensures program c.args.start is (c.in-Some.ensures.fields key.Control program are is)).breaks

pub returns-in-Some-clause-held : goal.returns-in-Some-clause-held
returns-in-Some-clause-held c = λ program are is. (c.hold.ensures program c.args.start is (c.in-Some.ensures.fields key.Control program are is)).held

pub returns-in-None-clause-level : goal.returns-in-None-clause-level
returns-in-None-clause-level c = λ program are is.
    none_breaks program c.args.start c.args.bytes.now (held_in c.args.self.now.held)
    (none_of_unnamed program c.args.start key.Control is (sym (c.of_type.ensures.named key.Control program are is) ∙ ap is_some c.in-None.is))

pub returns-in-None-clause-held : goal.returns-in-None-clause-held
returns-in-None-clause-held c = λ program are is.
    none_is_held program c.args.start c.args.bytes.now (held_in c.args.self.now.held)
    (none_of_unnamed program c.args.start key.Control is (sym (c.of_type.ensures.named key.Control program are is) ∙ ap is_some c.in-None.is))
