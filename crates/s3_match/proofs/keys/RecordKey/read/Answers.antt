use Rattle.std.proofs.Common.{◌∙◌, ap, sym}
use Rattle.std.specs.Prelude.{is_some}
use Rattle.s3_program.specs.declared.mark.Key.TheVariants as key
use Rattle.s3_match.proofs.KeyLemmas.{key_of_type, no_key}
use Rattle.s3_match.proofs.NamedLemmas.{none_of_unnamed}
use Rattle.s3_match.proofs.keys.RecordKey.read.Goals as goal

pub returns-in-Some : goal.returns-in-Some
returns-in-Some c = λ program are is.
    c.read_fields.ensures ∙ key_of_type program c.args.start c.in-Some.fields.now c.args.bytes.now (c.in-Some.ensures.fields key.Match program are is)

pub returns-in-None : goal.returns-in-None
returns-in-None c = λ program are is.
    sym (no_key program c.args.start c.args.bytes.now (none_of_unnamed program c.args.start key.Match is (sym (c.of_type.ensures.named key.Match program are is) ∙ ap is_some c.in-None.is)))
