use Rattle.std.proofs.Common.{◌+◌, ◌∙◌, drop, sym, ap, subst}
use Rattle.std.specs.Prelude.{IfSome, IsTrue}
use Rattle.s3_lines.specs.Inner.Ranges.{field_in_range}
use Rattle.s3_match.specs.Inner.Fields.{first_field}
use Rattle.s3_match.proofs.FieldLemmas.{field_ranged}
use Rattle.s3_match.proofs.fields.field_of_type.Goals as goal

pub returns-clause-ranged : goal.returns-clause-ranged
returns-clause-ranged c =
    subst (λ o. IfSome o (λ field. IsTrue (field_in_range field)))
    (sym (c.first_field.ensures ∙ ap (λ inputs. first_field c.in_ok-indicator.indicator c.args.key c.args.level (drop (c.args.place + 1) inputs)) c.deref.ensures.value))
    (field_ranged c.args.program.now (c.args.place + 1) c.in_ok-indicator.indicator c.args.key c.args.level)
