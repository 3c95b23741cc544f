use Rattle.std.proofs.Common.{◌∙◌, sym}
use Rattle.s3_amend.proofs.fields.name_field.Goals as goal

pub returns-clause-named : goal.returns-clause-named
returns-clause-named c = λ none. record { field = c.in-Some.field; named = c.in-Some.ensures; unkeyed = sym c.is_in_key.ensures ∙ c.if-is_in_key.false; added = c.in_ok-push.ensures.items }
