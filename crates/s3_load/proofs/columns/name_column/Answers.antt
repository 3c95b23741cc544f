use Rattle.s3_load.proofs.OwnerLemmas.{one_more_among}
use Rattle.s3_load.proofs.columns.name_column.Goals as goal

pub returns-in_ok-push-in-Some-2-clause-named : goal.returns-in_ok-push-in-Some-2-clause-named
returns-in_ok-push-in-Some-2-clause-named c = λ none. record { field = c.in-Some-2.field; column = c.in-Some-2.ensures; added = c.in_ok-push-in-Some-2.ensures.items }

pub returns-in_ok-push-in-Some-2-clause-among : goal.returns-in_ok-push-in-Some-2-clause-among
returns-in_ok-push-in-Some-2-clause-among c = one_more_among c.args.fields.now _ _ c.in-Some-2.field c.requires c.in-Some-2.ensures.there c.in_ok-push-in-Some-2.ensures.items
