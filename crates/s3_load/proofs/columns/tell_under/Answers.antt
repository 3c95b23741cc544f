use Rattle.s3_load.proofs.OwnerLemmas.{clear_free}
use Rattle.s3_load.proofs.columns.tell_under.Goals as goal

pub returns-in-0-clause-clear : goal.returns-in-0-clause-clear
returns-in-0-clause-clear c = λ none. clear_free c.args.named.now c.args.field.now c.args.owners.now c.requires.owners (c.first_owner.ensures c.in-0.is)
