use Rattle.s3_match.specs.Inner.Keys.{key_in}
use Rattle.s3_match.proofs.ChoiceLemmas.{primary_then_secondary}
use Rattle.s3_match.proofs.choice.select_by_key.Goals as goal

pub returns-clause-least : goal.returns-clause-least
returns-clause-least c = primary_then_secondary c.args.program.now c.args.files.now (key_in c.args.primary_key.now) _ _ c.least_onto-secondary.ensures.least c.least_onto.ensures.least
