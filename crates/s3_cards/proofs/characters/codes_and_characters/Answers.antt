use Rattle.s3_cards.proofs.CodeLemmas.{both_ways}
use Rattle.s3_cards.proofs.characters.codes_and_characters.Goals as goal

pub returns : goal.returns
returns c = both_ways
