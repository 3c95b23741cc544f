use Rattle.std.proofs.Common.{◌≡◌, ◌∙◌, ◌∷◌, [], sym}
use Rattle.s3_cards.proofs.DeckLemmas.{has_first}
use Rattle.s3_cards.proofs.deck.punch_first.Goals as goal

pub unreachable-requires : goal.unreachable-requires
unreachable-requires c = let first = has_first c.args.text.now c.requires in let e : [] ≡ first.0 ∷ first.1 = sym c.in_default-first_line.ensures.line ∙ first.2 in cc
