-- Where the cards of a deck file end.
use Rattle.std.proofs.Common.{◌≡◌, ℕ, List, length, ap, ◌∙◌}
use Rattle.std.specs.Str.{IsTrimAsciiEnd}
use Rattle.s3_decks.specs.Inner.Blanks.{HasCards, cards_end}

pub cards_known : (text front : List ℕ) (len : ℕ) → IsTrimAsciiEnd text front → len ≡ cards_end text (length front) → HasCards text len
cards_known text front len trimmed is = (trimmed.0, trimmed.3, trimmed.4, trimmed.5, is ∙ ap (cards_end text) trimmed.2)
