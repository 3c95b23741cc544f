-- Whether a column so far has 0.
use Rattle.std.proofs.Common.{◌≡◌, take}
use Rattle.std.specs.Prelude.{◌==◌}
use Rattle.std.specs.List.{list_any}
use Rattle.s3_cards.proofs.deck.lacks_code.Given as goal

abbrev pub invariant-loop-code : goal.invariant-loop-code
invariant-loop-code l = l.lacks ≡ list_any (λ code. code == 0) (take l.code-index l.card)
