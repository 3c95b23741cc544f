-- The card of the characters so far.
use Rattle.std.proofs.Common.{◌≡◌, [], take, vec_items}
use Rattle.std.specs.List.{fold}
use Rattle.s3_punch.specs.Inner.Cards.{with_character}
use Rattle.s3_punch.proofs.layout.lay_out.Given as goal

abbrev pub invariant-loop-character : goal.invariant-loop-character
invariant-loop-character l = vec_items l.card ≡ fold (with_character l.is_source) [] (take l.character-index l.characters)
