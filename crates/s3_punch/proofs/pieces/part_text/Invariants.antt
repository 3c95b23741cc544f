-- The text so far, and what the characters that are left become.
use Rattle.std.proofs.Common.{◌≡◌, ◌++◌, drop, false, map, vec_items}
use Rattle.s3_punch.specs.Inner.Cards.{parted, piece_character}
use Rattle.s3_punch.proofs.pieces.part_text.Given as goal

abbrev pub invariant-loop-character : goal.invariant-loop-character
invariant-loop-character l =
    vec_items l.text ++ parted l.is_quoted (map piece_character (drop l.character-index l.characters)) ≡ parted false (map piece_character l.characters)
