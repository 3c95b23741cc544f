-- The characters so far.
use Rattle.std.proofs.Common.{◌≡◌, ◌≤◌, take, vec_items}
use Rattle.s3_punch.specs.Inner.Typed.{filled_by}
use Rattle.s3_punch.proofs.typed.fill_of.Given as goal

abbrev pub invariant-loop-character : goal.invariant-loop-character
invariant-loop-character l =
    (vec_items l.card ≡ (filled_by l.is_source l.column (take l.character-index l.characters)).0)
    × (l.before ≡ (filled_by l.is_source l.column (take l.character-index l.characters)).1)
    × (l.before ≤ l.character-index)
