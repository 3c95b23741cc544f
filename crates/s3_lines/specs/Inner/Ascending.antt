-- Lines in the order of their cards.
use Rattle.std.specs.Prelude.{ℕ, Bool, true, List, [], ◌∷◌, ◌&&◌, nat_lt}
use Rattle.s3_lines.specs.declared.sheet.Line.{Line}

-- whether each line's card is above the one before it, and the first one's above a number
unfoldable pub cards_ascend : ℕ → List Line → Bool
cards_ascend last [] = true
cards_ascend last (line ∷ lines) = nat_lt last line.card && cards_ascend line.card lines
