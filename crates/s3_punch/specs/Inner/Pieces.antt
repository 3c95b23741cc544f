-- Pieces and what is left of them, as the reader has them.
use Rattle.std.specs.Prelude.{ℕ, List, [], Option, Some, None}
use Rattle.std.specs.List.{slice_split}
use Rattle.s3_punch.specs.Inner.Cards.{is_zero}
use Rattle.s3_punch.specs.declared.pieces.Piece.{Piece}

abbrev pub piece_seen : Piece → ℕ × List ℕ
piece_seen piece = (piece.column, piece.text.now)

-- the parts of what is left of a text
abbrev pub parts_left : Option (List ℕ) → List (List ℕ)
parts_left None = []
parts_left (Some text) = slice_split is_zero text
