-- What a printed line shows.
use Rattle.std.specs.Prelude.{ℕ, List, map}
use Rattle.s3_cards.specs.Codes.{shown_byte}
use Rattle.s3_cards.specs.Printed.{Printed, trimmed}

-- the characters of a line, without the blanks at its end
unfoldable pub shown : Printed → List ℕ
shown line = map shown_byte (trimmed line.text)
