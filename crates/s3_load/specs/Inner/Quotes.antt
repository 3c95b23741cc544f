-- Quotes around the cells of a table, as a CSV reader takes them.
use Rattle.std.specs.Prelude.{ℕ, ◌+◌, ◌==◌, ◌||◌, Bool, List, [], ◌∷◌, Option, None, Some, if◌then◌else◌}
use Rattle.s3_load.specs.declared.quotes.Reading.{Reading}
use Rattle.s3_load.specs.declared.quotes.Reading.TheVariants.{Start, Plain, Quoted, Closing}

abbrev pub is_quote : ℕ → Bool
is_quote byte = byte == 34

abbrev pub is_line_end : ℕ → Bool
is_line_end byte = (byte == 10) || (byte == 13)

-- the reader's state after a byte outside of quotes
abbrev pub after_plain : (delimiter byte : ℕ) → Reading
after_plain delimiter byte = if (byte == delimiter) || is_line_end byte then Start else Plain

-- the reader's state after a byte at a place; a quote opens quotes only at the start of a cell
abbrev pub after : (delimiter place byte : ℕ) → Reading → Reading
after delimiter place byte Start = if is_quote byte then Quoted place else after_plain delimiter byte
after delimiter place byte Plain = after_plain delimiter byte
after delimiter place byte (Quoted opened) = if is_quote byte then Closing opened else Quoted opened
after delimiter place byte (Closing opened) = if is_quote byte then Quoted opened else after_plain delimiter byte

-- the place of the quotes in which a reader is
abbrev pub opened : Reading → Option ℕ
opened Start = None
opened Plain = None
opened (Quoted place) = Some place
opened (Closing place) = None

-- the reader's state after the bytes from a place on
unfoldable pub reading_from : (delimiter place : ℕ) → Reading → List ℕ → Reading
reading_from delimiter place at [] = at
reading_from delimiter place at (byte ∷ bytes) = reading_from delimiter (place + 1) (after delimiter place byte at) bytes

-- the place of the quote that is never closed, if the table has one
abbrev pub open_quote : (delimiter : ℕ) → List ℕ → Option ℕ
open_quote delimiter text = opened (reading_from delimiter 0 Start text)
