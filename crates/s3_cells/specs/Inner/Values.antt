-- The values of fields: what bytes say, which bytes say them, and the cells of a table that show them.
use Rattle.std.specs.Prelude.{◌≡◌, ℕ, ℤ, ◌-◌, ◌*◌, ◌^◌, ◌&&◌, ◌||◌, nat_eq, nat_le, nat_lt, not, Bool, true, false, List, [], length, map, unsigned_abs, Option, Some, pos}
use Rattle.std.specs.Option.{option_map}
use Rattle.std.specs.List.{list_all}
use Rattle.s3_cards.specs.Codes.{shown_byte}
use Rattle.s3_decimal.specs.Exact.{is_negative}
use Rattle.s3_decimal.specs.Records.{has_bad_digit, packed_bytes, packed_digits, packed_number, zoned_bytes, zoned_digits, zoned_number}
use Rattle.s3_cells.specs.Inner.Dates.{IsDateAsWritten, date_bytes, date_in, date_read, date_text, has_no_date, is_date, is_date_or_none}
use Rattle.s3_cells.specs.Inner.Marks.{guarded, marked, plain_number, text_read}
use Rattle.s3_cells.specs.Inner.Numbers.{number_read, number_text}
use Rattle.s3_cells.specs.Inner.Texts.{has_character, has_code, text_bytes, trimmed}
use Rattle.s3_cells.specs.declared.dates.DateField.TheVariants.{Text as TextDate, Number as NumberDate}
use Rattle.s3_cells.specs.declared.kind.FieldKind.{FieldKind}
use Rattle.s3_cells.specs.declared.kind.FieldKind.TheVariants.{Text as TextKind, Zoned, Packed, Date}

-- a text of characters, which a date is too, or a number in units of its field's last decimal
pub data Value : Type 0 where
  Characters : List ℕ → Value
  Number : ℤ → Value

-- a field of so many bytes may lie so
abbrev pub is_kind_of : FieldKind → (width : ℕ) → Bool
is_kind_of (TextKind cells) width = nat_le 1 width && nat_le width 256
is_kind_of (Zoned decimals cells) width = nat_le 1 width && nat_le width 15 && nat_le decimals 9 && nat_le decimals width
is_kind_of (Packed decimals cells) width = nat_le 1 width && nat_le width 8 && nat_le decimals 9 && nat_lt decimals (2 * width)
is_kind_of (Date form) width = nat_eq width 6

-- ---- of bytes
-- each byte of a text has a character, no digit of a number is above 9, and a field of a date has one or none
abbrev pub is_shown_in : FieldKind → List ℕ → Bool
is_shown_in (TextKind cells) bytes = list_all has_character bytes
is_shown_in (Zoned decimals cells) bytes = not (has_bad_digit (zoned_digits bytes))
is_shown_in (Packed decimals cells) bytes = not (has_bad_digit (packed_digits bytes))
is_shown_in (Date form) bytes = has_no_date form bytes || is_date (map shown_byte bytes)

abbrev pub value_in : FieldKind → List ℕ → Value
value_in (TextKind cells) bytes = Characters (trimmed (map shown_byte bytes))
value_in (Zoned decimals cells) bytes = Number (zoned_number bytes)
value_in (Packed decimals cells) bytes = Number (packed_number bytes)
value_in (Date form) bytes = Characters (date_in form bytes)

-- the bytes of a number, or of no date, are those that are written for it
abbrev pub IsAsWritten : FieldKind → List ℕ → Type 0
IsAsWritten (TextKind cells) bytes = Unit {0}
IsAsWritten (Zoned decimals cells) bytes = bytes ≡ zoned_bytes (is_negative (zoned_number bytes)) (length bytes) (unsigned_abs (zoned_number bytes))
IsAsWritten (Packed decimals cells) bytes = bytes ≡ packed_bytes (is_negative (packed_number bytes)) (length bytes) (unsigned_abs (packed_number bytes))
IsAsWritten (Date form) bytes = IsDateAsWritten form bytes

-- ---- of values
-- a text has no blanks at its end
abbrev pub IsTidy : Value → Type 0
IsTidy (Characters text) = trimmed text ≡ text
IsTidy (Number value) = Unit {0}

-- a text of characters that cards have, in a field of so many bytes
abbrev pub is_text_of : (width : ℕ) → List ℕ → Bool
is_text_of width text = nat_le (length text) width && list_all has_code text

-- a field of so many bytes can hold it
abbrev pub is_held : FieldKind → (width : ℕ) → Value → Bool
is_held (TextKind cells) width (Characters text) = is_text_of width text
is_held (Zoned decimals cells) width (Number value) = nat_lt (unsigned_abs value) (10 ^ width)
is_held (Packed decimals cells) width (Number value) = nat_lt (unsigned_abs value) (10 ^ (2 * width - 1))
is_held (Zoned decimals cells) width (Characters text) = false
is_held (Packed decimals cells) width (Characters text) = false
is_held (TextKind cells) width (Number value) = false
is_held (Date form) width (Characters text) = is_date_or_none text
is_held (Date form) width (Number value) = false

-- the bytes that are written for it
abbrev pub bytes_of : FieldKind → (width : ℕ) → Value → List ℕ
bytes_of (TextKind cells) width (Characters text) = text_bytes width text
bytes_of (Zoned decimals cells) width (Number value) = zoned_bytes (is_negative value) width (unsigned_abs value)
bytes_of (Packed decimals cells) width (Number value) = packed_bytes (is_negative value) width (unsigned_abs value)
bytes_of (Zoned decimals cells) width (Characters text) = []
bytes_of (Packed decimals cells) width (Characters text) = []
bytes_of (TextKind cells) width (Number value) = []
bytes_of (Date form) width (Characters text) = date_bytes form width text
bytes_of (Date form) width (Number value) = []

-- the bytes of a field that no column has: 0 for a number, no date for a date that is a number; those of a text as they were
abbrev pub zeroed_bytes : FieldKind → List ℕ → List ℕ
zeroed_bytes (TextKind cells) bytes = bytes
zeroed_bytes (Zoned decimals cells) bytes = bytes_of (Zoned decimals cells) (length bytes) (Number (pos 0))
zeroed_bytes (Packed decimals cells) bytes = bytes_of (Packed decimals cells) (length bytes) (Number (pos 0))
zeroed_bytes (Date TextDate) bytes = bytes
zeroed_bytes (Date NumberDate) bytes = date_bytes NumberDate (length bytes) []

-- ---- of cells
abbrev pub cell_text : FieldKind → Value → List ℕ
cell_text (TextKind cells) (Characters text) = guarded cells text
cell_text (Zoned decimals cells) (Number value) = marked cells (number_text decimals value)
cell_text (Packed decimals cells) (Number value) = marked cells (number_text decimals value)
cell_text (Zoned decimals cells) (Characters text) = []
cell_text (Packed decimals cells) (Characters text) = []
cell_text (TextKind cells) (Number value) = []
cell_text (Date form) (Characters text) = date_text text
cell_text (Date form) (Number value) = []

-- the value that a cell says
abbrev pub value_read : FieldKind → List ℕ → Option Value
value_read (TextKind cells) cell = Some (Characters (text_read cells cell))
value_read (Zoned decimals cells) cell = option_map Number (number_read decimals (plain_number cells cell))
value_read (Packed decimals cells) cell = option_map Number (number_read decimals (plain_number cells cell))
value_read (Date form) cell = option_map Characters (date_read cell)

-- bytes get the value that a cell says
pub record GetsValue (kind : FieldKind) (cell : List ℕ) (width : ℕ) (bytes : List ℕ) : Type 0 where
  pub value : Value
  pub said : value_read kind cell ≡ Some value
  pub held : is_held kind width value ≡ true
  pub written : bytes ≡ bytes_of kind width value

-- bytes get a text
pub record GetsText (text : List ℕ) (width : ℕ) (bytes : List ℕ) : Type 0 where
  pub held : is_text_of width text ≡ true
  pub written : bytes ≡ text_bytes width text

-- a cell says no value, or one that so many bytes can't hold
abbrev pub SaysNone : FieldKind → List ℕ → (width : ℕ) → Type 0
SaysNone kind cell width = (value : Value) → value_read kind cell ≡ Some value → is_held kind width value ≡ false
