-- Dates: six digits MMDDYY in a record, YYYY-MM-DD in a cell. The years are 1900 to 1999.
use Rattle.std.specs.Prelude.{◌≡◌, ℕ, ◌+◌, ◌*◌, ◌%◌, ◌==◌, ◌&&◌, ◌||◌, nat_le, not, Bool, false, List, [], ◌∷◌, get_or, length, map, replicate, Option, Some, None, if◌then◌else◌}
use Rattle.std.specs.List.{list_all}
use Rattle.s3_cards.specs.Codes.{ebcdic, shown_byte}
use Rattle.s3_cards.specs.declared.ebcdic.TheConstants.{BLANK, DIGIT_0}
use Rattle.s3_cells.specs.Inner.Numbers.{digit_value, is_digit}
use Rattle.s3_cells.specs.declared.dates.DateField.{DateField}
use Rattle.s3_cells.specs.declared.dates.DateField.TheVariants.{Text as TextDate, Number as NumberDate}

-- ---- the calendar
abbrev pub two : (tens ones : ℕ) → ℕ
two tens ones = digit_value tens * 10 + digit_value ones

abbrev pub days_in : (year month : ℕ) → ℕ
days_in year month =
    if month == 2 then (if (year % 4 == 0) && not (year == 0) then 29 else 28)
    else (if (month == 4) || (month == 6) || (month == 9) || (month == 11) then 30 else 31)

abbrev pub is_day : (month day year : ℕ) → Bool
is_day month day year = nat_le 1 month && nat_le month 12 && nat_le 1 day && nat_le day (days_in year month)

-- the number of the two characters from a place on
abbrev pub two_at : (place : ℕ) → List ℕ → ℕ
two_at place text = two (get_or text place 0) (get_or text (place + 1) 0)

-- six digits are the month, the day and the year of a date
unfoldable pub is_date : List ℕ → Bool
is_date text = (length text == 6) && list_all is_digit text && is_day (two_at 0 text) (two_at 2 text) (two_at 4 text)

-- ---- fields of dates
-- the byte that is written into a field without a date
abbrev pub none_of : DateField → ℕ
none_of TextDate = BLANK
none_of NumberDate = DIGIT_0

-- all bytes are this one
abbrev pub are_all : (byte : ℕ) → List ℕ → Bool
are_all byte bytes = list_all (λ other. other == byte) bytes

-- a field has no date: it has the bytes that are written for none, or is blank
abbrev pub has_no_date : DateField → List ℕ → Bool
has_no_date form bytes = are_all (none_of form) bytes || are_all BLANK bytes

-- if a field has no date, its bytes are those that are written for none
abbrev pub IsDateAsWritten : DateField → List ℕ → Type 0
IsDateAsWritten TextDate bytes = Unit {0}
IsDateAsWritten NumberDate bytes = are_all BLANK bytes ≡ false

-- the date in a field's bytes, as its six characters; none of a field without one
abbrev pub date_in : DateField → List ℕ → List ℕ
date_in form bytes = if has_no_date form bytes then [] else map shown_byte bytes

-- the bytes of a date, or of none, in a field of so many bytes
abbrev pub date_bytes : DateField → (width : ℕ) → List ℕ → List ℕ
date_bytes form width [] = replicate width (none_of form)
date_bytes form width (first ∷ rest) = ebcdic (first ∷ rest)

-- none, or a date
abbrev pub is_date_or_none : List ℕ → Bool
is_date_or_none text = (length text == 0) || is_date text

-- ---- cells of dates
-- 19YY-MM-DD; an empty cell without a date
abbrev pub date_text : List ℕ → List ℕ
date_text date =
    if length date == 0 then []
    else 49 ∷ 57 ∷ get_or date 4 0 ∷ get_or date 5 0 ∷ 45 ∷ get_or date 0 0 ∷ get_or date 1 0 ∷ 45 ∷ get_or date 2 0 ∷ get_or date 3 0 ∷ []

-- a cell has the form 19YY-MM-DD
abbrev pub has_form : List ℕ → Bool
has_form cell = (length cell == 10) && (get_or cell 0 0 == 49) && (get_or cell 1 0 == 57) && (get_or cell 4 0 == 45) && (get_or cell 7 0 == 45)

-- the month, the day and the year of such a cell
abbrev pub date_of : List ℕ → List ℕ
date_of cell = get_or cell 5 0 ∷ get_or cell 6 0 ∷ get_or cell 8 0 ∷ get_or cell 9 0 ∷ get_or cell 2 0 ∷ get_or cell 3 0 ∷ []

-- the date that a cell says
abbrev pub date_read : List ℕ → Option (List ℕ)
date_read cell = if length cell == 0 then Some [] else (if has_form cell && is_date (date_of cell) then Some (date_of cell) else None)
