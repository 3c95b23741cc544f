-- Where tabs go to.
use Rattle.std.specs.Prelude.{ℕ, ◌+◌, ◌-◌, ◌*◌, ◌/◌, ◌==◌, List, ◌++◌, Bool, Option, Some, None, find, length, nat_lt, replicate, slice_index, unwrap_or, if◌then◌else◌}
use Rattle.s3_punch.specs.declared.stops.TheConstants.{SHEET_STARTS, HEADER_STARTS, FILE_STARTS, INPUT_STARTS, CALCULATION_STARTS, OUTPUT_STARTS}

-- the columns in which the entries of a sheet begin, by its letter
abbrev pub starts_of : ℕ → Option (List ℕ)
starts_of letter =
    if letter == 72 then Some HEADER_STARTS else if letter == 70 then Some FILE_STARTS else if letter == 73 then Some INPUT_STARTS
    else if letter == 67 then Some CALCULATION_STARTS else if letter == 79 then Some OUTPUT_STARTS else None

-- the same for a card as far as it is written: up to column 5 its sheet isn't known, and begins in column 6
abbrev pub starts_on : List ℕ → Option (List ℕ)
starts_on card = if nat_lt (length card) 5 then Some SHEET_STARTS else starts_of (slice_index card 5)

-- how many columns are filled in front of the next of these starts, or of column 97
abbrev pub up_to_start : List ℕ → ℕ → ℕ
up_to_start starts width = unwrap_or (find (λ start. nat_lt (width + 1) start) starts) 97 - 1

-- how many columns are filled in front of the next one of columns 9, 17, 25 and so on
abbrev pub up_to_eighth : ℕ → ℕ
up_to_eighth width = (width / 8 + 1) * 8

abbrev pub up_to_stop : Option (List ℕ) → ℕ → ℕ
up_to_stop None width = up_to_eighth width
up_to_stop (Some starts) width = up_to_start starts width

-- a card as far as it is written, with blanks up to the next stop of its sheet, or of each card that is of none
abbrev pub tabbed : Bool → List ℕ → List ℕ
tabbed is_source card = card ++ replicate (up_to_stop (if is_source then starts_on card else None) (length card) - length card) 32
