-- The content of columns: their codes, whether they are blank, and the number in them.
use Rattle.std.specs.Prelude.{ℕ, ◌-◌, List, Bool, ◌==◌, Option, Some, None, length, drop, map, nat_eq, nat_lt, slice_range, slice_index, if◌then◌else◌}
use Rattle.std.specs.List.{list_all, prefix_len}
use Rattle.std.specs.Cmp.Lexicographic.{pointwise}
use Rattle.std.specs.Int.Digits.{number_from_digits}
use Rattle.s3_cards.specs.declared.ebcdic.TheConstants.{DIGIT_0}
use Rattle.s3_cards.specs.Names.{is_blank, is_digit}
use Rattle.s3_entries.specs.declared.span.Span.{Span}
use Rattle.s3_lines.specs.Ranges.{is_between}

-- the columns from one to another, both counted from 1
abbrev pub columns_between : List ℕ → ℕ → ℕ → List ℕ
columns_between card from to = slice_range card (from - 1) to

-- the columns of an entry
abbrev pub columns : List ℕ → Span → List ℕ
columns card entry = columns_between card entry.from entry.to

-- the code in an entry of one column
abbrev pub column : List ℕ → Span → ℕ
column card entry = slice_index card (entry.from - 1)

abbrev pub same_codes : List ℕ → List ℕ → Bool
same_codes a b = pointwise nat_eq a b

abbrev pub are_blank : List ℕ → Bool
are_blank codes = list_all is_blank codes

-- the value of a digit's code
abbrev pub digit : ℕ → ℕ
digit code = code - DIGIT_0

-- the value, if it passes the test
abbrev pub only : {X : Type 0} → (X → Bool) → Option X → Option X
only test None = None
only test (Some x) = if test x then Some x else None

-- the number that these digits spell; none without digits or with other codes
unfoldable pub digits_number : List ℕ → Option ℕ
digits_number codes =
    if length codes == 0 then None
    else if list_all is_digit codes then Some (number_from_digits 10 (map digit codes))
    else None

-- the number in at most four columns: digits on the right, with blanks or zeros before them
abbrev pub number_of : List ℕ → Option ℕ
number_of codes = if nat_lt 4 (length codes) then None else digits_number (drop (prefix_len is_blank codes) codes)

-- the number in at most four columns, if it is in a range
unfoldable pub number_between : ℕ → ℕ → List ℕ → Option ℕ
number_between low high codes = only (is_between low high) (number_of codes)
