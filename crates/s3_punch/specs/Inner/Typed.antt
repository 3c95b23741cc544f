-- Where columns of a card are in the plain line that it was punched of.
use Rattle.std.specs.Prelude.{ℕ, ◌+◌, ◌-◌, not, Bool, List, [], length, nat_lt, if◌then◌else◌}
use Rattle.std.specs.List.{fold, list_all}
use Rattle.s3_punch.specs.Inner.Cards.{with_character}
use Rattle.s3_punch.specs.Inner.Characters.{is_tab}

-- one more, if a card ends before a column
abbrev pub more_before : (width column before : ℕ) → ℕ
more_before width column before = if nat_lt width column then before + 1 else before

-- a card, and after how many characters of its line it ended before a column; with one character more
abbrev pub fill_next : (is_of_source : Bool) → (column : ℕ) → List ℕ × ℕ → ℕ → List ℕ × ℕ
fill_next is_of_source column so_far character =
    (with_character is_of_source so_far.0 character, more_before (length (with_character is_of_source so_far.0 character)) column so_far.1)

abbrev pub filled_by : (is_of_source : Bool) → (column : ℕ) → List ℕ → List ℕ × ℕ
filled_by is_of_source column characters = fold (fill_next is_of_source column) ([], 0) characters

-- the column of a line whose card has so many columns
abbrev pub column_after : (width before column : ℕ) → ℕ
column_after width before column = before + (column - 1 - width) + 1

-- the column of a plain line that has a column of its card, or that would have it if the line were longer
abbrev pub column_typed : (is_of_source : Bool) → (column : ℕ) → List ℕ → ℕ
column_typed is_of_source column characters =
    column_after (length (filled_by is_of_source column characters).0) (filled_by is_of_source column characters).1 column

-- whether a line has no tabs
abbrev pub is_without_tabs : List ℕ → Bool
is_without_tabs characters = list_all (λ character. not (is_tab character)) characters
