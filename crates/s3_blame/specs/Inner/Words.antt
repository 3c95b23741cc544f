-- What the number of a diagnostic means.
use Rattle.std.specs.Prelude.{ℕ, List, ◌==◌, if◌then◌else◌, codes}

abbrev pub words_of : (number : ℕ) → List ℕ
words_of number =
    if number == 1 then codes "the card is of no sheet, or out of order"
    else if number == 2 then codes "an entry that isn't in the tables"
    else if number == 3 then codes "a name or literal is ill formed"
    else if number == 4 then codes "a number is wrong, or a position is outside its record"
    else if number == 5 then codes "a name that isn't defined"
    else if number == 6 then codes "defined twice"
    else if number == 7 then codes "an indicator that may not stand there"
    else if number == 8 then codes "an operation or an edit that doesn't fit"
    else if number == 9 then codes "a line out of its place"
    else if number == 10 then codes "a jump or a call that isn't allowed"
    else if number == 11 then codes "match or control fields that disagree"
    else if number == 12 then codes "a file that can't be so, or a line that its file doesn't allow"
    else codes "too many"
