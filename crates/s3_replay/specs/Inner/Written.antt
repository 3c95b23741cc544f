-- The script of entries that were performed.
use Rattle.std.specs.Prelude.{◌≡◌, ℕ, ◌+◌, ◌/◌, ◌%◌, ◌==◌, nat_lt, Bool, true, List, [], ◌∷◌, ◌++◌, replicate, decimal, if◌then◌else◌, Result, Ok, Err}
use Rattle.std.specs.List.{flat_map, list_all}
use Rattle.std.specs.Str.Lines.{lines}
use Rattle.s3_cards.specs.declared.levels.LevelId.{LevelId}
use Rattle.s3_cards.specs.declared.levels.LevelId.TheVariants.{One, Two}
use Rattle.s3_solo.specs.declared.action.Action.{Action}
use Rattle.s3_solo.specs.declared.action.Action.TheVariants.{Turn, Reply, Drain}
use Rattle.s3_bureau.specs.declared.entry.Entry.{Entry}
use Rattle.s3_bureau.specs.Script.{entries_from, entries_of}
use Rattle.s3_replay.specs.declared.performed.Repeated.{Repeated}

-- ---- the entries that were performed
-- all of the entries, in order
abbrev pub entries_in : List Repeated → List Entry
entries_in parts = flat_map (λ part. replicate part.times part.entry) parts

-- a script can ask for the action: a reply must be one digit
abbrev pub is_writable : Action → Bool
is_writable (Reply digit) = nat_lt digit 10
is_writable _ = true

abbrev pub is_part_writable : Repeated → Bool
is_part_writable part = is_writable part.entry.action

-- ---- the line for an entry that is performed so many times
abbrev pub letter_of : Action → ℕ
letter_of Turn = 84
letter_of (Reply digit) = 82
letter_of Drain = 68

abbrev pub level_digit : LevelId → ℕ
level_digit One = 49
level_digit Two = 50

-- the count after the level; a count of one isn't written
abbrev pub count_behind : ℕ → List ℕ
count_behind n = if n == 1 then [] else 32 ∷ decimal n

abbrev pub behind : Action → ℕ → List ℕ
behind Turn n = count_behind n
behind (Reply digit) n = 32 ∷ (48 + digit) ∷ []
behind Drain n = count_behind n

abbrev pub line_of : Entry → ℕ → List ℕ
line_of entry n = letter_of entry.action ∷ level_digit entry.level ∷ behind entry.action n

-- how many times one line can ask for the action at most
abbrev pub most_in_line : Action → ℕ
most_in_line (Reply digit) = 1
most_in_line _ = 9999

-- ---- the script of what was performed
-- the counts of the lines: the most that a line can have, as often as that fits, and then the remainder
abbrev pub counts_of : (most n : ℕ) → List ℕ
counts_of most n = replicate (n / most) most ++ (if n % most == 0 then [] else n % most ∷ [])

abbrev pub ended_line : Entry → ℕ → List ℕ
ended_line entry n = line_of entry n ++ 10 ∷ []

unfoldable pub lines_asking : Entry → ℕ → List ℕ
lines_asking entry n = flat_map (ended_line entry) (counts_of (most_in_line entry.action) n)

-- the lines of a part; a reply that isn't a digit has none
unfoldable pub part_lines : Repeated → List ℕ
part_lines part = if is_part_writable part then lines_asking part.entry part.times else []

-- the script of parts: the lines of each, one after the other
abbrev pub text_of : List Repeated → List ℕ
text_of parts = flat_map part_lines parts

-- a script that was written is read as exactly these entries
abbrev pub ReadsBack : Type 0
ReadsBack = (parts : List Repeated) → list_all is_part_writable parts ≡ true → entries_of (text_of parts) ≡ Ok (entries_in parts)

-- ---- what a text asks for, whatever text follows
-- these entries before the entries of the remaining lines
abbrev pub before_those : List Entry → Result (List Entry) ℕ → Result (List Entry) ℕ
before_those entries (Ok more) = Ok (entries ++ more)
before_those entries (Err line) = Err line

-- the text is so many whole lines, which ask for these entries
pub record Says (text : List ℕ) (entries : List Entry) : Type 0 where
  pub count : ℕ
  pub said : (n : ℕ) (later : List ℕ) → entries_from n (lines (text ++ later)) ≡ before_those entries (entries_from (n + count) (lines later))
