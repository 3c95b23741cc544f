-- What the lines of a script ask for.
use Rattle.std.specs.Prelude.{ℕ, ◌+◌, ◌-◌, ◌==◌, ◌&&◌, List, [], ◌∷◌, ◌++◌, Option, Some, None, Result, Ok, Err, length, replicate, nat_le, nat_lt, if◌then◌else◌}
use Rattle.std.specs.List.{list_all}
use Rattle.std.specs.Option.{option_map}
use Rattle.std.specs.Char.{is_ascii_digit}
use Rattle.std.specs.Str.Lines.{lines}
use Rattle.s3_cards.specs.Numbers.{is_digit_from, number_of}
use Rattle.s3_cards.specs.declared.levels.LevelId.{LevelId}
use Rattle.s3_cards.specs.declared.levels.LevelId.TheVariants.{One, Two}
use Rattle.s3_solo.specs.declared.action.Action.{Action}
use Rattle.s3_solo.specs.declared.action.Action.TheVariants.{Turn, Reply, Drain}
use Rattle.s3_bureau.specs.declared.entry.Entry.{Entry}
use Rattle.s3_bureau.specs.declared.script.Command.{Command}

-- the level of a digit
abbrev pub level_named : ℕ → Option LevelId
level_named digit = if digit == 49 then Some One else if digit == 50 then Some Two else None

-- a count from 1 to 9,999 in one to four digits
abbrev pub count_of : List ℕ → Option ℕ
count_of digits =
    if nat_le (length digits) 4 && list_all (is_digit_from 48) digits && nat_lt 0 (number_of 48 digits) then Some (number_of 48 digits) else None

-- the count of a command by the text after its level: once, or a blank and a count
abbrev pub times_of : List ℕ → Option ℕ
times_of [] = Some 1
times_of (blank ∷ digits) = if blank == 32 then count_of digits else None

-- the digit that follows a blank, with no further text
abbrev pub digit_behind : List ℕ → Option ℕ
digit_behind (blank ∷ digit ∷ []) = if blank == 32 && is_ascii_digit digit then Some (digit - 48) else None
digit_behind _ = None

abbrev pub many : LevelId → Action → Option ℕ → Option Command
many level action = option_map (λ n. record { entry = record { level = level; action = action }; count = n })

abbrev pub reply : LevelId → Option ℕ → Option Command
reply level = option_map (λ digit. record { entry = record { level = level; action = Reply digit }; count = 1 })

-- the command of a letter, a level and the text after them
abbrev pub command_by : ℕ → Option LevelId → List ℕ → Option Command
command_by letter None rest = None
command_by letter (Some level) rest =
    if letter == 84 then many level Turn (times_of rest)
    else if letter == 68 then many level Drain (times_of rest)
    else if letter == 82 then reply level (digit_behind rest)
    else None

-- the command of a line, if it is well formed: turns or drains, `T1` or `D2 64`, or a reply, `R2 0`
unfoldable pub command_of : List ℕ → Option Command
command_of [] = None
command_of (letter ∷ []) = None
command_of (letter ∷ level ∷ rest) = command_by letter (level_named level) rest

-- the entries of a command
abbrev pub entries_by : Command → List Entry
entries_by command = replicate command.count command.entry

-- the entries of a command and those after it; or the number of line n, if the line is malformed
abbrev pub with_command : ℕ → Option Command → Result (List Entry) ℕ → Result (List Entry) ℕ
with_command n None rest = Err n
with_command n (Some command) (Ok entries) = Ok (entries_by command ++ entries)
with_command n (Some command) (Err line) = Err line

-- line n before the lines after it; an empty line is skipped
abbrev pub with_line : ℕ → List ℕ → Result (List Entry) ℕ → Result (List Entry) ℕ
with_line n [] rest = rest
with_line n (letter ∷ line) rest = with_command n (command_of (letter ∷ line)) rest

-- the entries of the lines from line n, or the number of the first malformed one
abbrev pub entries_from : ℕ → List (List ℕ) → Result (List Entry) ℕ
entries_from n [] = Ok []
entries_from n (line ∷ more) = with_line n line (entries_from (n + 1) more)

-- the entries of a script, or the number of its first malformed line, from 1
unfoldable pub entries_of : List ℕ → Result (List Entry) ℕ
entries_of script = entries_from 1 (lines script)
