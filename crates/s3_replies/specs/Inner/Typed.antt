-- What a line says that an operator types.
use Rattle.std.specs.Prelude.{ℕ, ◌-◌, ◌==◌, List, [], ◌∷◌, Option, None, Some, codes, length, nat_le, if◌then◌else◌}
use Rattle.std.specs.Str.{str_eq_ignore_ascii_case}
use Rattle.s3_cards.specs.Numbers.{is_digit_from}
use Rattle.s3_cards.specs.Inner.Numbers.{spelled_number}
use Rattle.s3_cards.specs.declared.levels.LevelId.{LevelId}
use Rattle.s3_cards.specs.declared.levels.LevelId.TheVariants.{One, Two}
use Rattle.s3_replies.specs.declared.typed.Typed.{Typed}
use Rattle.s3_replies.specs.declared.typed.Typed.TheVariants.{Nothing, Reply, Help, Show, Lines, Stop, Yes, No, Unknown}
use Rattle.s3_replies.specs.Inner.Words.{words}

-- the digit that a word is
abbrev pub digit_of : List ℕ → Option ℕ
digit_of [] = None
digit_of (byte ∷ []) = if is_digit_from 48 byte then Some (byte - 48) else None
digit_of (byte ∷ other ∷ bytes) = None

-- the level of a number
abbrev pub level_of : ℕ → Option LevelId
level_of number = if number == 1 then Some One else if number == 2 then Some Two else None

-- ---- replies
abbrev pub level_reply : Option LevelId → Option ℕ → Typed
level_reply (Some level) (Some digit) = Reply (Some level) digit
level_reply (Some level) None = Unknown
level_reply None digit = Unknown

-- what follows a digit: nothing, or a digit for the first one's level
abbrev pub reply_said : (first : ℕ) → List (List ℕ) → Typed
reply_said first [] = Reply None first
reply_said first (word ∷ []) = level_reply (level_of first) (digit_of word)
reply_said first (word ∷ more ∷ rest) = Unknown

-- ---- printed lines
-- a number of at most seven digits
abbrev pub count_of : List ℕ → Option ℕ
count_of word = if nat_le (length word) 7 then spelled_number 48 word else None

abbrev pub so_many : Option LevelId → Option ℕ → Typed
so_many level None = Unknown
so_many level (Some count) = Lines level count

abbrev pub number_level : Option ℕ → Option LevelId
number_level None = None
number_level (Some number) = level_of number

-- a level: 1 or 2
abbrev pub level_word : List ℕ → Option LevelId
level_word word = number_level (digit_of word)

-- ten lines of a level, or so many lines of the one that waits
abbrev pub one_said : Option LevelId → (word : List ℕ) → Typed
one_said (Some level) word = Lines (Some level) 10
one_said None word = so_many None (count_of word)

abbrev pub both_said : Option LevelId → (count : List ℕ) → Typed
both_said (Some level) count = so_many (Some level) (count_of count)
both_said None count = Unknown

-- what follows `lines`: a level, a number of lines, or both; a 1 or a 2 alone is a level
abbrev pub lines_said : List (List ℕ) → Typed
lines_said [] = Lines None 10
lines_said (word ∷ []) = one_said (level_word word) word
lines_said (word ∷ count ∷ []) = both_said (level_word word) count
lines_said (word ∷ count ∷ more ∷ rest) = Unknown

-- ---- the other words, each alone
abbrev pub word_said : List ℕ → Typed
word_said word =
    if str_eq_ignore_ascii_case word (codes "?") then Help
    else if str_eq_ignore_ascii_case word (codes "show") then Show
    else if str_eq_ignore_ascii_case word (codes "stop") then Stop
    else if str_eq_ignore_ascii_case word (codes "yes") then Yes
    else if str_eq_ignore_ascii_case word (codes "no") then No
    else Unknown

abbrev pub alone_said : (word : List ℕ) → List (List ℕ) → Typed
alone_said word [] = word_said word
alone_said word (more ∷ rest) = Unknown

abbrev pub command_said : (word : List ℕ) → List (List ℕ) → Typed
command_said word rest = if str_eq_ignore_ascii_case word (codes "lines") then lines_said rest else alone_said word rest

abbrev pub first_said : Option ℕ → (word : List ℕ) → List (List ℕ) → Typed
first_said (Some digit) word rest = reply_said digit rest
first_said None word rest = command_said word rest

-- what words say: a digit, a level and a digit, or a command; all others are unknown
abbrev pub said_by : List (List ℕ) → Typed
said_by [] = Nothing
said_by (word ∷ rest) = first_said (digit_of word) word rest

-- what a line says
abbrev pub typed_of : List ℕ → Typed
typed_of line = said_by (words line)
