-- What a whole journal says: the days of its lines, each of which has the digest of the line before it.
use Rattle.std.specs.Prelude.{◌≡◌, ◌⊎◌, ℕ, ◌-◌, ◌==◌, nat_le, nat_eq, List, [], ◌∷◌, ◌++◌, Bool, true, false, not, ◌&&◌, ◌||◌, length, take, map, reverse, Option, Some, None, option_map, option_and_then, Result, Ok, Err, codes, if◌then◌else◌}
use Rattle.std.specs.List.{list_all, slice_split, starts_with}
use Rattle.std.specs.Borrow.{Bor}
use Rattle.std.specs.Str.{bytes_eq}
use Rattle.std.specs.String.{string_bytes}
use Rattle.s3_journal.specs.declared.day.LevelCount.{LevelCount}
use Rattle.s3_journal.specs.declared.day.PostedDay.{PostedDay}
use Rattle.s3_journal.specs.declared.reading.Lines.{Lines}
use Rattle.s3_journal.specs.declared.reading.ReadLine.{ReadLine}
use Rattle.s3_journal.specs.declared.reading.JournalFault.{JournalFault}
use Rattle.s3_journal.specs.declared.reading.JournalFault.TheVariants.{NoMemory, Line, Chain, Changed}
use Rattle.s3_journal.specs.Inner.Digests.{digest_of}
use Rattle.s3_journal.specs.Inner.Days.{Did, operates, runs, appends, loads, sorts, deletes, copies, amends, restores, Day, day_of}
use Rattle.s3_journal.specs.Inner.Lines.{Said, said_on, line_of, text_of_line, text_with, byte_most, long_most}

-- ---- the lines of a text
abbrev pub is_line_end : ℕ → Bool
is_line_end byte = byte == 10

abbrev pub all_but_last : {X : Type 0} → List X → List X
all_but_last xs = take (length xs - 1) xs

abbrev pub last_of : List (List ℕ) → List ℕ
last_of [] = []
last_of (x ∷ []) = x
last_of (x ∷ y ∷ more) = last_of (y ∷ more)

-- the lines that end
unfoldable pub lines_ended : List ℕ → List (List ℕ)
lines_ended text = all_but_last (slice_split is_line_end text)

-- what follows the last line end: a line that was begun
unfoldable pub line_begun : List ℕ → List ℕ
line_begun text = last_of (slice_split is_line_end text)

-- ---- the days of lines that follow one another
-- a line says what was written: the digest that it has is that of its text without this digest
abbrev pub is_digest_if : Option (List ℕ) → (text : List ℕ) → Bool
is_digest_if None text = true
is_digest_if (Some sum) text = bytes_eq sum (digest_of text)

abbrev pub is_as_written : Said → Bool
is_as_written said = is_digest_if said.sum (text_with said.day said.previous None)

-- the day of a line that says what was written, and has the digest of the line before
abbrev pub chained : (before : List ℕ) → Option Said → Option Day
chained before None = None
chained before (Some said) = if bytes_eq said.previous (digest_of before) && is_as_written said then Some said.day else None

-- the days of these lines; none if one of them is no line, says something else than was written, or doesn't have the digest of the line before
unfoldable pub days_from : (before : List ℕ) → (lines : List (List ℕ)) → Option (List Day)
days_from before [] = Some []
days_from before (line ∷ rest) = option_and_then (λ day. option_map (λ days. day ∷ days) (days_from line rest)) (chained before (said_on line))

-- the first line follows an empty text
abbrev pub days_in : List ℕ → Option (List Day)
days_in text = days_from [] (lines_ended text)

abbrev pub beginning : List ℕ
beginning = codes "{\"day\":"

-- the text may be the first part of a line
abbrev pub may_begin_line : List ℕ → Bool
may_begin_line text = starts_with nat_eq text beginning || starts_with nat_eq beginning text

-- a text is read as its days, the last one first; or refused, if one of its lines is refused or what follows them begins no line, or
-- if memory runs out
abbrev pub CantBeRead : (text : List ℕ) → Type 0
CantBeRead text = (days_in text ≡ None) ⊎ (may_begin_line (line_begun text) ≡ false)

abbrev pub IsRead : (text : List ℕ) → Result Lines JournalFault → Type 0
IsRead text (Ok lines) = days_in text ≡ Some (map day_of (reverse lines.days.items))
IsRead text (Err NoMemory) = Unit {0}
IsRead text (Err (Line number)) = CantBeRead text
IsRead text (Err (Chain number)) = CantBeRead text
IsRead text (Err (Changed number)) = CantBeRead text

-- what the code's line says
abbrev pub said_of : ReadLine → Said
said_of line = record { day = day_of line.day; previous = string_bytes line.previous; sum = option_map string_bytes line.sum }

-- the day of a line is read, or refused
abbrev pub IsChained : (found : Option Day) → Result PostedDay JournalFault → Type 0
IsChained found (Ok day) = found ≡ Some (day_of day)
IsChained found (Err NoMemory) = Unit {0}
IsChained found (Err (Line number)) = found ≡ None
IsChained found (Err (Chain number)) = found ≡ None
IsChained found (Err (Changed number)) = found ≡ None

-- the days of the lines that end in a text are taken, if there were none before, and what follows them is left; or one is refused
abbrev pub Reads : (old new : Lines) → (text : List ℕ) → Result (Bor (List ℕ)) JournalFault → Type 0
Reads old new text (Ok rest) = old.last.now ≡ [] → old.days.items ≡ [] → (days_in text ≡ Some (map day_of new.days.items)) × (line_begun text ≡ rest.now)
Reads old new text (Err NoMemory) = Unit {0}
Reads old new text (Err (Line number)) = old.last.now ≡ [] → old.days.items ≡ [] → days_in text ≡ None
Reads old new text (Err (Chain number)) = old.last.now ≡ [] → old.days.items ≡ [] → days_in text ≡ None
Reads old new text (Err (Changed number)) = old.last.now ≡ [] → old.days.items ≡ [] → days_in text ≡ None

-- a line is taken after those so far, or refused
abbrev pub Takes : (taken : Option Day) → (old new : List Day) → Result (Unit {0}) JournalFault → Type 0
Takes taken old new (Ok done) = (day : Day) × (taken ≡ Some day) × (new ≡ old ++ day ∷ [])
Takes taken old new (Err NoMemory) = Unit {0}
Takes taken old new (Err (Line number)) = taken ≡ None
Takes taken old new (Err (Chain number)) = taken ≡ None
Takes taken old new (Err (Changed number)) = taken ≡ None

-- ---- what is written is read back
abbrev pub count_fits : LevelCount → Bool
count_fits count = nat_le count.jobs long_most && nat_le count.lines long_most

abbrev pub did_fits : Did → Bool
did_fits (operates day) = count_fits day.one && count_fits day.two
did_fits (runs deck1 deck2 script) = true
did_fits (appends table file) = true
did_fits loads = true
did_fits sorts = true
did_fits deletes = true
did_fits copies = true
did_fits amends = true
did_fits restores = true

-- the numbers of a day fit their types
abbrev pub fits : Day → Bool
fits day = nat_le day.number long_most && nat_le day.status byte_most && did_fits day.did

-- the lines of days, each with the digest of the line before
abbrev pub text_after : (before : List ℕ) → List Day → List ℕ
text_after before [] = []
text_after before (day ∷ rest) = line_of day (digest_of before) ++ text_after (text_of_line day (digest_of before)) rest

-- the lines of days, and after them what was written of a further line, are read as these days
abbrev pub ReadsBack : Type 0
ReadsBack =
    (days : List Day) (begun : List ℕ) → list_all fits days ≡ true → list_all (λ byte. not (is_line_end byte)) begun ≡ true
    → days_in (text_after [] days ++ begun) ≡ Some days
