-- Which line of a journal a pack is of, and what is posted to it. Lines are listed from the last one to the first.
use Rattle.std.specs.Prelude.{ℕ, List, [], ◌∷◌, Bool, true, false, not, ◌&&◌, ◌||◌, map, find, Option, is_some, if◌then◌else◌}
use Rattle.std.specs.List.{list_any}
use Rattle.std.specs.Str.{bytes_eq as same}
use Rattle.std.specs.String.{string_bytes}
use Rattle.s3_journal.specs.declared.day.PostedDay.{PostedDay}
use Rattle.s3_journal.specs.declared.day.Work.{Work}
use Rattle.s3_journal.specs.declared.day.Work.TheVariants.{Operate, Run, Append, Load, Sort, Delete, Copy, Amend, Restore}
use Rattle.s3_journal.specs.declared.day.Posting.{Posting}
use Rattle.s3_journal.specs.declared.day.Posting.TheVariants.{Decks, Table, Nothing}
use Rattle.s3_journal.specs.declared.standing.Standing.{Standing}
use Rattle.s3_journal.specs.declared.standing.Standing.TheVariants.{First, Current, NotPosted, OldCopy, Unknown}
use Rattle.s3_journal.specs.declared.standing.Start.{Start}
use Rattle.s3_journal.specs.declared.standing.Start.TheVariants.{Do, IsPosted, IsOld, IsUnknown}

-- what a command posts, by checksums: the decks of both levels, a table that is added to a file, or nothing that counts
pub data Posted : Type 0 where
  OfDecks : (one : List ℕ) → (two : List ℕ) → Posted
  OfTable : (table : List ℕ) → (file : List ℕ) → Posted
  OfNothing : Posted

-- a line: the checksums of the pack before and after its command, what that posted, and whether it put an earlier pack back
pub record Line : Type 0 where
  pub before : List ℕ
  pub after : List ℕ
  pub posted : Posted
  pub restores : Bool

abbrev pub posting_of : Work → Posted
posting_of (Operate day) = OfDecks (string_bytes day.deck1) (string_bytes day.deck2)
posting_of (Run session) = OfDecks (string_bytes session.deck1) (string_bytes session.deck2)
posting_of (Append added) = OfTable (string_bytes added.table) (string_bytes added.file)
posting_of Load = OfNothing
posting_of Sort = OfNothing
posting_of Delete = OfNothing
posting_of Copy = OfNothing
posting_of Amend = OfNothing
posting_of Restore = OfNothing

abbrev pub restores : Work → Bool
restores (Operate day) = false
restores (Run session) = false
restores (Append added) = false
restores Load = false
restores Sort = false
restores Delete = false
restores Copy = false
restores Amend = false
restores Restore = true

abbrev pub line_of : PostedDay → Line
line_of day = record { before = string_bytes day.before; after = string_bytes day.after; posted = posting_of day.work; restores = restores day.work }

abbrev pub lines_of : List PostedDay → List Line
lines_of days = map line_of days

abbrev pub posted_by : Posting → Posted
posted_by (Decks one two) = OfDecks one.now two.now
posted_by (Table table file) = OfTable table.now file.now
posted_by Nothing = OfNothing

-- what may be posted only once is the same
abbrev pub same_posted : Posted → Posted → Bool
same_posted (OfDecks one two) (OfDecks one2 two2) = same one one2 && same two two2
same_posted (OfTable table file) (OfTable table2 file2) = same table table2 && same file file2
same_posted (OfDecks one two) (OfTable table file) = false
same_posted (OfDecks one two) OfNothing = false
same_posted (OfTable table file) (OfDecks one two) = false
same_posted (OfTable table file) OfNothing = false
same_posted OfNothing other = false

-- the command didn't put an earlier pack back, and left this one
abbrev pub made : (pack : List ℕ) → Line → Bool
made pack line = not line.restores && same line.after pack

-- the command made the pack of another one
abbrev pub made_of_other : (pack : List ℕ) → Line → Bool
made_of_other pack line = made pack line && not (same line.before pack)

-- the pack was there before or after the command of a line
abbrev pub has_pack : (pack : List ℕ) → Line → Bool
has_pack pack line = same line.after pack || same line.before pack

-- some line has the pack
abbrev pub is_known : (pack : List ℕ) → List Line → Bool
is_known pack lines = list_any (has_pack pack) lines

-- the lines of the commands that made a pack: the last one that left it, and those that made the pack on which that one began. A pack
-- that no line has was made by something else, from the pack of any line: each of the lines counts
abbrev pub history : (pack : List ℕ) → List Line → List Line
history pack [] = []
history pack (line ∷ older) =
    if not (is_known pack (line ∷ older)) then line ∷ older
    else if made pack line then line ∷ history line.before older
    else history pack older

-- the lines from the last one that has the pack
abbrev pub from_pack : (pack : List ℕ) → List Line → List Line
from_pack pack [] = []
from_pack pack (line ∷ older) = if has_pack pack line then line ∷ older else from_pack pack older

-- the last line that posted the same, among those of the commands that made the pack
abbrev pub posted_in : Posted → (pack : List ℕ) → List Line → Option Line
posted_in posted pack lines = find (λ line. same_posted line.posted posted) (history pack lines)

abbrev pub is_posted : Posted → (pack : List ℕ) → List Line → Bool
is_posted posted pack lines = is_some (posted_in posted pack lines)

-- which line a pack is of: the last command left it; the last command began on it, so that its pack was never saved; an earlier command
-- left it or began on it; or no line has it
abbrev pub standing_of : (pack : List ℕ) → List Line → Standing
standing_of pack [] = First
standing_of pack (last ∷ older) =
    if same last.after pack then Current
    else if same last.before pack then NotPosted
    else if list_any (has_pack pack) older then OldCopy
    else Unknown

-- what a command's start is to do, by the standing of the pack and by whether the same is posted
abbrev pub start_at : Standing → (is_posted : Bool) → Start
start_at OldCopy posted = IsOld
start_at Unknown posted = IsUnknown
start_at First posted = if posted then IsPosted else Do
start_at Current posted = if posted then IsPosted else Do
start_at NotPosted posted = if posted then IsPosted else Do

abbrev pub start_of : Posted → (pack : List ℕ) → List Line → Start
start_of posted pack lines = start_at (standing_of pack lines) (is_posted posted pack lines)
