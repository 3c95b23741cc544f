-- What a line says: its values, without the memory that holds its texts.
use Rattle.std.specs.Prelude.{ℕ, List, Option, option_map}
use Rattle.std.specs.String.{string_bytes}
use Rattle.s3_journal.specs.declared.day.LevelCount.{LevelCount}
use Rattle.s3_journal.specs.declared.day.PostedDay.{PostedDay}
use Rattle.s3_journal.specs.declared.day.Work.{Work}
use Rattle.s3_journal.specs.declared.day.Work.TheVariants as work

-- a day of `operate`: the digests of its decks and its rules, who was asked, and what both levels did
pub record Operation : Type 0 where
  pub deck1 : List ℕ
  pub deck2 : List ℕ
  pub rules : Option (List ℕ)
  pub replies : List ℕ
  pub one : LevelCount
  pub two : LevelCount

-- what the command of a line did
pub data Did : Type 0 where
  operates : Operation → Did
  runs : (deck1 deck2 script : List ℕ) → Did
  appends : (table file : List ℕ) → Did
  loads : Did
  sorts : Did
  deletes : Did
  copies : Did
  amends : Did
  restores : Did

pub record Day : Type 0 where
  pub number : ℕ
  pub at : List ℕ
  pub before : List ℕ
  pub after : List ℕ
  pub status : ℕ
  pub did : Did

-- ---- of the code's types
abbrev pub did_of : Work → Did
did_of (work.Operate day) = operates (record { deck1 = string_bytes day.deck1; deck2 = string_bytes day.deck2; rules = option_map string_bytes day.rules; replies = string_bytes day.replies; one = day.one; two = day.two })
did_of (work.Run session) = runs (string_bytes session.deck1) (string_bytes session.deck2) (string_bytes session.script)
did_of (work.Append added) = appends (string_bytes added.table) (string_bytes added.file)
did_of work.Load = loads
did_of work.Sort = sorts
did_of work.Delete = deletes
did_of work.Copy = copies
did_of work.Amend = amends
did_of work.Restore = restores

abbrev pub day_of : PostedDay → Day
day_of day = record { number = day.number; at = string_bytes day.at; before = string_bytes day.before; after = string_bytes day.after; status = day.status; did = did_of day.work }
