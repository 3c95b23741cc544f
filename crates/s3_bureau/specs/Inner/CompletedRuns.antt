-- A completed run: what it began with and what it left. Theorems compare two of them.
use Rattle.std.specs.Prelude.{◌≡◌, ℕ, List, Ok}
use Rattle.s3_cards.specs.declared.levels.LevelId.{LevelId}
use Rattle.s3_cards.specs.declared.levels.LevelId.TheVariants.{One, Two}
use Rattle.s3_cards.specs.Deck.{deck_of}
use Rattle.s3_slots.specs.Header.{mounted, region_of}
use Rattle.s3_slots.specs.declared.header.Header.{Header}
use Rattle.s3_labels.specs.Areas.{area_of}
use Rattle.s3_labels.specs.Contents.{contents_of}
use Rattle.s3_labels.specs.Untangled.{IsUntangled}
use Rattle.s3_job_files.specs.Files.{Area, area_on}
use Rattle.s3_solo.specs.World.{World}
use Rattle.s3_bureau.specs.declared.entry.Entry.{Entry}
use Rattle.s3_bureau.specs.declared.outcome.Outcome.{Outcome}
use Rattle.s3_bureau.specs.Entries.{own}
use Rattle.s3_bureau.specs.Runs.{Runs, RunTexts, Texts, cards_of, run_alone}
use Rattle.s3_bureau.specs.Script.{entries_of}

-- what a run began with, and its outcome; the pack was mounted and the script is well formed, since `run` gave Ok
pub record CompletedRun : Type 0 where
  pub pack : List ℕ
  pub deck1 : List ℕ
  pub deck2 : List ℕ
  pub script : List ℕ
  pub header : Header
  pub entries : List Entry
  pub outcome : Outcome
  pub mounts : mounted (contents_of pack) ≡ Ok header
  pub reads : entries_of script ≡ Ok entries
  pub runs : Runs pack deck1 deck2 script (Ok outcome)

-- the deck of a level
abbrev pub deck_at : LevelId → CompletedRun → List ℕ
deck_at One run = run.deck1
deck_at Two run = run.deck2

-- the texts of a level
abbrev pub texts_at : LevelId → RunTexts → Texts
texts_at One texts = texts.one
texts_at Two texts = texts.two

-- the sectors that the run began with, and those that it left
abbrev pub contents_before : CompletedRun → List (List ℕ)
contents_before run = contents_of run.pack

abbrev pub contents_after : CompletedRun → List (List ℕ)
contents_after run = contents_of run.outcome.pack.items

-- the world of a level at the end
abbrev pub world_at : LevelId → CompletedRun → World
world_at level run = run_alone level run.header (contents_before run) (cards_of (deck_of (deck_at level run))) (own level run.entries)

-- what a mount finds in a level's area of the pack that the run left: the slots, and for each label the records and whether the index is
-- good
abbrev pub area_left : LevelId → CompletedRun → Area
area_left level run = area_on run.header.format (region_of level run.header) (area_of level) (contents_after run)

-- what a mount finds in the masters' area of the pack that the run left
abbrev pub masters_left : CompletedRun → Area
masters_left run = area_on run.header.format run.header.masters 0 (contents_after run)

-- the mount before the run found no slot of the level damaged only by an overlapping or duplicate label
abbrev pub WasUntangled : LevelId → CompletedRun → Type 0
WasUntangled level run = IsUntangled run.header.format (region_of level run.header) (area_of level) (contents_before run)
