-- The world of one level: its deck and the jobs left, library, switches and date, its files and the masters', the running job with its
-- answers so far, printed lines, and halts. It has no slot of a program, and nothing of the other level.
use Rattle.std.specs.Prelude.{ℕ, ◌+◌, ◌==◌, List, [], replicate, Option, None, Result, if◌then◌else◌}
use Rattle.s3_cards.specs.declared.levels.LevelId.{LevelId}
use Rattle.s3_cards.specs.declared.name.Name.{Name}
use Rattle.s3_slots.specs.declared.header.Header.{Header}
use Rattle.s3_slots.specs.Header.{quota_of}
use Rattle.s3_job_files.specs.Files.{Files, JobFile, files_on}
use Rattle.s3_meaning.specs.Source.{Source}
use Rattle.s3_meaning.specs.Requests.{Answer}
use Rattle.s3_ocl.specs.declared.faults.FaultyJob.{FaultyJob}
use Rattle.s3_ocl.specs.Jobs.{Job}
use Rattle.s3_ocl.specs.Streams.{jobs_from}
use Rattle.s3_solo.specs.Lines.{Lines, no_lines}
use Rattle.s3_operator.specs.Halts.{ShownHalt}

-- The cards of the deck, its jobs that haven't begun, and the number of the next job. A job has the places of its data cards in the deck;
-- these never change.
pub record JobsLeft : Type 0 where
  pub cards : List (List ℕ)
  pub jobs : List (Result Job FaultyJob)
  pub number : ℕ

-- the running job: its number, its source, its unread data cards, its files, and the answers to its requests so far
pub record JobAtWork : Type 0 where
  pub number : ℕ
  pub source : Source
  pub cards : List (List ℕ)
  pub files : List JobFile
  pub past : List Answer

pub record World : Type 0 where
  pub deck : JobsLeft
  -- the sources of the programs, by their names
  pub library : Name → Option Source
  -- U1 to U8, U1 as the highest of eight bits, and six digits
  pub switches : ℕ
  pub date : List ℕ
  -- the level's own files and those of the masters
  pub pack : Files
  pub job : Option JobAtWork
  pub lines : Lines
  pub halts : List ShownHalt

-- the world of a level with this deck over a pack, before its first entry; its files are those of the pack
abbrev pub at_start : LevelId → Header → (contents : List (List ℕ)) → (deck : List (List ℕ)) → World
at_start level header contents deck =
    record {
      deck = record { cards = deck; jobs = jobs_from deck 0; number = 1 };
      library = λ name. None;
      switches = 0;
      date = replicate 6 0xf0;
      pack = files_on level header contents;
      job = None;
      lines = no_lines (quota_of level header);
      halts = [];
    }

-- jobs are numbered from 1, and 0 follows 999
abbrev pub number_after : ℕ → ℕ
number_after number = if number == 999 then 0 else number + 1
