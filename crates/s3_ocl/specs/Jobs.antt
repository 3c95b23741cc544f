-- The jobs of a list of cards.
use Rattle.std.specs.Prelude.{ℕ, ◌+◌, ◌-◌, List, [], ◌∷◌, ◌++◌, Bool, false, Option, Some, None, Result, Ok, Err, length, min, drop, replicate, sum_by, unwrap_or, slice_get, if◌then◌else◌}
use Rattle.s3_cards.specs.declared.name.Name.{Name}
use Rattle.s3_ocl.specs.declared.values.Switch.{Switch}
use Rattle.s3_ocl.specs.declared.values.Switch.TheVariants.{Leave}
use Rattle.s3_ocl.specs.declared.parameters.Verb.TheVariants.{Run}
use Rattle.s3_ocl.specs.declared.contents.FileStatement.{FileStatement}
use Rattle.s3_ocl.specs.declared.faults.JobFault.TheVariants.{NotOcl, NoRun}
use Rattle.s3_ocl.specs.declared.faults.Mark.{Mark}
use Rattle.s3_ocl.specs.declared.faults.FaultyJob.{FaultyJob}
use Rattle.s3_ocl.specs.Cards.{is_separator, is_job_end, begins_job, closes_job, next_place}
use Rattle.s3_cards.specs.Names.{same_name, no_name}
use Rattle.s3_ocl.specs.declared.words.TheConstants.{COMPILER}
use Rattle.s3_ocl.specs.Statements.{Statement, statements}
use Rattle.s3_ocl.specs.Contents.{date_of, files_of, has, program_of, switches_of}
use Rattle.s3_ocl.specs.Faults.{faults_behind, first_fault}

-- A job without errors: its program, its files, its date if it has one, and its switch settings.
-- Its data are the cards from place `data_from` up to, but not including, `data_to`. `after` is the place after the job.
-- The RUN card is just before the data.
pub record Job : Type 0 where
  pub program : Name
  pub files : List FileStatement
  pub date : Option (List ℕ)
  pub switches : List Switch
  pub data_from : ℕ
  pub data_to : ℕ
  pub after : ℕ

-- a job for the compiler; its data are a source
abbrev pub is_compile : Job → Bool
is_compile job = same_name job.program (record { codes = COMPILER })

-- the number of cards of these statements
abbrev pub cards_of : List Statement → ℕ
cards_of heading = sum_by (λ statement. statement.cards) heading

-- whether a test holds for the card at a place; false after the last card
abbrev pub holds_at : (List ℕ → Bool) → Option (List ℕ) → Bool
holds_at test None = false
holds_at test (Some card) = test card

-- The error of a job whose statements end at a place without RUN. At the end of the deck it is on the last card, else on the card that
-- isn't a statement.
abbrev pub stop_fault : List (List ℕ) → ℕ → Option (List ℕ) → Mark
stop_fault cards end None = record { card = length cards; fault = NoRun }
stop_fault cards end (Some card) = record { card = end + 1; fault = if is_separator card then NoRun else NotOcl }

abbrev pub stop_faults : List (List ℕ) → List Statement → ℕ → List Mark
stop_faults cards heading end = if has Run heading then [] else stop_fault cards end (slice_get cards end) ∷ []

-- the place after a job in error: after the first `/&` from the card in error on, or the end of the deck
abbrev pub faulty_end : List (List ℕ) → ℕ → ℕ
faulty_end cards number = min (next_place is_job_end cards (number - 1) + 1) (length cards)

-- The place after a job whose data end at a place: after its `/&`, before the statement that follows its `/*`, or the end of the deck.
abbrev pub job_end : List (List ℕ) → ℕ → ℕ
job_end cards place =
    let close : ℕ = next_place closes_job cards place in
    if holds_at is_job_end (slice_get cards close) then close + 1 else close

-- the job with these statements, which end at a place
abbrev pub job_with : List (List ℕ) → List Statement → ℕ → Job
job_with cards heading end = record {
  program = unwrap_or (program_of heading) no_name;
  files = files_of heading;
  date = date_of heading;
  switches = unwrap_or (switches_of heading) (replicate 8 Leave);
  data_from = end;
  data_to = next_place is_separator cards end;
  after = job_end cards (next_place is_separator cards end);
}

-- a job is in error if its statements have an error; the first error is reported
abbrev pub job_or_fault : List (List ℕ) → List Statement → ℕ → Option Mark → Result Job FaultyJob
job_or_fault cards heading end None = Ok (job_with cards heading end)
job_or_fault cards heading end (Some mark) = Err (record { fault = mark.fault; card = mark.card; after = faulty_end cards mark.card })

-- the statements of the job that begins at a place
abbrev pub heading_at : List (List ℕ) → ℕ → List Statement
heading_at cards place = statements (place + 1) (drop place cards)

-- the job that begins at a place
unfoldable pub job_at : List (List ℕ) → ℕ → Result Job FaultyJob
job_at cards place =
    let heading : List Statement = heading_at cards place in
    let end : ℕ = place + cards_of heading in
    job_or_fault cards heading end (first_fault (faults_behind [] heading ++ stop_faults cards heading end))

-- the place after a job
abbrev pub place_after : Result Job FaultyJob → ℕ
place_after (Ok job) = job.after
place_after (Err faulty) = faulty.after

-- the place of the next job, from a place on; the number of cards if there is none
abbrev pub next_job : List (List ℕ) → ℕ → ℕ
next_job cards from = next_place begins_job cards from
