-- Statements among the cards of a job that has begun: the next job's, if the end of this one is missing.
use Rattle.std.specs.Prelude.{ℕ, ◌-◌, List, [], ◌∷◌, Bool, ◌&&◌, ◌||◌, Result, Ok, Err, drop, filter, slice_get}
use Rattle.std.specs.List.{list_any, range_with_len}
use Rattle.s3_ocl.specs.declared.faults.FaultyJob.{FaultyJob}
use Rattle.s3_ocl.specs.declared.words.TheConstants.{LOAD, FILE, DATE, SWITCH, RUN}
use Rattle.s3_ocl.specs.Cards.{first_word, is_statement}
use Rattle.s3_ocl.specs.Jobs.{Job, holds_at}
use Rattle.s3_ocl.specs.Words.{reads}

-- the keywords of statements
abbrev pub keywords : List (List ℕ)
keywords = LOAD ∷ FILE ∷ DATE ∷ SWITCH ∷ RUN ∷ []

-- a card that begins `// ` and has this keyword
abbrev pub has_keyword : List ℕ → List ℕ → Bool
has_keyword word card = is_statement card && reads (first_word card) word

-- a card that begins `// ` and has the keyword of a statement
abbrev pub is_known_statement : List ℕ → Bool
is_known_statement card = is_statement card && list_any (reads (first_word card)) keywords

-- a card that a job has once
abbrev pub is_load_or_run : List ℕ → Bool
is_load_or_run card = has_keyword LOAD card || has_keyword RUN card

-- the places from one up to another whose cards pass a test
abbrev pub places_of : (List ℕ → Bool) → List (List ℕ) → ℕ → ℕ → List ℕ
places_of test cards from to = filter (λ place. holds_at test (slice_get cards place)) (range_with_len from (to - from))

-- of the LOAD and RUN statements from one place up to another all but the first, and of these the LOAD statements
abbrev pub later_loads : List (List ℕ) → ℕ → ℕ → List ℕ
later_loads cards from to = filter (λ place. holds_at (has_keyword LOAD) (slice_get cards place)) (drop 1 (places_of is_load_or_run cards from to))

-- the statements among the data of a job that begins at a place; of a faulty job, the LOAD statements after its first LOAD or RUN
abbrev pub strays : List (List ℕ) → ℕ → Result Job FaultyJob → List ℕ
strays cards from (Ok job) = places_of is_known_statement cards job.data_from job.data_to
strays cards from (Err faulty) = later_loads cards from faulty.after
