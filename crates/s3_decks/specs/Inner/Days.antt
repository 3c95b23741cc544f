-- The jobs of a deck as they are listed, and those that a day leaves out which is taken up again at a card.
use Rattle.std.specs.Prelude.{ℕ, ◌-◌, List, Bool, false, not, ◌&&◌, Result, Ok, Err, map, filter, nat_lt}
use Rattle.s3_ocl.specs.declared.faults.FaultyJob.{FaultyJob}
use Rattle.s3_ocl.specs.Jobs.{Job, is_compile, place_after}
use Rattle.s3_decks.specs.declared.deck_text.CardRange.{CardRange}
use Rattle.s3_decks.specs.declared.job_list.JobEntry.{JobEntry}
use Rattle.s3_decks.specs.declared.job_list.Statements.{Statements}
use Rattle.s3_decks.specs.declared.job_list.Statements.TheVariants.{Sound, Faulty}

-- a job, or its first fault
abbrev pub said : Statements → Result Job FaultyJob
said (Sound job) = Ok job
said (Faulty faulty) = Err faulty

-- whether a job compiles a program
abbrev pub compiles : Result Job FaultyJob → Bool
compiles (Ok job) = is_compile job
compiles (Err faulty) = false

-- whether a job is left out of a day that is taken up at a card, by its number: it begins before it and compiles nothing
abbrev pub is_left_out : ℕ → JobEntry → Bool
is_left_out card entry = nat_lt entry.cards.from (card - 1) && not (compiles (said entry.statements))

-- the cards that are left out
abbrev pub left_out : ℕ → List JobEntry → List CardRange
left_out card jobs = map (λ entry. entry.cards) (filter (is_left_out card) jobs)

-- whether a job is left out of a day that is taken up at a card, by its number, though that card is one of its own
abbrev pub is_cut : ℕ → JobEntry → Bool
is_cut card entry = is_left_out card entry && nat_lt (card - 1) (place_after (said entry.statements))
