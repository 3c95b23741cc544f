-- Replies to halts of jobs that couldn't be started, computed.
use Rattle.std.proofs.Common.{◌≡◌, [], ◌∷◌, Some, None, refl}
use Rattle.s3_cards.specs.Codes.{code_page}
use Rattle.s3_cards.specs.Deck.{card_of}
use Rattle.s3_cards.specs.Names.{is_word}
use Rattle.s3_ocl.specs.Values.{count_value, date_value, switches_value}
use Rattle.s3_ocl.specs.Statements.{texts_behind, pieces_in, pieces_from, statement_at, statements_within}
use Rattle.s3_ocl.specs.Contents.{first_in}
use Rattle.s3_ocl.specs.Faults.{first_fault, statement_faults, faults_behind}
use Rattle.s3_ocl.specs.Jobs.{job_at}
use Rattle.s3_ocl.specs.Streams.{jobs_within}
use Rattle.s3_solo.specs.declared.action.Action.TheVariants.{Turn, Reply}
use Rattle.s3_solo.specs.declared.action.Did.TheVariants.{Acted, Refused}
use Rattle.s3_operator.specs.declared.halt_code.HaltCode.TheVariants.{NoProgram}
use Rattle.s3_solo.specs.Inner.Samples.{at_first}
use Rattle.s3_solo.specs.Solo.{step_of, refused}
use Rattle.s3_solo.specs.Inner.Samples.{at_halt, halted, passed_over, two_jobs_deck}

pub not_allowed : step_of (at_halt two_jobs_deck) (Reply 0) ≡ refused 2 (at_halt two_jobs_deck)
unfolding code_page card_of is_word count_value date_value switches_value texts_behind pieces_in pieces_from statement_at statements_within first_in first_fault statement_faults faults_behind job_at jobs_within
not_allowed = refl

pub none_waits : step_of (at_first two_jobs_deck) (Reply 3) ≡ refused 1 (at_first two_jobs_deck)
unfolding code_page card_of is_word count_value date_value switches_value texts_behind pieces_in pieces_from statement_at statements_within first_in first_fault statement_faults faults_behind job_at jobs_within
none_waits = refl

pub did : (step_of (at_halt two_jobs_deck) (Reply 3)).did ≡ Acted
unfolding code_page card_of is_word count_value date_value switches_value texts_behind pieces_in pieces_from statement_at statements_within first_in first_fault statement_faults faults_behind job_at jobs_within
did = refl

pub passes_over : (passed_over two_jobs_deck 3).halts ≡ halted 1 NoProgram (Some 3) ∷ []
unfolding code_page card_of is_word count_value date_value switches_value texts_behind pieces_in pieces_from statement_at statements_within first_in first_fault statement_faults faults_behind job_at jobs_within
passes_over = refl

pub once : (step_of (passed_over two_jobs_deck 3) (Reply 3)).did ≡ Refused 1
unfolding code_page card_of is_word count_value date_value switches_value texts_behind pieces_in pieces_from statement_at statements_within first_in first_fault statement_faults faults_behind job_at jobs_within
once = refl

pub next : (step_of (passed_over two_jobs_deck 2) Turn).world.halts ≡ halted 1 NoProgram (Some 2) ∷ halted 2 NoProgram None ∷ []
unfolding code_page card_of is_word count_value date_value switches_value texts_behind pieces_in pieces_from statement_at statements_within first_in first_fault statement_faults faults_behind job_at jobs_within
next = refl
