-- A job with date and switches, computed.
use Rattle.std.proofs.Common.{◌≡◌, [], ◌∷◌, refl}
use Rattle.s3_cards.specs.Codes.{code_page}
use Rattle.s3_cards.specs.Deck.{card_of}
use Rattle.s3_cards.specs.Names.{is_word}
use Rattle.s3_ocl.specs.Values.{count_value, date_value, switches_value}
use Rattle.s3_ocl.specs.Statements.{texts_behind, pieces_in, pieces_from, statement_at, statements_within}
use Rattle.s3_ocl.specs.Contents.{first_in}
use Rattle.s3_ocl.specs.Faults.{first_fault, statement_faults, faults_behind}
use Rattle.s3_ocl.specs.Jobs.{job_at}
use Rattle.s3_ocl.specs.Streams.{jobs_within}
use Rattle.s3_solo.specs.declared.action.Action.TheVariants.{Turn}
use Rattle.s3_operator.specs.declared.halt_code.HaltCode.TheVariants.{FaultyJob, NoProgram}
use Rattle.s3_operator.specs.Halts.{with_halt}
use Rattle.s3_solo.specs.Inner.Samples.{at_first}
use Rattle.s3_solo.specs.Solo.{step_of}
use Rattle.s3_solo.specs.Inner.Samples.{settings_deck, faulty_deck}

pub date : (step_of (at_first settings_deck) Turn).world.date ≡ 0xf0 ∷ 0xf6 ∷ 0xf1 ∷ 0xf5 ∷ 0xf7 ∷ 0xf6 ∷ []
unfolding code_page card_of is_word count_value date_value switches_value texts_behind pieces_in pieces_from statement_at statements_within first_in first_fault statement_faults faults_behind job_at jobs_within
date = refl

pub switches : (step_of (at_first settings_deck) Turn).world.switches ≡ 0x81
unfolding code_page card_of is_word count_value date_value switches_value texts_behind pieces_in pieces_from statement_at statements_within first_in first_fault statement_faults faults_behind job_at jobs_within
switches = refl

pub no_program : (step_of (at_first settings_deck) Turn).world.halts ≡ with_halt 1 NoProgram [] []
unfolding code_page card_of is_word count_value date_value switches_value texts_behind pieces_in pieces_from statement_at statements_within first_in first_fault statement_faults faults_behind job_at jobs_within
no_program = refl

pub faulty : (step_of (at_first faulty_deck) Turn).world.halts ≡ with_halt 1 FaultyJob ((4, 4) ∷ []) []
unfolding code_page card_of is_word count_value date_value switches_value texts_behind pieces_in pieces_from statement_at statements_within first_in first_fault statement_faults faults_behind job_at jobs_within
faulty = refl

pub faulty_date : (step_of (at_first faulty_deck) Turn).world.date ≡ (at_first faulty_deck).date
unfolding code_page card_of is_word count_value date_value switches_value texts_behind pieces_in pieces_from statement_at statements_within first_in first_fault statement_faults faults_behind job_at jobs_within
faulty_date = refl

pub faulty_switches : (step_of (at_first faulty_deck) Turn).world.switches ≡ 0
unfolding code_page card_of is_word count_value date_value switches_value texts_behind pieces_in pieces_from statement_at statements_within first_in first_fault statement_faults faults_behind job_at jobs_within
faulty_switches = refl
