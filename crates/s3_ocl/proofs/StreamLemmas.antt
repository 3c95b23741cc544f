-- Lemmas about job streams.
use Rattle.std.proofs.Common.{◌≡◌, ℕ, ◌+◌, ◌<◌, ◌≤◌, List, [], ◌∷◌, ◌++◌, Bool, true, false, cond, refl, sym, ap, subst, inl, inr, arith, length, drop, zero, suc, lt-ltb, le-ltb, length-append}
use Rattle.std.proofs.lemmas.List.Sums.{sum_by-cons}
use Rattle.std.specs.Prelude.{Option, Some, None, Result, slice_get}
use Rattle.std.proofs.lemmas.Bool.{cases_lt}
use Rattle.s3_ocl.specs.declared.faults.FaultyJob.{FaultyJob}
use Rattle.s3_ocl.specs.declared.faults.Mark.{Mark}
use Rattle.s3_ocl.specs.declared.parameters.Verb.TheVariants.{Run}
use Rattle.s3_ocl.specs.Cards.{is_statement, is_job_end, is_separator, closes_job, next_place}
use Rattle.s3_ocl.specs.Statements.{Statement, statement_at, statements_within, is_verb}
use Rattle.s3_ocl.specs.Contents.{has}
use Rattle.s3_ocl.specs.Faults.{first_fault, faults_behind}
use Rattle.s3_ocl.specs.Jobs.{Job, job_at, job_end, job_or_fault, holds_at, heading_at, cards_of, stop_fault, stop_faults, faulty_end, next_job, place_after}
use Rattle.s3_ocl.specs.Inner.Streams.{Stream, OneStream}
use Rattle.s3_ocl.specs.Inner.Streams.{ends, next}
use Rattle.s3_ocl.specs.Streams.{jobs_within, jobs_from}
use Rattle.s3_ocl.proofs.BoundLemmas.{each-append, each_later}
use Rattle.s3_ocl.proofs.JobLemmas.{On, first_on, each_stop, no_faults, statement_cards}

after_faulty : (cards : List (List ℕ)) (place number : ℕ) → place < number → place < length cards → place < faulty_end cards number
after_faulty cards place number low within = omega (arith, low, within)

after_job : (cards : List (List ℕ)) (place : ℕ) → place ≤ job_end cards place
after_job cards place = go (next_place closes_job cards place) (holds_at is_job_end (slice_get cards (next_place closes_job cards place))) (omega arith)
  where
    go : (close : ℕ) (t : Bool) → place ≤ close → place ≤ cond t (close + 1) close
    go close true reached = omega arith
    go close false reached = reached

-- the errors of the job that begins at a place are on later cards
faults_on : (cards : List (List ℕ)) (place : ℕ) → place < length cards
    → On (λ k. place < k) (first_fault (faults_behind [] (heading_at cards place) ++ stop_faults cards (heading_at cards place) (place + cards_of (heading_at cards place))))
faults_on cards place within =
    first_on (λ k. place < k) (faults_behind [] (heading_at cards place) ++ stop_faults cards (heading_at cards place) (place + cards_of (heading_at cards place)))
    (each-append (λ k. place < k) (faults_behind [] (heading_at cards place)) (stop_faults cards (heading_at cards place) (place + cards_of (heading_at cards place)))
    (each_later (λ k. place < k) (length (drop place cards)) (place + 1) (drop place cards) [] (λ k low. omega arith))
    (each_stop (λ k. place < k) cards (heading_at cards place) (place + cards_of (heading_at cards place)) within (omega arith)))

-- a job without an error has a RUN
has_run : (cards : List (List ℕ)) (heading : List Statement) (end : ℕ) → first_fault (faults_behind [] heading ++ stop_faults cards heading end) ≡ None → has Run heading ≡ true
has_run cards heading end h = go (has Run heading) refl (no_faults (faults_behind [] heading ++ stop_faults cards heading end) h)
  where
    go : (t : Bool) → has Run heading ≡ t → faults_behind [] heading ++ cond (has Run heading) [] (stop_fault cards end (slice_get cards end) ∷ []) ≡ [] → has Run heading ≡ true
    go true e none = e
    go false e none =
        let rest : faults_behind [] heading ++ stop_fault cards end (slice_get cards end) ∷ [] ≡ [] =
        subst (λ (t : Bool). faults_behind [] heading ++ cond t [] (stop_fault cards end (slice_get cards end) ∷ []) ≡ []) e none in
        absurd (omega (arith, ap length rest, length-append (faults_behind [] heading) (stop_fault cards end (slice_get cards end) ∷ [])))

some_cards : (turns number : ℕ) (cards : List (List ℕ)) → has Run (statements_within turns number cards) ≡ true → 0 < cards_of (statements_within turns number cards)
unfolding statements_within
some_cards zero number cards h = cc
some_cards (suc turns) number [] h = cc
some_cards (suc turns) number (card ∷ cards) h = go (is_statement card) h
  where
    go : (t : Bool) → has Run (cond t (statement_at number card cards ∷ cond (is_verb Run (statement_at number card cards).verb) [] (statements_within turns (number + (statement_at number card cards).cards) (drop (statement_at number card cards).cards (card ∷ cards)))) []) ≡ true
        → 0 < cards_of (cond t (statement_at number card cards ∷ cond (is_verb Run (statement_at number card cards).verb) [] (statements_within turns (number + (statement_at number card cards).cards) (drop (statement_at number card cards).cards (card ∷ cards)))) [])
    go true h =
        omega (
          arith,
          statement_cards number card cards,
          sum_by-cons (λ (s : Statement). s.cards) (statement_at number card cards)
              (cond (is_verb Run (statement_at number card cards).verb) [] (statements_within turns (number + (statement_at number card cards).cards) (drop (statement_at number card cards).cards (card ∷ cards)))),
        )
    go false h = cc

-- a job ends after the place where it begins
pub after_place : (cards : List (List ℕ)) (place : ℕ) → place < length cards → place < place_after (job_at cards place)
unfolding job_at
after_place cards place within = go _ refl (faults_on cards place within)
  where
    go : (o : Option Mark) → first_fault (faults_behind [] (heading_at cards place) ++ stop_faults cards (heading_at cards place) (place + cards_of (heading_at cards place))) ≡ o
        → On (λ k. place < k) o → place < place_after (job_or_fault cards (heading_at cards place) (place + cards_of (heading_at cards place)) o)
    go None e on =
        let some = some_cards (length (drop place cards)) (place + 1) (drop place cards) (has_run cards (heading_at cards place) (place + cards_of (heading_at cards place)) e) in
        let ended = after_job cards (next_place is_separator cards (place + cards_of (heading_at cards place))) in
        omega arith
    go (Some mark) e on = after_faulty cards place mark.card on within

stream_within : (turns : ℕ) (cards : List (List ℕ)) (from : ℕ) → length cards ≤ from + turns → Stream cards from (jobs_within turns cards from)
unfolding jobs_within
stream_within zero cards from enough = ends from (omega arith)
stream_within (suc turns) cards from enough = elim (cases_lt (next_job cards from) (length cards)) [
  | inl less ↦
      subst (λ (t : Bool). Stream cards from (cond t (job_at cards (next_job cards from) ∷ jobs_within turns cards (place_after (job_at cards (next_job cards from)))) []))
      (sym (lt-ltb (next_job cards from) (length cards) less))
      (next from (jobs_within turns cards (place_after (job_at cards (next_job cards from)))) less
      (stream_within turns cards (place_after (job_at cards (next_job cards from))) (omega (arith, after_place cards (next_job cards from) less))))
  | inr past ↦
      subst (λ (t : Bool). Stream cards from (cond t (job_at cards (next_job cards from) ∷ jobs_within turns cards (place_after (job_at cards (next_job cards from)))) []))
      (sym (le-ltb (next_job cards from) (length cards) past)) (ends from past)
]

-- the jobs from a place on satisfy the relation
pub stream_from : (cards : List (List ℕ)) (from : ℕ) → Stream cards from (jobs_from cards from)
stream_from cards from = stream_within (length cards) cards from (omega arith)

-- no other list of jobs satisfies the relation
pub only_stream : (cards : List (List ℕ)) (from : ℕ) (xs ys : List (Result Job FaultyJob)) → Stream cards from xs → Stream cards from ys → xs ≡ ys
only_stream cards _ _ _ (ends from h) (ends _ g) = refl
only_stream cards _ _ _ (ends from h) (next _ jobs g more) = absurd (omega arith)
only_stream cards _ _ _ (next from jobs h more) (ends _ g) = absurd (omega arith)
only_stream cards _ _ _ (next from jobs h more) (next _ others g rest) =
    ap (λ (js : List (Result Job FaultyJob)). job_at cards (next_job cards from) ∷ js) (only_stream cards (place_after (job_at cards (next_job cards from))) jobs others more rest)

pub one_stream : OneStream
one_stream cards from = (stream_from cards from, λ jobs s. only_stream cards from jobs (jobs_from cards from) s (stream_from cards from))

-- if no further job begins, there are no jobs
pub jobs_from-none : (cards : List (List ℕ)) (from : ℕ) → length cards ≤ next_job cards from → jobs_from cards from ≡ []
jobs_from-none cards from past = only_stream cards from (jobs_from cards from) [] (stream_from cards from) (ends from past)

-- if a further job begins, the jobs are that job and those after it
pub jobs_from-next : (cards : List (List ℕ)) (from : ℕ) → next_job cards from < length cards
    → jobs_from cards from ≡ job_at cards (next_job cards from) ∷ jobs_from cards (place_after (job_at cards (next_job cards from)))
jobs_from-next cards from less =
    only_stream cards from (jobs_from cards from) _ (stream_from cards from) (next from _ less (stream_from cards (place_after (job_at cards (next_job cards from)))))
