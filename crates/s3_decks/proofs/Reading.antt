-- Steps of the loop over the jobs of a deck.
use Rattle.std.proofs.Common.{◌≡◌, ℕ, ◌+◌, ◌-◌, ◌<◌, ◌≤◌, zero, suc, List, [], ◌∷◌, ◌++◌, Bool, cond, length, map, append_assoc, refl, sym, ap, ◌∙◌, arith, lt-ltb, le-ltb, inl, inr, Some, None}
use Rattle.std.proofs.lemmas.List.{append-nil, map-append}
use Rattle.std.specs.Prelude.{Result}
use Rattle.std.proofs.lemmas.Bool.{cases_lt}
use Rattle.s3_ocl.specs.Inner.Jobs.{job_place}
use Rattle.s3_ocl.specs.declared.faults.FaultyJob.{FaultyJob}
use Rattle.s3_ocl.specs.Jobs.{Job, job_at, next_job, place_after}
use Rattle.s3_ocl.specs.Streams.{jobs_within}
use Rattle.s3_decks.specs.declared.job_list.JobEntry.{JobEntry}
use Rattle.s3_decks.specs.Inner.Days.{said}

-- where a job is left the first of them is the next one, and else there is none
job_more : (cards : List (List ℕ)) (turns place : ℕ) → next_job cards place < length cards → jobs_within (suc turns) cards place ≡ job_at cards (next_job cards place) ∷ jobs_within turns cards (place_after (job_at cards (next_job cards place)))
unfolding jobs_within
job_more cards turns place less =
    ap (λ (t : Bool). cond t (job_at cards (next_job cards place) ∷ jobs_within turns cards (place_after (job_at cards (next_job cards place)))) []) (lt-ltb (next_job cards place) (length cards) less)

no_more : (cards : List (List ℕ)) (turns place : ℕ) → length cards ≤ next_job cards place → jobs_within turns cards place ≡ []
unfolding jobs_within
no_more cards zero place past = refl
no_more cards (suc turns) place past =
    ap (λ (t : Bool). cond t (job_at cards (next_job cards place) ∷ jobs_within turns cards (place_after (job_at cards (next_job cards place)))) []) (le-ltb (next_job cards place) (length cards) past)

-- a job that was read comes after those that were read before, and before those that are left
pub listed_more : (cards : List (List ℕ)) (total : List (Result Job FaultyJob)) (jobs : List JobEntry) (entry : JobEntry) (n i place : ℕ) → total ≡ map (λ e. said e.statements) jobs ++ jobs_within (n - i) cards place → i < n → next_job cards place < length cards → said entry.statements ≡ job_at cards (next_job cards place) → total ≡ map (λ e. said e.statements) (jobs ++ entry ∷ []) ++ jobs_within (n - (i + 1)) cards (place_after (said entry.statements))
listed_more cards total jobs entry n i place so_far within less is =
    let one_less : n - i ≡ suc (n - (i + 1)) = omega arith in
    so_far
    ∙ ap (λ turns. map (λ e. said e.statements) jobs ++ jobs_within turns cards place) one_less
    ∙ ap (λ rest. map (λ e. said e.statements) jobs ++ rest) (job_more cards (n - (i + 1)) place less)
    ∙ ap (λ job. map (λ e. said e.statements) jobs ++ job ∷ jobs_within (n - (i + 1)) cards (place_after job)) (sym is)
    ∙ sym (append_assoc (map (λ e. said e.statements) jobs) (said entry.statements ∷ []) (jobs_within (n - (i + 1)) cards (place_after (said entry.statements))))
    ∙ ap (λ front. front ++ jobs_within (n - (i + 1)) cards (place_after (said entry.statements))) (sym (map-append (λ e. said e.statements) jobs (entry ∷ [])))

-- all are read where none is left
pub all_listed : (cards : List (List ℕ)) (total : List (Result Job FaultyJob)) (jobs : List JobEntry) (turns place : ℕ) → total ≡ map (λ e. said e.statements) jobs ++ jobs_within turns cards place → length cards ≤ next_job cards place → map (λ e. said e.statements) jobs ≡ total
all_listed cards total jobs turns place so_far past =
    sym (append-nil (map (λ e. said e.statements) jobs))
    ∙ ap (λ rest. map (λ e. said e.statements) jobs ++ rest) (sym (no_more cards turns place past))
    ∙ sym so_far

-- where there is a place of the next job, one is left, and else none is
pub next_within : (cards : List (List ℕ)) (place from : ℕ) → job_place cards place ≡ Some from → next_job cards place < length cards
next_within cards place from e = elim (cases_lt (next_job cards place) (length cards)) [
  | inl less ↦ less
  | inr past ↦ grind (arith, e, le-ltb (next_job cards place) (length cards) past)
]

pub none_left : (cards : List (List ℕ)) (place : ℕ) → job_place cards place ≡ None → length cards ≤ next_job cards place
none_left cards place e = elim (cases_lt (next_job cards place) (length cards)) [
  | inl less ↦ grind (arith, e, lt-ltb (next_job cards place) (length cards) less)
  | inr past ↦ past
]

-- all are read where the turns are over
pub all_taken : (cards : List (List ℕ)) (total : List (Result Job FaultyJob)) (jobs : List JobEntry) (n i place : ℕ) → total ≡ map (λ e. said e.statements) jobs ++ jobs_within (n - i) cards place → n ≤ i → map (λ e. said e.statements) jobs ≡ total
unfolding jobs_within
all_taken cards total jobs n i place so_far over =
    let none : n - i ≡ 0 = omega arith in
    sym (append-nil (map (λ e. said e.statements) jobs))
    ∙ ap (λ turns. map (λ e. said e.statements) jobs ++ jobs_within turns cards place) (sym none)
    ∙ sym so_far
