-- Which jobs have begun, and which are over.
use Rattle.std.proofs.Common.{◌≡◌, ℕ, zero, suc, ◌+◌, ◌-◌, ◌<◌, ◌==◌, Bool, true, false, List, [], ◌∷◌, ◌++◌, length, drop, set, get_or, slice_get, Option, None, Some, refl, sym, ap, ◌∙◌, arith}
use Rattle.std.specs.Global.{Vec}
use Rattle.std.proofs.lemmas.Bool.{and_parts, eqb-true, false≢true}
use Rattle.std.proofs.lemmas.List.{length-append, length-map, length-set, map-append, map-set}
use Rattle.std.proofs.Math.Seq.{map-set_same}
use Rattle.s3_operator.specs.declared.halt_code.HaltCode.{HaltCode}
use Rattle.s3_decks.specs.declared.job_list.JobEntry.{JobEntry}
use Rattle.s3_day_log.specs.declared.ledger.BegunJob.{BegunJob}
use Rattle.s3_day_log.specs.Inner.Endings.{begins_next, begun_by, closed, endings, has_begun, has_begun_if_any, overs, same_bool, stands_still}

-- ---- one job
pub overs_set : (jobs : List BegunJob) (i : ℕ) (job d : BegunJob) → job.is_over ≡ (get_or jobs i d).is_over → overs (set jobs i job) ≡ overs jobs
overs_set jobs i job d same = map-set_same (λ (j : BegunJob). j.is_over) jobs i job d same

pub overs_closed : (jobs : List BegunJob) (job : BegunJob) → job.is_over ≡ true → overs (set jobs (length jobs - 1) job) ≡ closed (overs jobs)
overs_closed jobs job over =
    map-set (λ (j : BegunJob). j.is_over) jobs (length jobs - 1) job
    ∙ ap (λ b. set (overs jobs) (length jobs - 1) b) over
    ∙ ap (λ n. set (overs jobs) (n - 1) true) (sym (length-map jobs (λ (j : BegunJob). j.is_over)))

pub none_closed : (jobs : List BegunJob) → length jobs ≡ 0 → overs jobs ≡ closed (overs jobs)
none_closed [] none = refl
none_closed (job ∷ jobs) none = absurd (omega (arith, none))

pub overs_more : (before marked after : List BegunJob) (job : BegunJob) → overs marked ≡ closed (overs before) → after ≡ marked ++ job ∷ [] → job.is_over ≡ false
    → overs after ≡ closed (overs before) ++ false ∷ []
overs_more before marked after job was is new =
    ap overs is ∙ map-append (λ (j : BegunJob). j.is_over) marked (job ∷ [])
    ∙ ap (λ (b : Bool). overs marked ++ b ∷ []) new ∙ ap (λ (bs : List Bool). bs ++ false ∷ []) was

pub endings_more : (before marked after : List BegunJob) (job : BegunJob) → endings marked ≡ endings before → after ≡ marked ++ job ∷ [] → job.ending ≡ None
    → endings after ≡ endings before ++ None ∷ []
endings_more before marked after job was is new =
    ap endings is ∙ map-append (λ (j : BegunJob). j.ending) marked (job ∷ [])
    ∙ ap (λ (e : Option (HaltCode × ℕ)). endings marked ++ e ∷ []) new ∙ ap (λ (es : List (Option (HaltCode × ℕ))). es ++ None ∷ []) was

-- ---- all jobs
drop_at : (jobs : List JobEntry) (n : ℕ) (entry : JobEntry) → slice_get jobs n ≡ Some entry → drop n jobs ≡ entry ∷ drop (n + 1) jobs
drop_at [] n entry is = absurd cc
drop_at (job ∷ jobs) zero entry is = let same : job ≡ entry = cc in ap (λ (e : JobEntry). e ∷ jobs) same
drop_at (job ∷ jobs) (suc n) entry is = let next : suc n + 1 ≡ suc (n + 1) = omega arith in drop_at jobs n entry is ∙ ap (λ k. entry ∷ drop k (job ∷ jobs)) (sym next)

drop_past : (jobs : List JobEntry) (n : ℕ) → slice_get jobs n ≡ None → drop n jobs ≡ []
drop_past [] zero is = refl
drop_past [] (suc n) is = refl
drop_past (job ∷ jobs) zero is = absurd cc
drop_past (job ∷ jobs) (suc n) is = drop_past jobs n is

length_closed : (before : List Bool) → length (closed before ++ false ∷ []) ≡ length before + 1
length_closed before = length-append (closed before) (false ∷ []) ∙ ap (λ n. n + 1) (length-set before (length before - 1) true)

-- the next job has begun
pub next_begins : (place : ℕ) (jobs : List JobEntry) (before : List Bool) → begins_next place jobs (length before) ≡ true
    → begun_by place (drop (length (closed before ++ false ∷ [])) jobs) (closed before ++ false ∷ []) ≡ begun_by place (drop (length before) jobs) before
next_begins place jobs before begins = by (slice_get jobs (length before)) refl
  where
    by : (next : Option JobEntry) → slice_get jobs (length before) ≡ next
        → begun_by place (drop (length (closed before ++ false ∷ [])) jobs) (closed before ++ false ∷ []) ≡ begun_by place (drop (length before) jobs) before
    by None is = absurd (false≢true (ap (has_begun_if_any place) (sym is) ∙ begins))
    by (Some entry) is =
        let has : has_begun place entry ≡ true = ap (has_begun_if_any place) (sym is) ∙ begins in
        ap (λ n. begun_by place (drop n jobs) (closed before ++ false ∷ [])) (length_closed before)
        ∙ sym (ap (λ left. begun_by place left before) (drop_at jobs (length before) entry is) ∙ rw has refl)

-- no further job has
pub none_begins : (place : ℕ) (jobs : List JobEntry) (before : List Bool) → begins_next place jobs (length before) ≡ false
    → begun_by place (drop (length before) jobs) before ≡ before
none_begins place jobs before begins = by (slice_get jobs (length before)) refl
  where
    by : (next : Option JobEntry) → slice_get jobs (length before) ≡ next → begun_by place (drop (length before) jobs) before ≡ before
    by None is = ap (λ left. begun_by place left before) (drop_past jobs (length before) is)
    by (Some entry) is =
        let hasnt : has_begun place entry ≡ false = ap (has_begun_if_any place) (sym is) ∙ begins in
        ap (λ left. begun_by place left before) (drop_at jobs (length before) entry is) ∙ rw hasnt refl

-- ---- a step among jobs that stay
length_overs : (jobs : List BegunJob) → length (overs jobs) ≡ length jobs
length_overs jobs = length-map jobs (λ (j : BegunJob). j.is_over)

within_jobs : (place : ℕ) (jobs : List JobEntry) (n : ℕ) → begins_next place jobs n ≡ true → n < length jobs
within_jobs place [] zero begins = absurd (false≢true begins)
within_jobs place [] (suc n) begins = absurd (false≢true begins)
within_jobs place (job ∷ jobs) zero begins = omega arith
within_jobs place (job ∷ jobs) (suc n) begins = let less = within_jobs place jobs n begins in omega (arith, less)

pub has_job : (begins : Bool) (place : ℕ) (jobs : Vec JobEntry) (begun : List BegunJob) → begins ≡ begins_next place jobs.items (length begun) → begins ≡ true
    → length begun < length jobs.items
has_job begins place jobs begun is holds = within_jobs place jobs.items (length begun) (sym is ∙ holds)

pub fewer_left : (old new : List BegunJob) (jobs jobs_after : Vec JobEntry) → jobs_after ≡ jobs → length old < length jobs.items → overs new ≡ closed (overs old) ++ false ∷ []
    → length jobs_after.items - length new < length jobs.items - length old
fewer_left old new jobs jobs_after same less more =
    let one : length new ≡ length old + 1 = sym (length_overs new) ∙ ap length more ∙ length_closed (overs old) ∙ ap (λ n. n + 1) (length_overs old) in
    let kept : length jobs_after.items ≡ length jobs.items = ap (λ (v : Vec JobEntry). length v.items) same in
    omega (arith, less, one, kept)

begins_same : (begins : Bool) (place place_now : ℕ) (jobs jobs_now : Vec JobEntry) (begun : List BegunJob) → place_now ≡ place → jobs_now ≡ jobs
    → begins ≡ begins_next place_now jobs_now.items (length begun) → begins_next place jobs.items (length (overs begun)) ≡ begins
begins_same begins place place_now jobs jobs_now begun at same is =
    ap (begins_next place jobs.items) (length_overs begun)
    ∙ sym (is ∙ ap (λ p. begins_next p jobs_now.items (length begun)) at ∙ ap (λ (v : Vec JobEntry). begins_next place v.items (length begun)) same)

pub one_begins : (begins : Bool) (first old new : List BegunJob) (place place_now : ℕ) (jobs jobs_now : Vec JobEntry) → place_now ≡ place → jobs_now ≡ jobs
    → begins ≡ begins_next place_now jobs_now.items (length old) → begins ≡ true → overs new ≡ closed (overs old) ++ false ∷ []
    → begun_by place (drop (length (overs old)) jobs.items) (overs old) ≡ begun_by place (drop (length (overs first)) jobs.items) (overs first)
    → begun_by place (drop (length (overs new)) jobs.items) (overs new) ≡ begun_by place (drop (length (overs first)) jobs.items) (overs first)
one_begins begins first old new place place_now jobs jobs_now at same is holds more so_far =
    ap (λ (bs : List Bool). begun_by place (drop (length bs) jobs.items) bs) more
    ∙ next_begins place jobs.items (overs old) (begins_same begins place place_now jobs jobs_now old at same is ∙ holds)
    ∙ so_far

pub all_begun : (begins : Bool) (first last : List BegunJob) (place place_now : ℕ) (jobs jobs_now : Vec JobEntry) → place_now ≡ place → jobs_now ≡ jobs
    → begins ≡ begins_next place_now jobs_now.items (length last) → begins ≡ false
    → begun_by place (drop (length (overs last)) jobs.items) (overs last) ≡ begun_by place (drop (length (overs first)) jobs.items) (overs first)
    → overs last ≡ begun_by place (drop (length (overs first)) jobs.items) (overs first)
all_begun begins first last place place_now jobs jobs_now at same is not_yet so_far =
    sym (none_begins place jobs.items (overs last) (begins_same begins place place_now jobs jobs_now last at same is ∙ not_yet)) ∙ so_far

-- ---- a level that doesn't change
pub stays_place : (old_place place : ℕ) (was_open is_open : Bool) → stands_still old_place place was_open is_open ≡ true → old_place ≡ place
stays_place old_place place was_open is_open still = eqb-true old_place place (and_parts (old_place == place) (same_bool was_open is_open) still).0

pub stays_open : (old_place place : ℕ) (was_open is_open : Bool) → stands_still old_place place was_open is_open ≡ true → was_open ≡ is_open
stays_open old_place place was_open is_open still = by was_open is_open (and_parts (old_place == place) (same_bool was_open is_open) still).1
  where
    by : (was is : Bool) → same_bool was is ≡ true → was ≡ is
    by true true same = refl
    by true false same = absurd (false≢true same)
    by false true same = absurd (false≢true same)
    by false false same = refl
