-- The lines of the jobs that were begun.
use Rattle.std.proofs.Common.{◌≡◌, ℕ, suc, ◌+◌, ◌-◌, ◌^◌, Bool, true, false, List, [], ◌∷◌, ◌++◌, append_assoc, length, get_or, replicate, set, refl, sym, ap, ◌∙◌, arith}
use Rattle.std.specs.Prelude.{min, not, if◌then◌else◌}
use Rattle.std.proofs.lemmas.List.{append-nil, get_or-map, length-append, length-set, length-map, map-append, map-set, replicate-append-replicate}
use Rattle.std.proofs.Math.Seq.{map-set_same}
use Rattle.s3_day_log.specs.declared.ledger.BegunJob.{BegunJob}
use Rattle.s3_day_log.specs.Inner.Counting.{BeginsSilent, CountsLines, lines_behind, lines_of, with_more}

-- ---- one job
pub lines_set : (jobs : List BegunJob) (i : ℕ) (job d : BegunJob) → job.lines ≡ (get_or jobs i d).lines → lines_of (set jobs i job) ≡ lines_of jobs
lines_set jobs i job d same = map-set_same (λ (j : BegunJob). j.lines) jobs i job d same

pub lines_counted : (jobs : List BegunJob) (job d : BegunJob) (new : ℕ) → job.lines ≡ min ((get_or jobs (length jobs - 1) d).lines + new) (2 ^ 64 - 1)
    → lines_of (set jobs (length jobs - 1) job) ≡ with_more new (lines_of jobs)
lines_counted [] job d new is = refl
lines_counted (first ∷ jobs) job d new is =
    let all : List BegunJob = first ∷ jobs in
    let long : length (lines_of all) ≡ length all = length-map all (λ (j : BegunJob). j.lines) in
    let last : get_or (lines_of all) (length all - 1) 0 ≡ (get_or all (length all - 1) d).lines = get_or-map (λ (j : BegunJob). j.lines) all (length all - 1) d 0 (omega arith) in
    map-set (λ (j : BegunJob). j.lines) all (length all - 1) job
    ∙ ap (λ n. set (lines_of all) (length all - 1) n) (is ∙ ap (λ n. min (n + new) (2 ^ 64 - 1)) (sym last))
    ∙ ap (λ n. set (lines_of all) (n - 1) (min (get_or (lines_of all) (n - 1) 0 + new) (2 ^ 64 - 1))) (sym long)

pub none_counted : (jobs : List BegunJob) (new : ℕ) → length jobs ≡ 0 → lines_of jobs ≡ with_more new (lines_of jobs)
none_counted [] new none = refl
none_counted (job ∷ jobs) new none = absurd (omega (arith, none))

pub lines_more : (before marked after : List BegunJob) (job : BegunJob) → lines_of marked ≡ lines_of before → after ≡ marked ++ job ∷ [] → job.lines ≡ 0 → lines_of after ≡ lines_of before ++ 0 ∷ []
lines_more before marked after job was is new =
    ap lines_of is ∙ map-append (λ (j : BegunJob). j.lines) marked (job ∷ [])
    ∙ ap (λ (n : ℕ). lines_of marked ++ n ∷ []) new ∙ ap (λ (ns : List ℕ). ns ++ 0 ∷ []) was

-- ---- jobs that begin
long_as : (jobs : List BegunJob) → length (lines_of jobs) ≡ length jobs
long_as jobs = length-map jobs (λ (j : BegunJob). j.lines)

pub silent_none : (jobs : List BegunJob) → BeginsSilent jobs jobs
silent_none jobs = record { count = 0; many = omega arith; lines = sym (append-nil (lines_of jobs)) }

pub silent_more : (first old new : List BegunJob) → BeginsSilent first old → lines_of new ≡ lines_of old ++ 0 ∷ [] → BeginsSilent first new
silent_more first old new before one =
    let long : length new ≡ length old + 1 = sym (long_as new) ∙ ap length one ∙ length-append (lines_of old) (0 ∷ []) ∙ ap (λ n. n + 1) (long_as old) in
    let were : length old ≡ length first + before.count = before.many in
    record {
      count = before.count + 1;
      many = omega (arith, long, were);
      lines =
          one ∙ ap (λ (ns : List ℕ). ns ++ 0 ∷ []) before.lines
          ∙ append_assoc (lines_of first) (replicate before.count 0) (replicate 1 0)
          ∙ ap (λ (ns : List ℕ). lines_of first ++ ns) (replicate-append-replicate before.count 1 0);
    }

-- ---- a look at a level
same_long : (one other : List BegunJob) → lines_of one ≡ lines_of other → length one ≡ length other
same_long one other same = sym (long_as one) ∙ ap length same ∙ long_as other

pub all_counted : (was_open : Bool) (lines counted later : ℕ) (old middle begun last : List BegunJob) → lines_of middle ≡ (if was_open then with_more (lines - counted) (lines_of old) else lines_of old)
    → later ≡ (if was_open then lines else counted) → BeginsSilent middle begun → lines_of last ≡ (if not was_open then with_more (lines - later) (lines_of begun) else lines_of begun)
    → CountsLines was_open (lines - counted) old last
all_counted true lines counted later old middle begun last first from jobs after =
    let long : length last ≡ length begun = same_long last begun after in
    let were : length middle ≡ length old =
    sym (long_as middle) ∙ ap length first ∙ length-set (lines_of old) (length (lines_of old) - 1) (min (get_or (lines_of old) (length (lines_of old) - 1) 0 + (lines - counted)) (2 ^ 64 - 1)) ∙ long_as old in
    let many : length begun ≡ length middle + jobs.count = jobs.many in
    record { begun = jobs.count; many = omega (arith, long, were, many); lines = after ∙ jobs.lines ∙ ap (λ (ns : List ℕ). ns ++ replicate jobs.count 0) first }
all_counted false lines counted later old middle begun last first from jobs after =
    let long : length last ≡ length begun =
    sym (long_as last) ∙ ap length after ∙ length-set (lines_of begun) (length (lines_of begun) - 1) (min (get_or (lines_of begun) (length (lines_of begun) - 1) 0 + (lines - later)) (2 ^ 64 - 1)) ∙ long_as begun in
    let were : length middle ≡ length old = same_long middle old first in
    let many : length begun ≡ length middle + jobs.count = jobs.many in
    record {
      begun = jobs.count;
      many = omega (arith, long, were, many);
      lines = after ∙ ap (λ n. with_more (lines - n) (lines_of begun)) from ∙ ap (with_more (lines - counted)) (jobs.lines ∙ ap (λ (ns : List ℕ). ns ++ replicate jobs.count 0) first);
    }
