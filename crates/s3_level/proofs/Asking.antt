-- What a level has of its job at work is what each world that it holds has of it.
use Rattle.std.specs.Prelude.{◌≢◌, Bool, true, false, is_some, map}
use Rattle.std.proofs.Common.{◌≡◌, ℕ, List, [], ◌∷◌, slice_range, Option, Some, None, Result, refl, sym, ap, subst, ◌∙◌}
use Rattle.s3_job_files.specs.Inner.Holds.{job_file_of}
use Rattle.s3_ocl.specs.declared.faults.FaultyJob.{FaultyJob}
use Rattle.s3_ocl.specs.Jobs.{Job}
use Rattle.s3_ocl.specs.Streams.{jobs_from}
use Rattle.s3_solo.specs.World.{World, JobAtWork}
use Rattle.s3_level.specs.declared.job.OpenJob.{OpenJob}
use Rattle.s3_level.specs.declared.level.Level.{Level}
use Rattle.s3_level.specs.Inner.Holds.{Around, Holds, HoldsAtWork}
use Rattle.s3_level.specs.Inner.Queries.{AreUnread, IsCycleOf, files_of, is_left}

-- ---- the job at work
-- a world has one where the level has
pub same_job : (deck : List (List ℕ)) (job : Option OpenJob) (w : World) (meant : Option JobAtWork) → HoldsAtWork deck job w meant → is_some job ≡ is_some meant
same_job deck None w None held = refl
same_job deck (Some job) w (Some meant) held = refl
same_job deck None w (Some meant) held = absurd held
same_job deck (Some job) w None held = absurd held

pub job_held : (level : Level) (beside : Around) (w : World) → Holds level beside w → is_some level.job ≡ is_some w.job
job_held level beside w held = same_job level.deck level.job w w.job held.parts.job

none_there : (deck : List (List ℕ)) (job : Option OpenJob) (w : World) (meant : Option JobAtWork) → job ≡ None → HoldsAtWork deck job w meant → meant ≡ None
none_there deck None w None none held = refl
none_there deck None w (Some meant) none held = absurd held
none_there deck (Some job) w meant none held = let clash : Some job ≡ None = none in cc

-- where the level has none the world has none
no_job : (level : Level) (beside : Around) (w : World) → level.job ≡ None → Holds level beside w → w.job ≡ None
no_job level beside w none held = none_there level.deck level.job w w.job none held.parts.job

-- ---- its cards
same_cards : (deck cards : List (List ℕ)) (job : OpenJob) (w : World) (meant : Option JobAtWork) → cards ≡ deck → HoldsAtWork deck (Some job) w meant
    → AreUnread (Some (record { next = job.next; end = job.end })) cards meant
same_cards deck cards job w None same held = absurd held
same_cards deck cards job w (Some meant) same held = held.cards ∙ ap (λ (all : List (List ℕ)). slice_range all job.next job.end) (sym same)

pub cards_held : (level : Level) (beside : Around) (w : World) (job : OpenJob) → level.job ≡ Some job → Holds level beside w
    → AreUnread (Some (record { next = job.next; end = job.end })) w.deck.cards w.job
cards_held level beside w job there held =
    same_cards level.deck w.deck.cards job w w.job held.parts.cards (subst (λ (o : Option OpenJob). HoldsAtWork level.deck o w w.job) there held.parts.job)

pub no_cards : (level : Level) (beside : Around) (w : World) → level.job ≡ None → Holds level beside w → AreUnread None w.deck.cards w.job
no_cards level beside w none held = subst (λ (meant : Option JobAtWork). AreUnread None w.deck.cards meant) (sym (no_job level beside w none held)) tt

-- ---- its files
same_files : (deck : List (List ℕ)) (job : OpenJob) (w : World) (meant : Option JobAtWork) → HoldsAtWork deck (Some job) w meant → map job_file_of job.files.files.items ≡ files_of meant
same_files deck job w None held = absurd held
same_files deck job w (Some meant) held = sym held.files

pub files_held : (level : Level) (beside : Around) (w : World) (job : OpenJob) → level.job ≡ Some job → Holds level beside w → map job_file_of job.files.files.items ≡ files_of w.job
files_held level beside w job there held = same_files level.deck job w w.job (subst (λ (o : Option OpenJob). HoldsAtWork level.deck o w w.job) there held.parts.job)

pub no_files : (level : Level) (beside : Around) (w : World) → level.job ≡ None → Holds level beside w → [] ≡ files_of w.job
no_files level beside w none held = sym (ap files_of (no_job level beside w none held))

-- ---- its cycle
same_cycle : (deck : List (List ℕ)) (job : OpenJob) (w : World) (meant : Option JobAtWork) → HoldsAtWork deck (Some job) w meant → IsCycleOf (Some job.cycle) w meant
same_cycle deck job w None held = absurd held
same_cycle deck job w (Some meant) held = held.follows

pub cycle_held : (level : Level) (beside : Around) (w : World) (job : OpenJob) → level.job ≡ Some job → Holds level beside w → IsCycleOf (Some job.cycle) w w.job
cycle_held level beside w job there held = same_cycle level.deck job w w.job (subst (λ (o : Option OpenJob). HoldsAtWork level.deck o w w.job) there held.parts.job)

pub no_cycle : (level : Level) (beside : Around) (w : World) → level.job ≡ None → Holds level beside w → IsCycleOf None w w.job
no_cycle level beside w none held = subst (λ (meant : Option JobAtWork). IsCycleOf None w meant) (sym (no_job level beside w none held)) tt

-- ---- the jobs that are left
is_left_where : (has : Bool) (jobs : List (Result Job FaultyJob)) → (has ≡ false → jobs ≡ []) → (has ≡ true → jobs ≢ []) → has ≡ is_left jobs
is_left_where false [] none some = refl
is_left_where false (job ∷ jobs) none some = let clash : job ∷ jobs ≡ [] = none refl in cc
is_left_where true [] none some = absurd (some refl refl)
is_left_where true (job ∷ jobs) none some = refl

pub left_held : (has : Bool) (level : Level) (beside : Around) (w : World) → (has ≡ false → jobs_from level.deck level.next ≡ []) → (has ≡ true → jobs_from level.deck level.next ≢ []) → Holds level beside w
    → has ≡ is_left w.deck.jobs
left_held has level beside w none some held = is_left_where has _ none some ∙ ap is_left (sym held.parts.jobs)
