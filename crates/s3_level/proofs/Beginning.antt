-- The next job of a deck begins.
use Rattle.std.proofs.Common.{◌≡◌, List, [], ◌∷◌, refl, sym, ◌∙◌, subst, Result, Ok}
use Rattle.s3_ocl.specs.declared.faults.FaultyJob.{FaultyJob}
use Rattle.s3_ocl.specs.Jobs.{Job}
use Rattle.s3_ocl.specs.Streams.{jobs_from}
use Rattle.s3_solo.specs.declared.action.Did.TheVariants.{Acted, Idle}
use Rattle.s3_solo.specs.World.{World}
use Rattle.s3_solo.specs.Serving.{begun}
use Rattle.s3_level.specs.declared.level.Level.{Level}
use Rattle.s3_level.specs.Inner.Holds.{Becomes, HoldsParts, Shown}
use Rattle.s3_level.specs.Inner.Turning.{Begins, Starts}

-- no job is left
pub nothing_begins : (s : Shown) (E : Type 0) (old : Level) (new : World → Type 0) → jobs_from old.deck old.next ≡ [] → Becomes (λ w. w) (HoldsParts old s) new
    → Begins {E = E} (Ok Idle) (HoldsParts old s) new
nothing_begins s E old new none stays = λ w rests held.
    subst (λ (jobs : List (Result Job FaultyJob)). (Idle ≡ (begun jobs w).did) × new (begun jobs w).world) (sym (held.jobs ∙ none)) (refl, stays w held)

-- the next one is started, or refused
pub one_begins : (s : Shown) (E : Type 0) (old : Level) (new : World → Type 0) (job : Result Job FaultyJob) (behind : List (Result Job FaultyJob)) → jobs_from old.deck old.next ≡ job ∷ behind
    → Starts job behind (HoldsParts old s) new
    → Begins {E = E} (Ok Acted) (HoldsParts old s) new
one_begins s E old new job behind next starts = λ w rests held.
    subst (λ (jobs : List (Result Job FaultyJob)). (Acted ≡ (begun jobs w).did) × new (begun jobs w).world) (sym (held.jobs ∙ next)) (refl, starts w rests held)
