-- The endings of the jobs that were begun.
use Rattle.std.proofs.Common.{◌≡◌, ℕ, ◌+◌, List, [], ◌∷◌, ◌++◌, append_assoc, get_or, replicate, set, Option, None, sym, ap, ◌∙◌}
use Rattle.std.proofs.lemmas.List.{append-nil, replicate-append-replicate}
use Rattle.std.proofs.Math.Seq.{map-set_same}
use Rattle.s3_day_log.specs.declared.ledger.BegunJob.{BegunJob}
use Rattle.s3_day_log.specs.Inner.Endings.{Begins, endings}
use Rattle.s3_operator.specs.declared.halt_code.HaltCode.{HaltCode}

abbrev none_yet : Option (HaltCode × ℕ)
none_yet = None

pub begins_none : (old new : List BegunJob) → endings new ≡ endings old → Begins old new
begins_none old new same = record { count = 0; begun = same ∙ sym (append-nil (endings old)) }

begins_job : (old new : List BegunJob) → endings new ≡ endings old ++ none_yet ∷ [] → Begins old new
begins_job old new one = record { count = 1; begun = one }

begins_then : (old middle new : List BegunJob) → Begins old middle → Begins middle new → Begins old new
begins_then old middle new first next = record {
  count = first.count + next.count;
  begun =
      next.begun
      ∙ (ap (λ xs. xs ++ replicate next.count none_yet) first.begun
      ∙ (append_assoc (endings old) (replicate first.count none_yet) (replicate next.count none_yet)
      ∙ ap (λ xs. endings old ++ xs) (replicate-append-replicate first.count next.count none_yet)));
}

pub begins_more : (first old new : List BegunJob) → Begins first old → endings new ≡ endings old ++ none_yet ∷ [] → Begins first new
begins_more first old new begun one = begins_then first old new begun (begins_job old new one)

-- jobs begin, and their lines are counted before and after
pub begins_around : (first counted begun last : List BegunJob) → endings counted ≡ endings first → Begins counted begun → endings last ≡ endings begun → Begins first last
begins_around first counted begun last before jobs after =
    begins_then first counted last (begins_none first counted before) (begins_then counted begun last jobs (begins_none begun last after))

-- a job with the same ending is put in the place of one
pub endings_set : (jobs : List BegunJob) (i : ℕ) (job d : BegunJob) → job.ending ≡ (get_or jobs i d).ending → endings (set jobs i job) ≡ endings jobs
endings_set jobs i job d same = map-set_same (λ (j : BegunJob). j.ending) jobs i job d same
