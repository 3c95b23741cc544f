-- An entry that is idle or refused changes nothing: so the same entry again does neither act nor change anything.
use Rattle.std.proofs.Common.{◌≡◌, ◌≢◌, ◌⊎◌, inl, inr, zero, suc, ℕ, ◌-◌, ◌≤◌, Bool, true, false, List, [], ◌∷◌, Option, Some, None, Result, Ok, Err, if◌then◌else◌, replicate, refl, sym, ap, subst, ◌∙◌, arith}
use Rattle.s3_meaning.specs.Requests.{Request, Card, Read, Chain, Append, Add, Update, Print, Jump, Ask, End, Done}
use Rattle.s3_ocl.specs.declared.faults.FaultyJob.{FaultyJob}
use Rattle.s3_ocl.specs.Jobs.{Job}
use Rattle.s3_operator.specs.declared.reply_fault.ReplyFault.{ReplyFault}
use Rattle.s3_operator.specs.Halts.{answer_to, is_waiting, waiting}
use Rattle.s3_job_files.specs.Requests as files
use Rattle.s3_job_files.specs.Requests.{Served}
use Rattle.s3_solo.specs.declared.action.Action.{Action}
use Rattle.s3_solo.specs.declared.action.Action.TheVariants.{Turn, Drain}
use Rattle.s3_solo.specs.declared.action.Action.TheVariants as action
use Rattle.s3_solo.specs.declared.action.Did.{Did}
use Rattle.s3_solo.specs.declared.action.Did.TheVariants.{Acted, Idle, Refused}
use Rattle.s3_solo.specs.Lines.{has_room, is_queued, with_drained}
use Rattle.s3_solo.specs.World.{World, JobAtWork}
use Rattle.s3_solo.specs.Serving.{Outcome, acted, answered, begun, file_served, idle, in_use, line_put, pending, served}
use Rattle.s3_solo.specs.Solo.{drained, gone_on, refused, replied, reply_given, solo, step_of, turned}
use Rattle.s3_level.specs.Inner.Holds.{Repeats}
use Rattle.s3_level.specs.declared.taken.Taken.{Taken}
use Rattle.s3_bureau.specs.Inner.Underway.{left_after, left_by}

-- an entry acts, or changes nothing
abbrev ActsOrStays : World → Outcome → Type 0
ActsOrStays w o = (o.did ≡ Acted) ⊎ (o.world ≡ w)

file_acts : (serves : Option Served) (job : JobAtWork) (w : World) → ActsOrStays w (file_served serves job w)
file_acts None job w = inr refl
file_acts (Some served) job w = inl refl

served_acts : (request : Request) (job : JobAtWork) (w : World) → ActsOrStays w (served request job w)
served_acts Card job w = inl refl
served_acts (Read file size) job w = file_acts (files.served (Read file size) (in_use job w)) job w
served_acts (Chain file size sought) job w = file_acts (files.served (Chain file size sought) (in_use job w)) job w
served_acts (Append file bytes) job w = file_acts (files.served (Append file bytes) (in_use job w)) job w
served_acts (Add file bytes) job w = file_acts (files.served (Add file bytes) (in_use job w)) job w
served_acts (Update file current changes) job w = file_acts (files.served (Update file current changes) (in_use job w)) job w
served_acts (Print page line text) job w = by (has_room w.lines)
  where
    by : (b : Bool) → ActsOrStays w (if b then acted (answered Done job (line_put page line text w)) else idle w)
    by true = inl refl
    by false = inr refl
served_acts Jump job w = inl refl
served_acts (Ask code) job w = inr refl
served_acts (End at_once) job w = inl refl

turn_acts : (w : World) → ActsOrStays w (turned w)
turn_acts w = by (is_waiting w.halts)
  where
    begins_or : (jobs : List (Result Job FaultyJob)) → ActsOrStays w (begun jobs w)
    begins_or [] = inr refl
    begins_or (job ∷ jobs) = inl refl

    gone : (o : Option JobAtWork) → ActsOrStays w (gone_on o w)
    gone None = begins_or w.deck.jobs
    gone (Some job) = served_acts (pending job w) job w

    by : (b : Bool) → ActsOrStays w (if b then idle w else gone_on w.job w)
    by true = inr refl
    by false = gone w.job

reply_acts : (digit : ℕ) (w : World) → ActsOrStays w (replied digit w)
reply_acts digit w = by (answer_to digit (waiting w.halts))
  where
    by : (answer : Result (Unit {0}) ReplyFault) → ActsOrStays w (reply_given digit answer w)
    by (Err fault) = inr refl
    by (Ok allowed) = inl refl

drain_acts : (w : World) → ActsOrStays w (drained w)
drain_acts w = by (is_queued w.lines)
  where
    by : (b : Bool) → ActsOrStays w (if b then acted (record w { lines = with_drained w.lines }) else refused 3 w)
    by true = inl refl
    by false = inr refl

entry_acts : (w : World) (action : Action) → ActsOrStays w (step_of w action)
entry_acts w Turn = turn_acts w
entry_acts w (action.Reply digit) = reply_acts digit w
entry_acts w Drain = drain_acts w

stays : (w : World) (action : Action) → (step_of w action).did ≢ Acted → (step_of w action).world ≡ w
stays w action idles = by (entry_acts w action)
  where
    by : ActsOrStays w (step_of w action) → (step_of w action).world ≡ w
    by (inl acts) = absurd (idles acts)
    by (inr same) = same

-- however often it is done
pub stays_idle : (w : World) (action : Action) (n : ℕ) → (step_of w action).did ≢ Acted → solo w (replicate n action) ≡ w
stays_idle w action zero idles = refl
stays_idle w action (suc n) idles = ap (λ (v : World). solo v (replicate n action)) (stays w action idles) ∙ stays_idle w action n idles

-- where some entries did nothing, as many more as there are may count as performed
idle_times : (action : Action) (times more : ℕ) (did : Did) (old new : World → Type 0) → did ≢ Acted → 1 ≤ times → Repeats action times did old new
    → (w : World) → old w → new (solo w (replicate more action))
idle_times action times more did old new idles some repeats w held =
    let here = repeats w held in
    let none : (step_of w action).did ≢ Acted = λ acts. idles (here.0 0 some ∙ acts) in
    subst new (stays_idle w action times none ∙ sym (stays_idle w action more none)) here.1

-- those that are performed behind some entries that did the same
pub times_taken : (action : Action) (taken : Taken) (left : ℕ) (old new : World → Type 0) → 1 ≤ taken.times → taken.times ≤ left → Repeats action taken.times taken.did old new
    → (w : World) → old w → new (solo w (replicate (left - left_after taken left) action))
times_taken action taken left old new some few repeats = by taken.did repeats
  where
    by : (did : Did) → Repeats action taken.times did old new → (w : World) → old w → new (solo w (replicate (left - left_by did taken.times left) action))
    by Acted repeated =
        let same : taken.times ≡ left - (left - taken.times) = omega (arith, few) in
        λ w held. subst (λ (n : ℕ). new (solo w (replicate n action))) same (repeated w held).1
    by Idle repeated = idle_times action taken.times (left - 0) Idle old new (λ is. cc) some repeated
    by (Refused number) repeated = idle_times action taken.times (left - 0) (Refused number) old new (λ is. cc) some repeated
