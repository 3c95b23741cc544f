-- What answers say of a level at rest.
use Rattle.std.proofs.Common.{◌≡◌, ◌≢◌, inl, inr, ◌≤◌, ℕ, zero, suc, ◌+◌, ◌-◌, nat_lt, Bool, true, false, List, [], ◌∷◌, length, replicate, Option, Some, None, Result, if◌then◌else◌, refl, sym, ap, ◌∙◌, arith}
use Rattle.std.proofs.lemmas.Bool.Decides.{nat_tests}
use Rattle.s3_meaning.specs.Requests.{Request, Card, Read, Chain, Append, Add, Update, Print, Jump, Ask, End, Done}
use Rattle.s3_ocl.specs.declared.faults.FaultyJob.{FaultyJob}
use Rattle.s3_ocl.specs.Jobs.{Job}
use Rattle.s3_operator.specs.Halts.{is_waiting}
use Rattle.s3_job_files.specs.Requests as files
use Rattle.s3_job_files.specs.Requests.{Served}
use Rattle.s3_solo.specs.declared.action.Action.TheVariants.{Drain}
use Rattle.s3_solo.specs.declared.action.Did.TheVariants.{Acted, Idle}
use Rattle.s3_solo.specs.Lines.{all_drained, has_room, is_queued, with_drained}
use Rattle.s3_solo.specs.World.{World, JobAtWork}
use Rattle.s3_solo.specs.Serving.{Outcome, acted, answered, begun, file_served, idle, in_use, line_put, pending, served}
use Rattle.s3_solo.specs.Solo.{gone_on, refused, solo, turned, drained}
use Rattle.s3_time.specs.Inner.Moves.{IsAtRest, emptied}
use Rattle.s3_time.proofs.Entries.{ActsOrIdle, room_left, turn_acts, turn_follows}

-- ---- a turn is answered the same where there is as much room
by_room : (b c : Bool) (one other to from : World) → b ≡ c → (if b then acted one else idle other).did ≡ (if c then acted to else idle from).did
by_room true true one other to from same = refl
by_room false false one other to from same = refl
by_room true false one other to from same = absurd (cc)
by_room false true one other to from same = absurd (cc)

file_did : (serves : Option Served) (job : JobAtWork) (w : World) → (file_served serves job (emptied w)).did ≡ (file_served serves job w).did
file_did None job w = refl
file_did (Some served) job w = refl

served_did : (request : Request) (job : JobAtWork) (w : World) → has_room (all_drained w.lines) ≡ has_room w.lines → (served request job (emptied w)).did ≡ (served request job w).did
served_did Card job w room = refl
served_did (Read file size) job w room = file_did (files.served (Read file size) (in_use job w)) job w
served_did (Chain file size sought) job w room = file_did (files.served (Chain file size sought) (in_use job w)) job w
served_did (Append file bytes) job w room = file_did (files.served (Append file bytes) (in_use job w)) job w
served_did (Add file bytes) job w room = file_did (files.served (Add file bytes) (in_use job w)) job w
served_did (Update file current changes) job w room = file_did (files.served (Update file current changes) (in_use job w)) job w
served_did (Print page line text) job w room =
    by_room (has_room (all_drained w.lines)) (has_room w.lines) (answered Done job (line_put page line text (emptied w))) (emptied w) (answered Done job (line_put page line text w)) w room
served_did Jump job w room = refl
served_did (Ask code) job w room = refl
served_did (End at_once) job w room = refl

turn_did : (w : World) → has_room (all_drained w.lines) ≡ has_room w.lines → (turned (emptied w)).did ≡ (turned w).did
turn_did w room = by (is_waiting w.halts)
  where
    begins : (jobs : List (Result Job FaultyJob)) → (begun jobs (emptied w)).did ≡ (begun jobs w).did
    begins [] = refl
    begins (job ∷ jobs) = refl

    gone : (o : Option JobAtWork) → (gone_on o (emptied w)).did ≡ (gone_on o w).did
    gone None = begins w.deck.jobs
    gone (Some job) = served_did (pending job w) job w room

    by : (b : Bool) → (if b then idle (emptied w) else gone_on w.job (emptied w)).did ≡ (if b then idle w else gone_on w.job w).did
    by true = refl
    by false = gone w.job

-- ---- rest
pub idle_with_room : (w : World) → (turned w).did ≡ Idle → has_room w.lines ≡ true → IsAtRest w
idle_with_room w is room =
    turn_did w (room_left (length w.lines.printed - w.lines.drained) w.lines.quota room (length w.lines.printed) ∙ sym room) ∙ is

none_left : (size drained quota : ℕ) → nat_lt drained size ≡ false → nat_lt (size - size) quota ≡ nat_lt (size - drained) quota
none_left size drained quota none = ap (λ n. nat_lt n quota) (same size drained none)
  where
    same : (size drained : ℕ) → nat_lt drained size ≡ false → size - size ≡ size - drained
    same size drained none = grind (arith, nat_tests)

pub idle_and_empty : (w : World) → (turned w).did ≡ Idle → (drained w).did ≢ Acted → IsAtRest w
idle_and_empty w is empty = by (is_queued w.lines) refl
  where
    by : (b : Bool) → is_queued w.lines ≡ b → IsAtRest w
    by true queued = absurd (empty (ap (λ (b : Bool). (if b then acted (record w { lines = with_drained w.lines }) else refused 3 w).did) queued))
    by false none = turn_did w (none_left (length w.lines.printed) w.lines.drained w.lines.quota none) ∙ is

pub rest_is_idle : (w : World) → IsAtRest w → (turned w).did ≡ Idle
rest_is_idle w rest = by (turn_acts w)
  where
    by : ActsOrIdle w (turned w) → (turned w).did ≡ Idle
    by (inl act) = let both : Idle ≡ Acted = sym rest ∙ (turn_follows w act).0 in absurd (let wrong : Idle ≡ Acted = both in cc)
    by (inr is) = ap (λ (o : Outcome). o.did) is

pub waiting_rests : (w : World) → is_waiting w.halts ≡ true → IsAtRest w
waiting_rests w waits = ap (λ (b : Bool). (if b then idle (emptied w) else gone_on w.job (emptied w)).did) waits

pub over_rests : (w : World) → w.job ≡ None → w.deck.jobs ≡ [] → IsAtRest w
over_rests w none left = by (is_waiting w.halts)
  where
    gone : (o : Option JobAtWork) (jobs : List (Result Job FaultyJob)) → o ≡ None → jobs ≡ [] → (gone_on o (record (emptied w) { deck = record w.deck { jobs = jobs } })).did ≡ Idle
    gone None [] is empty = refl
    gone None (job ∷ jobs) is empty = absurd (cc)
    gone (Some job) jobs is empty = absurd (cc)

    by : (b : Bool) → (if b then idle (emptied w) else gone_on w.job (emptied w)).did ≡ Idle
    by true = refl
    by false = gone w.job w.deck.jobs none left

-- ---- draining to the end
drains : (n : ℕ) (w : World) → w.lines.drained + n ≡ length w.lines.printed → solo w (replicate n Drain) ≡ emptied w
drains zero w is = ap (λ (d : ℕ). record w { lines = record w.lines { drained = d } }) (omega (arith, is))
drains (suc n) w is =
    let queued : is_queued w.lines ≡ true = some w.lines.drained n (length w.lines.printed) is in
    let next : World = record w { lines = with_drained w.lines } in
    ap (λ (b : Bool). solo (if b then acted next else refused 3 w).world (replicate n Drain)) queued
    ∙ drains n next (omega (arith, is))
  where
    some : (d n size : ℕ) → d + suc n ≡ size → nat_lt d size ≡ true
    some d n size is = grind (arith, nat_tests)

pub drained_to_end : (w : World) → w.lines.drained ≤ length w.lines.printed → solo w (replicate (length w.lines.printed - w.lines.drained) Drain) ≡ emptied w
drained_to_end w few = drains (length w.lines.printed - w.lines.drained) w (omega (arith, few))
