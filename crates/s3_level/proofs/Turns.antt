-- A turn: what each pending request makes of it.
use Rattle.std.proofs.Common.{◌≡◌, ℕ, ◌≤◌, List, refl, sym, ◌∙◌, ap, subst, replicate, Bool, true, false, if◌then◌else◌, Option, Some, None, Result, Ok, Err, IfOk, OnOk, arith}
use Rattle.std.proofs.lemmas.Option.{none-some}
use Rattle.s3_meaning.specs.Requests.{Request, Card, Print, End}
use Rattle.s3_meaning.specs.Output.{filled}
use Rattle.s3_operator.specs.Halts.{is_waiting}
use Rattle.s3_cycle.specs.declared.request.FileCall.{FileCall}
use Rattle.s3_cycle.specs.declared.request.FileCall.TheVariants as calls
use Rattle.s3_cycle.specs.declared.request.Request as code
use Rattle.s3_cycle.specs.declared.request.Request.TheVariants as asks
use Rattle.s3_cycle.specs.declared.stepper.Stepper.{Stepper}
use Rattle.s3_cycle.specs.Inner.Requests.{request_to}
use Rattle.s3_cycle.specs.Inner.Following.{asked, put, waits}
use Rattle.s3_cycle.proofs.FollowLemmas.{waits_card, waits_file, waits_print, waits_ask, waits_end}
use Rattle.s3_store.specs.declared.sector_fault.SectorFault.{SectorFault}
use Rattle.s3_solo.specs.declared.action.Action.{Action}
use Rattle.s3_solo.specs.declared.action.Action.TheVariants.{Turn}
use Rattle.s3_solo.specs.declared.action.Did.{Did}
use Rattle.s3_solo.specs.declared.action.Did.TheVariants.{Acted, Idle}
use Rattle.s3_level.specs.declared.job.OpenJob.{OpenJob}
use Rattle.s3_level.specs.declared.level.Level.{Level}
use Rattle.s3_level.specs.declared.taken.Taken.{Taken}
use Rattle.s3_solo.specs.World.{World, JobAtWork}
use Rattle.s3_solo.specs.Serving.{Outcome, begun, file_served, idle, in_use, job_ended, job_over, pending, served}
use Rattle.s3_solo.specs.Serving as Serving
use Rattle.s3_job_files.specs.Requests as files
use Rattle.s3_solo.specs.Solo.{gone_on, solo, step_of}
use Rattle.s3_level.specs.Inner.Holds.{Around, Shown, Holds, HoldsParts, IsUpTo, Becomes, Repeats, Steps, StopsAtEnd, once, shown}
use Rattle.s3_cards.specs.declared.levels.LevelId.{LevelId}
use Rattle.s3_cards.specs.declared.name.Name.{Name}
use Rattle.s3_match.specs.Inner.Types.{name_of_file}
use Rattle.s3_operator.specs.declared.halt_code.HaltCode.{HaltCode}
use Rattle.s3_level.specs.Inner.Turning.{AsksFile, Begins, Pends, Serves, TakesTurns, Turns, on_files, request_by, waits_by}
use Rattle.s3_level.proofs.Jumping.{solo_asks}
use Rattle.s3_level.proofs.Running.{pends}

-- a turn while no halt waits, and one while a halt does
quiet_turn : (s : Shown) (old : Level) (w : World) → is_waiting old.halts ≡ false → HoldsParts old s w → step_of w Turn ≡ gone_on w.job w
quiet_turn s old w quiet held = ap (λ (b : Bool). if b then idle w else gone_on w.job w) (ap is_waiting held.halts ∙ quiet)

pub halted_turn : (s : Shown) {E : Type 0} (old : Level) (result : Result Did E) → is_waiting old.halts ≡ true → result ≡ Ok Idle → Turns result (HoldsParts old s) (HoldsParts old s)
halted_turn s old (Ok did) waits is = λ w held.
    let same : step_of w Turn ≡ idle w = ap (λ (b : Bool). if b then idle w else gone_on w.job w) (ap is_waiting held.halts ∙ waits) in
    let P : Outcome → Type 0 = λ o. (did ≡ o.did) × HoldsParts old s o.world in
    subst P (sym same) (cc, held)
halted_turn s old (Err e) waits is = cc

-- without an open job the world has none
rests : (s : Shown) (old : Level) (w : World) → request_by old.job ≡ None → HoldsParts old s w → w.job ≡ None
rests s old w none held = subst (λ (o : Option Request). Pends o w) (no_request old.job none) (pends s old w held)
  where
    no_request : (o : Option OpenJob) → request_by o ≡ None → waits_by o ≡ None
    no_request None is = refl
    no_request (Some job) is = absurd (none-some (asked job.cycle) (sym is))

-- no job is open where none asks
pub none_open : (o : Option OpenJob) → request_by o ≡ None → o ≡ None
none_open None is = refl
none_open (Some job) is = absurd (none-some (asked job.cycle) (sym is))

-- the next job begins
pub begun_turn : (s : Shown) {E : Type 0} (old : Level) (new : World → Type 0) (result : Result Did E) → is_waiting old.halts ≡ false → request_by old.job ≡ None → Begins result (HoldsParts old s) new
    → Turns result (HoldsParts old s) new
begun_turn s old new (Ok did) quiet none begins = λ w held.
    let at_rest : w.job ≡ None = rests s old w none held in
    let same : step_of w Turn ≡ begun w.deck.jobs w = quiet_turn s old w quiet held ∙ ap (λ (o : Option JobAtWork). gone_on o w) at_rest in
    let P : Outcome → Type 0 = λ o. (did ≡ o.did) × new o.world in
    subst P (sym same) (begins w at_rest held)
begun_turn s old new (Err e) quiet none begins = λ w held.
    let at_rest : w.job ≡ None = rests s old w none held in
    ap (λ (o : Outcome). o.did) (quiet_turn s old w quiet held ∙ ap (λ (o : Option JobAtWork). gone_on o w) at_rest) ∙ begins w at_rest held

-- a request is served
served_turn : (s : Shown) {E : Type 0} (old : Level) (new : World → Type 0) (result : Result Did E) (request : Request) → is_waiting old.halts ≡ false → waits_by old.job ≡ Some request
    → Serves (served request) result (HoldsParts old s) new → Turns result (HoldsParts old s) new
served_turn s old new (Ok did) request quiet waits serves = λ w held.
    let there : Pends (Some request) w = subst (λ (o : Option Request). Pends o w) waits (pends s old w held) in
    let same : step_of w Turn ≡ served request there.0 w =
    quiet_turn s old w quiet held ∙ (ap (λ (o : Option JobAtWork). gone_on o w) there.1 ∙ ap (λ (r : Request). served r there.0 w) there.2) in
    let P : Outcome → Type 0 = λ o. (did ≡ o.did) × new o.world in
    subst P (sym same) (serves w there.0 there.1 held)
served_turn s old new (Err e) request quiet waits serves = λ w held.
    let there : Pends (Some request) w = subst (λ (o : Option Request). Pends o w) waits (pends s old w held) in
    let same : step_of w Turn ≡ served request there.0 w =
    quiet_turn s old w quiet held ∙ (ap (λ (o : Option JobAtWork). gone_on o w) there.1 ∙ ap (λ (r : Request). served r there.0 w) there.2) in
    ap (λ (o : Outcome). o.did) same ∙ serves w there.0 there.1 held

-- what the open job asks for, as the meaning has it
meant_by : (f : code.Request) (request : Request) (o : Option OpenJob) → ((c : Stepper) → asked c ≡ f → waits c ≡ request) → request_by o ≡ Some f → waits_by o ≡ Some request
meant_by f request None same is = absurd (none-some f is)
meant_by f request (Some job) same is = ap (λ r. Some r) (same job.cycle (let some : asked job.cycle ≡ f = cc in some))

pub card_turn : (s : Shown) {E : Type 0} (old : Level) (new : World → Type 0) (result : Result Did E) → is_waiting old.halts ≡ false → request_by old.job ≡ Some asks.Card
    → Serves (served Card) result (HoldsParts old s) new → Turns result (HoldsParts old s) new
card_turn s old new result quiet is serves = served_turn s old new result Card quiet (meant_by asks.Card Card old.job waits_card is) serves

pub print_turn : (s : Shown) {E : Type 0} (old : Level) (new : World → Type 0) (result : Result Did E) (page line : ℕ) → is_waiting old.halts ≡ false → request_by old.job ≡ Some (asks.Print page line)
    → ((text : List ℕ) → waits_by old.job ≡ Some (Print page line text) → Serves (served (Print page line text)) result (HoldsParts old s) new) → Turns result (HoldsParts old s) new
print_turn s old new result page line quiet is serves = by old.job is refl
  where
    by : (o : Option OpenJob) → request_by o ≡ Some (asks.Print page line) → old.job ≡ o → Turns result (HoldsParts old s) new
    by None none same = absurd (none-some (asks.Print page line) none)
    by (Some job) some same =
        let there : waits_by old.job ≡ Some (Print page line (filled (put job.cycle))) =
        ap waits_by same ∙ ap (λ r. Some r) (waits_print job.cycle page line (let e : asked job.cycle ≡ asks.Print page line = cc in e)) in
        served_turn s old new result (Print page line (filled (put job.cycle))) quiet there (serves (filled (put job.cycle)) there)

pub end_turn : (s : Shown) {E : Type 0} (old : Level) (new : World → Type 0) (result : Result Did E) (at_once : Bool) → is_waiting old.halts ≡ false → request_by old.job ≡ Some (asks.End at_once)
    → IfOk result (λ did. did ≡ Acted) → OnOk result (Becomes job_ended (HoldsParts old s) new) → Turns result (HoldsParts old s) new
end_turn s {E = E} old new (Ok did) at_once quiet is acted ends =
    served_turn s {E = E} old new (Ok did) (End at_once) quiet (meant_by (asks.End at_once) (End at_once) old.job (λ c. waits_end c at_once) is)
    (λ w job is_job held. (acted, over w job is_job (ends w held)))
  where
    over : (w : World) (job : JobAtWork) → w.job ≡ Some job → new (job_ended w) → new (job_over job w)
    over w job is_job holds = subst (λ (o : Option JobAtWork). new (Serving.over o w)) is_job holds
end_turn s {E = E} old new (Err e) at_once quiet is acted ends =
    served_turn s {E = E} old new (Err e) (End at_once) quiet (meant_by (asks.End at_once) (End at_once) old.job (λ c. waits_end c at_once) is) (λ w job is_job held. refl)

-- ---- requests to files
-- a call is served by the files of the job
call_outcome : (name : Name) (positions : List (Option ℕ)) (call : FileCall) (job : JobAtWork) (w : World)
    → served (request_to name positions call) job w ≡ file_served (files.served (request_to name positions call) (in_use job w)) job w
call_outcome name positions (calls.Read size) job w = refl
call_outcome name positions (calls.Chain size sought) job w = refl
call_outcome name positions calls.Append job w = refl
call_outcome name positions calls.Add job w = refl
call_outcome name positions (calls.Update current) job w = refl

file_outcome : (file : ℕ) (call : FileCall) (c : Stepper) → asked c ≡ asks.File file call → (job : JobAtWork) (w : World) → pending job w ≡ waits c → served (waits c) job w ≡ on_files job w
file_outcome file call c is job w pends' =
    let waits_for = waits_file c file call is in
    ap (λ r. served r job w) waits_for ∙ (call_outcome (name_of_file c.program file) (put c) call job w ∙ ap (λ r. file_served (files.served r (in_use job w)) job w) (sym (pends' ∙ waits_for)))

-- the world's job asks for what the open one waits for
same_request : (s : Shown) (old : Level) (open_job : OpenJob) (w : World) (job : JobAtWork) → old.job ≡ Some open_job → w.job ≡ Some job → HoldsParts old s w → pending job w ≡ waits open_job.cycle
same_request s old open_job w job is_open is_job held =
    let there : Pends (Some (waits open_job.cycle)) w = subst (λ (o : Option OpenJob). Pends (waits_by o) w) is_open (pends s old w held) in
    let one : there.0 ≡ job = (let e : Some there.0 ≡ Some job = sym there.1 ∙ is_job in cc) in
    ap (λ (j : JobAtWork). pending j w) (sym one) ∙ there.2

pub file_turn : (s : Shown) {E : Type 0} (old : Level) (new : World → Type 0) (result : Result Did E) → is_waiting old.halts ≡ false → AsksFile (request_by old.job)
    → Serves on_files result (HoldsParts old s) new → Turns result (HoldsParts old s) new
file_turn s {E = E} old new result quiet asking serves = by old.job asking.is refl
  where
    outcome : (open_job : OpenJob) → old.job ≡ Some open_job → asked open_job.cycle ≡ asks.File asking.file asking.call → (w : World) (job : JobAtWork) → w.job ≡ Some job → HoldsParts old s w
        → served (waits open_job.cycle) job w ≡ on_files job w
    outcome open_job is_open it w job is_job held = file_outcome asking.file asking.call open_job.cycle it job w (same_request s old open_job w job is_open is_job held)

    as_served : (r : Result Did E) (open_job : OpenJob) → old.job ≡ Some open_job → asked open_job.cycle ≡ asks.File asking.file asking.call → Serves on_files r (HoldsParts old s) new
        → Serves (served (waits open_job.cycle)) r (HoldsParts old s) new
    as_served (Ok did) open_job is_open it serves' = λ w job is_job held.
        let P : Outcome → Type 0 = λ o. (did ≡ o.did) × new o.world in
        subst P (sym (outcome open_job is_open it w job is_job held)) (serves' w job is_job held)
    as_served (Err e) open_job is_open it serves' = λ w job is_job held.
        ap (λ (o : Outcome). o.did) (outcome open_job is_open it w job is_job held) ∙ serves' w job is_job held

    by : (o : Option OpenJob) → request_by o ≡ Some (asks.File asking.file asking.call) → old.job ≡ o → Turns result (HoldsParts old s) new
    by None none same = absurd (none-some (asks.File asking.file asking.call) none)
    by (Some open_job) some same =
        served_turn s old new result (waits open_job.cycle) quiet (ap waits_by same) (as_served result open_job same (let e : asked open_job.cycle ≡ asks.File asking.file asking.call = cc in e) serves)

-- one for a reply waits
pub asking_turn : (s : Shown) {E : Type 0} (old : Level) (result : Result Did E) (halt : HaltCode) → is_waiting old.halts ≡ false → request_by old.job ≡ Some (asks.Ask halt)
    → result ≡ Ok Idle → Turns result (HoldsParts old s) (HoldsParts old s)
asking_turn s {E = E} old result halt quiet is idles = by old.job is refl
  where
    by : (o : Option OpenJob) → request_by o ≡ Some (asks.Ask halt) → old.job ≡ o → Turns result (HoldsParts old s) (HoldsParts old s)
    by None none same = absurd (none-some (asks.Ask halt) none)
    by (Some job) some same =
        served_turn s old (HoldsParts old s) result (waits job.cycle) quiet (ap waits_by same)
        (subst (λ (r : Result Did E). Serves (served (waits job.cycle)) r (HoldsParts old s) (HoldsParts old s)) (sym idles)
        (λ w meant is_job held.
        let P : Outcome → Type 0 = λ o. (Idle ≡ o.did) × HoldsParts old s o.world in
        subst P (sym (ap (λ r. served r meant w) (waits_ask job.cycle halt (let e : asked job.cycle ≡ asks.Ask halt = cc in e)))) (refl, held)))

-- ---- one turn and several
-- one step
pub steps_once : (action : Action) (did : Did) (old new : World → Type 0) → Steps action did old new → Repeats action 1 did old new
steps_once action did old new steps w held = (λ n few. first n (omega (arith, few)), (steps w held).1)
  where
    first : (n : ℕ) → n ≡ 0 → did ≡ (step_of (solo w (replicate n action)) action).did
    first n none = (steps w held).0 ∙ ap (λ (k : ℕ). (step_of (solo w (replicate k action)) action).did) (sym none)

-- where it may be taken once it is so
pub one_step : (action : Action) (taken : Taken) (old new : World → Type 0) → IsUpTo 1 taken → Repeats action taken.times taken.did old new → Steps action taken.did old new
one_step action taken old new up_to repeats w held =
    let some = up_to.some in
    let few = up_to.few in
    let one : taken.times ≡ 1 = omega (arith, some, few) in
    let here = repeats w held in
    (here.0 0 (omega (arith, some)), subst (λ (n : ℕ). new (solo w (replicate n action))) one here.1)

-- one entry stops after itself
pub stops_once : (action : Action) (old : World → Type 0) → StopsAtEnd action 1 old
stops_once action old w held n some few = absurd (omega (arith, some, few))

pub once_turns : (answer : Result Did SectorFault) (result : Result Taken SectorFault) (old new : World → Type 0) → result ≡ once answer → Turns answer old new → TakesTurns result old new
once_turns answer result old new is turns = subst (λ (r : Result Taken SectorFault). TakesTurns r old new) (sym is) (by answer turns)
  where
    by : (a : Result Did SectorFault) → Turns a old new → TakesTurns (once a) old new
    by (Ok did) steps = (steps_once Turn did old new steps, stops_once Turn old)
    by (Err fault) acts = acts

-- what is said of the answer
pub once_up_to : (most : ℕ) (answer : Result Did SectorFault) (result : Result Taken SectorFault) → result ≡ once answer → 1 ≤ most → IfOk result (λ taken. IsUpTo most taken)
once_up_to most answer result is some = subst (λ (r : Result Taken SectorFault). IfOk r (λ taken. IsUpTo most taken)) (sym is) (by answer)
  where
    by : (a : Result Did SectorFault) → IfOk (once a) (λ taken. IsUpTo most taken)
    by (Ok did) = record { some = omega arith; few = some }
    by (Err fault) = tt

pub once_if_ok : (A : Did → Type 0) (answer : Result Did SectorFault) (result : Result Taken SectorFault) → result ≡ once answer → IfOk answer A → IfOk result (λ taken. A taken.did)
once_if_ok A answer result is all = subst (λ (r : Result Taken SectorFault). IfOk r (λ taken. A taken.did)) (sym is) (by answer all)
  where
    by : (a : Result Did SectorFault) → IfOk a A → IfOk (once a) (λ taken. A taken.did)
    by (Ok did) it = it
    by (Err fault) it = tt

-- ---- what the parts do, the whole does
pub turns_wholly : {E : Type 0} (result : Result Taken E) (old new : Level) (before after : Around) → new.id ≡ old.id
    → TakesTurns result (HoldsParts old (shown old.id before)) (HoldsParts new (shown old.id after))
    → IfOk result (λ taken. Repeats Turn taken.times taken.did (Holds old before) (Holds new after))
turns_wholly (Ok taken) old new before after id turns = λ w held.
    let here = turns.0 w held.parts in
    (here.0, record { parts = subst (λ (l : LevelId). HoldsParts new (shown l after) (solo w (replicate taken.times Turn))) (sym id) here.1; asked = solo_asks taken.times Turn w held.asked })
turns_wholly (Err e) old new before after id turns = tt

pub stops_wholly : (taken : Taken) (old : Level) (before : Around) (new : World → Type 0) → TakesTurns {E = SectorFault} (Ok taken) (HoldsParts old (shown old.id before)) new → StopsAtEnd Turn taken.times (Holds old before)
stops_wholly taken old before new turns = λ w held. turns.1 w held.parts
