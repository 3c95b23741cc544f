-- A reply: the halt that waits gets it, and the job at work that asked for it goes on.
use Rattle.std.proofs.Common.{◌≡◌, ℕ, refl, sym, ◌∙◌, ap, subst, Bool, true, false, true≢false, if◌then◌else◌, Option, Some, None, Result, Ok, Err, OnOk}
use Rattle.std.proofs.lemmas.Option.{none-some}
use Rattle.s3_meaning.specs.Requests.{Request, Card, Read, Chain, Append, Add, Update, Print, Jump, Ask, End, Reply}
use Rattle.s3_operator.specs.declared.halt_code.HaltCode.{HaltCode}
use Rattle.s3_operator.specs.declared.reply_fault.ReplyFault.{ReplyFault}
use Rattle.s3_operator.specs.Replies.{is_allowed}
use Rattle.s3_operator.specs.Halts.{answer_to, fault_number, waiting, with_reply}
use Rattle.s3_cycle.specs.declared.request.Answer.TheVariants as answers
use Rattle.s3_solo.specs.declared.action.Action.TheVariants as action
use Rattle.s3_solo.specs.declared.action.Did.TheVariants.{Acted, Refused}
use Rattle.s3_level.specs.declared.job.OpenJob.{OpenJob}
use Rattle.s3_level.specs.declared.level.Level.{Level}
use Rattle.s3_solo.specs.World.{World, JobAtWork}
use Rattle.s3_solo.specs.Serving.{Outcome, acted, answered, pending}
use Rattle.s3_solo.specs.Solo.{refused, replied, reply_given, resumed}
use Rattle.s3_solo.specs.Inner.Asked.{halt_asked}
use Rattle.s3_level.specs.Inner.Holds.{AreAll, Around, Shown, Holds, HoldsParts, HoldsAtWork, Becomes, Steps, around, shown, with_seen}
use Rattle.s3_store.specs.Inner.State.{PoolState}
use Rattle.s3_labels.specs.Inner.Areas.{Areas, IsReady as IsPackReady}
use Rattle.s3_job_files.specs.Inner.Holds.{seen}
use Rattle.s3_job_files.specs.Inner.Packs.{KeepsOthers}
use Rattle.s3_spool.specs.Inner.Queues.{Blocks}
use Rattle.s3_level.proofs.Beside.{shown_moved}
use Rattle.s3_level.specs.Inner.Turning.{AtWorkBecomes, FitsJob, MayReply}
use Rattle.s3_solo.proofs.Asking.{step_asks}

-- ---- the job at work
pub goes_on : (s : Shown) {T E : Type 0} (result : Result T E) (digit : ℕ) (old : Level) (new : World → Type 0) → FitsJob old.job (answers.Reply digit)
    → OnOk result (AtWorkBecomes (answered (Reply digit)) (HoldsParts old s) new)
    → OnOk result ((w : World) → MayReply digit w → HoldsParts old s w → new (resumed digit w.job w))
goes_on s (Ok _) digit old new fits goes = λ w may held. by old.job w.job refl fits held.job held
  where
    by : {w : World} (o : Option OpenJob) (meant : Option JobAtWork) → w.job ≡ meant → FitsJob o (answers.Reply digit) → HoldsAtWork old.deck o w meant → HoldsParts old s w → new (resumed digit meant w)
    by None meant is fits' at held = absurd fits'
    by (Some job) None is fits' at held = absurd at
    by {w} (Some job) (Some meant) is fits' at held = goes w meant is held
goes_on s (Err _) digit old new fits goes = tt

pub stays_there : (s : Shown) (digit : ℕ) (took : Bool) (old : Level) → took ≡ false
    → ((w : World) (job : JobAtWork) → w.job ≡ Some job → HoldsParts old s w → MayReply digit w → took ≡ true)
    → (w : World) → MayReply digit w → HoldsParts old s w → HoldsParts old s (resumed digit w.job w)
stays_there s digit took old not_taken takes w may held = by w.job refl
  where
    by : (o : Option JobAtWork) → w.job ≡ o → HoldsParts old s (resumed digit o w)
    by None is = held
    by (Some job) is = absurd (true≢false (sym (takes w job is held may) ∙ not_taken))

-- a request that asks for a reply to this halt
asks_for : (request : Request) (code : HaltCode) → halt_asked request ≡ Some code → request ≡ Ask code
asks_for (Ask other) code is = ap (λ c. Ask c) (let same : other ≡ code = cc in same)
asks_for Card code is = absurd (none-some code is)
asks_for (Read file size) code is = absurd (none-some code is)
asks_for (Chain file size sought) code is = absurd (none-some code is)
asks_for (Append file bytes) code is = absurd (none-some code is)
asks_for (Add file bytes) code is = absurd (none-some code is)
asks_for (Update file current changes) code is = absurd (none-some code is)
asks_for (Print page line text) code is = absurd (none-some code is)
asks_for Jump code is = absurd (none-some code is)
asks_for (End at_once) code is = absurd (none-some code is)

-- the job at work asked for the reply that its halt takes
may_reply : (digit : ℕ) (w : World) → ((job : JobAtWork) → w.job ≡ Some job → waiting w.halts ≡ halt_asked (pending job w)) → answer_to digit (waiting w.halts) ≡ Ok tt → MayReply digit w
may_reply digit w asks taken job is_job = by (waiting w.halts) refl
  where
    allowed : (code : HaltCode) (b : Bool) → waiting w.halts ≡ Some code → is_allowed code digit ≡ b → (is_allowed code digit ≡ true)
    allowed code true is same = same
    allowed code false is same =
        let answer : answer_to digit (waiting w.halts) ≡ answer_to digit (Some code) = ap (answer_to digit) is in
        let refuses : Ok tt ≡ (if is_allowed code digit then Ok tt else Err _) = sym taken ∙ answer in
        cc

    by : (o : Option HaltCode) → waiting w.halts ≡ o → (code : HaltCode) × (pending job w ≡ Ask code) × (is_allowed code digit ≡ true)
    by None is = let refuses = sym taken ∙ ap (answer_to digit) is in cc
    by (Some code) is = (code, asks_for (pending job w) code (sym (asks job is_job) ∙ is), allowed code (is_allowed code digit) is refl)

-- what is said of a reply that was taken
pub taken_so : {P : Type 0} (answer : Result (Unit {0}) ReplyFault) → answer ≡ Ok tt → OnOk answer P → P
taken_so (Ok _) is so = so
taken_so (Err fault) is so = cc

-- ---- the entry
-- a reply that is taken
pub reply_taken : (answer : Result (Unit {0}) ReplyFault) (digit : ℕ) (old middle new : Level) (areas new_areas : Areas) (state after : PoolState) (blocks : Blocks)
    → answer ≡ answer_to digit (waiting old.halts) → answer ≡ Ok tt
    → IsPackReady areas state.contents → AreAll blocks → KeepsOthers old.id areas new_areas state after → new.id ≡ old.id
    → ((s : Shown) → Becomes (λ w. record w { halts = with_reply digit w.halts }) (HoldsParts old s) (HoldsParts middle s))
    → ((s : Shown) (w : World) → MayReply digit w → HoldsParts middle (with_seen (seen areas state.contents) s) w → HoldsParts new (with_seen (seen new_areas after.contents) s) (resumed digit w.job w))
    → Steps (action.Reply digit) Acted (Holds old (around areas state blocks)) (Holds new (around new_areas after blocks))
reply_taken answer digit old middle new areas new_areas state after blocks is taken pack are keeps id given goes_on' = λ w held.
    let before : Shown = shown old.id (around areas state blocks) in
    let here : answer_to digit (waiting w.halts) ≡ Ok tt = ap (λ (halts : _). answer_to digit (waiting halts)) held.parts.halts ∙ (sym is ∙ taken) in
    let filled : World = record w { halts = with_reply digit w.halts } in
    let same : replied digit w ≡ acted (resumed digit w.job filled) = ap (λ (a : Result (Unit {0}) ReplyFault). reply_given digit a w) here in
    let parts : HoldsParts new (shown new.id (around new_areas after blocks)) (resumed digit w.job filled) =
    shown_moved old new areas new_areas state after blocks (resumed digit w.job filled) pack are keeps id (goes_on' before filled (may_reply digit w held.asked here) (given before w held.parts)) in
    let P : Outcome → Type 0 = λ o. (Acted ≡ o.did) × HoldsParts new (shown new.id (around new_areas after blocks)) o.world in
    let done = subst P (sym same) (refl, parts) in
    (done.0, record { parts = done.1; asked = step_asks (action.Reply digit) w held.asked })

-- a reply that is refused
pub reply_refused : (answer : Result (Unit {0}) ReplyFault) (fault : ReplyFault) (digit : ℕ) (old : Level) (beside : Around)
    → answer ≡ answer_to digit (waiting old.halts) → answer ≡ Err fault
    → Steps (action.Reply digit) (Refused (fault_number fault)) (Holds old beside) (Holds old beside)
reply_refused answer fault digit old beside is refuses = λ w held.
    let here : answer_to digit (waiting w.halts) ≡ Err fault = ap (λ (halts : _). answer_to digit (waiting halts)) held.parts.halts ∙ (sym is ∙ refuses) in
    let same : replied digit w ≡ refused (fault_number fault) w = ap (λ (a : Result (Unit {0}) ReplyFault). reply_given digit a w) here in
    let P : Outcome → Type 0 = λ o. (Refused (fault_number fault) ≡ o.did) × Holds old beside o.world in
    subst P (sym same) (refl, held)
