-- Which answers fit the pending request of the open job.
use Rattle.std.proofs.Common.{◌≡◌, Bor, ℕ, List, length, refl, sym, ◌∙◌, ap, Bool, true, false, Option, Some, None, eq-eqb}
use Rattle.std.specs.Prelude.{option_and_then}
use Rattle.std.proofs.lemmas.Option.{none-some}
use Rattle.s3_cards.specs.declared.name.Name.{Name}
use Rattle.s3_match.specs.Inner.Types.{name_of_file}
use Rattle.s3_operator.specs.declared.halt_code.HaltCode.{HaltCode}
use Rattle.s3_operator.specs.Replies.{is_allowed}
use Rattle.s3_meaning.specs.Requests as Meant
use Rattle.s3_meaning.specs.Inner.Requests.{fits}
use Rattle.s3_cycle.specs.declared.request.Answer.{Answer}
use Rattle.s3_cycle.specs.declared.request.Answer.TheVariants as answers
use Rattle.s3_cycle.specs.declared.request.FileCall.{FileCall}
use Rattle.s3_cycle.specs.declared.request.FileCall.TheVariants as calls
use Rattle.s3_cycle.specs.declared.request.Request.{Request}
use Rattle.s3_cycle.specs.declared.request.Request.TheVariants as asks
use Rattle.s3_cycle.specs.declared.stepper.Stepper.{Stepper}
use Rattle.s3_cycle.specs.Inner.Requests.{answer_of, request_to}
use Rattle.s3_cycle.specs.Inner.Following.{asked, is_fit, put, waits}
use Rattle.s3_cycle.proofs.FollowLemmas.{waits_card, waits_file, waits_print, waits_jump, waits_ask, waits_end}
use Rattle.s3_level.specs.declared.job.OpenJob.{OpenJob}
use Rattle.s3_level.specs.declared.level.Level.{Level}
use Rattle.s3_solo.specs.World.{World, JobAtWork}
use Rattle.s3_solo.specs.Serving.{pending}
use Rattle.s3_level.specs.Inner.Holds.{Shown, HoldsParts}
use Rattle.s3_level.specs.Inner.Turning.{FitsJob, MayReply, Pends, code_asked, request_by, waits_by}
use Rattle.s3_level.proofs.Running.{pends}

-- an answer fits what is waited for
by_meaning : (c : Stepper) (request : Meant.Request) (answer : Answer) → waits c ≡ request → fits request (answer_of answer) ≡ true → is_fit c answer ≡ true
unfolding is_fit
by_meaning c request answer waits_for fit = ap (λ r. fits r (answer_of answer)) waits_for ∙ fit

pub nothing_fits : (c : Stepper) → asked c ≡ asks.Card → is_fit c answers.Nothing ≡ true
unfolding answer_of
nothing_fits c is = by_meaning c Meant.Card answers.Nothing (waits_card c is) refl

pub card_fits : (c : Stepper) (card : Bor (List ℕ)) → asked c ≡ asks.Card → length card.now ≡ 96 → is_fit c (answers.Found card) ≡ true
unfolding answer_of
card_fits c card is long = by_meaning c Meant.Card (answers.Found card) (waits_card c is) (eq-eqb (length card.now) 96 long)

pub line_done : (o : Option OpenJob) (page line : ℕ) → request_by o ≡ Some (asks.Print page line) → FitsJob o answers.Done
unfolding answer_of
line_done None page line is = none-some (asks.Print page line) is
line_done (Some job) page line is =
    let asks_it : asked job.cycle ≡ asks.Print page line = cc in
    by_meaning job.cycle (Meant.Print page line _) answers.Done (waits_print job.cycle page line asks_it) refl

-- ---- replies
asked_by : (request : Request) (code : HaltCode) → code_asked request ≡ Some code → request ≡ asks.Ask code
asked_by (asks.Ask other) code is = ap (λ c. asks.Ask c) (let same : other ≡ code = cc in same)
asked_by asks.Card code is = absurd (none-some code is)
asked_by (asks.File file call) code is = absurd (none-some code is)
asked_by (asks.Print page line) code is = absurd (none-some code is)
asked_by asks.Jump code is = absurd (none-some code is)
asked_by (asks.End at_once) code is = absurd (none-some code is)

pub reply_fits : (o : Option OpenJob) (code : HaltCode) (digit : ℕ) (may : Bool) → option_and_then code_asked (request_by o) ≡ Some code → may ≡ is_allowed code digit → may ≡ true → FitsJob o (answers.Reply digit)
unfolding answer_of
reply_fits None code digit may is same true' = none-some code is
reply_fits (Some job) code digit may is same true' =
    by_meaning job.cycle (Meant.Ask code) (answers.Reply digit) (waits_ask job.cycle code (asked_by (asked job.cycle) code is)) (sym same ∙ true')

-- what is asked of a file is no reply
no_halt : (name : Name) (positions : List (Option ℕ)) (call : FileCall) (code : HaltCode) → request_to name positions call ≡ Meant.Ask code → ⊥
no_halt name positions (calls.Read size) code both = cc
no_halt name positions (calls.Chain size sought) code both = cc
no_halt name positions calls.Append code both = cc
no_halt name positions calls.Add code both = cc
no_halt name positions (calls.Update current) code both = cc

-- what is waited for says what is asked
asks_back : (c : Stepper) (request : Request) (code : HaltCode) → asked c ≡ request → waits c ≡ Meant.Ask code → code_asked request ≡ Some code
asks_back c (asks.Ask other) code is w = let both : Meant.Ask other ≡ Meant.Ask code = sym (waits_ask c other is) ∙ w in cc
asks_back c asks.Card code is w = let both : Meant.Card ≡ Meant.Ask code = sym (waits_card c is) ∙ w in cc
asks_back c (asks.File file call) code is w = absurd (no_halt (name_of_file c.program file) (put c) call code (sym (waits_file c file call is) ∙ w))
asks_back c (asks.Print page line) code is w = let both : Meant.Print page line _ ≡ Meant.Ask code = sym (waits_print c page line is) ∙ w in cc
asks_back c asks.Jump code is w = let both : Meant.Jump ≡ Meant.Ask code = sym (waits_jump c is) ∙ w in cc
asks_back c (asks.End at_once) code is w = let both : Meant.End at_once ≡ Meant.Ask code = sym (waits_end c at_once is) ∙ w in cc

-- where the world's job asks for a reply, so does the open one, and for the same halt
asked_there : (s : Shown) (level : Level) (w : World) (job : JobAtWork) (code : HaltCode) → HoldsParts level s w → w.job ≡ Some job → pending job w ≡ Meant.Ask code
    → option_and_then code_asked (request_by level.job) ≡ Some code
asked_there s level w job code held is_job is = by level.job (pends s level w held)
  where
    by : (o : Option OpenJob) → Pends (waits_by o) w → option_and_then code_asked (request_by o) ≡ Some code
    by None none = absurd (none-some job (sym none ∙ is_job))
    by (Some open_job) there =
        let same : there.0 ≡ job = (let e : Some there.0 ≡ Some job = sym there.1 ∙ is_job in cc) in
        let waits_for : waits open_job.cycle ≡ Meant.Ask code = sym there.2 ∙ (ap (λ (j : JobAtWork). pending j w) same ∙ is) in
        asks_back open_job.cycle (asked open_job.cycle) code refl waits_for

pub reply_allowed : (s : Shown) (level : Level) (code : HaltCode) (digit : ℕ) (may : Bool) → option_and_then code_asked (request_by level.job) ≡ Some code → may ≡ is_allowed code digit
    → (w : World) (job : JobAtWork) → w.job ≡ Some job → HoldsParts level s w → MayReply digit w → may ≡ true
reply_allowed s level code digit may is same w job is_job held replies =
    let meant = replies job is_job in
    let one : code ≡ meant.0 = (let e : Some code ≡ Some meant.0 = sym is ∙ asked_there s level w job meant.0 held is_job meant.1 in cc) in
    same ∙ (ap (λ (c : HaltCode). is_allowed c digit) one ∙ meant.2)

pub none_allowed : (s : Shown) (level : Level) (digit : ℕ) → option_and_then code_asked (request_by level.job) ≡ None
    → (w : World) (job : JobAtWork) → w.job ≡ Some job → HoldsParts level s w → MayReply digit w → false ≡ true
none_allowed s level digit is w job is_job held replies =
    let meant = replies job is_job in
    absurd (none-some meant.0 (sym is ∙ asked_there s level w job meant.0 held is_job meant.1))
