-- Turns one after another.
use Rattle.std.proofs.Common.{◌≡◌, ◌≢◌, ◌⊎◌, inl, inr, ℕ, zero, suc, ◌<◌, ◌≤◌, ◌+◌, ◌-◌, List, [], ◌∷◌, Bool, true, false, if◌then◌else◌, Option, Some, None, is_some, Result, Ok, Err, replicate, refl, sym, ap, subst, ◌∙◌, arith}
use Rattle.std.specs.Prelude.{OnErr}
use Rattle.s3_cards.specs.declared.levels.LevelId.{LevelId}
use Rattle.s3_store.proofs.Frames.{keeps_refl}
use Rattle.s3_labels.specs.Inner.Labelled.{KeepsSaid}
use Rattle.s3_meaning.specs.Requests.{Request}
use Rattle.s3_meaning.specs.Requests as request
use Rattle.s3_operator.specs.Halts.{is_waiting}
use Rattle.s3_job_files.specs.Inner.Holds.{seen}
use Rattle.s3_job_files.specs.Requests.{Served}
use Rattle.s3_job_files.specs.Requests as files
use Rattle.s3_job_files.proofs.Said.{said_same}
use Rattle.s3_ocl.specs.Jobs.{Job}
use Rattle.s3_ocl.specs.declared.faults.FaultyJob.{FaultyJob}
use Rattle.s3_solo.specs.declared.action.Action.{Action}
use Rattle.s3_solo.specs.declared.action.Action.TheVariants.{Turn}
use Rattle.s3_solo.specs.declared.action.Did.{Did}
use Rattle.s3_solo.specs.declared.action.Did.TheVariants.{Acted}
use Rattle.s3_solo.specs.World.{World, JobAtWork}
use Rattle.s3_solo.specs.Lines.{has_room}
use Rattle.s3_solo.specs.Serving.{Outcome, acted, answered, begun, file_served, idle, in_use, line_put, pending, served}
use Rattle.s3_solo.specs.Solo.{gone_on, solo, step_of}
use Rattle.s3_level.specs.declared.level.Level.{Level}
use Rattle.s3_level.specs.declared.taken.Taken.{Taken}
use Rattle.s3_level.specs.Inner.Holds.{AreAll, Around, Holds, IsReady, IsUpTo, Repeats, Spares, Stays, StopsAtEnd}
use Rattle.s3_level.proofs.Asking.{same_job}
use Rattle.s3_level.proofs.Beside.{spares_none, spares_then}
use Rattle.s3_level.proofs.Files.{stays_then}

-- ---- entries one after another
solo_then : (n m : ℕ) (action : Action) (w : World) → solo (solo w (replicate n action)) (replicate m action) ≡ solo w (replicate (n + m) action)
solo_then zero m action w = ap (λ (k : ℕ). solo w (replicate k action)) (let same : m ≡ 0 + m = omega arith in same)
solo_then (suc n) m action w = solo_then n m action (step_of w action).world ∙ ap (λ (k : ℕ). solo w (replicate k action)) (let later : suc (n + m) ≡ suc n + m = omega arith in later)

either : (k n : ℕ) → (k < n) ⊎ (n ≤ k)
either k zero = inr (omega arith)
either zero (suc n) = inl (omega arith)
either (suc k) (suc n) = elim (either k n) [ inl l ↦ inl (omega (arith, l)) | inr r ↦ inr (omega (arith, r)) ]

-- so many entries, and then so many more
pub repeats_then : (action : Action) (did : Did) (n m : ℕ) (old middle new : World → Type 0) → Repeats action n did old middle → Repeats action m did middle new → Repeats action (n + m) did old new
repeats_then action did n m old middle new first second w held =
    let here = first w held in
    let v : World = solo w (replicate n action) in
    let there = second v here.1 in
    (each here.0 there.0, subst new (solo_then n m action w) there.1)
  where
    each : ((k : ℕ) → k < n → did ≡ (step_of (solo w (replicate k action)) action).did) → ((k : ℕ) → k < m → did ≡ (step_of (solo (solo w (replicate n action)) (replicate k action)) action).did)
        → (k : ℕ) → k < n + m → did ≡ (step_of (solo w (replicate k action)) action).did
    each before behind k few = by (either k n)
      where
        by : (k < n) ⊎ (n ≤ k) → did ≡ (step_of (solo w (replicate k action)) action).did
        by (inl fewer) = before k fewer
        by (inr more) =
            behind (k - n) (omega (arith, few, more))
            ∙ ap (λ (v : World). (step_of v action).did) (solo_then n (k - n) action w ∙ ap (λ (j : ℕ). solo w (replicate j action)) (let same : n + (k - n) ≡ k = omega (arith, more) in same))

-- ---- a turn that doesn't act
waits_there : (o : Outcome) (w : World) → (o ≡ idle w) ⊎ (o.did ≡ Acted) → o.did ≢ Acted → o.world ≡ w
waits_there o w (inl is) not = ap (λ (p : Outcome). p.world) is
waits_there o w (inr is) not = absurd (not is)

by_files : (answer : Option Served) (job : JobAtWork) (w : World) → (file_served answer job w ≡ idle w) ⊎ ((file_served answer job w).did ≡ Acted)
by_files None job w = inl refl
by_files (Some one) job w = inr refl

by_request : (r : Request) (job : JobAtWork) (w : World) → (served r job w ≡ idle w) ⊎ ((served r job w).did ≡ Acted)
by_request request.Card job w = inr refl
by_request (request.Print page line text) job w = by (has_room w.lines)
  where
    by : (room : Bool) → ((if room then acted (answered request.Done job (line_put page line text w)) else idle w) ≡ idle w) ⊎ ((if room then acted (answered request.Done job (line_put page line text w)) else idle w).did ≡ Acted)
    by true = inr refl
    by false = inl refl
by_request request.Jump job w = inr refl
by_request (request.End at_once) job w = inr refl
by_request (request.Ask code) job w = inl refl
by_request (request.Read file record_length) job w = by_files (files.served (request.Read file record_length) (in_use job w)) job w
by_request (request.Chain file record_length sought) job w = by_files (files.served (request.Chain file record_length sought) (in_use job w)) job w
by_request (request.Append file bytes) job w = by_files (files.served (request.Append file bytes) (in_use job w)) job w
by_request (request.Add file bytes) job w = by_files (files.served (request.Add file bytes) (in_use job w)) job w
by_request (request.Update file current changes) job w = by_files (files.served (request.Update file current changes) (in_use job w)) job w

by_job : (o : Option JobAtWork) (jobs : List (Result Job FaultyJob)) (w : World) → w.deck.jobs ≡ jobs → (gone_on o w ≡ idle w) ⊎ ((gone_on o w).did ≡ Acted)
by_job (Some job) jobs w is = by_request (pending job w) job w
by_job None [] w is = inl (ap (λ (l : List (Result Job FaultyJob)). begun l w) is)
by_job None (job ∷ jobs) w is = inr (ap (λ (l : List (Result Job FaultyJob)). (begun l w).did) is)

by_halt : (waits : Bool) (w : World) → ((if waits then idle w else gone_on w.job w) ≡ idle w) ⊎ ((if waits then idle w else gone_on w.job w).did ≡ Acted)
by_halt true w = inl refl
by_halt false w = by_job w.job w.deck.jobs w refl

-- it leaves the world
turn_stays : (w : World) → (step_of w Turn).did ≢ Acted → (step_of w Turn).world ≡ w
turn_stays w not = waits_there (step_of w Turn) w (by_halt (is_waiting w.halts) w) not

turns_stay : (n : ℕ) (w : World) → (step_of w Turn).did ≢ Acted → solo w (replicate n Turn) ≡ w
turns_stay zero w not = refl
turns_stay (suc n) w not = ap (λ (v : World). solo v (replicate n Turn)) (turn_stays w not) ∙ turns_stay n w not

-- ---- turns that act
-- so many turns acted
pub record TurnedSo (n : ℕ) (old new : Level) (before after : Around) : Type 0 where
  pub worlds : Repeats Turn n Acted (Holds old before) (Holds new after)
  pub stops : StopsAtEnd Turn n (Holds old before)
  pub ready : IsReady new (seen after.areas after.state.contents)
  pub spares : Spares old.id before after
  pub failures : after.state.failures ≡ before.state.failures
  pub says : KeepsSaid old.id before.areas before.state.contents after.areas after.state.contents
  pub stays : Stays old new
  -- before the first one nothing was done
  pub first : n ≡ 0 → after ≡ before

pub none_yet : (n : ℕ) (level : Level) (beside : Around) → n ≡ 0 → IsReady level (seen beside.areas beside.state.contents) → AreAll beside.blocks → TurnedSo n level level beside beside
none_yet n level beside none ready are =
    subst (λ (k : ℕ). TurnedSo k level level beside beside) (sym none)
    (record {
      worlds = λ w held. ((λ k few. absurd (omega (arith, few))), held);
      stops = λ w held k some few. absurd (omega (arith, few));
      ready = ready;
      spares = spares_none level.id beside ready.files.pack are;
      failures = refl;
      says = said_same level.id beside.areas beside.areas beside.state beside.state (keeps_refl beside.state) refl;
      stays = record { id = refl; deck = refl; drained = refl };
      first = λ _. refl;
    })

pub spares_after : (old middle : Level) (before between after : Around) → Stays old middle → Spares old.id before between → Spares middle.id between after → Spares old.id before after
spares_after old middle before between after stays first second = spares_then old.id before between after first (subst (λ (l : LevelId). Spares l between after) stays.id second)

pub says_after : (old middle : Level) (before between after : Around) → Stays old middle → KeepsSaid old.id before.areas before.state.contents between.areas between.state.contents
    → KeepsSaid middle.id between.areas between.state.contents after.areas after.state.contents → KeepsSaid old.id before.areas before.state.contents after.areas after.state.contents
says_after old middle before between after stays first second = λ said. subst (λ (l : LevelId). KeepsSaid l between.areas between.state.contents after.areas after.state.contents) stays.id second (first said)

-- so many turns, after which a job is at work, and then so many more
stops_then : (n m : ℕ) (old middle : Level) (before between : Around) → Repeats Turn n Acted (Holds old before) (Holds middle between) → StopsAtEnd Turn n (Holds old before)
    → (1 ≤ n → is_some middle.job ≡ true)
    → StopsAtEnd Turn m (Holds middle between)
    → StopsAtEnd Turn (n + m) (Holds old before)
stops_then n m old middle before between worlds first works second w held k some few = by (either k n) (either n k)
  where
    v : World
    v = solo w (replicate n Turn)

    there : Holds middle between v
    there = (worlds w held).1

    by : (k < n) ⊎ (n ≤ k) → (n < k) ⊎ (k ≤ n) → is_some (solo w (replicate k Turn)).job ≡ true
    by (inl fewer) _ = first w held k some fewer
    by (inr more) (inl further) =
        let same : n + (k - n) ≡ k = omega (arith, more) in
        sym (ap (λ (u : World). is_some u.job) (solo_then n (k - n) Turn w ∙ ap (λ (j : ℕ). solo w (replicate j Turn)) same))
        ∙ second v there (k - n) (omega (arith, further)) (omega (arith, few, more))
    by (inr more) (inr no_further) =
        let same : k ≡ n = omega (arith, more, no_further) in
        ap (λ (j : ℕ). is_some (solo w (replicate j Turn)).job) same
        ∙ (sym (same_job middle.deck middle.job v v.job there.parts.job) ∙ works (omega (arith, some, no_further)))

-- so many more
pub then_turned : (n all : ℕ) (taken : Taken) (old middle new : Level) (before between after : Around) → all ≡ n + taken.times → TurnedSo n old middle before between → taken.did ≡ Acted
    → 1 ≤ taken.times
    → Repeats Turn taken.times taken.did (Holds middle between) (Holds new after)
    → (1 ≤ n → is_some middle.job ≡ true)
    → StopsAtEnd Turn taken.times (Holds middle between)
    → IsReady new (seen after.areas after.state.contents)
    → Spares middle.id between after
    → after.state.failures ≡ between.state.failures + 0
    → KeepsSaid middle.id between.areas between.state.contents after.areas after.state.contents
    → Stays middle new
    → TurnedSo all old new before after
then_turned n all taken old middle new before between after is so acts once more works stops ready spares failures says stays =
    let none_more : between.state.failures + 0 ≡ between.state.failures = omega arith in
    subst (λ (k : ℕ). TurnedSo k old new before after) (sym is)
    (record {
      worlds = repeats_then Turn Acted n taken.times (Holds old before) (Holds middle between) (Holds new after) so.worlds (subst (λ (did : Did). Repeats Turn taken.times did (Holds middle between) (Holds new after)) acts more);
      stops = stops_then n taken.times old middle before between so.worlds so.stops works stops;
      ready = ready;
      spares = spares_after old middle before between after so.stays so.spares spares;
      failures = failures ∙ none_more ∙ so.failures;
      says = says_after old middle before between after so.stays so.says says;
      stays = stays_then old middle new so.stays stays;
      first = λ none. absurd (omega (arith, none, once));
    })

-- the first entry acts, if one after it does
pub first_acts : (n : ℕ) (old middle : Level) (before between : Around) → TurnedSo n old middle before between → ((w : World) → Holds middle between w → (step_of w Turn).did ≡ Acted)
    → (w : World) → Holds old before w → (step_of w Turn).did ≡ Acted
first_acts zero old middle before between so acts w held = acts w (so.worlds w held).1
first_acts (suc n) old middle before between so acts w held = sym ((so.worlds w held).0 0 (omega arith))

-- an entry that doesn't act comes after them
pub ends_idle : (n : ℕ) (taken result : Taken) (old middle new : Level) (before between after : Around) → (n ≡ 0 → result ≡ taken) → (1 ≤ n → result ≡ record { did = Acted; times = n }) → TurnedSo n old middle before between
    → 1 ≤ taken.times
    → taken.did ≢ Acted
    → Repeats Turn taken.times taken.did (Holds middle between) (Holds new after)
    → Repeats Turn result.times result.did (Holds old before) (Holds new after)
ends_idle zero taken result old middle new before between after none some so once not last =
    subst (λ (t : Taken). Repeats Turn t.times t.did (Holds old before) (Holds new after)) (sym (none refl)) (λ w held. last w (so.worlds w held).1)
ends_idle (suc n) taken result old middle new before between after none some so once not last =
    subst (λ (t : Taken). Repeats Turn t.times t.did (Holds old before) (Holds new after)) (sym (some (omega arith)))
    (λ w held.
    let here = so.worlds w held in
    let v : World = solo w (replicate (suc n) Turn) in
    let there = last v here.1 in
    let idles : (step_of v Turn).did ≢ Acted = λ acts. not (there.0 0 (omega (arith, once)) ∙ acts) in
    (here.0, subst (Holds new after) (turns_stay taken.times v idles) there.1))

-- and then they stop as those before it, or as it alone does
pub ends_stopped : (n : ℕ) (taken result : Taken) (old middle : Level) (before between : Around) → (n ≡ 0 → result ≡ taken) → (1 ≤ n → result ≡ record { did = Acted; times = n }) → Repeats Turn n Acted (Holds old before) (Holds middle between)
    → StopsAtEnd Turn n (Holds old before)
    → StopsAtEnd Turn taken.times (Holds middle between)
    → StopsAtEnd Turn result.times (Holds old before)
ends_stopped zero taken result old middle before between none some worlds stops last =
    subst (λ (t : Taken). StopsAtEnd Turn t.times (Holds old before)) (sym (none refl)) (λ w held. last w (worlds w held).1)
ends_stopped (suc n) taken result old middle before between none some worlds stops last =
    subst (λ (t : Taken). StopsAtEnd Turn t.times (Holds old before)) (sym (some (omega arith))) stops

-- and they are no more than they may be
pub ends_up_to : (n most : ℕ) (taken result : Taken) → n ≤ most → (n ≡ 0 → result ≡ taken) → (1 ≤ n → result ≡ record { did = Acted; times = n }) → IsUpTo most taken → IsUpTo most result
ends_up_to zero most taken result few none some up_to = subst (IsUpTo most) (sym (none refl)) up_to
ends_up_to (suc n) most taken result few none some up_to = subst (IsUpTo most) (sym (some (omega arith))) (record { some = omega arith; few = few })

-- if the reported entry didn't act, there was none before it
pub is_first : (n : ℕ) (result : Taken) → (1 ≤ n → result ≡ record { did = Acted; times = n }) → result.did ≢ Acted → n ≡ 0
is_first zero result some not = refl
is_first (suc n) result some not = absurd (not (ap (λ (t : Taken). t.did) (some (omega arith))))

pub on_err : {T E : Type 0} (result : Result T E) (A : Type 0) → A → OnErr result A
on_err (Ok done) A it = tt
on_err (Err fault) A it = it
