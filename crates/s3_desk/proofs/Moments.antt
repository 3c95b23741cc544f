-- A day is one list of moments: what its parts make of the halts, and of those that were shown.
use Rattle.std.proofs.Common.{◌≡◌, ◌⊎◌, inl, inr, ℕ, Bool, true, false, true≢false, List, [], ◌∷◌, ◌++◌, append_assoc, if◌then◌else◌, Option, Some, None, refl, sym, ap, ap₂, subst, ◌∙◌}
use Rattle.std.specs.Prelude.{cond}
use Rattle.std.proofs.lemmas.Grind.{flat_map-append}
use Rattle.std.proofs.lemmas.List.{append-nil}
use Rattle.s3_cards.specs.Inner.Levels.{other}
use Rattle.s3_cards.specs.declared.levels.LevelId.{LevelId}
use Rattle.s3_cards.specs.declared.levels.LevelId.TheVariants.{One, Two}
use Rattle.s3_operator.specs.declared.halt_code.HaltCode.{HaltCode}
use Rattle.s3_operator.specs.Halts.{ShownHalt, is_waiting, last_halt, with_reply}
use Rattle.s3_operator.specs.Replies.{is_allowed}
use Rattle.s3_solo.specs.declared.action.Action.{Action}
use Rattle.s3_solo.specs.declared.action.Action.TheVariants.{Turn, Reply, Drain}
use Rattle.s3_solo.specs.Solo.{solo, step_of}
use Rattle.s3_solo.specs.World.{World}
use Rattle.s3_bureau.specs.declared.entry.Entry.{Entry}
use Rattle.s3_bureau.specs.Entries.{own, with_action}
use Rattle.s3_desk.specs.Inner.Desk.{AreMet, is_reply, replies_in}
use Rattle.s3_desk.specs.Inner.Events.{Asked, Event, Shown}
use Rattle.s3_desk.specs.Inner.Moments.{Drained, EachFits, InTime, IsNew, Met, Moment, Turned, Waits, as_shown, events_in, met_at, performed_at, performed_in, reply_to, shown_at, shown_in, world_after}
use Rattle.s3_desk.specs.Inner.Rounds.{Passes, Shows, ShowsAll}
use Rattle.s3_desk.proofs.Halting.{AreNoReplies, GrowsAtRest, reply_grows, work_grows}
use Rattle.s3_desk.proofs.Halts.{Grows, is_last, last_more, last_waits, replied_rests, shown_more, shown_replied}
use Rattle.s3_desk.proofs.Sittings.{met_joined, own-append}

-- ---- one part after another
pub performed_joined : (xs ys : List Moment) → performed_in (xs ++ ys) ≡ performed_in xs ++ performed_in ys
performed_joined xs ys = flat_map-append performed_at xs ys

shown_joined : (level : LevelId) (xs ys : List Moment) → shown_in level (xs ++ ys) ≡ shown_in level xs ++ shown_in level ys
shown_joined level xs ys = flat_map-append (shown_at level) xs ys

fits_joined : (Fits : List Moment → Moment → Type 0) (before one two : List Moment) → EachFits Fits before one → EachFits Fits (before ++ one) two → EachFits Fits before (one ++ two)
fits_joined Fits before [] two first second = subst (λ (b : List Moment). EachFits Fits b two) (append-nil before) second
fits_joined Fits before (moment ∷ one) two first second =
    (first.0, fits_joined Fits (before ++ moment ∷ []) one two first.1 (subst (λ (b : List Moment). EachFits Fits b two) (sym (append_assoc before (moment ∷ []) one)) second))

pub fits_so : (Fits Others : List Moment → Moment → Type 0) (before day : List Moment) → ((b : List Moment) (moment : Moment) → Fits b moment → Others b moment) → EachFits Fits before day → EachFits Others before day
fits_so Fits Others before [] go each = tt
fits_so Fits Others before (moment ∷ day) go each = (go before moment each.0, fits_so Fits Others (before ++ moment ∷ []) day go each.1)

pub passes_then : {O : Type 0} (meets : O → Event → O → Type 0) (Fits : List Moment → Moment → Type 0) (before one two : List Moment) (between is : List Entry) (from half to : O)
    → Passes meets Fits before one between from half → Passes meets Fits (before ++ one) two is half to → Passes meets Fits before (one ++ two) is from to
passes_then meets Fits before one two between is from half to ahead next = record {
  whole = next.whole ∙ ap performed_in (append_assoc before one two);
  met = subst (λ (events : List Event). AreMet meets from events to) (sym (flat_map-append met_at one two)) (met_joined meets (events_in one) (events_in two) from half to ahead.met next.met);
  fits = fits_joined Fits before one two ahead.fits next.fits;
}

pub passes_none : {O : Type 0} (meets : O → Event → O → Type 0) (Fits : List Moment → Moment → Type 0) (before : List Moment) (is : List Entry) (from to : O) → is ≡ performed_in before → to ≡ from → Passes meets Fits before [] is from to
passes_none meets Fits before is from to whole same = record { whole = whole ∙ ap performed_in (sym (append-nil before)); met = same; fits = tt }

-- a single thing that the operator met
pub passes_met : {O : Type 0} (meets : O → Event → O → Type 0) (Fits : List Moment → Moment → Type 0) (before : List Moment) (event : Event) (was is : List Entry) (from to : O)
    → was ≡ performed_in before → is ≡ was ++ performed_at (Met event) → meets from event to → Fits before (Met event) → Passes meets Fits before (Met event ∷ []) is from to
passes_met meets Fits before event was is from to whole more met fits = record {
  whole = more ∙ (ap₂ (λ (xs ys : List Entry). xs ++ ys) whole (sym (append-nil (performed_at (Met event)))) ∙ sym (performed_joined before (Met event ∷ [])));
  met = (to, (met, refl));
  fits = (fits, tt);
}

-- ---- worlds
solo-append : (w : World) (xs ys : List Action) → solo w (xs ++ ys) ≡ solo (solo w xs) ys
solo-append w [] ys = refl
solo-append w (action ∷ xs) ys = solo-append (step_of w action).world xs ys

pub after_more : (starts : LevelId → World) (day more : List Moment) (level : LevelId) → world_after starts (day ++ more) level ≡ solo (world_after starts day level) (own level (performed_in more))
after_more starts day more level =
    ap (λ es. solo (starts level) (own level es)) (performed_joined day more)
    ∙ (ap (solo (starts level)) (own-append level (performed_in day) (performed_in more)) ∙ solo-append (starts level) (own level (performed_in day)) (own level (performed_in more)))

pub after_same : (starts : LevelId → World) (day more : List Moment) (level : LevelId) → own level (performed_in more) ≡ [] → world_after starts (day ++ more) level ≡ world_after starts day level
after_same starts day more level none = after_more starts day more level ∙ ap (solo (world_after starts day level)) none

shown_same : (level : LevelId) (day more : List Moment) → shown_in level more ≡ [] → shown_in level (day ++ more) ≡ shown_in level day
shown_same level day more none = shown_joined level day more ∙ (ap (λ hs. shown_in level day ++ hs) none ∙ append-nil (shown_in level day))

-- ---- a level that takes no entry, and no halt of which is shown
module _ (starts : LevelId → World) (day more : List Moment) (level : LevelId) (none : own level (performed_in more) ≡ []) (quiet : shown_in level more ≡ []) where
  same_halts : (P : List ShownHalt → List ShownHalt → Type 0) → P (world_after starts day level).halts (shown_in level day) → P (world_after starts (day ++ more) level).halts (shown_in level (day ++ more))
  same_halts P is =
      subst (λ (w : World). P w.halts (shown_in level (day ++ more))) (sym (after_same starts day more level none))
      (subst (λ (hs : List ShownHalt). P (world_after starts day level).halts hs) (sym (shown_same level day more quiet)) is)

  pub shows_kept : (is_shown : Bool) → Shows (world_after starts day level).halts (shown_in level day) is_shown → Shows (world_after starts (day ++ more) level).halts (shown_in level (day ++ more)) is_shown
  shows_kept is_shown = same_halts (λ halts shown. Shows halts shown is_shown)

  pub all_kept : (is_shown : Bool) → ShowsAll (world_after starts day level).halts (shown_in level day) is_shown → ShowsAll (world_after starts (day ++ more) level).halts (shown_in level (day ++ more)) is_shown
  all_kept is_shown = same_halts (λ halts shown. ShowsAll halts shown is_shown)

-- ---- turns and drains
abbrev moment_by : LevelId → Action → Moment
moment_by level Turn = Turned level
moment_by level Drain = Drained level
moment_by level (Reply digit) = Drained level

abbrev pub moments_of : List Entry → List Moment
moments_of [] = []
moments_of (entry ∷ entries) = moment_by entry.level entry.action ∷ moments_of entries

none_first : (entry : Entry) (entries : List Entry) → replies_in (entry ∷ entries) ≡ [] → (is_reply entry.action ≡ false) × (replies_in entries ≡ [])
none_first entry entries none = by (is_reply entry.action) none
  where
    by : (b : Bool) → cond b (entry ∷ replies_in entries) (replies_in entries) ≡ [] → (b ≡ false) × (replies_in entries ≡ [])
    by true wrong = absurd cc
    by false is = (refl, is)

pub performed_work : (work : List Entry) → replies_in work ≡ [] → performed_in (moments_of work) ≡ work
performed_work [] none = refl
performed_work (entry ∷ work) none =
    let parts = none_first entry work none in
    ap₂ (λ (xs ys : List Entry). xs ++ ys) (one entry.level entry.action parts.0) (performed_work work parts.1)
  where
    one : (level : LevelId) (action : Action) → is_reply action ≡ false → performed_at (moment_by level action) ≡ (record { level = level; action = action }) ∷ []
    one level Turn none = refl
    one level Drain none = refl
    one level (Reply digit) none = absurd (true≢false none)

events_work : (work : List Entry) → events_in (moments_of work) ≡ []
events_work [] = refl
events_work (entry ∷ work) = ap₂ (λ (xs ys : List Event). xs ++ ys) (one entry.level entry.action) (events_work work)
  where
    one : (level : LevelId) (action : Action) → met_at (moment_by level action) ≡ []
    one level Turn = refl
    one level Drain = refl
    one level (Reply digit) = refl

pub shown_work : (level : LevelId) (work : List Entry) → shown_in level (moments_of work) ≡ []
shown_work level [] = refl
shown_work level (entry ∷ work) = ap₂ (λ (xs ys : List ShownHalt). xs ++ ys) (one entry.level entry.action) (shown_work level work)
  where
    one : (from : LevelId) (action : Action) → shown_at level (moment_by from action) ≡ []
    one from Turn = refl
    one from Drain = refl
    one from (Reply digit) = refl

pub passes_work : {O : Type 0} (meets : O → Event → O → Type 0) (starts : LevelId → World) (IsPast IsCut : LevelId → List Entry → Type 0) (before : List Moment) (work was is : List Entry) (operator : O)
    → replies_in work ≡ [] → was ≡ performed_in before → is ≡ was ++ work → EachFits (InTime starts IsPast IsCut) before (moments_of work) → Passes meets (InTime starts IsPast IsCut) before (moments_of work) is operator operator
passes_work meets starts IsPast IsCut before work was is operator none whole more fits = record {
  whole = more ∙ (ap₂ (λ (xs ys : List Entry). xs ++ ys) whole (sym (performed_work work none)) ∙ sym (performed_joined before (moments_of work)));
  met = subst (λ (events : List Event). AreMet meets operator events operator) (sym (events_work work)) refl;
  fits = fits;
}

no_replies_own : (level : LevelId) (work : List Entry) → replies_in work ≡ [] → AreNoReplies (own level work)
no_replies_own level [] none = tt
no_replies_own level (entry ∷ work) none =
    let parts = none_first entry work none in
    one level entry.level entry.action (own level work) parts.0 (no_replies_own level work parts.1)
  where
    one : (level from : LevelId) (action : Action) (actions : List Action) → is_reply action ≡ false → AreNoReplies actions → AreNoReplies (with_action level from action actions)
    one One One action actions is none = (is, none)
    one Two Two action actions is none = (is, none)
    one One Two action actions is none = none
    one Two One action actions is none = none

-- the last halt of a list is one alone
same_last : (halts : List ShownHalt) (one two : ShownHalt) → last_halt halts ≡ Some one → last_halt halts ≡ Some two → one ≡ two
same_last halts one two first second = let same : Some one ≡ Some two = sym first ∙ second in cc

shows_grown : (old new shown : List ShownHalt) (is_shown : Bool) → GrowsAtRest old new → Shows old shown is_shown → Shows new shown is_shown
shows_grown old new shown is_shown (inl same) shows = subst (λ (halts : List ShownHalt). Shows halts shown is_shown) (sym same) shows
shows_grown old new shown is_shown (inr more) (inl all) =
    let halt : ShownHalt = more.1.0 in
    inr (record {
      mark = all.mark ∙ more.0;
      halt = halt;
      new = record {
        waits = record { last = ap last_halt more.1.1.0 ∙ last_more old halt; unanswered = more.1.1.1 };
        others = ap as_shown more.1.1.0 ∙ (shown_more old halt more.1.1.1 ∙ ap (λ hs. hs ++ halt ∷ []) all.all);
      };
    })
shows_grown old new shown is_shown (inr more) (inr has) =
    absurd (true≢false (sym (is_last old has.halt has.new.waits.last has.new.waits.unanswered) ∙ more.0))

pub shows_worked : (starts : LevelId → World) (day : List Moment) (work : List Entry) (level : LevelId) (is_shown : Bool) → replies_in work ≡ []
    → Shows (world_after starts day level).halts (shown_in level day) is_shown → Shows (world_after starts (day ++ moments_of work) level).halts (shown_in level (day ++ moments_of work)) is_shown
shows_worked starts day work level is_shown none shows =
    let v : World = world_after starts day level in
    let is : world_after starts (day ++ moments_of work) level ≡ solo v (own level work) = after_more starts day (moments_of work) level ∙ ap (λ es. solo v (own level es)) (performed_work work none) in
    let grows : GrowsAtRest v.halts (solo v (own level work)).halts = work_grows v (own level work) (no_replies_own level work none) in
    subst (λ (w : World). Shows w.halts (shown_in level (day ++ moments_of work)) is_shown) (sym is)
    (subst (λ (hs : List ShownHalt). Shows (solo v (own level work)).halts hs is_shown) (sym (shown_same level day (moments_of work) (shown_work level work)))
    (shows_grown v.halts (solo v (own level work)).halts (shown_in level day) is_shown grows shows))

-- ---- a halt is shown
shown_now : (level : LevelId) (day : List Moment) (halt : ShownHalt) → shown_in level (day ++ Met (Shown level halt) ∷ []) ≡ shown_in level day ++ halt ∷ []
shown_now One day halt = shown_joined One day (Met (Shown One halt) ∷ [])
shown_now Two day halt = shown_joined Two day (Met (Shown Two halt) ∷ [])

pub all_shown : (starts : LevelId → World) (day : List Moment) (level : LevelId) (halt : ShownHalt) → IsNew (world_after starts day level).halts (shown_in level day) halt
    → ShowsAll (world_after starts (day ++ Met (Shown level halt) ∷ []) level).halts (shown_in level (day ++ Met (Shown level halt) ∷ [])) true
all_shown starts day level halt new =
    let v : World = world_after starts day level in
    subst (λ (w : World). ShowsAll w.halts (shown_in level (day ++ Met (Shown level halt) ∷ [])) true) (sym (after_same starts day (Met (Shown level halt) ∷ []) level refl))
    (subst (λ (hs : List ShownHalt). ShowsAll v.halts hs true) (sym (shown_now level day halt)) (record { all = new.others; mark = sym (is_last v.halts halt new.waits.last new.waits.unanswered) }))

-- where it is the one that has come
pub is_new : (halts shown : List ShownHalt) (is_shown : Bool) (halt : ShownHalt) → Shows halts shown is_shown → is_shown ≡ false → Waits halts halt → IsNew halts shown halt
is_new halts shown is_shown halt (inl all) not waits = absurd (true≢false (sym (is_last halts halt waits.last waits.unanswered) ∙ (sym all.mark ∙ not)))
is_new halts shown is_shown halt (inr has) not waits = subst (λ (h : ShownHalt). IsNew halts shown h) (same_last halts has.halt halt has.new.waits.last waits.last) has.new

-- and where none has to be shown, all were
pub none_new : (halts shown : List ShownHalt) (is_shown : Bool) → Shows halts shown is_shown → (is_shown ≡ true) ⊎ (is_waiting halts ≡ false) → ShowsAll halts shown is_shown
none_new halts shown is_shown (inl all) why = all
none_new halts shown is_shown (inr has) (inl is) = absurd (true≢false (sym is ∙ has.mark))
none_new halts shown is_shown (inr has) (inr rests) = absurd (true≢false (sym (is_last halts has.halt has.new.waits.last has.new.waits.unanswered) ∙ rests))

-- ---- a reply
shows_replied : (digit : ℕ) (old new shown : List ShownHalt) (is_shown : Bool) (halt : ShownHalt) → last_halt old ≡ Some halt → ShowsAll old shown is_shown → Grows (with_reply digit old) new → Shows new shown false
shows_replied digit old new shown is_shown halt last all (inl same) =
    inl (record { all = ap as_shown same ∙ (shown_replied digit old ∙ all.all); mark = sym (ap is_waiting same ∙ replied_rests digit old halt last) })
shows_replied digit old new shown is_shown halt last all (inr more) =
    let next : ShownHalt = more.0 in
    inr (record {
      mark = refl;
      halt = next;
      new = record {
        waits = record { last = ap last_halt more.1.0 ∙ last_more (with_reply digit old) next; unanswered = more.1.1 };
        others = ap as_shown more.1.0 ∙ (shown_more (with_reply digit old) next more.1.1 ∙ ap (λ hs. hs ++ next ∷ []) (shown_replied digit old ∙ all.all));
      };
    })

pub reply_is : (level : LevelId) (code : HaltCode) (reply : Option ℕ) (digit : ℕ) → reply ≡ Some digit → is_allowed code digit ≡ true → reply_to level code reply ≡ (record { level = level; action = Reply digit }) ∷ []
reply_is level code reply digit is allowed =
    ap (reply_to level code) is ∙ ap (λ (b : Bool). if b then (record { level = level; action = Reply digit }) ∷ [] else []) allowed

own_reply : (level : LevelId) (digit : ℕ) → own level ((record { level = level; action = Reply digit }) ∷ []) ≡ Reply digit ∷ []
own_reply One digit = refl
own_reply Two digit = refl

no_other : (level : LevelId) (digit : ℕ) → own (other level) ((record { level = level; action = Reply digit }) ∷ []) ≡ []
no_other One digit = refl
no_other Two digit = refl

-- the reply to a level is no entry of the other one
pub not_his : (level : LevelId) (code : HaltCode) (reply : Option ℕ) → own (other level) (reply_to level code reply) ≡ []
not_his level code None = refl
not_his level code (Some digit) = by (is_allowed code digit)
  where
    by : (b : Bool) → own (other level) (if b then (record { level = level; action = Reply digit }) ∷ [] else []) ≡ []
    by true = no_other level digit
    by false = refl

pub shows_answered : (starts : LevelId → World) (day : List Moment) (level : LevelId) (halt : ShownHalt) (reply : Option ℕ) (digit : ℕ) (is_shown : Bool) → reply ≡ Some digit → is_allowed halt.code digit ≡ true
    → Waits (world_after starts day level).halts halt → ShowsAll (world_after starts day level).halts (shown_in level day) is_shown
    → Shows (world_after starts (day ++ Met (Asked level halt reply) ∷ []) level).halts (shown_in level (day ++ Met (Asked level halt reply) ∷ [])) false
shows_answered starts day level halt reply digit is_shown some allowed waits all =
    let v : World = world_after starts day level in
    let asked : List Moment = Met (Asked level halt reply) ∷ [] in
    let entries : performed_in asked ≡ (record { level = level; action = Reply digit }) ∷ [] = append-nil (reply_to level halt.code reply) ∙ reply_is level halt.code reply digit some allowed in
    let is : world_after starts (day ++ asked) level ≡ (step_of v (Reply digit)).world = after_more starts day asked level ∙ ap (solo v) (ap (own level) entries ∙ own_reply level digit) in
    subst (λ (w : World). Shows w.halts (shown_in level (day ++ asked)) false) (sym is)
    (subst (λ (hs : List ShownHalt). Shows (step_of v (Reply digit)).world.halts hs false) (sym (shown_same level day asked refl))
    (shows_replied digit v.halts (step_of v (Reply digit)).world.halts (shown_in level day) is_shown halt waits.last all
    (reply_grows digit v halt.code (last_waits v.halts halt waits.last waits.unanswered) allowed)))

-- ---- what makes no difference to a level
pub none_joined : (level : LevelId) (xs ys : List Moment) → own level (performed_in xs) ≡ [] → own level (performed_in ys) ≡ [] → own level (performed_in (xs ++ ys)) ≡ []
none_joined level xs ys one two =
    ap (own level) (performed_joined xs ys) ∙ (own-append level (performed_in xs) (performed_in ys) ∙ ap₂ (λ (xs ys : List Action). xs ++ ys) one two)

pub quiet_joined : (level : LevelId) (xs ys : List Moment) → shown_in level xs ≡ [] → shown_in level ys ≡ [] → shown_in level (xs ++ ys) ≡ []
quiet_joined level xs ys one two = shown_joined level xs ys ∙ ap₂ (λ (xs ys : List ShownHalt). xs ++ ys) one two

pub vain_joined : (xs ys : List Moment) → performed_in xs ≡ [] → performed_in ys ≡ [] → performed_in (xs ++ ys) ≡ []
vain_joined xs ys one two = performed_joined xs ys ∙ ap₂ (λ (xs ys : List Entry). xs ++ ys) one two

pub performed_same : (day more : List Moment) → performed_in more ≡ [] → performed_in (day ++ more) ≡ performed_in day
performed_same day more none = performed_joined day more ∙ (ap (λ es. performed_in day ++ es) none ∙ append-nil (performed_in day))
