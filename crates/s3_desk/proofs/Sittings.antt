-- Entries that are noted at a desk, and those that aren't since they did nothing.
use Rattle.std.proofs.Common.{◌≡◌, ◌≢◌, ◌⊎◌, inl, inr, ◌<◌, ◌≤◌, ◌+◌, ◌*◌, ℕ, zero, suc, Bool, true, false, true≢false, List, [], ◌∷◌, ◌++◌, replicate, append_assoc, if◌then◌else◌, Result, Ok, Err, IfOk, OnOk, refl, sym, ap, ap₂, subst, ◌∙◌, arith}
use Rattle.std.specs.Prelude.{cond, filter, length}
use Rattle.std.proofs.lemmas.List.{append-nil, append_cancel_left, append_cancel_right, length-append}
use Rattle.std.proofs.lemmas.List.Elements.{filter-append}
use Rattle.std.proofs.lemmas.List.Folds.{list_all-append}
use Rattle.s3_cards.specs.Inner.Levels.{other}
use Rattle.s3_cards.specs.declared.levels.LevelId.{LevelId}
use Rattle.s3_cards.specs.declared.levels.LevelId.TheVariants.{One, Two}
use Rattle.s3_solo.specs.declared.action.Action.{Action}
use Rattle.s3_solo.specs.declared.action.Action.TheVariants.{Turn, Reply, Drain}
use Rattle.s3_solo.specs.declared.action.Did.{Did}
use Rattle.s3_solo.specs.declared.action.Did.TheVariants.{Acted, Idle, Refused}
use Rattle.s3_solo.specs.Lines.{is_queued, with_drained}
use Rattle.s3_solo.specs.World.{World}
use Rattle.s3_solo.specs.Serving.{Outcome, acted, idle}
use Rattle.s3_solo.specs.Solo.{drained, refused, replied, solo, step_of, turned}
use Rattle.s3_level.specs.Inner.Holds.{StopsAtEnd}
use Rattle.s3_time.specs.Inner.Moves.{IsAtRest}
use Rattle.s3_time.proofs.Entries.{ActsOrIdle, reply_acts, turn_acts}
use Rattle.s3_time.proofs.Resting.{idle_and_empty}
use Rattle.s3_bureau.specs.declared.entry.Entry.{Entry}
use Rattle.s3_bureau.specs.declared.stop.Stop.{Stop}
use Rattle.s3_desk.specs.declared.ends.Bounds.{Bounds}
use Rattle.s3_desk.specs.declared.ends.End.{End}
use Rattle.s3_desk.specs.declared.ends.Ends.{Ends}
use Rattle.s3_desk.specs.declared.desk.Seat.{Seat}
use Rattle.s3_desk.specs.declared.desk.Went.{Went}
use Rattle.s3_desk.specs.declared.desk.Went.TheVariants.{On, Rests, Cut}
use Rattle.s3_bureau.specs.Entries.{own, with_action}
use Rattle.s3_bureau.specs.Inner.Underway.{Performs}
use Rattle.s3_desk.specs.Inner.Desk.{AreMet, AsksLevel, BothEnd, Counts, DidNothing, DrainsQueue, DrainsSoFar, EndsAs, Follows, FollowsAll, GivesReply, GoesOn, HasReached, HasReplied, IsLeft, IsLeftAt, IsPastReply, IsQuiet, IsSpent, Keeps, LevelGoes, LevelGoesOn, RepliesLast, RestsAt, Spends, StepsAlike, TakesLines, Uses, is_drain, is_reply, is_turn, lines_in, replies_in, replies_left, room, stride_of, turns_in}
use Rattle.s3_desk.specs.Inner.Calls.{GoesAfter}
use Rattle.s3_desk.specs.Inner.Events.{Event}
use Rattle.s3_bureau.proofs.Performing.{performs_then, times_more}

-- ---- entries that did nothing
turn_keeps : (w : World) → (turned w).did ≢ Acted → turned w ≡ idle w
turn_keeps w not = by (turn_acts w)
  where
    by : ActsOrIdle w (turned w) → turned w ≡ idle w
    by (inl act) = absurd (not act)
    by (inr is) = is

reply_keeps : (digit : ℕ) (w : World) → (replied digit w).did ≢ Acted → (replied digit w).world ≡ w
reply_keeps digit w not = by (reply_acts digit w)
  where
    by : ((replied digit w).did ≡ Acted) ⊎ (((replied digit w).did ≢ Acted) × ((replied digit w).world ≡ w)) → (replied digit w).world ≡ w
    by (inl act) = absurd (not act)
    by (inr is) = is.1

drain_keeps : (w : World) → (drained w).did ≢ Acted → ((drained w).world ≡ w) × (is_queued w.lines ≡ false)
drain_keeps w = by (is_queued w.lines)
  where
    by : (b : Bool) → (if b then acted (record w { lines = with_drained w.lines }) else refused 3 w).did ≢ Acted
        → ((if b then acted (record w { lines = with_drained w.lines }) else refused 3 w).world ≡ w) × (b ≡ false)
    by true not = absurd (not refl)
    by false not = (refl, refl)

nothing_keeps : (action : Action) (w : World) → (step_of w action).did ≢ Acted → (step_of w action).world ≡ w
nothing_keeps Turn w not = ap (λ (o : Outcome). o.world) (turn_keeps w not)
nothing_keeps (Reply digit) w not = reply_keeps digit w not
nothing_keeps Drain w not = (drain_keeps w not).0

-- what each of so many entries of a world was answered
abbrev pub Answers : Action → (times : ℕ) → Did → World → Type 0
Answers action times did w = (n : ℕ) → n < times → did ≡ (step_of (solo w (replicate n action)) action).did

-- so many that did nothing leave the world
nothing_times : (action : Action) (times : ℕ) (did : Did) (w : World) → did ≢ Acted → Answers action times did w → solo w (replicate times action) ≡ w
nothing_times action zero did w not are = refl
nothing_times action (suc times) did w not are =
    let same : (step_of w action).world ≡ w = nothing_keeps action w (λ act. not (are 0 (omega arith) ∙ act)) in
    ap (λ (v : World). solo v (replicate times action)) same ∙ nothing_times action times did w not (λ n less. are n (omega (arith, less)))

pub first_nothing : (action : Action) (times : ℕ) (did : Did) (w : World) → 1 ≤ times → did ≢ Acted → Answers action times did w → (step_of w action).did ≢ Acted
first_nothing action times did w some not are act = not (are 0 (omega (arith, some)) ∙ act)

-- neither a turn nor a drain does anything
pub at_rest : (w : World) → (step_of w Turn).did ≢ Acted → (step_of w Drain).did ≢ Acted → IsAtRest w
at_rest w turn drain = idle_and_empty w (ap (λ (o : Outcome). o.did) (turn_keeps w turn)) drain

pub none_queued : (w : World) → (step_of w Drain).did ≢ Acted → is_queued w.lines ≡ false
none_queued w drain = (drain_keeps w drain).1

either : (from level : LevelId) → (level ≡ from) ⊎ (level ≡ other from)
either One One = inl refl
either One Two = inr refl
either Two One = inr refl
either Two Two = inl refl

-- what was held still is where the entries did nothing
pub nothing_held : (entry : Entry) (times : ℕ) (did : Did) (old new : LevelId → World → Type 0) → did ≢ Acted
    → ((w : World) → old entry.level w → Answers entry.action times did w × new entry.level (solo w (replicate times entry.action)))
    → ((w : World) → old (other entry.level) w → new (other entry.level) w)
    → (level : LevelId) (w : World) → old level w → new level w
nothing_held entry times did old new not steps stays level w held = by (either entry.level level)
  where
    by : (level ≡ entry.level) ⊎ (level ≡ other entry.level) → new level w
    by (inl same) =
        let is = steps w (subst (λ (l : LevelId). old l w) same held) in
        subst (λ (l : LevelId). new l w) (sym same) (subst (new entry.level) (nothing_times entry.action times did w not is.0) is.1)
    by (inr same) = subst (λ (l : LevelId). new l w) (sym same) (stays w (subst (λ (l : LevelId). old l w) same held))

pub idle_not : (did : Did) → did ≡ Idle → did ≢ Acted
idle_not did is act = let wrong : Idle ≡ Acted = sym is ∙ act in cc

pub refused_not : (did : Did) (number : ℕ) → did ≡ Refused number → did ≢ Acted
refused_not did number is act = let wrong : Refused number ≡ Acted = sym is ∙ act in cc

-- ---- whose entries these are
with_action-append : (level from : LevelId) (action : Action) (xs ys : List Action) → with_action level from action (xs ++ ys) ≡ with_action level from action xs ++ ys
with_action-append One One action xs ys = refl
with_action-append Two Two action xs ys = refl
with_action-append One Two action xs ys = refl
with_action-append Two One action xs ys = refl

pub own-append : (level : LevelId) (xs ys : List Entry) → own level (xs ++ ys) ≡ own level xs ++ own level ys
own-append level [] ys = refl
own-append level (entry ∷ xs) ys =
    ap (with_action level entry.level entry.action) (own-append level xs ys) ∙ with_action-append level entry.level entry.action (own level xs) (own level ys)

none_of_other : (n : ℕ) (entry : Entry) → own (other entry.level) (replicate n entry) ≡ []
none_of_other zero entry = refl
none_of_other (suc n) entry = his entry.level entry.action (own (other entry.level) (replicate n entry)) ∙ none_of_other n entry
  where
    his : (level : LevelId) (action : Action) (actions : List Action) → with_action (other level) level action actions ≡ actions
    his One action actions = refl
    his Two action actions = refl

append-none : (xs ys : List Action) → ys ≡ [] → xs ++ ys ≡ xs
append-none [] ys none = none
append-none (x ∷ xs) ys none = ap (λ zs. x ∷ zs) (append-none xs ys none)

-- one entry is one of so many
pub once : (action : Action) (did : Did) (old new : World → Type 0) → ((w : World) → old w → (did ≡ (step_of w action).did) × new (step_of w action).world)
    → (w : World) → old w → Answers action 1 did w × new (solo w (replicate 1 action))
once action did old new steps w held = ((λ n less. by n less), (steps w held).1)
  where
    by : (n : ℕ) → n < 1 → did ≡ (step_of (solo w (replicate n action)) action).did
    by zero less = (steps w held).0
    by (suc n) less = absurd (omega (arith, less))

no_replies : (n : ℕ) (entry : Entry) → is_reply entry.action ≡ false → replies_in (replicate n entry) ≡ []
no_replies zero entry none = refl
no_replies (suc n) entry none = ap (λ (b : Bool). cond b (entry ∷ replies_in (replicate n entry)) (replies_in (replicate n entry))) none ∙ no_replies n entry none

replies_joined : (xs ys : List Entry) → replies_in (xs ++ ys) ≡ replies_in xs ++ replies_in ys
replies_joined [] ys = refl
replies_joined (x ∷ xs) ys = by (is_reply x.action) (replies_joined xs ys)
  where
    by : (b : Bool) → replies_in (xs ++ ys) ≡ replies_in xs ++ replies_in ys → cond b (x ∷ replies_in (xs ++ ys)) (replies_in (xs ++ ys)) ≡ cond b (x ∷ replies_in xs) (replies_in xs) ++ replies_in ys
    by true later = ap (λ es. x ∷ es) later
    by false later = later

-- ---- what the operator met
pub met_joined : {O : Type 0} (meets : O → Event → O → Type 0) (one other : List Event) (from middle to : O) → AreMet meets from one middle → AreMet meets middle other to → AreMet meets from (one ++ other) to
met_joined meets [] other from middle to same more = subst (λ o. AreMet meets o other to) same more
met_joined meets (event ∷ one) other from middle to met more = (met.0, (met.1.0, met_joined meets one other met.0 middle to met.1.1 more))

-- ---- what a level takes
own-replicate : (n : ℕ) (entry : Entry) → own entry.level (replicate n entry) ≡ replicate n entry.action
own-replicate zero entry = refl
own-replicate (suc n) entry = mine entry.level entry.action (own entry.level (replicate n entry)) ∙ ap (λ (actions : List Action). entry.action ∷ actions) (own-replicate n entry)
  where
    mine : (level : LevelId) (action : Action) (actions : List Action) → with_action level level action actions ≡ action ∷ actions
    mine One action actions = refl
    mine Two action actions = refl

all_fit : (p : Action → Bool) (n : ℕ) (action : Action) → p action ≡ true → length (filter p (replicate n action)) ≡ n
all_fit p zero action fits = refl
all_fit p (suc n) action fits =
    ap (λ (b : Bool). length (cond b (action ∷ filter p (replicate n action)) (filter p (replicate n action)))) fits ∙ ap (λ (k : ℕ). suc k) (all_fit p n action fits)

none_fits : (p : Action → Bool) (n : ℕ) (action : Action) → p action ≡ false → length (filter p (replicate n action)) ≡ 0
none_fits p zero action fits = refl
none_fits p (suc n) action fits =
    ap (λ (b : Bool). length (cond b (action ∷ filter p (replicate n action)) (filter p (replicate n action)))) fits ∙ none_fits p n action fits

-- those that fit among more entries of a level
fit_more : (p : Action → Bool) (was is : List Entry) (n k : ℕ) (entry : Entry) → is ≡ was ++ replicate n entry → length (filter p (replicate n entry.action)) ≡ k
    → length (filter p (own entry.level is)) ≡ length (filter p (own entry.level was)) + k
fit_more p was is n k entry whole count =
    ap (λ es. length (filter p (own entry.level es))) whole
    ∙ (ap (λ (actions : List Action). length (filter p actions)) (own-append entry.level was (replicate n entry))
    ∙ (ap length (filter-append p (own entry.level was) (own entry.level (replicate n entry)))
    ∙ (length-append (filter p (own entry.level was)) (filter p (own entry.level (replicate n entry)))
    ∙ ap (λ (m : ℕ). length (filter p (own entry.level was)) + m) (ap (λ (actions : List Action). length (filter p actions)) (own-replicate n entry) ∙ count))))

balance : (is was k old new : ℕ) → is ≡ was + k → new + k ≡ old → is + new ≡ was + old
balance is was k old new more less = omega (arith, more, less)

pub turns_taken : (level : LevelId) (times : ℕ) (was is : List Entry) (old new : Bounds) → is ≡ was ++ replicate times (record { level = level; action = Turn }) → new.turns + times ≡ old.turns → new.lines ≡ old.lines
    → Spends level was is old new
turns_taken level times was is old new whole turns lines = record {
  turns = balance (turns_in level is) (turns_in level was) times old.turns new.turns (fit_more is_turn was is times times (record { level = level; action = Turn }) whole (all_fit is_turn times Turn refl)) turns;
  lines = balance (lines_in level is) (lines_in level was) 0 old.lines new.lines (fit_more is_drain was is times 0 (record { level = level; action = Turn }) whole (none_fits is_drain times Turn refl)) (omega (arith, lines));
  less = omega (arith, turns, lines);
}

pub line_taken : (level : LevelId) (was is : List Entry) (old new : Bounds) → is ≡ was ++ replicate 1 (record { level = level; action = Drain }) → new.turns ≡ old.turns → new.lines + 1 ≡ old.lines
    → Spends level was is old new
line_taken level was is old new whole turns lines = record {
  turns = balance (turns_in level is) (turns_in level was) 0 old.turns new.turns (fit_more is_turn was is 1 0 (record { level = level; action = Drain }) whole refl) (omega (arith, turns));
  lines = balance (lines_in level is) (lines_in level was) 1 old.lines new.lines (fit_more is_drain was is 1 1 (record { level = level; action = Drain }) whole refl) lines;
  less = omega (arith, turns, lines);
}

pub reply_taken : (level : LevelId) (digit : ℕ) (was is : List Entry) (left : Bounds) → is ≡ was ++ replicate 1 (record { level = level; action = Reply digit }) → Spends level was is left left
reply_taken level digit was is left whole = record {
  turns = balance (turns_in level is) (turns_in level was) 0 left.turns left.turns (fit_more is_turn was is 1 0 (record { level = level; action = Reply digit }) whole refl) (omega arith);
  lines = balance (lines_in level is) (lines_in level was) 0 left.lines left.lines (fit_more is_drain was is 1 0 (record { level = level; action = Reply digit }) whole refl) (omega arith);
  less = omega arith;
}

-- a level takes nothing by the other one's entries
pub none_taken : (level : LevelId) (was is : List Entry) (left : Bounds) → own level is ≡ own level was → Spends level was is left left
none_taken level was is left same = record {
  turns = ap (λ (actions : List Action). length (filter is_turn actions) + left.turns) same;
  lines = ap (λ (actions : List Action). length (filter is_drain actions) + left.lines) same;
  less = omega arith;
}

pub spends_then : (level : LevelId) (was between is : List Entry) (old middle new : Bounds) → Spends level was between old middle → Spends level between is middle new → Spends level was is old new
spends_then level was between is old middle new ahead next = record { turns = next.turns ∙ ahead.turns; lines = next.lines ∙ ahead.lines; less = omega (arith, ahead.less, next.less) }

-- ---- and so a level goes on
pub on_not_cut : On ≢ Cut
on_not_cut is = cc

pub uses_turns : (level : LevelId) (times : ℕ) (was is : List Entry) (old new : Bounds) → is ≡ was ++ replicate times (record { level = level; action = Turn }) → 1 ≤ times → new.turns + times ≡ old.turns → new.lines ≡ old.lines
    → Uses level was is old new On
uses_turns level times was is old new whole some turns lines = record {
  spends = turns_taken level times was is old new whole turns lines;
  some = λ is. omega (arith, some, turns, lines);
  all = λ is. absurd (on_not_cut is);
}

-- one line more
pub uses_line : (level : LevelId) (was between is : List Entry) (old middle new : Bounds) (went : Went) → Uses level was between old middle went → is ≡ between ++ replicate 1 (record { level = level; action = Drain })
    → new.turns ≡ middle.turns → new.lines + 1 ≡ middle.lines → Uses level was is old new On
uses_line level was between is old middle new went so_far whole turns lines = record {
  spends = spends_then level was between is old middle new so_far.spends (line_taken level between is middle new whole turns lines);
  some = λ is. omega (arith, so_far.spends.less, turns, lines);
  all = λ is. absurd (on_not_cut is);
}

-- no line more is left
pub uses_no_more : (level : LevelId) (was is : List Entry) (old new : Bounds) (went : Went) → Uses level was is old new went → new.lines ≡ 0 → Uses level was is old new Cut
uses_no_more level was is old new went uses none = record { spends = uses.spends; some = λ is. absurd (not is); all = λ is. inr none }
  where
    not : Cut ≢ On
    not is = cc

-- no line is left: the level has gone on if it printed some until then
pub uses_ends : (level : LevelId) (was is : List Entry) (old new : Bounds) (went ended : Went) → Uses level was is old new went → new.lines ≡ 0 → (went ≡ On → ended ≡ On) → (went ≢ On → ended ≡ Cut) → Uses level was is old new ended
uses_ends level was is old new On ended uses none on cut = subst (λ (x : Went). Uses level was is old new x) (sym (on refl)) uses
uses_ends level was is old new Rests ended uses none on cut = subst (λ (x : Went). Uses level was is old new x) (sym (cut (λ e. cc))) (uses_no_more level was is old new Rests uses none)
uses_ends level was is old new Cut ended uses none on cut = subst (λ (x : Went). Uses level was is old new x) (sym (cut (λ e. cc))) (uses_no_more level was is old new Cut uses none)

-- a level that is cut has nothing left
pub spent_cut : (level : LevelId) (was is : List Entry) (old new : Bounds) (went : Went) → Uses level was is old new went → went ≢ On → went ≢ Rests → IsSpent new
spent_cut level was is old new On uses not_on not_rests = absurd (not_on refl)
spent_cut level was is old new Rests uses not_on not_rests = absurd (not_rests refl)
spent_cut level was is old new Cut uses not_on not_rests = uses.all refl

-- ---- nothing is performed, where a level hasn't gone on
pub cut_idle : (was is : List Entry) (went : Went) → went ≡ Cut → (went ≢ On → is ≡ was) → is ≡ was
cut_idle was is went cut idle = idle (λ on. cc)

pub idle_then : (was between is : List Entry) (first : Went) (result : Result Went Stop) → first ≡ Rests → (first ≢ On → between ≡ was) → IfOk result (λ went. went ≢ On → is ≡ between) → IfOk result (λ went. went ≢ On → is ≡ was)
idle_then was between is first (Ok went) rests before idle = λ not_on. idle not_on ∙ before (λ on. cc)
idle_then was between is first (Err stop) rests before idle = tt

-- ---- lines alone
pub no_lines : (level : LevelId) (was : List Entry) → TakesLines level was was
no_lines level was = record { times = 0; whole = sym (append-nil was) }

once_more : {A : Type 0} (n : ℕ) (x : A) → replicate n x ++ replicate 1 x ≡ replicate (suc n) x
once_more zero x = refl
once_more {A} (suc n) x = ap (λ (xs : List A). x ∷ xs) (once_more n x)

pub line_more : (level : LevelId) (was between is : List Entry) → TakesLines level was between → is ≡ between ++ replicate 1 (record { level = level; action = Drain }) → TakesLines level was is
line_more level was between is so_far whole =
    let line : Entry = record { level = level; action = Drain } in
    record {
      times = suc so_far.times;
      whole = whole
          ∙ (ap (λ (es : List Entry). es ++ replicate 1 line) so_far.whole
          ∙ (append_assoc was (replicate so_far.times line) (replicate 1 line)
          ∙ ap (λ (es : List Entry). was ++ es) (once_more so_far.times line)));
    }

-- ---- how many replies are counted
pub counts_then : (level : LevelId) (was between is : List Entry) (old middle new : ℕ) → Counts level was between old middle → Counts level between is middle new → Counts level was is old new
counts_then level was between is old middle new ahead next = λ first last. next first (ahead first last)

pub counts_same : (level : LevelId) (was is : List Entry) (answers : ℕ) → own level is ≡ own level was → Counts level was is answers answers
counts_same level was is answers same = λ first last. record { before = last.before; replies = last.replies; whole = same ∙ last.whole; are_replies = last.are_replies; many = last.many; no_more = last.no_more }

pub counts_none : (level : LevelId) (was : List Entry) (new : ℕ) → new ≡ 0 → Counts level was was 0 new
counts_none level was new none = subst (λ (n : ℕ). Counts level was was 0 n) (sym none) (counts_same level was was 0 refl)

-- ---- the last action of some
not_none : (xs : List Action) (x : Action) → [] ≢ xs ++ x ∷ []
not_none [] x same = cc
not_none (y ∷ xs) x same = cc

tails_same : (x y : Action) (xs ys : List Action) → x ∷ xs ≡ y ∷ ys → xs ≡ ys
tails_same x y xs ys same = cc

last_same : (xs ys : List Action) (x y : Action) → xs ++ x ∷ [] ≡ ys ++ y ∷ [] → x ≡ y
last_same [] [] x y same = cc
last_same [] (b ∷ ys) x y same = absurd (not_none ys y (tails_same x b [] (ys ++ y ∷ []) same))
last_same (a ∷ xs) [] x y same = absurd (not_none xs x (tails_same y a [] (xs ++ x ∷ []) (sym same)))
last_same (a ∷ xs) (b ∷ ys) x y same = last_same xs ys x y (tails_same a b (xs ++ x ∷ []) (ys ++ y ∷ []) same)

-- after turns, or after drains, it isn't a reply
others_last : (xs : List Action) (n : ℕ) (action : Action) → is_reply action ≡ false → (actions : List Action) (digit : ℕ) → xs ++ replicate (suc n) action ≢ actions ++ Reply digit ∷ []
others_last xs n action none actions digit same =
    let ends : (xs ++ replicate n action) ++ action ∷ [] ≡ actions ++ Reply digit ∷ [] =
    append_assoc xs (replicate n action) (action ∷ []) ∙ (ap (λ (ys : List Action). xs ++ ys) (once_more n action) ∙ same) in
    true≢false (sym (ap is_reply (last_same (xs ++ replicate n action) actions action (Reply digit) ends)) ∙ none)

nothing_long : (xs : List Action) → length xs ≡ 0 → xs ≡ []
nothing_long [] none = refl
nothing_long (x ∷ xs) none = absurd (omega (arith, none))

-- a turn of a stride that isn't its first one is no first turn after a reply
pub past_turns : (level : LevelId) (earlier was : List Entry) (answers n : ℕ) → own level was ≡ own level earlier → 1 ≤ n → n < stride_of answers
    → (first : List Entry) → RepliesLast level first earlier answers → IsPastReply level first (was ++ replicate n (record { level = level; action = Turn }))
past_turns level earlier was (suc answers) n same some less first last = let few : n < 1 = less in absurd (omega (arith, some, few))
past_turns level earlier was zero zero same some less first last = absurd (omega (arith, some))
past_turns level earlier was zero (suc n) same some less first last = λ actions digit is.
    let turn : Entry = record { level = level; action = Turn } in
    let before : List Action = last.before in
    let until : own level was ≡ own level first ++ before =
    same ∙ (last.whole ∙ ap (λ (actions : List Action). own level first ++ actions) (ap (λ (replies : List Action). before ++ replies) (nothing_long last.replies last.many) ∙ append-nil before)) in
    let now : own level (was ++ replicate (suc n) turn) ≡ own level first ++ (before ++ replicate (suc n) Turn) =
    own-append level was (replicate (suc n) turn)
    ∙ (ap₂ (λ (xs ys : List Action). xs ++ ys) until (own-replicate (suc n) turn)
    ∙ append_assoc (own level first) before (replicate (suc n) Turn)) in
    let rest : before ++ replicate (suc n) Turn ≡ actions ++ Reply digit ∷ Turn ∷ [] =
    append_cancel_left (own level first) (before ++ replicate (suc n) Turn) (actions ++ Reply digit ∷ Turn ∷ []) (sym now ∙ is) in
    let ends : (before ++ replicate n Turn) ++ Turn ∷ [] ≡ (actions ++ Reply digit ∷ []) ++ Turn ∷ [] =
    append_assoc before (replicate n Turn) (Turn ∷ []) ∙ (ap (λ (xs : List Action). before ++ xs) (once_more n Turn) ∙ (rest ∙ sym (append_assoc actions (Reply digit ∷ []) (Turn ∷ [])))) in
    by n actions digit (append_cancel_right (before ++ replicate n Turn) (actions ++ Reply digit ∷ []) (Turn ∷ []) ends)
  where
    by : (n : ℕ) (actions : List Action) (digit : ℕ) → last.before ++ replicate n Turn ≢ actions ++ Reply digit ∷ []
    by zero actions digit is = last.no_more actions digit (sym (append-nil last.before) ∙ is)
    by (suc n) actions digit is = others_last last.before n Turn refl actions digit is

-- before a level has gone on no reply is counted
pub none_last : (level : LevelId) (first : List Entry) → RepliesLast level first first 0
none_last level first = record { before = []; replies = []; whole = sym (append-nil (own level first)); are_replies = refl; many = refl; no_more = λ actions digit. not_none actions (Reply digit) }

pub has_replied : (level : LevelId) (was between is : List Entry) (old new : ℕ) → Counts level was between 0 old → Counts level between is old new → new ≡ 65535 → HasReplied level was is
has_replied level was between is old new ahead next most = subst (λ (count : ℕ). RepliesLast level was is count) most (next was (ahead was (none_last level was)))

-- turns more, or drains, and no reply is counted
counts_on : (action : Action) → is_reply action ≡ false → (level : LevelId) (times : ℕ) (was is : List Entry) (old new : ℕ) → is ≡ was ++ replicate times (record { level = level; action = action }) → is ≢ was → new ≡ 0
    → Counts level was is old new
counts_on action none level zero was is old new whole some zero_now = absurd (some (whole ∙ append-nil was))
counts_on action none level (suc n) was is old new whole some zero_now = λ first last.
    let entry : Entry = record { level = level; action = action } in
    let work : List Action = replicate (suc n) action in
    record {
      before = (last.before ++ last.replies) ++ work;
      replies = [];
      whole =
          ap (own level) whole
          ∙ (own-append level was (replicate (suc n) entry)
          ∙ (ap₂ (λ (xs ys : List Action). xs ++ ys) last.whole (own-replicate (suc n) entry)
          ∙ (append_assoc (own level first) (last.before ++ last.replies) work
          ∙ ap (λ (actions : List Action). own level first ++ actions) (sym (append-nil ((last.before ++ last.replies) ++ work))))));
      are_replies = refl;
      many = sym zero_now;
      no_more = others_last (last.before ++ last.replies) n action none;
    }

counts_still : (level : LevelId) (was is : List Entry) (old new : ℕ) → is ≡ was → new ≡ old → Counts level was is old new
counts_still level was is old new same as_many = subst (λ (n : ℕ). Counts level was is old n) (sym as_many) (counts_same level was is old (ap (own level) same))

-- a level that has gone on has taken something
not_still : (level : LevelId) (was is : List Entry) (old new : Bounds) → Uses level was is old new On → is ≢ was
not_still level was is old new uses same =
    let turns : turns_in level is ≡ turns_in level was = ap (turns_in level) same in
    let lines : lines_in level is ≡ lines_in level was = ap (lines_in level) same in
    let less : room new < room old = uses.some refl in
    absurd (omega (arith, turns, lines, less, uses.spends.turns, uses.spends.lines))

-- a reply is taken
pub counts_reply : (level : LevelId) (digit answers : ℕ) (was is : List Entry) → is ≡ was ++ record { level = level; action = Reply digit } ∷ [] → Counts level was is answers (answers + 1)
counts_reply level digit answers was is whole = λ first last. record {
  before = last.before;
  replies = last.replies ++ Reply digit ∷ [];
  whole =
      ap (own level) whole
      ∙ (own-append level was (record { level = level; action = Reply digit } ∷ [])
      ∙ (ap₂ (λ (one : List Action) (other : List Action). one ++ other) last.whole (own-replicate 1 (record { level = level; action = Reply digit }))
      ∙ (append_assoc (own level first) (last.before ++ last.replies) (Reply digit ∷ [])
      ∙ ap (λ (actions : List Action). own level first ++ actions) (append_assoc last.before last.replies (Reply digit ∷ [])))));
  are_replies = list_all-append is_reply last.replies (Reply digit ∷ []) ∙ rw last.are_replies refl;
  many = omega (arith, last.many, length-append last.replies (Reply digit ∷ []));
  no_more = last.no_more;
}

-- ---- what is left to do
pub few_replies : (seat : Seat) → replies_left seat ≤ 65535
few_replies seat = omega arith

pub less_room : (a b c d r s t u : ℕ) → c ≤ a → d ≤ b → (c < a) ⊎ (d < b) → t ≤ 65535 → u ≤ 65535 → 131071 * (c + d) + (t + u) < 131071 * (a + b) + (r + s)
less_room a b c d r s t u first second (inl less) few_t few_u = omega (arith, first, second, less, few_t, few_u)
less_room a b c d r s t u first second (inr less) few_t few_u = omega (arith, first, second, less, few_t, few_u)

pub less_replies : (a b c d r s t u : ℕ) → c ≤ a → d ≤ b → t + u < r + s → 131071 * (c + d) + (t + u) < 131071 * (a + b) + (r + s)
less_replies a b c d r s t u first second less = omega (arith, first, second, less)

-- a level that has gone on has less room
pub goes_less : (one_was one_is two_was two_is : List Entry) (a b c d : Bounds) (one two : Went) → Uses One one_was one_is a c one → Uses Two two_was two_is b d two → (one ≡ On) ⊎ (two ≡ On) → (room c < room a) ⊎ (room d < room b)
goes_less one_was one_is two_was two_is a b c d one two first second (inl is) = inl (first.some is)
goes_less one_was one_is two_was two_is a b c d one two first second (inr is) = inr (second.some is)

-- what a level has taken where nothing more is left to it
pub has_reached : (level : LevelId) (was is : List Entry) (bounds left : Bounds) → Spends level was is bounds left → IsSpent left → HasReached level was is bounds
has_reached level was is bounds left spends (inl none) = inl (omega (arith, spends.turns, none))
has_reached level was is bounds left spends (inr none) = inr (omega (arith, spends.lines, none))

module _ {M : Type 0} (holds : M → LevelId → World → Type 0) where
  -- ---- entries that acted, or did nothing
  pub acts : (entry : Entry) (times noted : ℕ) (did : Did) (was is : List Entry) (old new : M)
      → ((w : World) → holds old entry.level w → Answers entry.action times did w × holds new entry.level (solo w (replicate times entry.action)))
      → ((w : World) → holds old (other entry.level) w → holds new (other entry.level) w) → noted ≡ times → is ≡ was ++ replicate noted entry → LevelGoes holds entry.level (replies_in (replicate times entry)) was is old new
  acts entry times noted did was is old new steps stays count whole = record { goes = go; alone = alone'; more = replicate times entry; whole = entries; are = refl }
    where
      entries : is ≡ was ++ replicate times entry
      entries = whole ∙ ap (λ n. was ++ replicate n entry) count

      from_none : 0 + times ≡ times
      from_none = omega arith

      go : GoesOn holds was is old new
      go first before =
          subst (λ es. Performs es (holds first) (holds new)) (sym entries)
          (performs_then was (replicate times entry) (holds first) (holds old) (holds new) before
          (subst (λ n. Performs (replicate n entry) (holds old) (holds new)) from_none
          (times_more entry 0 times (holds old) (holds old) (holds new) (λ level w held. held) (λ w held. (steps w held).1) stays)))

      alone' : own (other entry.level) is ≡ own (other entry.level) was
      alone' = ap (own (other entry.level)) entries ∙ (own-append (other entry.level) was (replicate times entry) ∙ append-none (own (other entry.level) was) (own (other entry.level) (replicate times entry)) (none_of_other times entry))

  -- a turn or a drain
  pub acts_alone : (entry : Entry) (times noted : ℕ) (did : Did) (was is : List Entry) (old new : M) → is_reply entry.action ≡ false
      → ((w : World) → holds old entry.level w → Answers entry.action times did w × holds new entry.level (solo w (replicate times entry.action)))
      → ((w : World) → holds old (other entry.level) w → holds new (other entry.level) w) → noted ≡ times → is ≡ was ++ replicate noted entry → LevelGoes holds entry.level [] was is old new
  acts_alone entry times noted did was is old new none steps stays count whole =
      subst (λ (replies : List Entry). LevelGoes holds entry.level replies was is old new) (no_replies times entry none) (acts entry times noted did was is old new steps stays count whole)

  pub does_nothing : (entry : Entry) (times : ℕ) (did : Did) (was : List Entry) (old new : M) → 1 ≤ times → did ≢ Acted
      → ((w : World) → holds old entry.level w → Answers entry.action times did w × holds new entry.level (solo w (replicate times entry.action)))
      → ((w : World) → holds old (other entry.level) w → holds new (other entry.level) w) → DidNothing holds entry.level entry.action was was old new
  does_nothing entry times did was old new some not steps stays = record {
    quiet = record { same = refl; keeps = nothing_held entry times did (holds old) (holds new) not steps stays };
    nothing = λ w held. first_nothing entry.action times did w some not (steps w held).0;
  }

  -- ---- turns alone, or lines alone
  pub alike_turns : (stride : ℕ) (level : LevelId) (times noted : ℕ) (was is : List Entry) (old : M) → times ≤ stride → StopsAtEnd Turn times (holds old level) → noted ≡ times
      → is ≡ was ++ replicate noted (record { level = level; action = Turn }) → StepsAlike holds stride level was is old
  alike_turns stride level times noted was is old few at_work count whole =
      inl (record { times = times; few = few; whole = whole ∙ ap (λ (n : ℕ). was ++ replicate n (record { level = level; action = Turn })) count; at_work = at_work })

  pub alike_none : (stride : ℕ) (level : LevelId) (was : List Entry) (old : M) → StepsAlike holds stride level was was old
  alike_none stride level was old = inr (no_lines level was)

  pub alike_lines : (stride : ℕ) (level : LevelId) (was between is : List Entry) (old : M) (first : Went) (result : Result Went Stop) → first ≡ Rests → (first ≢ On → between ≡ was) → OnOk result (TakesLines level between is)
      → OnOk result (StepsAlike holds stride level was is old)
  alike_lines stride level was between is old first (Ok went) rests before lines = inr (subst (λ (es : List Entry). TakesLines level es is) (before (λ on. cc)) lines)
  alike_lines stride level was between is old first (Err stop) rests before lines = tt

  -- the replies of a level that has gone on count no more, and those of another one still do
  counts_alike : (stride : ℕ) (level : LevelId) (was is : List Entry) (m : M) (old new : ℕ) → StepsAlike holds stride level was is m → is ≢ was → new ≡ 0 → Counts level was is old new
  counts_alike stride level was is m old new (inl turns) some none = counts_on Turn refl level turns.times was is old new turns.whole some none
  counts_alike stride level was is m old new (inr lines) some none = counts_on Drain refl level lines.times was is old new lines.whole some none

  pub counts_went : (stride : ℕ) (level : LevelId) (was is : List Entry) (m : M) (a b : Bounds) (old new : ℕ) (went : Went) → StepsAlike holds stride level was is m → Uses level was is a b went → (went ≡ On → new ≡ 0) → (went ≢ On → is ≡ was)
      → (went ≢ On → new ≡ old) → Counts level was is old new
  counts_went stride level was is m a b old new On alike uses none same as_many = counts_alike stride level was is m old new alike (not_still level was is a b uses) (none refl)
  counts_went stride level was is m a b old new Rests alike uses none same as_many = counts_still level was is old new (same (λ e. cc)) (as_many (λ e. cc))
  counts_went stride level was is m a b old new Cut alike uses none same as_many = counts_still level was is old new (same (λ e. cc)) (as_many (λ e. cc))

  -- and so the operator follows them
  pub follows_all : {O : Type 0} (meets : O → Event → O → Type 0) (level : LevelId) (went : Went) (was is : List Entry) (now : M) (from to : O) → (went ≢ Rests → Follows holds meets level is now from to) → (went ≡ Rests → to ≡ from)
      → (went ≢ On → is ≡ was) → FollowsAll holds meets level was is now from to
  follows_all meets level On was is now from to follows rests idle = inr (follows (λ is_rests. cc))
  follows_all meets level Cut was is now from to follows rests idle = inr (follows (λ is_rests. cc))
  follows_all meets level Rests was is now from to follows rests idle = inl (idle (λ on. cc), rests refl)

  -- ---- one after the other
  unmoved : (was : List Entry) (old : M) → IsQuiet holds was was old old
  unmoved was old = record { same = refl; keeps = λ level w held. held }

  kept : (entries : List Entry) (first middle last : M) → Performs entries (holds first) (holds middle) → Keeps holds middle last → Performs entries (holds first) (holds last)
  kept entries first middle last performed keeps level w held = keeps level (solo w (own level entries)) (performed level w held)

  pub quiet_goes : (level : LevelId) (was is : List Entry) (old new : M) → IsQuiet holds was is old new → LevelGoes holds level [] was is old new
  quiet_goes level was is old new quiet = record {
    goes = λ first before. subst (λ es. Performs es (holds first) (holds new)) (sym quiet.same) (kept was first old new before quiet.keeps);
    alone = ap (own (other level)) quiet.same;
    more = [];
    whole = quiet.same ∙ sym (append-nil was);
    are = refl;
  }

  pub goes_then : (level : LevelId) (was between is : List Entry) (old middle new : M) → LevelGoes holds level [] was between old middle → LevelGoes holds level [] between is middle new → LevelGoes holds level [] was is old new
  goes_then level was between is old middle new ahead next = record {
    goes = λ first before. next.goes first (ahead.goes first before);
    alone = next.alone ∙ ahead.alone;
    more = ahead.more ++ next.more;
    whole = next.whole ∙ (ap (λ es. es ++ next.more) ahead.whole ∙ append_assoc was ahead.more next.more);
    are = replies_joined ahead.more next.more ∙ ap₂ (λ (xs ys : List Entry). xs ++ ys) ahead.are next.are;
  }

  pub quiet_then : (was between is : List Entry) (old middle new : M) → IsQuiet holds was between old middle → IsQuiet holds between is middle new → IsQuiet holds was is old new
  quiet_then was between is old middle new ahead next = record { same = next.same ∙ ahead.same; keeps = λ level w held. next.keeps level w (ahead.keeps level w held) }

  -- ---- a queue that is drained
  pub so_far_goes : (level : LevelId) (was is : List Entry) (old new : M) (went : Went) → DrainsSoFar holds level was is old new went → LevelGoes holds level [] was is old new
  so_far_goes level was is old new On so_far = so_far
  so_far_goes level was is old new Rests so_far = quiet_goes level was is old new so_far
  so_far_goes level was is old new Cut so_far = so_far

  -- no more lines may be drained
  pub lines_end : (level : LevelId) (was is : List Entry) (old new : M) (went ended : Went) → DrainsSoFar holds level was is old new went → (went ≡ On → ended ≡ On) → (went ≢ On → ended ≡ Cut) → DrainsQueue holds level was is old new (Ok ended)
  lines_end level was is old new On ended so_far on cut = subst (λ (x : Went). DrainsQueue holds level was is old new (Ok x)) (sym (on refl)) so_far
  lines_end level was is old new Rests ended so_far on cut = subst (λ (x : Went). DrainsQueue holds level was is old new (Ok x)) (sym (cut (λ e. cc))) (so_far_goes level was is old new Rests so_far)
  lines_end level was is old new Cut ended so_far on cut = subst (λ (x : Went). DrainsQueue holds level was is old new (Ok x)) (sym (cut (λ e. cc))) so_far

  -- nothing was drained, where the level hasn't gone on
  pub none_drained : (level : LevelId) (was is : List Entry) (old new : M) (went : Went) → DrainsSoFar holds level was is old new went → went ≢ Cut → went ≢ On → is ≡ was
  none_drained level was is old new On so_far not_cut not_on = absurd (not_on refl)
  none_drained level was is old new Rests so_far not_cut not_on = so_far.same
  none_drained level was is old new Cut so_far not_cut not_on = absurd (not_cut refl)

  pub one_more : (level : LevelId) (was between is : List Entry) (old middle new : M) (went : Went) → DrainsSoFar holds level was between old middle went → LevelGoes holds level [] between is middle new → LevelGoes holds level [] was is old new
  one_more level was between is old middle new went so_far more = goes_then level was between is old middle new (so_far_goes level was between old middle went so_far) more

  pub queue_ends : (level : LevelId) (was is : List Entry) (old middle new : M) (went : Went) → DrainsSoFar holds level was is old middle went → DidNothing holds level Drain is is middle new → DrainsQueue holds level was is old new (Ok went)
  queue_ends level was is old middle new On so_far nothing = goes_then level was is is old middle new so_far (quiet_goes level is is middle new nothing.quiet)
  queue_ends level was is old middle new Cut so_far nothing = goes_then level was is is old middle new so_far (quiet_goes level is is middle new nothing.quiet)
  queue_ends level was is old middle new Rests so_far nothing = record {
    quiet = quiet_then was is is old middle new so_far nothing.quiet;
    nothing = λ w held. nothing.nothing w (so_far.keeps level w held);
  }

  -- ---- a level that goes on
  pub level_drained : (level : LevelId) (was between is : List Entry) (old middle new : M) (result : Result Went Stop) → DidNothing holds level Turn was between old middle → DrainsQueue holds level between is middle new result
      → LevelGoesOn holds level was is old new result
  level_drained level was between is old middle new (Ok On) idle drains = goes_then level was between is old middle new (quiet_goes level was between old middle idle.quiet) drains
  level_drained level was between is old middle new (Ok Cut) idle drains = goes_then level was between is old middle new (quiet_goes level was between old middle idle.quiet) drains
  level_drained level was between is old middle new (Ok Rests) idle drains = record {
    quiet = quiet_then was between is old middle new idle.quiet drains.quiet;
    left = λ w held.
        let drain = drains.nothing w (idle.quiet.keeps level w held) in
        record { rests = at_rest w (idle.nothing w held) drain; empty = none_queued w drain };
  }
  level_drained level was between is old middle new (Err stop) idle drains = tt

  -- and what was held still is after it
  goes_kept : (level : LevelId) (replies was is : List Entry) (old middle new : M) → LevelGoes holds level replies was is old middle → Keeps holds middle new → LevelGoes holds level replies was is old new
  goes_kept level replies was is old middle new goes keeps = record {
    goes = λ first before. kept is first middle new (goes.goes first before) keeps;
    alone = goes.alone;
    more = goes.more;
    whole = goes.whole;
    are = goes.are;
  }

  pub level_kept : (level : LevelId) (was is : List Entry) (old middle new : M) (went : Went) → LevelGoesOn holds level was is old middle (Ok went) → Keeps holds middle new → LevelGoesOn holds level was is old new (Ok went)
  level_kept level was is old middle new On goes keeps = goes_kept level [] was is old middle new goes keeps
  level_kept level was is old middle new Cut goes keeps = goes_kept level [] was is old middle new goes keeps
  level_kept level was is old middle new Rests left keeps = record {
    quiet = record { same = left.quiet.same; keeps = λ level w held. keeps level w (left.quiet.keeps level w held) };
    left = left.left;
  }

  -- what comes of a level, in any case
  pub level_goes : (level : LevelId) (was is : List Entry) (old new : M) (went : Went) → LevelGoesOn holds level was is old new (Ok went) → LevelGoes holds level [] was is old new
  level_goes level was is old new On goes = goes
  level_goes level was is old new Rests left = quiet_goes level was is old new left.quiet
  level_goes level was is old new Cut goes = goes

  -- where a level was left at rest its own entries bring it there
  pub rests_at : (level : LevelId) (was is : List Entry) (old new first : M) → IsLeftAt holds level was is old new → Performs was (holds first) (holds old) → RestsAt holds level is first
  rests_at level was is old new first left before w held =
      subst (λ es. IsLeft (solo w (own level es))) (sym left.quiet.same) (left.left (solo w (own level was)) (before level w held))

  -- and the other level's don't change that
  pub still_rests : (level : LevelId) (was is : List Entry) (first : M) → own level is ≡ own level was → RestsAt holds level was first → RestsAt holds level is first
  still_rests level was is first same rests w held = subst (λ es. IsLeft (solo w es)) (sym same) (rests w held)

  -- ---- both levels
  pub asks_goes : (level : LevelId) (was is : List Entry) (old new : M) (replied : Bool) → AsksLevel holds level was is old new (Ok replied) → GoesOn holds was is old new
  asks_goes level was is old new true goes = goes.1.goes
  asks_goes level was is old new false quiet = (quiet_goes level was is old new quiet).goes

  pub asks_quiet : (level : LevelId) (was is : List Entry) (old new : M) (replied : Bool) → AsksLevel holds level was is old new (Ok replied) → replied ≡ false → IsQuiet holds was is old new
  asks_quiet level was is old new replied asks none = subst (λ (b : Bool). AsksLevel holds level was is old new (Ok b)) none asks

  pub at_rest_so : (level : LevelId) (was is : List Entry) (old new : M) (went : Went) → LevelGoesOn holds level was is old new (Ok went) → went ≡ Rests → IsLeftAt holds level was is old new
  at_rest_so level was is old new went goes is_at = subst (λ (x : Went). LevelGoesOn holds level was is old new (Ok x)) is_at goes

  module _ (was p1 p2 p3 p4 : List Entry) (old b1 b2 b3 b4 : M) (one two : Went) (one_goes : LevelGoesOn holds One was p1 old b1 (Ok one)) (two_goes : LevelGoesOn holds Two p1 p2 b1 b2 (Ok two)) where
    pub both_go : GoesOn holds was p2 old b2
    both_go first before = (level_goes Two p1 p2 b1 b2 two two_goes).goes first ((level_goes One was p1 old b1 one one_goes).goes first before)

    pub all_go : GoesOn holds p2 p3 b2 b3 → GoesOn holds p3 p4 b3 b4 → GoesOn holds was p4 old b4
    all_go first_asked second_asked first before = second_asked first (first_asked first (both_go first before))

    pub round_ends : (left_one left_two : End) → IsQuiet holds p2 p3 b2 b3 → IsQuiet holds p3 p4 b3 b4 → ((w : World) → holds b4 One w → (one ≡ Rests → IsLeft w) → EndsAs left_one w)
        → ((w : World) → holds b4 Two w → (two ≡ Rests → IsLeft w) → EndsAs left_two w) → BothEnd holds was p4 old b4 (record { one = left_one; two = left_two })
    round_ends left_one left_two first_quiet second_quiet ends_one ends_two = record {
      goes = go;
      one = λ first before w held. ends_one (solo w (own One p4)) (go first before One w held)
          (λ rests. still_rests One p1 p4 first one_alone (rests_at One was p1 old b1 first (at_rest_so One was p1 old b1 one one_goes rests) before) w held);
      two = λ first before w held. ends_two (solo w (own Two p4)) (go first before Two w held)
          (λ rests. still_rests Two p2 p4 first (ap (own Two) (second_quiet.same ∙ first_quiet.same))
          (rests_at Two p1 p2 b1 b2 first (at_rest_so Two p1 p2 b1 b2 two two_goes rests) ((level_goes One was p1 old b1 one one_goes).goes first before)) w held);
    }
      where
        go : GoesOn holds was p4 old b4
        go = all_go (quiet_goes One p2 p3 b2 b3 first_quiet).goes (quiet_goes Two p3 p4 b3 b4 second_quiet).goes

        one_alone : own One p4 ≡ own One p1
        one_alone = ap (own One) (second_quiet.same ∙ first_quiet.same) ∙ (level_goes Two p1 p2 b1 b2 two two_goes).alone

  pub both_then : (was between is : List Entry) (old middle new : M) (ends : Ends) → GoesOn holds was between old middle → BothEnd holds between is middle new ends → BothEnd holds was is old new ends
  both_then was between is old middle new ends ahead next = record {
    goes = λ first before. next.goes first (ahead first before);
    one = λ first before. next.one first (ahead first before);
    two = λ first before. next.two first (ahead first before);
  }

  pub gives_asks : (level : LevelId) (digit : ℕ) (was is : List Entry) (old new : M) (result : Result Bool Stop) → GivesReply holds level digit was is old new result → AsksLevel holds level was is old new result
  gives_asks level digit was is old new (Ok true) takes = (record { level = level; action = Reply digit } ∷ [], takes.goes)
  gives_asks level digit was is old new (Ok false) quiet = quiet
  gives_asks level digit was is old new (Err stop) given = tt

  -- the other level has no entry more
  pub goes_alone : (level : LevelId) (was is : List Entry) (old new : M) (went : Went) → LevelGoesOn holds level was is old new (Ok went) → own (other level) is ≡ own (other level) was
  goes_alone level was is old new went goes = (level_goes level was is old new went goes).alone

  pub asks_alone : (level : LevelId) (was is : List Entry) (old new : M) (replied : Bool) → AsksLevel holds level was is old new (Ok replied) → own (other level) is ≡ own (other level) was
  asks_alone level was is old new true goes = goes.1.alone
  asks_alone level was is old new false quiet = ap (own (other level)) quiet.same

-- ---- what came of a first state
-- an entry acted, and was noted
pub after_acts : {M : Type 0} (after : M → List Entry → M → Type 0) (entry : Entry) (times noted : ℕ) (was is : List Entry) (old new : M)
    → ((entries : List Entry) → GoesAfter after entries (entries ++ replicate times entry) old new) → noted ≡ times → is ≡ was ++ replicate noted entry → GoesAfter after was is old new
after_acts after entry times noted was is old new acted count whole first before =
    subst (λ es. after first es new) (sym (whole ∙ ap (λ n. was ++ replicate n entry) count)) (acted was first before)
