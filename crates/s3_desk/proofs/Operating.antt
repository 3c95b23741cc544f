-- A bureau that is operated: what its calls make of the states before them.
use Rattle.std.proofs.Common.{◌≡◌, ◌≢◌, ◌+◌, ◌≤◌, ℕ, true, List, [], ◌∷◌, ◌++◌, replicate, inl, Result, Ok, Err, IfOk, OnOk, refl, sym, ap, ◌∙◌, subst, arith}
use Rattle.s3_cards.specs.Inner.Levels.{other}
use Rattle.s3_cards.specs.declared.levels.LevelId.{LevelId}
use Rattle.s3_store.specs.Inner.State.{KeepsContents, KeepsInStep}
use Rattle.s3_store.proofs.Frames.{keeps_refl, step_from_keeps, step_trans, step_weaker}
use Rattle.s3_slots.specs.declared.header.Header.{Header}
use Rattle.s3_solo.specs.declared.action.Action.{Action}
use Rattle.s3_solo.specs.declared.action.Did.{Did}
use Rattle.s3_solo.specs.declared.action.Did.TheVariants.{Acted}
use Rattle.s3_solo.specs.World.{World}
use Rattle.s3_solo.specs.Solo.{solo}
use Rattle.s3_labels.specs.Inner.Areas.{Areas}
use Rattle.s3_labels.specs.Inner.Labelled.{SaysSlots}
use Rattle.s3_level.specs.declared.taken.Taken.{Taken}
use Rattle.s3_level.specs.Inner.Holds.{Around, IsUpTo, Repeats, Steps}
use Rattle.s3_bureau.specs.declared.entry.Entry.{Entry}
use Rattle.s3_bureau.specs.declared.stop.Stop.{Stop}
use Rattle.s3_bureau.specs.declared.stop.Stop.TheVariants.{Stopped}
use Rattle.s3_bureau.specs.Entries.{own}
use Rattle.s3_bureau.specs.Sharing.{IsCommon, IsOwn}
use Rattle.s3_bureau.specs.Inner.Held.{HoldsFor, IsForeign, State, header_of, held_by, is_open, level_of, takes_entries}
use Rattle.s3_bureau.specs.Inner.Underway.{KeepSaying, Leaves, Performs}
use Rattle.s3_bureau.proofs.Performing.{leaves_entry, leaves_more, leaves_none, performs_then, times_more}
use Rattle.s3_desk.specs.Inner.Calls.{GoesAfter, NeverStopped}
use Rattle.s3_desk.specs.Inner.Operated.{IsAfter, KeepsCommon}
use Rattle.s3_desk.proofs.Sittings.{nothing_held, once, own-append}

front_empty : (xs ys : List Action) → xs ++ ys ≡ [] → xs ≡ []
front_empty [] ys none = refl
front_empty (x ∷ xs) ys none = absurd cc

back_empty : (xs ys : List Action) → xs ++ ys ≡ [] → ys ≡ []
back_empty [] ys none = none
back_empty (x ∷ xs) ys none = absurd cc

-- ---- by entries that acted
pub after_acted : (entry : Entry) (times : ℕ) (first old new : State) (was : List Entry) → 1 ≤ times
    → ((w : World) → HoldsFor entry.level old w → HoldsFor entry.level new (solo w (replicate times entry.action)))
    → ((w : World) → HoldsFor (other entry.level) old w → HoldsFor (other entry.level) new w)
    → KeepSaying old new → level_of (other entry.level) new ≡ level_of (other entry.level) old
    → KeepsInStep (IsForeign entry.level (header_of old)) old.beside.state new.beside.state → header_of new ≡ header_of old → is_open new ≡ true
    → IsAfter first was old → IsAfter first (was ++ replicate times entry) new
after_acted entry times first old new was some mine his says stays unchanged header takes_more before = record {
  takes_more = takes_more;
  header = header ∙ before.header;
  performs = performs_then was (replicate times entry) (held_by first) (held_by old) (held_by new) before.performs
      (subst (λ n. Performs (replicate n entry) (held_by old) (held_by new)) from_none
      (times_more entry 0 times (held_by old) (held_by old) (held_by new) (λ level w held. held) mine his));
  says = λ level said. says level (before.says level said);
  idle = λ level none. step_trans (IsOwn level (header_of first)) first.beside.state old.beside.state new.beside.state (before.idle level (ahead level none))
      (subst (λ (h : Header). KeepsInStep (IsOwn level h) old.beside.state new.beside.state) before.header (leaves.idle level (behind level none)));
}
  where
    from_none : 0 + times ≡ times
    from_none = omega arith

    leaves : Leaves (replicate times entry) old new
    leaves = subst (λ n. Leaves (replicate n entry) old new) from_none (leaves_more entry 0 times old old new some (leaves_none old) (leaves_entry entry old new stays unchanged header))

    ahead : (level : LevelId) → own level (was ++ replicate times entry) ≡ [] → own level was ≡ []
    ahead level none = front_empty (own level was) (own level (replicate times entry)) (sym (own-append level was (replicate times entry)) ∙ none)

    behind : (level : LevelId) → own level (was ++ replicate times entry) ≡ [] → own level (replicate times entry) ≡ []
    behind level none = back_empty (own level was) (own level (replicate times entry)) (sym (own-append level was (replicate times entry)) ∙ none)

-- ---- where nothing was done
pub after_quiet : (first old new : State) (was : List Entry) → ((level : LevelId) (w : World) → HoldsFor level old w → HoldsFor level new w) → KeepSaying old new → KeepsContents old.beside.state new.beside.state
    → header_of new ≡ header_of old → is_open new ≡ true → IsAfter first was old → IsAfter first was new
after_quiet first old new was held says keeps header takes_more before = record {
  takes_more = takes_more;
  header = header ∙ before.header;
  performs = λ level w is. held level (solo w (own level was)) (before.performs level w is);
  says = λ level said. says level (before.says level said);
  idle = λ level none. step_trans (IsOwn level (header_of first)) first.beside.state old.beside.state new.beside.state (before.idle level none)
      (step_from_keeps (IsOwn level (header_of first)) old.beside.state new.beside.state keeps);
}

-- ---- whatever the answer is
pub common_kept : (level : LevelId) (first old new : State) → KeepsInStep (IsForeign level (header_of old)) old.beside.state new.beside.state → header_of new ≡ header_of old → KeepsCommon first old → KeepsCommon first new
common_kept level first old new unchanged header before = record {
  header = header ∙ before.header;
  common = step_trans (IsCommon (header_of first)) first.beside.state old.beside.state new.beside.state before.common
      (subst (λ (h : Header). KeepsInStep (IsCommon h) old.beside.state new.beside.state) before.header
      (step_weaker (IsForeign level (header_of old)) (IsCommon (header_of old)) old.beside.state new.beside.state (λ n is. inl is) unchanged));
}

pub common_read : (first old new : State) → KeepsContents old.beside.state new.beside.state → header_of new ≡ header_of old → KeepsCommon first old → KeepsCommon first new
common_read first old new keeps header before = record {
  header = header ∙ before.header;
  common = step_trans (IsCommon (header_of first)) first.beside.state old.beside.state new.beside.state before.common
      (step_from_keeps (IsCommon (header_of first)) old.beside.state new.beside.state keeps);
}

-- ---- calls of a bureau, by what they answer
quiet_call : (first old new : State) (was : List Entry) → ((level : LevelId) (w : World) → HoldsFor level old w → HoldsFor level new w) → KeepSaying old new → new.beside ≡ old.beside → header_of new ≡ header_of old → is_open new ≡ true
    → IsAfter first was old → IsAfter first was new
quiet_call first old new was held says same header takes_more before =
    after_quiet first old new was held says (subst (λ (b : Around). KeepsContents old.beside.state b.state) (sym same) (keeps_refl old.beside.state)) header takes_more before

pub step_acted : (entry : Entry) (old new : State) (result : Result Did Stop) → IfOk result (λ did. Steps entry.action did (HoldsFor entry.level old) (HoldsFor entry.level new))
    → OnOk result ((w : World) → HoldsFor (other entry.level) old w → HoldsFor (other entry.level) new w) → OnOk result (KeepSaying old new)
    → level_of (other entry.level) new ≡ level_of (other entry.level) old → KeepsInStep (IsForeign entry.level (header_of old)) old.beside.state new.beside.state → header_of new ≡ header_of old → OnOk result (is_open new ≡ true)
    → IfOk result (λ did. did ≡ Acted → (was : List Entry) → GoesAfter IsAfter was (was ++ replicate 1 entry) old new)
step_acted entry old new (Ok did) own his says stays unchanged header takes_more = λ acted was first before.
    after_acted entry 1 first old new was (omega arith) (λ w held. (own w held).1) his says stays unchanged header takes_more before
step_acted entry old new (Err stop) own his says stays unchanged header takes_more = tt

pub step_quiet : (entry : Entry) (old new : State) (result : Result Did Stop) → IfOk result (λ did. Steps entry.action did (HoldsFor entry.level old) (HoldsFor entry.level new))
    → OnOk result ((w : World) → HoldsFor (other entry.level) old w → HoldsFor (other entry.level) new w) → OnOk result (KeepSaying old new)
    → IfOk result (λ did. did ≢ Acted → new.beside ≡ old.beside) → header_of new ≡ header_of old → OnOk result (is_open new ≡ true)
    → IfOk result (λ did. did ≢ Acted → (was : List Entry) → GoesAfter IsAfter was was old new)
step_quiet entry old new (Ok did) own his says same header takes_more = λ not was first before.
    quiet_call first old new was (nothing_held entry 1 did (held_by old) (held_by new) not (once entry.action did (HoldsFor entry.level old) (HoldsFor entry.level new) own) his) says (same not) header takes_more before
step_quiet entry old new (Err stop) own his says same header takes_more = tt

pub repeat_acted : (entry : Entry) (most : ℕ) (old new : State) (result : Result Taken Stop) → IfOk result (λ taken. IsUpTo most taken) → IfOk result (λ taken. Repeats entry.action taken.times taken.did (HoldsFor entry.level old) (HoldsFor entry.level new))
    → OnOk result ((w : World) → HoldsFor (other entry.level) old w → HoldsFor (other entry.level) new w) → OnOk result (KeepSaying old new)
    → level_of (other entry.level) new ≡ level_of (other entry.level) old → KeepsInStep (IsForeign entry.level (header_of old)) old.beside.state new.beside.state → header_of new ≡ header_of old → OnOk result (is_open new ≡ true)
    → IfOk result (λ taken. taken.did ≡ Acted → (was : List Entry) → GoesAfter IsAfter was (was ++ replicate taken.times entry) old new)
repeat_acted entry most old new (Ok taken) times own his says stays unchanged header takes_more = λ acted was first before.
    after_acted entry taken.times first old new was times.some (λ w held. (own w held).1) his says stays unchanged header takes_more before
repeat_acted entry most old new (Err stop) times own his says stays unchanged header takes_more = tt

pub repeat_quiet : (entry : Entry) (old new : State) (result : Result Taken Stop) → IfOk result (λ taken. Repeats entry.action taken.times taken.did (HoldsFor entry.level old) (HoldsFor entry.level new))
    → OnOk result ((w : World) → HoldsFor (other entry.level) old w → HoldsFor (other entry.level) new w) → OnOk result (KeepSaying old new)
    → IfOk result (λ taken. taken.did ≢ Acted → new.beside ≡ old.beside) → header_of new ≡ header_of old → OnOk result (is_open new ≡ true)
    → IfOk result (λ taken. taken.did ≢ Acted → (was : List Entry) → GoesAfter IsAfter was was old new)
repeat_quiet entry old new (Ok taken) own his says same header takes_more = λ not was first before.
    quiet_call first old new was (nothing_held entry taken.times taken.did (held_by old) (held_by new) not own his) says (same not) header takes_more before
repeat_quiet entry old new (Err stop) own his says same header takes_more = tt

-- a look at the pack
pub look_quiet : {V : Type 0} (old new : State) (result : Result V Stop) → OnOk result ((level : LevelId) (w : World) → HoldsFor level old w → HoldsFor level new w) → new.beside.areas ≡ old.beside.areas
    → KeepsContents old.beside.state new.beside.state → OnOk result (new.phase ≡ old.phase) → OnOk result ((was : List Entry) → GoesAfter IsAfter was was old new)
look_quiet old new (Ok value) held areas keeps goes_on = λ was first before.
    after_quiet first old new was held said keeps (ap (λ (a : Areas). a.header) areas) (ap takes_entries goes_on ∙ before.takes_more) before
  where
    said : KeepSaying old new
    said level is =
        subst (λ (a : Areas). SaysSlots level a new.beside.state.contents) (sym areas)
        (subst (λ (c : List (List ℕ)). SaysSlots level old.beside.areas c) (sym keeps.contents) is)
look_quiet old new (Err stop) held areas keeps goes_on = tt

pub never_stopped : {V : Type 0} (old : State) (result : Result V Stop) → (is_open old ≡ true → result ≢ Err Stopped) → (was : List Entry) → NeverStopped IsAfter was old result
never_stopped old result not was first before = not before.takes_more
