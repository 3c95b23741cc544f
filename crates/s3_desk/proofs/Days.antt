-- A day over a pack: what comes of a bureau that was opened, operated and finished.
use Rattle.std.proofs.Common.{◌≡◌, ℕ, List, [], true, false, inl, Option, Some, None, Result, Ok, refl, sym, ◌∙◌, subst}
use Rattle.s3_cards.specs.declared.levels.LevelId.{LevelId}
use Rattle.s3_cards.specs.declared.levels.LevelId.TheVariants.{One, Two}
use Rattle.s3_operator.specs.Halts.{ShownHalt}
use Rattle.s3_store.specs.Inner.State.{KeepsInStep}
use Rattle.s3_store.proofs.Frames.{step_refl, step_trans}
use Rattle.s3_slots.specs.Header.{mounted}
use Rattle.s3_slots.specs.declared.header.Header.{Header}
use Rattle.s3_slots.specs.declared.header.MountFault.{MountFault}
use Rattle.s3_solo.specs.Solo.{closed, solo}
use Rattle.s3_solo.specs.World.{JobAtWork, World, at_start}
use Rattle.s3_level.specs.declared.job.OpenJob.{OpenJob}
use Rattle.s3_level.specs.Inner.Holds.{HoldsAtWork}
use Rattle.s3_bureau.specs.declared.entry.Entry.{Entry}
use Rattle.s3_bureau.specs.Entries.{own}
use Rattle.s3_bureau.specs.Sharing.{IsCommon, IsOwn}
use Rattle.s3_bureau.specs.Inner.Held.{HoldsFor, State, header_of, held_by, is_open, level_of, lines_at, rests}
use Rattle.s3_bureau.specs.declared.outcome.RunLines.{RunLines}
use Rattle.s3_bureau.specs.Texts.{halt_text_of}
use Rattle.s3_bureau.proofs.Running.{drained_at}
use Rattle.s3_bureau.specs.Inner.Underway.{LeavesSectors, Performs}
use Rattle.s3_desk.specs.declared.ends.Bounds.{Bounds}
use Rattle.s3_desk.specs.declared.ends.Ends.{Ends}
use Rattle.s3_desk.specs.Inner.Days.{EndSo, HasPrinted, IsAnswered, LeavesLines, starts_in}
use Rattle.s3_desk.specs.Inner.Desk.{EndsAs, HasReached, IsPastReply}
use Rattle.s3_desk.specs.Inner.Events.{Event}
use Rattle.s3_desk.specs.Inner.Rounds.{Shows, Sits, SitsFrom}
use Rattle.s3_desk.specs.Inner.Operated.{IsAfter, KeepsCommon}

-- ---- before the first entry
pub after_none : (first : State) → is_open first ≡ true → IsAfter first [] first
after_none first is_so = record {
  takes_more = is_so;
  header = refl;
  performs = λ level w held. held;
  says = λ level said. said;
  idle = λ level none. step_refl (IsOwn level (header_of first)) first.beside.state;
}

pub after_given : (first : State) (entries : List Entry) → entries ≡ [] → is_open first ≡ true → IsAfter first entries first
after_given first entries none is_so = subst (λ (es : List Entry). IsAfter first es first) (sym none) (after_none first is_so)

pub performs_given : (first : State) (entries : List Entry) → entries ≡ [] → Performs entries (held_by first) (held_by first)
performs_given first entries none = subst (λ (es : List Entry). Performs es (held_by first) (held_by first)) (sym none) (λ level w held. held)

pub common_none : (first : State) → KeepsCommon first first
common_none first = record { header = refl; common = step_refl (IsCommon (header_of first)) first.beside.state }

-- ---- a level without an entry
-- one that holds a world without a job at work has none
rests_by : (deck : List (List ℕ)) (job : Option OpenJob) (w : World) (meant : Option JobAtWork) → meant ≡ None → HoldsAtWork deck job w meant → job ≡ None
rests_by deck None w meant is held = refl
rests_by deck (Some job) w None is held = absurd held
rests_by deck (Some job) w (Some meant) is held = absurd cc

pub still_rests : (level : LevelId) (now : State) (w : World) → HoldsFor level now w → w.job ≡ None → rests level now
still_rests level now w held none = rests_by (level_of level now).deck (level_of level now).job w w.job none held.world.parts.job

pub idle_left : (first middle last : State) (entries : List Entry) (level : LevelId) (w : World) → IsAfter first entries middle
    → ((level : LevelId) → rests level middle → KeepsInStep (IsOwn level (header_of middle)) middle.beside.state last.beside.state)
    → own level entries ≡ [] → HoldsFor level first w → w.job ≡ None → KeepsInStep (IsOwn level (header_of first)) first.beside.state last.beside.state
idle_left first middle last entries level w after closed none held rest =
    step_trans (IsOwn level (header_of first)) first.beside.state middle.beside.state last.beside.state (after.idle level none)
    (subst (λ (h : Header). KeepsInStep (IsOwn level h) middle.beside.state last.beside.state) after.header
    (closed level (still_rests level middle w (subst (λ actions. HoldsFor level middle (solo w actions)) none (after.performs level w held)) rest)))

pub common_left : (first middle last : State) → KeepsCommon first middle → KeepsInStep (IsCommon (header_of middle)) middle.beside.state last.beside.state → KeepsInStep (IsCommon (header_of first)) first.beside.state last.beside.state
common_left first middle last kept closed =
    step_trans (IsCommon (header_of first)) first.beside.state middle.beside.state last.beside.state kept.common
    (subst (λ (h : Header). KeepsInStep (IsCommon h) middle.beside.state last.beside.state) kept.header closed)

-- ---- both levels from their start
pub starts_held : (level : LevelId) (bureau : State) (contents cards1 cards2 : List (List ℕ)) → HoldsFor One bureau (at_start One (header_of bureau) contents cards1) → HoldsFor Two bureau (at_start Two (header_of bureau) contents cards2)
    → HoldsFor level bureau (starts_in (header_of bureau) contents cards1 cards2 level)
starts_held One bureau contents cards1 cards2 one two = one
starts_held Two bureau contents cards1 cards2 one two = two

same_header : (one two : Header) (mount : Result Header MountFault) → mount ≡ Ok one → mount ≡ Ok two → one ≡ two
same_header one two mount first second = cc

abbrev pub HoldsStarts : State → Header → (contents cards1 cards2 : List (List ℕ)) → Type 0
HoldsStarts bureau header contents cards1 cards2 = (level : LevelId) → HoldsFor level bureau (starts_in header contents cards1 cards2 level)

pub starts_of : (bureau : State) (header : Header) (contents cards1 cards2 : List (List ℕ)) → mounted contents ≡ Ok (header_of bureau) → mounted contents ≡ Ok header
    → HoldsStarts bureau (header_of bureau) contents cards1 cards2 → HoldsStarts bureau header contents cards1 cards2
starts_of bureau header contents cards1 cards2 mount is held = subst (λ (h : Header). HoldsStarts bureau h contents cards1 cards2) (same_header (header_of bureau) header (mounted contents) mount is) held

no_halts : (level : LevelId) (header : Header) (contents cards1 cards2 : List (List ℕ)) → (starts_in header contents cards1 cards2 level).halts ≡ []
no_halts One header contents cards1 cards2 = refl
no_halts Two header contents cards1 cards2 = refl

-- before a day there is no halt, and none was shown
nothing_shown : (halts : List ShownHalt) → halts ≡ [] → Shows halts [] false
nothing_shown halts none = subst (λ (hs : List ShownHalt). Shows hs [] false) (sym none) (inl (record { all = refl; mark = refl }))

pub answered_in : {O : Type 0} (meets : O → Event → O → Type 0) (header : Header) (contents cards1 cards2 : List (List ℕ)) (bounds : Bounds) (entries : List Entry) (bureau : State) (ends : Ends) (from to : O)
    → HoldsStarts bureau header contents cards1 cards2
    → SitsFrom (λ (b : State) (level : LevelId) (w : World). HoldsFor level b w) meets (λ level es. IsPastReply level [] es) (λ level es. HasReached level [] es bounds) [] entries bureau from to false false false false (Some ends)
    → IsAnswered meets (starts_in header contents cards1 cards2) bounds entries ends from to
answered_in meets header contents cards1 cards2 bounds entries bureau ends from to held sits =
    let starts : LevelId → World = starts_in header contents cards1 cards2 in
    let is : Sits meets starts (λ level es. IsPastReply level [] es) (λ level es. HasReached level [] es bounds) [] entries from to false false (Some ends) =
    sits bureau starts [] (record { held = held; performed = λ level w is. is; whole = refl; followed = refl }) (nothing_shown (starts One).halts (no_halts One header contents cards1 cards2)) (nothing_shown (starts Two).halts (no_halts Two header contents cards1 cards2)) in
    record { day = is.day; whole = is.passes.whole; met = is.passes.met; fits = is.passes.fits; shown = is.left.0; followed = is.followed; one_halted = is.left.1.0; two_halted = is.left.1.1 }

starts_rest : (level : LevelId) (header : Header) (contents cards1 cards2 : List (List ℕ)) → (starts_in header contents cards1 cards2 level).job ≡ None
starts_rest One header contents cards1 cards2 = refl
starts_rest Two header contents cards1 cards2 = refl

pub sectors_of_day : (first last : State) (entries : List Entry) (header : Header) (contents cards1 cards2 : List (List ℕ)) → HoldsStarts first header contents cards1 cards2
    → KeepsInStep (IsCommon (header_of first)) first.beside.state last.beside.state
    → ((level : LevelId) (w : World) → own level entries ≡ [] → HoldsFor level first w → w.job ≡ None → KeepsInStep (IsOwn level (header_of first)) first.beside.state last.beside.state)
    → LeavesSectors entries first last
sectors_of_day first last entries header contents cards1 cards2 held common idle = record {
  common = common;
  idle = λ level none rests. idle level (starts_in header contents cards1 cards2 level) none (held level) (starts_rest level header contents cards1 cards2);
}

pub ends_of_day : (first : State) (entries : List Entry) (ends : Ends) (starts : LevelId → World) → ((level : LevelId) → HoldsFor level first (starts level))
    → ((w : World) → HoldsFor One first w → EndsAs ends.one (solo w (own One entries))) → ((w : World) → HoldsFor Two first w → EndsAs ends.two (solo w (own Two entries))) → EndSo starts entries ends
ends_of_day first entries ends starts held one two = record { one = one (starts One) (held One); two = two (starts Two) (held Two) }

-- ---- what is printed
pub lines_left : (refusal : Option (ℕ × ℕ)) (entries : List Entry) (first middle last : State) (halts : List ℕ) → Performs entries (held_by first) (held_by middle)
    → ((level : LevelId) (w : World) → HoldsFor level middle w → HoldsFor level last (closed w)) → ((w : World) → HoldsFor One last w → halts ≡ halt_text_of refusal w.halts)
    → LeavesLines refusal entries first last halts
lines_left refusal entries first middle last halts performs closes are = record {
  one = λ w held. drained_at One last (closed (solo w (own One entries))) (closes One (solo w (own One entries)) (performs One w held));
  two = λ w held. drained_at Two last (closed (solo w (own Two entries))) (closes Two (solo w (own Two entries)) (performs Two w held));
  text = λ w held. are (closed (solo w (own One entries))) (closes One (solo w (own One entries)) (performs One w held));
}

pub day_printed : (starts : LevelId → World) (refusal : Option (ℕ × ℕ)) (entries : List Entry) (first last : State) (halts : List ℕ) (run : RunLines) → ((level : LevelId) → HoldsFor level first (starts level))
    → LeavesLines refusal entries first last halts → run.one.lines.items ≡ lines_at One last → run.two.lines.items ≡ lines_at Two last → run.one.halts.items ≡ halts
    → HasPrinted starts refusal entries run
day_printed starts refusal entries first last halts run held leaves one two text = record {
  one = one ∙ leaves.one (starts One) (held One);
  two = two ∙ leaves.two (starts Two) (held Two);
  halts = text ∙ leaves.text (starts One) (held One);
}
