-- Entries, one after the other.
use Rattle.std.proofs.Common.{◌≡◌, ◌⊎◌, zero, suc, ◌+◌, ◌-◌, ◌≤◌, ℕ, List, [], ◌∷◌, ◌++◌, take, drop, refl, sym, ap, ◌∙◌, subst, replicate, inl, inr, arith}
use Rattle.std.specs.List.{flat_map}
use Rattle.std.proofs.lemmas.List.{replicate-append-replicate, append-nil, take-append-drop}
use Rattle.std.proofs.lemmas.Grind.{flat_map-append}
use Rattle.s3_cards.specs.declared.levels.LevelId.{LevelId}
use Rattle.s3_cards.specs.declared.levels.LevelId.TheVariants.{One, Two}
use Rattle.s3_cards.specs.Inner.Levels.{other}
use Rattle.s3_solo.specs.declared.action.Action.{Action}
use Rattle.s3_solo.specs.World.{World}
use Rattle.s3_solo.specs.Solo.{step_of, solo}
use Rattle.s3_bureau.specs.declared.entry.Entry.{Entry}
use Rattle.s3_bureau.specs.declared.script.Command.{Command}
use Rattle.s3_bureau.specs.Entries.{with_action, own}
use Rattle.s3_bureau.specs.Script.{entries_by}
use Rattle.s3_store.specs.Inner.State.{KeepsInStep}
use Rattle.s3_store.proofs.Frames.{step_refl, step_trans}
use Rattle.s3_slots.specs.declared.header.Header.{Header}
use Rattle.s3_level.specs.declared.level.Level.{Level}
use Rattle.s3_bureau.specs.Sharing.{IsCommon, IsOwn}
use Rattle.s3_bureau.specs.Inner.Held.{IsForeign, State, header_of, level_of, rests}
use Rattle.s3_bureau.specs.Inner.Underway.{Leaves, LeavesSectors, Performs}

with_action-append : (level from : LevelId) (action : Action) (xs ys : List Action) → with_action level from action (xs ++ ys) ≡ with_action level from action xs ++ ys
with_action-append One One action xs ys = refl
with_action-append Two Two action xs ys = refl
with_action-append One Two action xs ys = refl
with_action-append Two One action xs ys = refl

own-append : (level : LevelId) (xs ys : List Entry) → own level (xs ++ ys) ≡ own level xs ++ own level ys
own-append level [] ys = refl
own-append level (entry ∷ xs) ys =
    ap (with_action level entry.level entry.action) (own-append level xs ys) ∙ with_action-append level entry.level entry.action (own level xs) (own level ys)

solo-append : (w : World) (xs ys : List Action) → solo w (xs ++ ys) ≡ solo (solo w xs) ys
solo-append w [] ys = refl
solo-append w (action ∷ xs) ys = solo-append (step_of w action).world xs ys

-- entries after others
pub performs_then : (xs ys : List Entry) (first middle last : LevelId → World → Type 0) → Performs xs first middle → Performs ys middle last → Performs (xs ++ ys) first last
performs_then xs ys first middle last before after = λ level w held.
    subst (λ (v : World). last level v) (sym (ap (solo w) (own-append level xs ys) ∙ solo-append w (own level xs) (own level ys)))
    (after level (solo w (own level xs)) (before level w held))

-- so many entries of a level are as many actions of it, and none of the other
own-replicate : (n : ℕ) (entry : Entry) → own entry.level (replicate n entry) ≡ replicate n entry.action
own-replicate zero entry = refl
own-replicate (suc n) entry = mine entry.level entry.action (own entry.level (replicate n entry)) ∙ ap (λ (actions : List Action). entry.action ∷ actions) (own-replicate n entry)
  where
    mine : (level : LevelId) (action : Action) (actions : List Action) → with_action level level action actions ≡ action ∷ actions
    mine One action actions = refl
    mine Two action actions = refl

other-replicate : (n : ℕ) (entry : Entry) → own (other entry.level) (replicate n entry) ≡ []
other-replicate zero entry = refl
other-replicate (suc n) entry = his entry.level entry.action (own (other entry.level) (replicate n entry)) ∙ other-replicate n entry
  where
    his : (level : LevelId) (action : Action) (actions : List Action) → with_action (other level) level action actions ≡ actions
    his One action actions = refl
    his Two action actions = refl

both : (from level : LevelId) → (level ≡ from) ⊎ (level ≡ other from)
both One One = inl refl
both One Two = inr refl
both Two One = inr refl
both Two Two = inl refl

-- an entry so many times
times_performed : (entry : Entry) (times : ℕ) (old new : LevelId → World → Type 0) → ((w : World) → old entry.level w → new entry.level (solo w (replicate times entry.action)))
    → ((w : World) → old (other entry.level) w → new (other entry.level) w)
    → Performs (replicate times entry) old new
times_performed entry times old new mine his level w held = by (both entry.level level)
  where
    by : (level ≡ entry.level) ⊎ (level ≡ other entry.level) → new level (solo w (own level (replicate times entry)))
    by (inl same) =
        subst (λ (l : LevelId). new l (solo w (own l (replicate times entry)))) (sym same)
        (subst (λ (actions : List Action). new entry.level (solo w actions)) (sym (own-replicate times entry)) (mine w (subst (λ (l : LevelId). old l w) same held)))
    by (inr same) =
        subst (λ (l : LevelId). new l (solo w (own l (replicate times entry)))) (sym same)
        (subst (λ (actions : List Action). new (other entry.level) (solo w actions)) (sym (other-replicate times entry)) (his w (subst (λ (l : LevelId). old l w) same held)))

-- so many entries more
pub times_more : (entry : Entry) (n times : ℕ) (first middle last : LevelId → World → Type 0) → Performs (replicate n entry) first middle
    → ((w : World) → middle entry.level w → last entry.level (solo w (replicate times entry.action)))
    → ((w : World) → middle (other entry.level) w → last (other entry.level) w)
    → Performs (replicate (n + times) entry) first last
times_more entry n times first middle last before mine his =
    subst (λ (entries : List Entry). Performs entries first last) (replicate-append-replicate n times entry)
    (performs_then (replicate n entry) (replicate times entry) first middle last before (times_performed entry times middle last mine his))

-- one command more
pub command_more : (front all : List Command) (command : Command) (first middle last : LevelId → World → Type 0) → all ≡ front ++ command ∷ []
    → Performs (flat_map entries_by front) first middle → Performs (entries_by command) middle last → Performs (flat_map entries_by all) first last
command_more front all command first middle last more before after =
    subst (λ (entries : List Entry). Performs entries first last)
    (sym (ap (flat_map entries_by) more ∙ flat_map-append entries_by front (command ∷ []) ∙ ap (λ entries. flat_map entries_by front ++ entries) (append-nil (entries_by command))))
    (performs_then (flat_map entries_by front) (entries_by command) first middle last before after)

-- ---- what entries leave
pub leaves_none : (bureau : State) → Leaves [] bureau bureau
leaves_none bureau = record {
  header = refl;
  common = step_refl (IsCommon (header_of bureau)) bureau.beside.state;
  level = λ level none. refl;
  idle = λ level none. step_refl (IsOwn level (header_of bureau)) bureau.beside.state;
}

front_empty : (xs ys : List Action) → xs ++ ys ≡ [] → xs ≡ []
front_empty [] ys none = refl
front_empty (x ∷ xs) ys none = absurd cc

back_empty : (xs ys : List Action) → xs ++ ys ≡ [] → ys ≡ []
back_empty [] ys none = none
back_empty (x ∷ xs) ys none = absurd cc

pub leaves_then : (xs ys : List Entry) (first middle last : State) → Leaves xs first middle → Leaves ys middle last → Leaves (xs ++ ys) first last
leaves_then xs ys first middle last before after = record {
  header = after.header ∙ before.header;
  common = step_trans (IsCommon (header_of first)) first.beside.state middle.beside.state last.beside.state before.common
      (subst (λ (h : Header). KeepsInStep (IsCommon h) middle.beside.state last.beside.state) before.header after.common);
  level = λ level none. after.level level (behind level none) ∙ before.level level (ahead level none);
  idle = λ level none. step_trans (IsOwn level (header_of first)) first.beside.state middle.beside.state last.beside.state (before.idle level (ahead level none))
      (subst (λ (h : Header). KeepsInStep (IsOwn level h) middle.beside.state last.beside.state) before.header (after.idle level (behind level none)));
}
  where
    ahead : (level : LevelId) → own level (xs ++ ys) ≡ [] → own level xs ≡ []
    ahead level none = front_empty (own level xs) (own level ys) (sym (own-append level xs ys) ∙ none)

    behind : (level : LevelId) → own level (xs ++ ys) ≡ [] → own level ys ≡ []
    behind level none = back_empty (own level xs) (own level ys) (sym (own-append level xs ys) ∙ none)

-- where a level has no entry among more, it has none among fewer
pub leaves_fewer : (xs ys : List Entry) (first last : State) → Leaves xs first last → Leaves (xs ++ ys) first last
leaves_fewer xs ys first last leaves = record {
  header = leaves.header;
  common = leaves.common;
  level = λ level none. leaves.level level (front_empty (own level xs) (own level ys) (sym (own-append level xs ys) ∙ none));
  idle = λ level none. leaves.idle level (front_empty (own level xs) (own level ys) (sym (own-append level xs ys) ∙ none));
}

-- one entry leaves what is foreign to its level
pub leaves_entry : (entry : Entry) (old new : State) → level_of (other entry.level) new ≡ level_of (other entry.level) old
    → KeepsInStep (IsForeign entry.level (header_of old)) old.beside.state new.beside.state → header_of new ≡ header_of old
    → Leaves (entry ∷ []) old new
leaves_entry entry old new stays unchanged header = record {
  header = header;
  common = record { count = unchanged.count; contents = λ n is. unchanged.contents n (inl is); stored = λ n is in_step. unchanged.stored n (inl is) in_step };
  level = λ level none. level_by entry.level level none stays;
  idle = λ level none. idle_by entry.level level none unchanged;
}
  where
    level_by : (from level : LevelId) → with_action level from entry.action [] ≡ [] → level_of (other from) new ≡ level_of (other from) old → level_of level new ≡ level_of level old
    level_by One One none same = absurd cc
    level_by One Two none same = same
    level_by Two One none same = same
    level_by Two Two none same = absurd cc

    idle_by : (from level : LevelId) → with_action level from entry.action [] ≡ [] → KeepsInStep (IsForeign from (header_of old)) old.beside.state new.beside.state → KeepsInStep (IsOwn level (header_of old)) old.beside.state new.beside.state
    idle_by One One none keeps = absurd cc
    idle_by One Two none keeps = record { count = keeps.count; contents = λ n is. keeps.contents n (inr is); stored = λ n is in_step. keeps.stored n (inr is) in_step }
    idle_by Two One none keeps = record { count = keeps.count; contents = λ n is. keeps.contents n (inr is); stored = λ n is in_step. keeps.stored n (inr is) in_step }
    idle_by Two Two none keeps = absurd cc

-- so many entries more
pub leaves_more : (entry : Entry) (n times : ℕ) (first middle last : State) → 1 ≤ times → Leaves (replicate n entry) first middle → Leaves (entry ∷ []) middle last → Leaves (replicate (n + times) entry) first last
leaves_more entry n times first middle last some before after =
    subst (λ (entries : List Entry). Leaves entries first last) (replicate-append-replicate n times entry)
    (leaves_then (replicate n entry) (replicate times entry) first middle last before
    (subst (λ (entries : List Entry). Leaves entries middle last)
    (replicate-append-replicate 1 (times - 1) entry ∙ ap (λ (k : ℕ). replicate k entry) (omega (arith, some)))
    (leaves_fewer (entry ∷ []) (replicate (times - 1) entry) middle last after)))

-- it stopped at one of them
pub leaves_stopped : (entry : Entry) (n count : ℕ) (first middle last : State) → n + 1 ≤ count → Leaves (replicate n entry) first middle → Leaves (entry ∷ []) middle last → Leaves (replicate count entry) first last
leaves_stopped entry n count first middle last few before after =
    subst (λ (entries : List Entry). Leaves entries first last) (ap (λ (k : ℕ). replicate k entry) (omega (arith, few)))
    (leaves_more entry n (count - n) first middle last (omega (arith, few)) before after)

-- one command more
pub commands_leave : (front all : List Command) (command : Command) (first middle last : State) → all ≡ front ++ command ∷ [] → Leaves (flat_map entries_by front) first middle → Leaves (entries_by command) middle last
    → Leaves (flat_map entries_by all) first last
commands_leave front all command first middle last more before after =
    subst (λ (entries : List Entry). Leaves entries first last)
    (sym (ap (flat_map entries_by) more ∙ flat_map-append entries_by front (command ∷ []) ∙ ap (λ entries. flat_map entries_by front ++ entries) (append-nil (entries_by command))))
    (leaves_then (flat_map entries_by front) (entries_by command) first middle last before after)

-- it stopped among those of one
pub commands_stopped : (n : ℕ) (all : List Command) (command : Command) (first middle last : State) → take (n + 1) all ≡ take n all ++ command ∷ [] → Leaves (flat_map entries_by (take n all)) first middle
    → Leaves (entries_by command) middle last → Leaves (flat_map entries_by all) first last
commands_stopped n all command first middle last more before after =
    subst (λ (entries : List Entry). Leaves entries first last)
    (sym (flat_map-append entries_by (take (n + 1) all) (drop (n + 1) all)) ∙ ap (flat_map entries_by) (take-append-drop (n + 1) all))
    (leaves_fewer (flat_map entries_by (take (n + 1) all)) (flat_map entries_by (drop (n + 1) all)) first last (commands_leave (take n all) (take (n + 1) all) command first middle last more before after))

-- ---- both levels are closed after their entries
pub sectors_left : (entries : List Entry) (first middle last : State) → Leaves entries first middle
    → KeepsInStep (IsCommon (header_of middle)) middle.beside.state last.beside.state
    → ((level : LevelId) → rests level middle → KeepsInStep (IsOwn level (header_of middle)) middle.beside.state last.beside.state)
    → LeavesSectors entries first last
sectors_left entries first middle last before common rest = record {
  common = step_trans (IsCommon (header_of first)) first.beside.state middle.beside.state last.beside.state before.common
      (subst (λ (h : Header). KeepsInStep (IsCommon h) middle.beside.state last.beside.state) before.header common);
  idle = λ level none rests_first. step_trans (IsOwn level (header_of first)) first.beside.state middle.beside.state last.beside.state (before.idle level none)
      (subst (λ (h : Header). KeepsInStep (IsOwn level h) middle.beside.state last.beside.state) before.header
      (rest level (ap (λ (l : Level). l.job) (before.level level none) ∙ rests_first)));
}

pub sectors_stopped : (entries : List Entry) (first last : State) → Leaves entries first last → LeavesSectors entries first last
sectors_stopped entries first last before = record { common = before.common; idle = λ level none rests_first. before.idle level none }
