-- Looks at the pack, one after another.
use Rattle.std.proofs.Common.{◌≡◌, ◌≢◌, ◌⊎◌, inl, inr, ◌+◌, ℕ, Bool, true, false, true≢false, Option, Some, None, Result, Ok, Err, refl, sym, ap, ◌∙◌, arith}
use Rattle.s3_cards.specs.declared.levels.LevelId.{LevelId}
use Rattle.s3_cards.specs.declared.levels.LevelId.TheVariants.{One, Two}
use Rattle.std.specs.Prelude.{OnOk, OnErr}
use Rattle.s3_store.specs.Inner.State.{KeepsContents}
use Rattle.s3_store.proofs.Frames.{keeps_refl, keeps_trans}
use Rattle.s3_solo.specs.World.{World}
use Rattle.s3_bureau.specs.declared.stop.Stop.{Stop}
use Rattle.s3_bureau.specs.declared.stop.Stop.TheVariants.{NoMemory, Device, Stopped}
use Rattle.s3_bureau.specs.Inner.Held.{HoldsFor, State, has_worlds, is_open, level_of, takes_entries}
use Rattle.s3_bureau.specs.Inner.Stops.{failed_stop}
use Rattle.s3_bureau.proofs.Fetching.{level_stays, still_held}
use Rattle.s3_evidence.specs.Inner.Looks.{Leaves, Looks, failed_by, stop_in}

-- no look at all
pub looks_none : (s : State) → Looks None s s
looks_none s = record {
  one = refl;
  two = refl;
  areas = refl;
  blocks = refl;
  keeps = keeps_refl s.beside.state;
  failures = omega arith;
  leaves = refl;
  before = λ is clash. let wrong : None ≡ Some Stopped = clash in cc;
  closed = λ is. refl;
}

-- memory ran out
pub looks_refused : (s : State) → Looks (Some NoMemory) s s
looks_refused s = record {
  one = refl;
  two = refl;
  areas = refl;
  blocks = refl;
  keeps = keeps_refl s.beside.state;
  failures = omega arith;
  leaves = inl refl;
  before = λ is clash. let wrong : Some NoMemory ≡ Some Stopped = clash in cc;
  closed = λ is. refl;
}

leaves_then : (stop : Option Stop) (a b c : State) → b.phase ≡ a.phase → Leaves stop b c → Leaves stop a c
leaves_then None a b c first second = second ∙ first
leaves_then (Some stop) a b c first (inl same) = inl (same ∙ first)
leaves_then (Some stop) a b c first (inr has) = inr has

-- one look behind another that came to its end
pub looks_then : (stop : Option Stop) (a b c : State) → Looks None a b → Looks stop b c → Looks stop a c
looks_then stop a b c first second = record {
  one = second.one ∙ first.one;
  two = second.two ∙ first.two;
  areas = second.areas ∙ first.areas;
  blocks = second.blocks ∙ first.blocks;
  keeps = keeps_trans a.beside.state b.beside.state c.beside.state first.keeps second.keeps;
  failures = second.failures ∙ ap (λ (n : ℕ). n + failed_by stop) (first.failures ∙ omega arith);
  leaves = leaves_then stop a b c first.leaves second.leaves;
  before = λ is. second.before (ap takes_entries first.leaves ∙ is);
  closed = λ is. second.closed (ap takes_entries first.leaves ∙ is) ∙ first.closed is;
}

-- ---- what is held
has_before : (stop : Option Stop) (old new : State) → Leaves stop old new → has_worlds new.phase ≡ true → has_worlds old.phase ≡ true
has_before None old new leaves has = ap has_worlds (sym leaves) ∙ has
has_before (Some stop) old new (inl same) has = ap has_worlds (sym same) ∙ has
has_before (Some stop) old new (inr none) has = absurd (true≢false (sym has ∙ none))

-- what was held is held still
pub looks_held : (old new : State) → Looks None old new → (level : LevelId) (w : World) → HoldsFor level old w → HoldsFor level new w
looks_held old new looks level w held =
    still_held level old new w (ap has_worlds looks.leaves ∙ held.goes_on) (level_stays level old new looks.one looks.two) looks.areas looks.blocks looks.keeps.contents held

-- what is held was held before
pub looks_back : (stop : Option Stop) (old new : State) → Looks stop old new → (level : LevelId) (w : World) → HoldsFor level new w → HoldsFor level old w
looks_back stop old new looks level w held =
    still_held level new old w (has_before stop old new looks.leaves held.goes_on) (sym (level_stays level old new looks.one looks.two)) (sym looks.areas) (sym looks.blocks) (sym looks.keeps.contents) held

-- ---- one sector
same_count : {T : Type 0} (result : Result T Stop) → failed_stop result ≡ failed_by (stop_in result)
same_count (Ok _) = refl
same_count (Err NoMemory) = refl
same_count (Err Device) = refl
same_count (Err Stopped) = refl

leaves_read : {T : Type 0} (result : Result T Stop) (old new : State) → OnOk result (new.phase ≡ old.phase) → OnErr result (is_open old ≡ true → has_worlds new.phase ≡ false) → (is_open old ≡ false → new ≡ old)
    → Leaves (stop_in result) old new
leaves_read (Ok _) old new goes none closed = goes
leaves_read (Err stop) old new goes none closed = by (is_open old) refl
  where
    by : (b : Bool) → is_open old ≡ b → (new.phase ≡ old.phase) ⊎ (has_worlds new.phase ≡ false)
    by true is = inr (none is)
    by false is = inl (ap (λ (s : State). s.phase) (closed is))

stopped_back : {T : Type 0} (result : Result T Stop) → stop_in result ≡ Some Stopped → result ≡ Err Stopped
stopped_back (Ok _) is = let wrong : None ≡ Some Stopped = is in cc
stopped_back (Err NoMemory) is = let wrong : Some NoMemory ≡ Some Stopped = is in cc
stopped_back (Err Device) is = let wrong : Some Device ≡ Some Stopped = is in cc
stopped_back (Err Stopped) is = refl

-- what the read of a sector says
pub looks_read : {T : Type 0} (result : Result T Stop) (old new : State) → ((level : LevelId) → level_of level new ≡ level_of level old) → new.beside.areas ≡ old.beside.areas → new.beside.blocks ≡ old.beside.blocks
    → KeepsContents old.beside.state new.beside.state → OnOk result (new.phase ≡ old.phase) → OnErr result (is_open old ≡ true → has_worlds new.phase ≡ false)
    → (is_open old ≡ false → (result ≡ Err Stopped) × (new ≡ old)) → (is_open old ≡ true → result ≢ Err Stopped)
    → new.beside.state.failures ≡ old.beside.state.failures + failed_stop result → Looks (stop_in result) old new
looks_read result old new levels areas blocks keeps goes none closed before failures = record {
  one = levels One;
  two = levels Two;
  areas = areas;
  blocks = blocks;
  keeps = keeps;
  failures = failures ∙ ap (λ (n : ℕ). old.beside.state.failures + n) (same_count result);
  leaves = leaves_read result old new goes none (λ is. (closed is).1);
  before = λ is clash. before is (stopped_back result clash);
  closed = λ is. (closed is).1;
}

-- ---- what a public call says of it
pub count_of : {T : Type 0} (result : Result T Stop) (old new : State) → Looks (stop_in result) old new → new.beside.state.failures ≡ old.beside.state.failures + failed_stop result
count_of result old new looks = looks.failures ∙ ap (λ (n : ℕ). old.beside.state.failures + n) (sym (same_count result))

pub not_stopped : {T : Type 0} (result : Result T Stop) (old new : State) → Looks (stop_in result) old new → is_open old ≡ true → result ≢ Err Stopped
not_stopped result old new looks is wrong = looks.before is (ap (λ (r : Result _ Stop). stop_in r) wrong)
