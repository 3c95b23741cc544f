-- The start of a job as a whole: its tests, and then its files one after another.
use Rattle.std.proofs.Common.{◌≡◌, ◌+◌, ℕ, List, [], map, refl, ap, ap₂, sym, ◌∙◌, subst}
use Rattle.std.specs.Prelude.{filter, Result, Ok, Err, IsOk}
use Rattle.s3_cards.specs.declared.levels.LevelId.{LevelId}
use Rattle.s3_lines.specs.declared.sheet.FileLine.{FileLine}
use Rattle.s3_slots.specs.Inner.Making.{planned}
use Rattle.s3_slots.specs.declared.making.LabelFault.{LabelFault}
use Rattle.s3_slots.specs.declared.slot.Slot.{Slot}
use Rattle.s3_store.specs.Inner.State.{PoolState}
use Rattle.s3_store.specs.Inner.Failures.{failed_transfers}
use Rattle.s3_labels.specs.Inner.Areas.{Areas, region_at, slots_at, IsReady as IsPackReady}
use Rattle.s3_job_files.specs.Files.{Files}
use Rattle.s3_job_files.specs.Inner.Holds.{Seen, seen, HoldsFiles}
use Rattle.s3_job_files.specs.declared.file.OpenFile.{OpenFile}
use Rattle.s3_job_files.specs.declared.job_files.JobFiles.{JobFiles}
use Rattle.s3_job_files.proofs.Starting.{ready_none}
use Rattle.s3_opening.specs.declared.fault.OpeningFault.{OpeningFault}
use Rattle.s3_opening.specs.declared.fault.OpeningFault.TheVariants.{Halted, Sectors}
use Rattle.s3_opening.specs.declared.starts.Start.{Start}
use Rattle.s3_opening.specs.Asked.{is_used}
use Rattle.s3_opening.specs.Opening.{Settings, none_in_use, opened}
use Rattle.s3_opening.specs.Inner.OpenFiles.{StartsAs}
use Rattle.s3_opening.specs.Inner.Starting.{AreStartsOf, CanStart}
use Rattle.s3_opening.specs.Inner.Starts.{step_in, failed_opening, first_refusal, AreRight, Comes, PlansTo, ReadsPack, TestsTo}
use Rattle.s3_opening.specs.Inner.Tests.{Step, Tested, news_of, passed, tested_lines}
use Rattle.s3_opening.proofs.OfLines.{starts_new, starts_of_lines}
use Rattle.s3_opening.proofs.Plans.{comes, with_value}
use Rattle.s3_opening.proofs.Readings.{transfers_same}

-- ---- the tests
abbrev plan_of : LevelId → Areas → List Start → Result (List Slot) (ℕ × LabelFault)
plan_of level areas starts = planned 0 areas.header.format (region_at level areas) areas.masters (news_of (map step_in starts)) (slots_at level areas)

plan_there : (level : LevelId) (areas now : Areas) (starts given : List Start) → now ≡ areas → given ≡ starts → plan_of level now given ≡ plan_of level areas starts
plan_there level areas now starts given same is = ap₂ (plan_of level) same is

pub comes_of : (level : LevelId) (areas now : Areas) (contents : List (List ℕ)) (settings : Settings) (lines : List FileLine) (begun starts given : List Start) (T : Type 0) (value : T) (shown : T → List Step)
    (tested plan result : Result (Unit {0}) OpeningFault) → shown value ≡ map step_in starts → begun ≡ [] → now ≡ areas → given ≡ starts
    → TestsTo (tested_lines level (seen areas contents) settings lines (map step_in begun)) (map step_in starts) tested → PlansTo (plan_of level now given) plan → result ≡ first_refusal tested plan
    → (files : Files) → HoldsFiles level [] (seen areas contents) files → Comes shown (none_in_use files) (opened settings lines files) (with_value value result)
comes_of level areas now contents settings lines begun starts given T value shown tested plan result shows none same is tests plans came files held =
    subst (λ r. Comes shown (none_in_use files) (opened settings lines files) (with_value value r)) (sym came)
    (comes level (seen areas contents) settings lines starts files held T value shown tested plan shows
    (subst (λ list. TestsTo (tested_lines level (seen areas contents) settings lines (map step_in list)) (map step_in starts) tested) none tests)
    (subst (λ p. PlansTo p plan) (plan_there level areas now starts given same is) plans))

-- what passes has passed its tests and its plan
passes_tested : (meant : Tested) (steps : List Step) (tested plan : Result (Unit {0}) OpeningFault) (done : Unit {0}) → Ok done ≡ first_refusal tested plan → TestsTo meant steps tested → meant ≡ passed steps
passes_tested meant steps (Ok _) plan done h tests = tests
passes_tested meant steps (Err (Sectors fault)) plan done h tests = absurd cc
passes_tested meant steps (Err (Halted code)) (Ok _) done h tests = absurd cc
passes_tested meant steps (Err (Halted code)) (Err fault) done h tests = absurd cc

passes_planned : (plan_meant : Result (List Slot) (ℕ × LabelFault)) (tested plan : Result (Unit {0}) OpeningFault) (done : Unit {0}) → Ok done ≡ first_refusal tested plan → PlansTo plan_meant plan → IsOk plan_meant
passes_planned meant tested (Ok _) done h plans = plans
passes_planned meant (Ok _) (Err fault) done h plans = absurd cc
passes_planned meant (Err (Sectors fault)) (Err other) done h plans = absurd cc
passes_planned meant (Err (Halted code)) (Err other) done h plans = absurd cc

module _ (level : LevelId) (areas now : Areas) (contents : List (List ℕ)) (settings : Settings) (lines : List FileLine) (begun starts given : List Start) (tested plan : Result (Unit {0}) OpeningFault) (done : Unit {0})
    (none : begun ≡ []) (same : now ≡ areas) (is : given ≡ starts) (right : AreRight level (seen areas contents) starts)
    (tests : TestsTo (tested_lines level (seen areas contents) settings lines (map step_in begun)) (map step_in starts) tested) (plans : PlansTo (plan_of level now given) plan) (came : Ok done ≡ first_refusal tested plan) where
  all_passed : tested_lines level (seen areas contents) settings lines [] ≡ passed (map step_in starts)
  all_passed = ap (λ list. tested_lines level (seen areas contents) settings lines (map step_in list)) (sym none)
      ∙ passes_tested (tested_lines level (seen areas contents) settings lines (map step_in begun)) (map step_in starts) tested plan done came tests

  pub can_start : IsPackReady areas contents → CanStart level [] (seen areas contents) starts
  can_start ready = record {
    ready = ready_none level (seen areas contents) ready;
    right = right;
    planned = subst IsOk (plan_there level areas now starts given same is) (passes_planned (plan_of level now given) tested plan done came plans);
    new = starts_new level (seen areas contents) settings lines starts right all_passed;
  }

  pub are_starts : AreStartsOf settings.statements (filter (is_used settings.switches) lines) starts
  are_starts = starts_of_lines level (seen areas contents) settings lines starts right all_passed

-- only a transfer of the tests has failed: the plan transfers nothing
failed_same : (T : Type 0) (value : T) (meant : Result (List Slot) (ℕ × LabelFault)) (tested plan : Result (Unit {0}) OpeningFault) → PlansTo meant plan
    → failed_opening (with_value value (first_refusal tested plan)) ≡ failed_opening tested
failed_same T value meant (Ok _) (Ok _) plans = refl
failed_same T value meant (Ok _) (Err (Halted code)) plans = refl
failed_same T value meant (Ok _) (Err (Sectors fault)) plans = ap (λ f. failed_transfers {T = T} (Err f)) plans
failed_same T value meant (Err (Sectors fault)) plan plans = transfers_same T (Unit {0}) fault
failed_same T value meant (Err (Halted code)) (Ok _) plans = refl
failed_same T value meant (Err (Halted code)) (Err (Halted other)) plans = refl
failed_same T value meant (Err (Halted code)) (Err (Sectors fault)) plans = ap (λ f. failed_transfers {T = T} (Err f)) plans

pub reads_planned : {T : Type 0} {old new : Areas} {s t : PoolState} (value : T) (meant : Result (List Slot) (ℕ × LabelFault)) (tested plan result : Result (Unit {0}) OpeningFault) → PlansTo meant plan
    → result ≡ first_refusal tested plan → ReadsPack tested old new s t → ReadsPack (with_value value result) old new s t
reads_planned {T = T} {s = s} value meant tested plan result plans came reads = record {
  areas = reads.areas;
  keeps = reads.keeps;
  failures = reads.failures ∙ ap (λ n. s.failures + n) (sym (failed_same T value meant tested plan plans) ∙ sym (ap (λ r. failed_opening (with_value value r)) came));
}

pub right_none : (level : LevelId) (s : Seen) (starts : List Start) → starts ≡ [] → AreRight level s starts
right_none level s starts none = subst (AreRight level s) (sym none) (λ i start there. absurd cc)

-- ---- the files after them
pub can_after : {T : Type 0} {first : T} (level : LevelId) (areas now : Areas) (s t : PoolState) (items : List OpenFile) (starts : List Start) → ReadsPack (Ok first) areas now s t → items ≡ []
    → CanStart level [] (seen areas s.contents) starts → CanStart level items (seen now t.contents) starts
can_after level areas now s t items starts reads none can =
    subst (λ (list : List OpenFile). CanStart level list (seen now t.contents) starts) (sym none) (subst (λ one. CanStart level [] one starts) (sym (ap₂ seen reads.areas reads.keeps.contents)) can)

pub halts_as : {T : Type 0} (level : LevelId) (old pack : Seen) (settings : Settings) (lines : List FileLine) (shown : T → List Step) (fault : OpeningFault)
    → ((files : Files) → HoldsFiles level [] old files → Comes shown (none_in_use files) (opened settings lines files) (Err fault))
    → (files : Files) → HoldsFiles level [] old files → StartsAs level pack (opened settings lines files) (Err fault)
halts_as level old pack settings lines shown (Halted code) meant files held = meant files held
halts_as level old pack settings lines shown (Sectors fault) meant files held = tt

pub halts_result : {T : Type 0} (level : LevelId) (old pack : Seen) (settings : Settings) (lines : List FileLine) (shown : T → List Step) (fault : OpeningFault) (result : Result JobFiles OpeningFault) → result ≡ Err fault
    → ((files : Files) → HoldsFiles level [] old files → Comes shown (none_in_use files) (opened settings lines files) (Err fault))
    → (files : Files) → HoldsFiles level [] old files → StartsAs level pack (opened settings lines files) result
halts_result level old pack settings lines shown fault result is meant files held =
    subst (StartsAs level pack (opened settings lines files)) (sym is) (halts_as level old pack settings lines shown fault meant files held)
