-- The plan of a job's makes.
use Rattle.std.proofs.Common.{◌≡◌, ◌<◌, ℕ, zero, suc, List, [], ◌∷◌, map, length, slice_index_or, arith, refl, ap, ap₂, sym, ◌∙◌, subst}
use Rattle.std.specs.Prelude.{Option, Some, None, Result, Ok, Err, IsOk, filter_map}
use Rattle.std.specs.List.{All}
use Rattle.s3_cards.specs.declared.levels.LevelId.{LevelId}
use Rattle.s3_operator.specs.declared.halt_code.HaltCode.{HaltCode}
use Rattle.s3_slots.specs.Inner.Making.{IsNewFile, planned}
use Rattle.s3_slots.specs.declared.making.LabelFault.{LabelFault}
use Rattle.s3_slots.specs.declared.making.NewFile.{NewFile}
use Rattle.s3_lines.specs.declared.sheet.FileLine.{FileLine}
use Rattle.s3_slots.specs.declared.slot.Slot.{Slot}
use Rattle.s3_store.specs.Inner.State.{PoolState}
use Rattle.s3_labels.specs.Inner.Areas.{Areas, IsPlanRefusal, IsReady as IsPackReady, region_at, slots_at}
use Rattle.s3_labels.specs.declared.fault.PlanFault.{PlanFault}
use Rattle.s3_labels.specs.declared.fault.PlanFault.TheVariants.{File, NoMemory as NoMemoryToPlan}
use Rattle.s3_job_files.specs.Files.{Files, FilesInUse}
use Rattle.s3_opening.specs.declared.fault.OpeningFault.{OpeningFault}
use Rattle.s3_opening.specs.declared.fault.OpeningFault.TheVariants.{Halted, Sectors}
use Rattle.s3_opening.proofs.Worlds.{AgreesWith, plan_same, tests_same}
use Rattle.s3_job_files.specs.Inner.Holds.{HoldsFiles, Seen, seen}
use Rattle.s3_opening.specs.declared.starts.Start.{Start}
use Rattle.s3_opening.specs.declared.starts.Start.TheVariants.{Opened, ToMake}
use Rattle.s3_opening.specs.Opening.{Settings, halt_of_make, none_in_use, opened, unless_halted}
use Rattle.s3_opening.specs.Inner.Starts.{step_in, first_refusal, fault_of_plan, AreRight, Comes, IsHaltOfPlan, IsPlanned, PlansTo, TestsTo, ReadsPack}
use Rattle.s3_opening.specs.Inner.Tests.{Step, ending, finished, new_of, news_of, taken, tested_lines}

abbrev pub news_in : List Start → List NewFile
news_in starts = filter_map (λ start. new_of (step_in start)) starts

news_mapped : (starts : List Start) → news_of (map step_in starts) ≡ news_in starts
news_mapped [] = refl
news_mapped (Opened file ∷ starts) = news_mapped starts
news_mapped (ToMake name new ∷ starts) = ap (λ news. new ∷ news) (news_mapped starts)

pub news_proper : (level : LevelId) (seen : Seen) (starts : List Start) → AreRight level seen starts → All IsNewFile (news_in starts)
news_proper level seen [] right = λ k d lt. absurd (omega (arith, lt))
news_proper level seen (Opened file ∷ starts) right = news_proper level seen starts (λ i start there. right (suc i) start there)
news_proper level seen (ToMake name new ∷ starts) right = λ k d lt. at k d lt (right 0 (ToMake name new) refl) (news_proper level seen starts (λ i start there. right (suc i) start there))
  where
    at : (k : ℕ) (d : NewFile) → k < length (new ∷ news_in starts) → IsNewFile new → All IsNewFile (news_in starts) → IsNewFile (slice_index_or (new ∷ news_in starts) k d)
    at zero d lt first rest = first
    at (suc k) d lt first rest = rest k d (omega (arith, lt))

pub given_proper : (level : LevelId) (seen : Seen) (starts : List Start) (news given : List NewFile) → given ≡ news → news ≡ news_in starts → AreRight level seen starts → All IsNewFile given
given_proper level seen starts news given same is right = subst (All IsNewFile) (sym (same ∙ is)) (news_proper level seen starts right)

pub none_left : {X : Type 0} (xs : List X) → length xs ≡ 0 → xs ≡ []
none_left [] none = refl
none_left (x ∷ xs) none = absurd (omega (arith, none))

pub plan_passes : (level : LevelId) (areas : Areas) (starts : List Start) (news given : List NewFile) → given ≡ news → news ≡ news_in starts
    → IsOk (planned 0 areas.header.format (region_at level areas) areas.masters given (slots_at level areas)) → IsPlanned level areas (map step_in starts)
plan_passes level areas starts news given same is ok =
    subst (λ list. IsOk (planned 0 areas.header.format (region_at level areas) areas.masters list (slots_at level areas))) (same ∙ is ∙ sym (news_mapped starts)) ok

refuses : (level : LevelId) (areas : Areas) (starts : List Start) (news given : List NewFile) (place : ℕ) (fault : LabelFault) → given ≡ news → news ≡ news_in starts
    → planned 0 areas.header.format (region_at level areas) areas.masters given (slots_at level areas) ≡ Err (place, fault)
    → IsHaltOfPlan (halt_of_make fault) (planned 0 areas.header.format (region_at level areas) areas.masters (news_of (map step_in starts)) (slots_at level areas))
refuses level areas starts news given place fault same is refused =
    subst (IsHaltOfPlan (halt_of_make fault))
    (sym (ap (λ list. planned 0 areas.header.format (region_at level areas) areas.masters list (slots_at level areas)) (sym (same ∙ is ∙ sym (news_mapped starts))) ∙ refused)) refl

tells : (T : Type 0) (level : LevelId) (areas : Areas) (starts : List Start) (news given : List NewFile) (fault : PlanFault) → given ≡ news → news ≡ news_in starts
    → IsPlanRefusal (planned 0 areas.header.format (region_at level areas) areas.masters given (slots_at level areas)) fault
    → PlansTo {T = T} (planned 0 areas.header.format (region_at level areas) areas.masters (news_of (map step_in starts)) (slots_at level areas)) (Err (fault_of_plan fault))
tells T level areas starts news given NoMemoryToPlan same is refused = refl
tells T level areas starts news given (File place fault) same is refused = refuses level areas starts news given place fault same is refused

pub plan_tells : (T : Type 0) (level : LevelId) (areas : Areas) (starts : List Start) (news given : List NewFile) (fault : PlanFault) (refusal : OpeningFault) → given ≡ news → news ≡ news_in starts
    → IsPlanRefusal (planned 0 areas.header.format (region_at level areas) areas.masters given (slots_at level areas)) fault → refusal ≡ fault_of_plan fault
    → PlansTo {T = T} (planned 0 areas.header.format (region_at level areas) areas.masters (news_of (map step_in starts)) (slots_at level areas)) (Err refusal)
plan_tells T level areas starts news given fault refusal same is refused told =
    subst (λ f. PlansTo {T = T} (planned 0 areas.header.format (region_at level areas) areas.masters (news_of (map step_in starts)) (slots_at level areas)) (Err f)) (sym told)
    (tells T level areas starts news given fault same is refused)

-- ---- where nothing has changed
pub ready_kept : {T : Type 0} {result : Result T OpeningFault} {areas now : Areas} {s t : PoolState} → ReadsPack result areas now s t → IsPackReady areas s.contents → IsPackReady now t.contents
ready_kept reads ready = subst (λ one. IsPackReady one.areas one.contents) (sym (ap₂ seen reads.areas reads.keeps.contents)) ready

pub right_kept : {T : Type 0} {result : Result T OpeningFault} {areas now : Areas} {s t : PoolState} (level : LevelId) (starts given : List Start) → ReadsPack result areas now s t → given ≡ starts
    → AreRight level (seen areas s.contents) starts → AreRight level (seen now t.contents) given
right_kept {areas = areas} {s = s} level starts given reads is right =
    subst (λ one. AreRight level one given) (sym (ap₂ seen reads.areas reads.keeps.contents)) (subst (AreRight level (seen areas s.contents)) (sym is) right)

-- ---- the start of a job
plan_agrees : (level : LevelId) (pack : Seen) (files : Files) (steps : List Step) → HoldsFiles level [] pack files
    → AgreesWith (planned 0 pack.areas.header.format (region_at level pack.areas) pack.areas.masters (news_of steps) (slots_at level pack.areas)) (taken steps (none_in_use files))
plan_agrees level pack files steps held =
    subst (λ plan. AgreesWith plan (taken steps (none_in_use files)))
    (ap (λ f. planned 0 f files.own.region files.masters.slots (news_of steps) files.own.slots) held.format
    ∙ ap (λ r. planned 0 pack.areas.header.format r files.masters.slots (news_of steps) files.own.slots) held.own.region_of_area
    ∙ ap (λ m. planned 0 pack.areas.header.format (region_at level pack.areas) m (news_of steps) files.own.slots) held.masters.slots_of_area
    ∙ ap (λ o. planned 0 pack.areas.header.format (region_at level pack.areas) pack.areas.masters (news_of steps) o) held.own.slots_of_area)
    (plan_same 0 steps (none_in_use files))

-- what comes behind steps that pass
abbrev Ends : Option HaltCode → (came end : Result FilesInUse HaltCode) → Type 0
Ends None came end = end ≡ came
Ends (Some code) came end = end ≡ Err code

-- what follows the steps, by the plan
behind_steps : (refused : Option HaltCode) (plan : Result (List Slot) (ℕ × LabelFault)) (came : Result FilesInUse HaltCode) → AgreesWith plan came → IsOk plan → Ends refused came (unless_halted came (ending refused))
behind_steps None (Ok slots) (Ok so_far) agrees ok = refl
behind_steps (Some code) (Ok slots) (Ok so_far) agrees ok = refl
behind_steps refused (Ok slots) (Err code) agrees ok = absurd agrees
behind_steps refused (Err fault) came agrees ok = absurd cc

at_plan : (refused : Option HaltCode) (code : HaltCode) (plan : Result (List Slot) (ℕ × LabelFault)) (came : Result FilesInUse HaltCode) → AgreesWith plan came → IsHaltOfPlan code plan
    → unless_halted came (ending refused) ≡ Err code
at_plan refused code (Ok slots) came agrees halt = absurd halt
at_plan refused code (Err fault) (Ok so_far) agrees halt = absurd agrees
at_plan refused code (Err fault) (Err other) agrees halt = ap Err (agrees ∙ sym halt)

abbrev pub with_value : {T : Type 0} → T → Result (Unit {0}) OpeningFault → Result T OpeningFault
with_value value (Ok _) = Ok value
with_value value (Err fault) = Err fault

module _ (level : LevelId) (pack : Seen) (settings : Settings) (lines : List FileLine) (starts : List Start) (files : Files) (held : HoldsFiles level [] pack files) where
  abbrev Plan : Result (List Slot) (ℕ × LabelFault)
  Plan = planned 0 pack.areas.header.format (region_at level pack.areas) pack.areas.masters (news_of (map step_in starts)) (slots_at level pack.areas)

  meant : (refused : Option HaltCode) → tested_lines level pack settings lines [] ≡ record { steps = map step_in starts; refused = refused }
      → opened settings lines files ≡ unless_halted (taken (map step_in starts) (none_in_use files)) (ending refused)
  meant refused is = tests_same level pack settings files held lines ∙ ap (λ t. finished t (none_in_use files)) is

  pub comes : (T : Type 0) (value : T) (shown : T → List Step) (tested plan : Result (Unit {0}) OpeningFault) → shown value ≡ map step_in starts
      → TestsTo (tested_lines level pack settings lines []) (map step_in starts) tested → PlansTo Plan plan
      → Comes shown (none_in_use files) (opened settings lines files) (with_value value (first_refusal tested plan))
  comes T value shown (Err (Sectors fault)) plan is tests plans = tt
  comes T value shown (Err (Halted code)) (Err (Sectors fault)) is tests plans = tt
  comes T value shown (Err (Halted code)) (Err (Halted other)) is tests plans =
      meant (Some code) tests ∙ at_plan (Some code) other Plan (taken (map step_in starts) (none_in_use files)) (plan_agrees level pack files (map step_in starts) held) plans
  comes T value shown (Err (Halted code)) (Ok _) is tests plans =
      meant (Some code) tests ∙ behind_steps (Some code) Plan (taken (map step_in starts) (none_in_use files)) (plan_agrees level pack files (map step_in starts) held) plans
  comes T value shown (Ok _) (Err (Sectors fault)) is tests plans = tt
  comes T value shown (Ok _) (Err (Halted other)) is tests plans =
      meant None tests ∙ at_plan None other Plan (taken (map step_in starts) (none_in_use files)) (plan_agrees level pack files (map step_in starts) held) plans
  comes T value shown (Ok _) (Ok _) is tests plans =
      meant None tests ∙ behind_steps None Plan (taken (map step_in starts) (none_in_use files)) (plan_agrees level pack files (map step_in starts) held) plans
      ∙ ap (λ steps. taken steps (none_in_use files)) (sym is)
