-- The files of a job as the code has them at its start, and the answers of calls on them.
use Rattle.std.specs.Prelude.{◌≡◌, ◌+◌, ℕ, Bool, true, List, slice_get, Option, Some, None, Result, Ok, Err, IsOk, ⊤, if◌then◌else◌}
use Rattle.s3_cards.specs.declared.levels.LevelId.{LevelId}
use Rattle.s3_operator.specs.declared.halt_code.HaltCode.{HaltCode}
use Rattle.s3_slots.specs.Inner.Making.{IsNewFile, planned}
use Rattle.s3_store.specs.Inner.Failures.{failed_transfers}
use Rattle.s3_store.specs.Inner.State.{PoolState, KeepsContents}
use Rattle.s3_job_files.specs.Kept.{kept_on}
use Rattle.s3_job_files.specs.Files.{FilesInUse}
use Rattle.s3_job_files.specs.Inner.Holds.{AreOf, Seen, Stands, HoldsRecords, job_file_of, count_of, records_of}
use Rattle.s3_job_files.specs.declared.records.OpenRecords.{OpenRecords}
use Rattle.s3_operator.specs.declared.halt_code.HaltCode.TheVariants.{BadIndex}
use Rattle.s3_slots.specs.declared.label.FileLabel.{FileLabel}
use Rattle.s3_slots.specs.declared.making.LabelFault.{LabelFault}
use Rattle.s3_slots.specs.declared.slot.Slot.{Slot}
use Rattle.s3_labels.specs.Inner.Areas.{Areas, region_at, slots_at}
use Rattle.s3_labels.specs.declared.fault.PlanFault.{PlanFault}
use Rattle.s3_labels.specs.declared.fault.PlanFault.TheVariants.{File, NoMemory as NoMemoryToPlan}
use Rattle.s3_store.specs.declared.sector_fault.SectorFault.TheVariants.{NoMemory}
use Rattle.s3_job_files.specs.declared.file.OpenFile.{OpenFile}
use Rattle.s3_opening.specs.declared.fault.OpeningFault.{OpeningFault}
use Rattle.s3_opening.specs.declared.fault.OpeningFault.TheVariants.{Halted, Sectors}
use Rattle.s3_opening.specs.declared.settings.JobSettings.{JobSettings}
use Rattle.s3_opening.specs.declared.starts.Start.{Start}
use Rattle.s3_opening.specs.declared.starts.Start.TheVariants.{Opened, ToMake}
use Rattle.s3_opening.specs.Opening.{Settings, halt_of_make}
use Rattle.s3_opening.specs.Inner.Tests.{Step, Opens, Makes, Tested, news_of, passed, refused_at, taken}

abbrev pub settings_of : JobSettings → Settings
settings_of settings = record { statements = settings.statements.now; switches = settings.switches; date = settings.date }

abbrev pub step_in : Start → Step
step_in (Opened file) = Opens (job_file_of file)
step_in (ToMake name new) = Makes name new

-- ---- answers of calls
-- the value represents this result, or the call halts as meant
abbrev pub Gives : {T X : Type 0} → (T → X) → Result X HaltCode → Result T OpeningFault → Type 0
Gives shown meant (Ok value) = meant ≡ Ok (shown value)
Gives shown meant (Err (Halted code)) = meant ≡ Err code
Gives shown meant (Err (Sectors fault)) = ⊤

-- the steps of the files tested so far
abbrev pub TestsTo : {T : Type 0} → Tested → List Step → Result T OpeningFault → Type 0
TestsTo meant steps (Ok _) = meant ≡ passed steps
TestsTo meant steps (Err (Halted code)) = meant ≡ refused_at steps code
TestsTo meant steps (Err (Sectors fault)) = ⊤

abbrev pub failed_opening : {T : Type 0} → Result T OpeningFault → ℕ
failed_opening (Ok _) = 0
failed_opening (Err (Halted code)) = 0
failed_opening {T} (Err (Sectors fault)) = failed_transfers {T = T} (Err fault)

-- no slot and no sector changes, and each failed transfer is counted
pub record ReadsPack {T : Type 0} (result : Result T OpeningFault) (old new : Areas) (s t : PoolState) : Type 0 where
  pub areas : new ≡ old
  pub keeps : KeepsContents s t
  pub failures : t.failures ≡ s.failures + failed_opening result

-- the halt for a file with a bad index
abbrev pub halt_unless_good : (has_good_index : Bool) → Option HaltCode
halt_unless_good has_good_index = if has_good_index then None else Some BadIndex

abbrev pub index_refusal : FileLabel → List (List ℕ) → Option HaltCode
index_refusal label contents = halt_unless_good (kept_on label contents).has_good_index

-- ---- files that passed their tests
-- the records are those of the label in these sectors
pub record IsKeptFile (contents : List (List ℕ)) (label : FileLabel) (records : OpenRecords) : Type 0 where
  pub of_label : AreOf label contents records
  pub counted : count_of records ≡ label.count
  pub kept : (kept_on label contents).records ≡ records_of records contents
  pub good : (kept_on label contents).has_good_index ≡ true

-- the file is as it was opened, and it represents what the sectors have for its label
pub record IsOpened (level : LevelId) (seen : Seen) (file : OpenFile) : Type 0 where
  pub stands : Stands level seen file
  pub holds : HoldsRecords seen.contents file (kept_on file.label seen.contents)

abbrev pub IsRight : LevelId → Seen → Start → Type 0
IsRight level seen (Opened file) = IsOpened level seen file
IsRight level seen (ToMake name new) = IsNewFile new

abbrev pub AreRight : LevelId → Seen → List Start → Type 0
AreRight level seen starts = (i : ℕ) (start : Start) → slice_get starts i ≡ Some start → IsRight level seen start

-- ---- plans
abbrev pub IsHaltOfPlan : HaltCode → Result (List Slot) (ℕ × LabelFault) → Type 0
IsHaltOfPlan code (Ok slots) = ⊥
IsHaltOfPlan code (Err fault) = code ≡ halt_of_make fault.1

-- the call succeeds if the plan does, or it halts for the plan's refusal
abbrev pub PlansTo : {T : Type 0} → Result (List Slot) (ℕ × LabelFault) → Result T OpeningFault → Type 0
PlansTo plan (Ok _) = IsOk plan
PlansTo plan (Err (Halted code)) = IsHaltOfPlan code plan
PlansTo plan (Err (Sectors fault)) = fault ≡ NoMemory

-- why the files of a job can't be made
abbrev pub fault_of_plan : PlanFault → OpeningFault
fault_of_plan (File place fault) = Halted (halt_of_make fault)
fault_of_plan NoMemoryToPlan = Sectors NoMemory

-- If a test failed, nothing after that file is planned. So a refusal by the plan is for an earlier file, and comes first.
abbrev pub first_refusal : (tested planned : Result (Unit {0}) OpeningFault) → Result (Unit {0}) OpeningFault
first_refusal (Err (Sectors fault)) planned = Err (Sectors fault)
first_refusal (Err (Halted code)) (Ok _) = Err (Halted code)
first_refusal (Err (Halted code)) (Err fault) = Err fault
first_refusal (Ok _) planned = planned

-- the files to make among these steps have space
abbrev pub IsPlanned : LevelId → Areas → List Step → Type 0
IsPlanned level areas steps = IsOk (planned 0 areas.header.format (region_at level areas) areas.masters (news_of steps) (slots_at level areas))

-- ---- the start of a job
-- the start gives these steps, or it halts as meant
abbrev pub Comes : {T : Type 0} → (T → List Step) → (in_use : FilesInUse) → Result FilesInUse HaltCode → Result T OpeningFault → Type 0
Comes steps in_use meant (Ok value) = meant ≡ taken (steps value) in_use
Comes steps in_use meant (Err (Halted code)) = meant ≡ Err code
Comes steps in_use meant (Err (Sectors fault)) = ⊤
