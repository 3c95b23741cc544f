-- What calls on the parts of a level answer and leave unchanged, refused or not. Only contracts of private functions use these definitions.
use Rattle.std.specs.Prelude.{◌≡◌, ◌≤◌, ◌+◌, ℕ, Bool, false, List, length, map, None, Result, IfOk, IsTrue, OnErr, OnOk}
use Rattle.std.specs.List.{list_all}
use Rattle.s3_store.specs.Inner.Failures.{failed_transfers}
use Rattle.s3_store.specs.Inner.State.{PoolState}
use Rattle.s3_store.specs.declared.sector_fault.SectorFault.{SectorFault}
use Rattle.s3_labels.specs.Inner.Areas.{Areas}
use Rattle.s3_labels.specs.Inner.Labelled.{KeepsSaid}
use Rattle.s3_job_files.specs.Inner.Holds.{Seen, seen, opened_as, IsReady as AreFilesReady}
use Rattle.s3_job_files.specs.Inner.Packs.{LeavesPack}
use Rattle.s3_job_files.specs.declared.job_files.JobFiles.{JobFiles}
use Rattle.s3_ocl.specs.Inner.Sound.{is_sound_date, is_sound_file}
use Rattle.s3_ocl.specs.Jobs.{Job}
use Rattle.s3_level.specs.declared.job.OpenJob.{OpenJob}
use Rattle.s3_level.specs.declared.level.Level.{Level}
use Rattle.s3_level.specs.Inner.Holds.{Around, IsJobReady, IsReady, IsUntouched, Spares, Stays}
use Rattle.s3_level.specs.Inner.Library.{IsOfLibrary}
use Rattle.s3_level.specs.Inner.Turning.{HasFile, KeepsPlace, ServesFile}

-- ---- the running job
-- the files keep their level, and each file stays opened as it was
pub record KeepsOpened (old new : JobFiles) : Type 0 where
  pub level : new.level ≡ old.level
  pub opened : map opened_as new.files.items ≡ map opened_as old.files.items

-- the requests of an open job can be served
pub record CanServe (at_work : OpenJob) (pack : Seen) : Type 0 where
  pub files : AreFilesReady at_work.files.level at_work.files.files.items pack
  pub job : IsJobReady at_work.files.level at_work

-- The files of an open job serve its pending request, or the job doesn't have the file and nothing changes. The call fails only if the job
-- has the file.
pub record ServesJob (result : Result Bool SectorFault) (old new : OpenJob) (before after : Areas) (s t : PoolState) : Type 0 where
  pub serves : IfOk result (λ served. ServesFile served old new (seen before s.contents) (seen after t.contents))
  pub fails : OnErr result (HasFile old (seen before s.contents))
  pub untouched : IfOk result (λ served. served ≡ false → IsUntouched before after s t)
  pub ready : OnOk result (CanServe new (seen after t.contents))
  pub place : KeepsPlace old new
  pub pack : LeavesPack old.files.level result before after s t

-- ---- the level
-- the job is one of the deck, as it is read from the cards
pub record IsJobOf (deck : List (List ℕ)) (job : Job) : Type 0 where
  pub within : job.data_to ≤ length deck
  pub sound : IsTrue (list_all is_sound_file job.files)
  pub dated : IsTrue (is_sound_date job.date)

-- a job can begin
pub record MayBegin (level : Level) (pack : Seen) : Type 0 where
  pub ready : IsReady level pack
  pub rests : level.job ≡ None

-- the level keeps its identity, its deck and its drained lines, with the same running job
pub record KeepsJob (old new : Level) : Type 0 where
  pub stays : Stays old new
  pub job : new.job ≡ old.job
  pub of_library : IsOfLibrary old.library old.job → IsOfLibrary new.library new.job

-- the level keeps its identity, its deck and its drained lines, and its representation invariant
pub record KeepsReady (old new : Level) : Type 0 where
  pub stays : Stays old new
  pub ready : (pack : Seen) → IsReady old pack → IsReady new pack

-- the level keeps its identity, its deck and its drained lines, and after an answer its representation invariant
pub record Leaves {T : Type 0} (result : Result T SectorFault) (old new : Level) (before after : Areas) (s t : PoolState) : Type 0 where
  pub stays : Stays old new
  pub ready : OnOk result (IsReady new (seen after t.contents))
  pub pack : LeavesPack old.id result before after s t

-- the same statement with the queues; the call doesn't change the other level's queue
pub record LeavesAll {T : Type 0} (result : Result T SectorFault) (old new : Level) (before after : Around) : Type 0 where
  pub stays : Stays old new
  pub ready : OnOk result (IsReady new (seen after.areas after.state.contents))
  pub spares : Spares old.id before after
  pub says : OnOk result (KeepsSaid old.id before.areas before.state.contents after.areas after.state.contents)
  pub failures : after.state.failures ≡ before.state.failures + failed_transfers result
