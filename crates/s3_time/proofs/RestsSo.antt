-- A level at rest waits for a reply, or is over: a request to a file is never left, and a line can always be printed onto an empty queue.
use Rattle.std.proofs.Common.{◌≡◌, inl, inr, ◌≤◌, ℕ, ◌-◌, nat_lt, Bool, true, false, true≢false, List, [], ◌∷◌, length, replicate, Option, Some, None, is_some, Result, if◌then◌else◌, refl, sym, ap, subst, ◌∙◌, arith}
use Rattle.std.specs.List.{list_any}
use Rattle.std.proofs.lemmas.Bool.Decides.{nat_tests}
use Rattle.std.proofs.lemmas.Option.{none-some}
use Rattle.s3_cards.specs.declared.name.Name.{Name}
use Rattle.s3_lines.specs.declared.sheet.FileLine.{FileLine}
use Rattle.s3_meaning.specs.Requests.{Request, Card, Read, Chain, Append, Add, Update, Print, Jump, Ask, End, Done}
use Rattle.s3_ocl.specs.declared.faults.FaultyJob.{FaultyJob}
use Rattle.s3_ocl.specs.Jobs.{Job}
use Rattle.s3_operator.specs.declared.halt_code.HaltCode.{HaltCode}
use Rattle.s3_operator.specs.Halts.{is_waiting}
use Rattle.s3_job_files.specs.Files.{FileAtWork, FilesInUse, file_at_work}
use Rattle.s3_job_files.specs.Requests as files
use Rattle.s3_job_files.specs.Requests.{Served, served_named, served_on}
use Rattle.s3_opening.specs.Asked.{is_used}
use Rattle.s3_solo.specs.declared.action.Action.TheVariants.{Drain}
use Rattle.s3_solo.specs.declared.action.Did.TheVariants.{Acted, Idle}
use Rattle.s3_solo.specs.Inner.Asked.{halt_asked}
use Rattle.s3_solo.specs.World.{World, JobAtWork}
use Rattle.s3_solo.specs.Serving.{acted, answered, begun, file_served, idle, in_use, line_put, pending, served}
use Rattle.s3_solo.specs.Solo.{gone_on, solo}
use Rattle.s3_time.specs.Inner.Moves.{IsAtRest, emptied}
use Rattle.s3_time.specs.Inner.Rest.{IsReached, WaitsOrIsOver}
use Rattle.s3_time.proofs.Elements.{each_other}
use Rattle.s3_time.proofs.JobFiles.{finds, is_named}
use Rattle.s3_time.proofs.Reached.{IsAtWork, IsSound, reached_sound}
use Rattle.s3_time.proofs.Requested.{NamesOnly, requests_named}
use Rattle.s3_time.proofs.Resting.{drained_to_end}

acted_idle : {A : Type 0} → Acted ≡ Idle → A
acted_idle wrong = cc

unserved : (o : Option Served) (job : JobAtWork) (w : World) → (file_served o job w).did ≡ Idle → o ≡ None
unserved None job w is = refl
unserved (Some served) job w is = acted_idle is

empty_room : (size quota : ℕ) → 1 ≤ quota → nat_lt (size - size) quota ≡ true
empty_room size quota some = grind (arith, nat_tests)

-- a job at work has the file
abbrev Has : FilesInUse → Name → Type 0
Has in_use name = (at : FileAtWork) × (file_at_work name in_use ≡ Some at)

is_served : (in_use : FilesInUse) (name : Name) (serve : FileAtWork → FilesInUse → Served) → Has in_use name → served_named name serve in_use ≡ None → ⊥
is_served in_use name serve has none = none-some (serve has.0 in_use) (sym none ∙ ap (λ (o : Option FileAtWork). served_on serve o in_use) has.1)

names_its_own : (w : World) (job : JobAtWork) → IsAtWork w.switches w.pack job → NamesOnly (Has (in_use job w)) (pending job w)
names_its_own w job at =
    requests_named (Has (in_use job w)) w.switches job.source at.right
    (each_other (λ (line : FileLine). is_used w.switches line ≡ true → list_any (is_named line.name) job.files ≡ true) (λ (line : FileLine). is_used w.switches line ≡ true → Has (in_use job w) line.name)
    job.source.files at.are_open.opens (λ line opens used. finds job.source.files w.switches (in_use job w) at.are_open line.name (opens used)))
    w.date job.past

module _ (w : World) (sound : IsSound w) where
  asks : (job : JobAtWork) → w.job ≡ Some job → (request : Request) → pending job w ≡ request → NamesOnly (Has (in_use job w)) request → is_waiting w.halts ≡ false → (served request job (emptied w)).did ≡ Idle → ⊥
  unfolding files.served
  asks job is Card pends names none idles = acted_idle idles
  asks job is (Read file size) pends names none idles = is_served (in_use job w) file _ names (unserved (files.served (Read file size) (in_use job w)) job (emptied w) idles)
  asks job is (Chain file size sought) pends names none idles = is_served (in_use job w) file _ names (unserved (files.served (Chain file size sought) (in_use job w)) job (emptied w) idles)
  asks job is (Append file bytes) pends names none idles = is_served (in_use job w) file _ names (unserved (files.served (Append file bytes) (in_use job w)) job (emptied w) idles)
  asks job is (Add file bytes) pends names none idles = is_served (in_use job w) file _ names (unserved (files.served (Add file bytes) (in_use job w)) job (emptied w) idles)
  asks job is (Update file current changes) pends names none idles = is_served (in_use job w) file _ names (unserved (files.served (Update file current changes) (in_use job w)) job (emptied w) idles)
  asks job is (Print page line text) pends names none idles =
      acted_idle (subst (λ (b : Bool). (if b then acted (answered Done job (line_put page line text (emptied w))) else idle (emptied w)).did ≡ Idle)
      (empty_room (length w.lines.printed) w.lines.quota sound.kept.room.quota) idles)
  asks job is Jump pends names none idles = acted_idle idles
  asks job is (Ask code) pends names none idles =
      true≢false (sym (ap (λ (o : Option HaltCode). is_some o) (sound.asked job is ∙ ap halt_asked pends)) ∙ none)
  asks job is (End at_once) pends names none idles = acted_idle idles

  left : (jobs : List (Result Job FaultyJob)) → (begun jobs (emptied w)).did ≡ Idle → jobs ≡ []
  left [] is = refl
  left (job ∷ jobs) is = acted_idle is

  gone : (o : Option JobAtWork) → w.job ≡ o → is_waiting w.halts ≡ false → (gone_on o (emptied w)).did ≡ Idle → WaitsOrIsOver w
  gone None is none idles = inr (is, left w.deck.jobs idles)
  gone (Some job) is none idles = absurd (asks job is (pending job w) refl (names_its_own w job (sound.kept.work job is)) none idles)

  rests_so : IsAtRest w → WaitsOrIsOver w
  rests_so = by (is_waiting w.halts) refl
    where
      by : (b : Bool) → is_waiting w.halts ≡ b → (if b then idle (emptied w) else gone_on w.job (emptied w)).did ≡ Idle → WaitsOrIsOver w
      by true waits idles = inl waits
      by false none idles = gone w.job refl none idles

pub reached_rests : (w : World) → IsReached w → IsAtRest w → WaitsOrIsOver w
reached_rests w reached = rests_so w (reached_sound w reached)

pub reached_drains : (w : World) → IsReached w → solo w (replicate (length w.lines.printed - w.lines.drained) Drain) ≡ emptied w
reached_drains w reached = drained_to_end w (reached_sound w reached).kept.room.drained
