-- The exit status of a day that came to its end.
use Rattle.std.specs.Prelude.{ℕ}
use Rattle.s3_day_log.specs.declared.endings.Verdict.{Verdict}
use Rattle.s3_day_log.specs.declared.endings.Verdict.TheVariants.{Clean, Passed, Unfinished}
use Rattle.s3_operating.specs.declared.pack_end.PackEnd.{PackEnd}
use Rattle.s3_operating.specs.declared.pack_end.PackEnd.TheVariants as pack

-- 0: each job came to its end; 5: a job was passed over or ended by a reply; 4: a level isn't done
abbrev pub status_by : Verdict → ℕ
status_by Clean = 0
status_by Passed = 5
status_by Unfinished = 4

-- a day whose pack isn't saved because of an answer, or for lack of one, needs a person: 4
abbrev pub status_of : Verdict → PackEnd → ℕ
status_of verdict pack.AnsweredNo = 4
status_of verdict pack.LoggedNo = 4
status_of verdict pack.Unheard = 4
status_of verdict pack.Unfinished = status_by verdict
status_of verdict pack.Unnamed = status_by verdict
status_of verdict pack.Saved = status_by verdict
