-- What becomes of the pack at the end of a day.
use Rattle.std.specs.Prelude.{Bool, true, false, not, ◌&&◌, Option, Some, None, if◌then◌else◌}
use Rattle.s3_day_log.specs.declared.endings.Verdict.{Verdict}
use Rattle.s3_day_log.specs.declared.endings.Verdict.TheVariants.{Clean, Passed, Unfinished as NotDone}
use Rattle.s3_operating.specs.declared.pack_end.EndedDay.{EndedDay}
use Rattle.s3_operating.specs.declared.pack_end.PackEnd.{PackEnd}
use Rattle.s3_operating.specs.declared.pack_end.PackEnd.TheVariants.{Saved, Unnamed, Unfinished, Unheard, LoggedNo, AnsweredNo}

-- a level isn't done
abbrev pub is_unfinished : Verdict → Bool
is_unfinished Clean = false
is_unfinished Passed = false
is_unfinished NotDone = true

-- the answer to "save the pack?", if somebody was asked
abbrev pub by_answer : Option Bool → PackEnd
by_answer None = Saved
by_answer (Some true) = Saved
by_answer (Some false) = AnsweredNo

-- the pack is saved if nothing hinders that; the first of these that applies is the reason why it isn't
abbrev pub pack_end_of : EndedDay → (answer : Option Bool) → PackEnd
pack_end_of day answer =
    if not day.has_place then Unnamed
    else if is_unfinished day.verdict && not day.saves_unfinished then Unfinished
    else if day.has_lost_replies then Unheard
    else if day.is_spoilt && day.is_declined then LoggedNo
    else if day.is_spoilt then by_answer answer
    else Saved

abbrev pub is_answered_no : PackEnd → Bool
is_answered_no Saved = false
is_answered_no Unnamed = false
is_answered_no Unfinished = false
is_answered_no Unheard = false
is_answered_no LoggedNo = false
is_answered_no AnsweredNo = true
