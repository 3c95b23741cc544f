-- The kinds of answers that a request can have.
use Rattle.std.specs.Prelude.{Bool, true, false}
use Rattle.s3_lines.specs.declared.sheet.FileLine.{FileLine}
use Rattle.s3_cycle.specs.declared.request.Answer.{Answer}
use Rattle.s3_cycle.specs.declared.request.Answer.TheVariants.{Found, Nothing, Done, Refused, Reply}
use Rattle.s3_cycle.specs.Inner.Heads.{IsRecordOf}

abbrev pub is_done_or_refused : Answer → Bool
is_done_or_refused Done = true
is_done_or_refused (Refused code) = true
is_done_or_refused answer = false

abbrev pub is_reply : Answer → Bool
is_reply (Reply digit) = true
is_reply answer = false

abbrev pub IsRecordOrNothing : FileLine → Answer → Type 0
IsRecordOrNothing file (Found bytes) = IsRecordOf file bytes.now
IsRecordOrNothing file Nothing = Unit {0}
IsRecordOrNothing file answer = ⊥
