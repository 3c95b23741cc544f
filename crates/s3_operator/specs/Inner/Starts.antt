-- The halts of a job that couldn't be started.
use Rattle.std.specs.Prelude.{Bool, true, false}
use Rattle.s3_operator.specs.declared.halt_code.HaltCode.{HaltCode}
use Rattle.s3_operator.specs.declared.halt_kind.HaltKind.{HaltKind}
use Rattle.s3_operator.specs.declared.halt_kind.HaltKind.TheVariants.{GoesOn, Ends, NotStarted}
use Rattle.s3_operator.specs.Table.{kind_of}

abbrev pub is_not_started : HaltKind → Bool
is_not_started GoesOn = false
is_not_started Ends = false
is_not_started NotStarted = true

-- Whether the job's cycle hasn't begun when it shows this halt, so that a reply passes the job over. Any other halt is of a running job.
abbrev pub is_at_start : HaltCode → Bool
is_at_start code = is_not_started (kind_of code)
