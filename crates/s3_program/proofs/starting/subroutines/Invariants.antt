use Rattle.std.proofs.Common.{◌≡◌, drop}
use Rattle.s3_program.specs.Inner.Starts.{first_from, begins_subroutines}
use Rattle.s3_program.proofs.starting.subroutines.Given as goal

abbrev pub invariant-loop-place : goal.invariant-loop-place
invariant-loop-place l = first_from (λ line. begins_subroutines line.time) 0 (drop 0 l.calculations) ≡ first_from (λ line. begins_subroutines line.time) l.place (drop l.place l.calculations)
