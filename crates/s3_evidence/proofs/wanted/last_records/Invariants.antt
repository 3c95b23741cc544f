-- Those so far are of files that the job has in use.
use Rattle.std.specs.List.{All}
use Rattle.s3_evidence.specs.Inner.About.{IsInUse}
use Rattle.s3_evidence.proofs.wanted.last_records.Given as goal

abbrev pub invariant-loop-line : goal.invariant-loop-line
invariant-loop-line g l = All (λ one. IsInUse l.fn.level l.fn.bureau one.label) l.records.items
