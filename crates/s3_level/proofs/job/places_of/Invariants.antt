use Rattle.std.proofs.Common.{◌≡◌, take}
use Rattle.s3_level.specs.Inner.Holds.{places_of}
use Rattle.s3_level.proofs.job.places_of.Given as goal

abbrev pub invariant-loop-line : goal.invariant-loop-line
invariant-loop-line l = l.places.items ≡ places_of (take l.line-index l.lines) l.job_files.files.items
