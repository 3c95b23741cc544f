-- Those so far are of the level's own area or of the masters.
use Rattle.std.specs.List.{All}
use Rattle.s3_evidence.specs.Inner.About.{HasIndex}
use Rattle.s3_evidence.proofs.wanted.indexed_files.Given as goal

abbrev pub invariant-loop-statement : goal.invariant-loop-statement
invariant-loop-statement l = All (λ file. HasIndex l.fn.asked.level l.fn.asked.areas.now file.0 file.1) l.files.items
