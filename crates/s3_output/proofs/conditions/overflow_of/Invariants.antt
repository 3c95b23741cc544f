use Rattle.std.proofs.Common.{◌≡◌, drop}
use Rattle.s3_meaning.specs.Source.{overflow_of}
use Rattle.s3_output.proofs.conditions.overflow_of.Given as goal

abbrev pub invariant-loop-file : goal.invariant-loop-file
invariant-loop-file l = overflow_of l.files ≡ overflow_of (drop l.file-index l.files)
