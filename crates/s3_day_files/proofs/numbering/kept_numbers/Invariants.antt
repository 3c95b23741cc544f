use Rattle.std.proofs.Common.{◌≡◌, take}
use Rattle.s3_day_files.specs.Inner.Numbering.{packs_from}
use Rattle.s3_day_files.proofs.numbering.kept_numbers.Given as goal

-- the numbers so far are those of the packs that were passed
abbrev pub invariant-loop-before : goal.invariant-loop-before
invariant-loop-before l = l.numbers.items ≡ packs_from 1 (take l.before l.listed)
