use Rattle.std.proofs.Common.{◌≡◌, ◌++◌, take}
use Rattle.s3_diagnose.specs.Diagnostics.{found_on}
use Rattle.s3_diagnose.specs.Inner.Shown.{known_shown}
use Rattle.s3_diagnose.proofs.diagnose.diagnose.Given as goal

abbrev pub invariant-loop-number : goal.invariant-loop-number
invariant-loop-number l =
    l.found.items ≡ l.fn.found.items ++ found_on (known_shown l.known) l.at l.later l.card l.line (take l.number-index l.numbers)
