-- The characters so far.
use Rattle.std.proofs.Common.{◌≡◌, ◌+◌, ◌++◌, take, length}
use Rattle.std.specs.Prelude.{map}
use Rattle.s3_cards.specs.Codes.{shown_byte}
use Rattle.s3_bureau.proofs.report.lay_codes.Given as goal

abbrev pub invariant-loop-sixteen : goal.invariant-loop-sixteen
invariant-loop-sixteen l = (take l.end l.room ++ map shown_byte l.rest ≡ take l.at l.initial.room ++ map shown_byte l.codes) × (l.end + length l.rest ≡ l.at + length l.codes)

abbrev pub decreases-loop-sixteen : goal.decreases-loop-sixteen
decreases-loop-sixteen l = length l.rest
