-- The characters so far.
use Rattle.std.proofs.Common.{◌≡◌, ◌+◌, ◌++◌, take, length}
use Rattle.std.specs.Prelude.{map}
use Rattle.s3_cards.specs.Codes.{shown_byte}
use Rattle.s3_bureau.proofs.report.lay_pairs.Given as goal

abbrev pub invariant-loop-two : goal.invariant-loop-two
invariant-loop-two l = (take l.end l.room ++ map shown_byte l.rest ≡ take l.at l.initial.room ++ map shown_byte l.codes) × (l.end + length l.rest ≡ l.at + length l.codes)

abbrev pub decreases-loop-two : goal.decreases-loop-two
decreases-loop-two l = length l.rest
