use Rattle.std.proofs.Common.{◌≡◌, map, take}
use Rattle.std.specs.String.{string_bytes}
use Rattle.s3_day_log.specs.Inner.Tested.{sum_of}
use Rattle.s3_day_log.proofs.day_log.test_deck.Given as goal

abbrev pub invariant-loop-place : goal.invariant-loop-place
invariant-loop-place l = take l.place (map sum_of l.fn.logged) ≡ take l.place (map string_bytes l.fn.given)
