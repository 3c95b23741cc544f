-- The numbers so far are values.
use Rattle.std.proofs.Common.{◌≡◌, map, take}
use Rattle.s3_json_lines.specs.Inner.Values.{json_of, whole}
use Rattle.s3_json_lines.proofs.value.numbers.Given as goal

abbrev pub invariant-loop-number : goal.invariant-loop-number
invariant-loop-number l = map json_of l.values.items ≡ map whole (take l.number-index l.numbers)
