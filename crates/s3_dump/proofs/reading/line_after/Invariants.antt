use Rattle.std.proofs.Common.{◌≡◌, ◌≤◌, ◌+◌, take}
use Rattle.s3_dump.specs.Inner.Dumps.{line_after as line_after_spec}
use Rattle.s3_dump.proofs.reading.line_after.Given as goal

abbrev pub invariant-loop-character : goal.invariant-loop-character
invariant-loop-character l = (l.line ≡ line_after_spec (take l.character-index l.text)) × (l.line ≤ l.character-index + 1)
