-- The lines so far, and those that are left.
use Rattle.std.proofs.Common.{◌+◌, ◌≤◌, length}
use Rattle.std.specs.Str.Lines.{lines}
use Rattle.s3_punch.proofs.StepLemmas.{IsRead}
use Rattle.s3_punch.proofs.deck.punch_lines.Given as goal

abbrev pub invariant-loop-bytes : goal.invariant-loop-bytes
invariant-loop-bytes l = IsRead l.begun l.text l.line l.punched (lines l.rest) × (l.line + length l.rest ≤ length l.text)

abbrev pub decreases-loop-bytes : goal.decreases-loop-bytes
decreases-loop-bytes l = length l.rest
