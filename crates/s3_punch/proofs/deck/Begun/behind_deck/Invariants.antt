-- The part so far, and the lines that are left.
use Rattle.std.proofs.Common.{◌≡◌, ◌≤◌, length}
use Rattle.std.specs.List.{fold}
use Rattle.std.specs.Str.Lines.{lines}
use Rattle.s3_punch.specs.Inner.Parts.{part_behind}
use Rattle.s3_punch.proofs.deck.Begun.behind_deck.Given as goal

abbrev pub invariant-loop-line : goal.invariant-loop-line
invariant-loop-line l = (fold part_behind l.part (lines l.rest) ≡ fold part_behind l.self.part (lines l.text)) × (l.cards ≤ 9999)

abbrev pub decreases-loop-line : goal.decreases-loop-line
decreases-loop-line l = length l.rest
