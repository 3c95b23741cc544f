use Rattle.std.proofs.Common.{◌≡◌, ◌≤◌, take, length}
use Rattle.s3_cells.specs.Inner.Texts.{trimmed}
use Rattle.s3_cells.proofs.texts.trimmed_len.Given as goal

abbrev pub invariant-loop-end : goal.invariant-loop-end
invariant-loop-end l = record {
  within : l.«end» ≤ length l.text;
  same : trimmed (take l.«end» l.text) ≡ trimmed l.text;
}

abbrev pub decreases-loop-end : goal.decreases-loop-end
decreases-loop-end l = l.«end»
