-- The cells so far are members.
use Rattle.std.proofs.Common.{◌≡◌, map, take}
use Rattle.s3_json_lines.specs.Inner.Values.{cell_seen, member_seen}
use Rattle.s3_json_lines.proofs.cell.members.Given as goal

abbrev pub invariant-loop-cell : goal.invariant-loop-cell
invariant-loop-cell l = map member_seen l.made.items ≡ map cell_seen (take l.cell-index l.cells)
