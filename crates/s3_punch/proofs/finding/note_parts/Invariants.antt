-- What is wrong with the parts so far, and with those that are left.
use Rattle.std.proofs.Common.{◌≡◌, ◌+◌, ◌≤◌, ◌++◌, [], length, vec_items}
use Rattle.std.specs.List.{slice_split}
use Rattle.std.specs.Option.{option_map, option_map_or}
use Rattle.s3_punch.specs.Inner.Cards.{is_zero}
use Rattle.s3_punch.specs.Inner.Faults.{part_faults}
use Rattle.s3_punch.specs.Inner.Pieces.{parts_left}
use Rattle.s3_punch.proofs.finding.note_parts.Given as goal

abbrev pub invariant-loop-left : goal.invariant-loop-left
invariant-loop-left l =
    (vec_items l.faults ++ part_faults l.line l.column (vec_items l.card) (parts_left (option_map (λ rest. rest.now) l.left))
    ≡ vec_items l.initial.faults ++ part_faults l.line 2 [] (slice_split is_zero l.text))
    × (l.column + option_map_or (λ rest. length rest.now + 1) l.left 0 ≤ length l.text + 3)

abbrev pub decreases-loop-left : goal.decreases-loop-left
decreases-loop-left l = option_map_or (λ rest. length rest.now + 1) l.left 0
