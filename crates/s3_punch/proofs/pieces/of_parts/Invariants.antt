-- The card so far, and the parts that are left.
use Rattle.std.proofs.Common.{◌≡◌, ◌+◌, [], length, vec_items}
use Rattle.std.specs.List.{fold, slice_split}
use Rattle.std.specs.Option.{option_map, option_map_or}
use Rattle.s3_punch.specs.Inner.Cards.{is_zero, piece_of, with_piece}
use Rattle.s3_punch.specs.Inner.Pieces.{parts_left}
use Rattle.s3_punch.proofs.pieces.of_parts.Given as goal

abbrev pub invariant-loop-left : goal.invariant-loop-left
invariant-loop-left l =
    fold (λ card part. with_piece card (piece_of part)) (vec_items l.card) (parts_left (option_map (λ rest. rest.now) l.left))
    ≡ fold (λ card part. with_piece card (piece_of part)) [] (slice_split is_zero l.text)

abbrev pub decreases-loop-left : goal.decreases-loop-left
decreases-loop-left l = option_map_or (λ rest. length rest.now + 1) l.left 0
