use Rattle.std.proofs.Common.{◌/◌}
use Rattle.std.specs.Fmt.{decimal}
use Rattle.std.specs.List.{flat_map, range_with_len}
use Rattle.std.specs.Prelude.{codes}
use Rattle.s3_pages.specs.Inner.Bodies.{label_turn, root_body}
use Rattle.s3_pages.proofs.Pieces.{five_pieces}
use Rattle.s3_pages.proofs.bodies.push_root.Goals as goal

pub returns : goal.returns
unfolding root_body
returns c =
    five_pieces c.args.text.now.items (codes "<< /Type /Catalog /Pages ") (decimal c.args.tree)
    (codes " 0 R /ViewerPreferences << /DisplayDocTitle true >> /PageLabels << /Nums [0 << /S /D >>") (flat_map label_turn (range_with_len 0 (c.args.count / 10000))) (codes "] >> >>") _ _ _ _ _
    c.in_ok-extend_from_slice.ensures.items c.in_ok-push_number.ensures c.in_ok-extend_from_slice-2.ensures.items c.in_ok-push_turns.ensures c.in_ok-extend_from_slice-3.ensures.items
