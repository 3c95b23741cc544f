use Rattle.std.proofs.Common.{◌++◌, ap, ◌∙◌}
use Rattle.std.specs.Fmt.{decimal}
use Rattle.std.specs.List.{flat_map, range_with_len}
use Rattle.std.specs.Prelude.{codes}
use Rattle.s3_pages.specs.Inner.Bodies.{kid, tree_body}
use Rattle.s3_pages.specs.Inner.Sizes.{tree_head}
use Rattle.s3_pages.proofs.Pieces.{five_pieces}
use Rattle.s3_pages.proofs.bodies.push_tree.Goals as goal

pub returns : goal.returns
unfolding tree_body
returns c =
    five_pieces c.args.text.now.items (tree_head c.args.size) (decimal c.args.count) (codes " /Kids [")
    (flat_map kid (range_with_len 0 c.args.count)) (codes "] >>") _ _ _ _ _
    (c.in_ok-extend_from_slice.ensures.items ∙ ap (λ head. c.args.text.now.items ++ head) c.tree_head.ensures) (c.in_ok-push_number.ensures ∙ ap (λ n. c.extend_from_slice.new.self.items ++ decimal n) c.from.ensures) c.in_ok-extend_from_slice-2.ensures.items c.in_ok-push_kids.ensures c.in_ok-extend_from_slice-3.ensures.items
