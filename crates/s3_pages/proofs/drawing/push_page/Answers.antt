use Rattle.std.proofs.Common.{◌++◌, ap, ◌∙◌}
use Rattle.std.specs.List.{flat_map}
use Rattle.std.specs.Prelude.{codes}
use Rattle.s3_pages.specs.Inner.Drawing.{drawn, drawn_page}
use Rattle.s3_pages.specs.Inner.Sizes.{page_head}
use Rattle.s3_pages.proofs.Pieces.{three_pieces}
use Rattle.s3_pages.proofs.drawing.push_page.Goals as goal

pub returns : goal.returns
unfolding drawn_page
returns c =
    three_pieces c.args.text.now.items (page_head c.args.size) (flat_map drawn c.args.page.now) (codes "ET") _ _ _
    (c.in_ok-extend_from_slice.ensures.items ∙ ap (λ head. c.args.text.now.items ++ head) c.page_head.ensures) c.in_ok-push_lines.ensures c.in_ok-extend_from_slice-2.ensures.items
