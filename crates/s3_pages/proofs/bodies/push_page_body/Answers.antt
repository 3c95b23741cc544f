use Rattle.std.specs.Fmt.{decimal}
use Rattle.std.specs.Prelude.{codes}
use Rattle.s3_pages.specs.Inner.Bodies.{page_body}
use Rattle.s3_pages.proofs.Pieces.{five_pieces}
use Rattle.s3_pages.proofs.bodies.push_page_body.Goals as goal

pub returns : goal.returns
unfolding page_body
returns c =
    five_pieces c.args.text.now.items (codes "<< /Type /Page /Parent ") (decimal c.args.tree) (codes " 0 R /Contents ") (decimal c.args.contents) (codes " 0 R >>") _ _ _ _ _
    c.in_ok-extend_from_slice.ensures.items c.in_ok-push_number.ensures c.in_ok-extend_from_slice-2.ensures.items c.in_ok-push_number-2.ensures
    c.in_ok-extend_from_slice-3.ensures.items
