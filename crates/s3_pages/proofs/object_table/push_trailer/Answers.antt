use Rattle.std.proofs.Common.{◌+◌, ◌-◌, ◌++◌, ap, ◌∙◌}
use Rattle.std.specs.Fmt.{decimal}
use Rattle.std.specs.Prelude.{codes}
use Rattle.s3_pages.specs.Inner.Objects.{trailer_text}
use Rattle.s3_pages.proofs.Pieces.{nine_pieces}
use Rattle.s3_pages.proofs.object_table.push_trailer.Goals as goal

pub returns : goal.returns
unfolding trailer_text
returns c =
    nine_pieces c.args.text.now.items (codes "trailer\n<< /Size ") (decimal (c.args.count + 1)) (codes " /Root ") (decimal (c.args.count - 1)) (codes " 0 R /Info ") (decimal c.args.count)
    (codes " 0 R >>\nstartxref\n") (decimal c.args.at) (codes "\n%%EOF\n") _ _ _ _ _ _ _ _ _
    c.in_ok-extend_from_slice.ensures.items c.in_ok-push_number.ensures c.in_ok-extend_from_slice-2.ensures.items
    (c.in_ok-push_number-2.ensures ∙ ap (λ n. c.extend_from_slice-2.new.self.items ++ decimal n) c.saturating_sub.ensures) c.in_ok-extend_from_slice-3.ensures.items
    c.in_ok-push_number-3.ensures c.in_ok-extend_from_slice-4.ensures.items c.in_ok-push_number-4.ensures c.in_ok-extend_from_slice-5.ensures.items
