use Rattle.std.proofs.Common.{◌++◌, ap, ◌∙◌}
use Rattle.std.specs.Fmt.{decimal}
use Rattle.std.specs.Prelude.{codes}
use Rattle.s3_pages.specs.Inner.Shown.{shown}
use Rattle.s3_pages.specs.Inner.Drawing.{baseline, drawn, text_in}
use Rattle.s3_pages.proofs.Pieces.{five_pieces}
use Rattle.s3_pages.proofs.drawing.push_line.Goals as goal

pub returns : goal.returns
unfolding drawn
returns c =
    five_pieces c.args.text.now.items (codes "1 0 0 1 60.3 ") (decimal (baseline c.args.line.now)) (codes " Tm ") (text_in (shown c.args.line.now)) (codes " Tj\n") _ _ _ _ _
    c.in_ok-extend_from_slice.ensures.items
    (c.in_ok-push_number.ensures ∙ ap (λ n. c.extend_from_slice.new.self.items ++ decimal n) c.baseline.ensures)
    c.in_ok-extend_from_slice-2.ensures.items
    (c.in_ok-push_text.ensures ∙ ap (λ bytes. c.extend_from_slice-2.new.self.items ++ text_in bytes)
    (c.as_slice.ensures.value ∙ c.in_ok-push_shown.ensures ∙ ap (λ room. room ++ shown c.args.line.now) c.clear.ensures.items))
    c.in_ok-extend_from_slice-3.ensures.items
