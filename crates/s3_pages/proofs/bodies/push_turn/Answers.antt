use Rattle.std.proofs.Common.{◌+◌, ◌*◌, ◌++◌, ap, ◌∙◌}
use Rattle.std.specs.Fmt.{decimal}
use Rattle.std.specs.Prelude.{codes}
use Rattle.s3_pages.specs.Inner.Bodies.{label_turn}
use Rattle.s3_pages.proofs.Pieces.{five_pieces}
use Rattle.s3_pages.proofs.bodies.push_turn.Goals as goal

pub returns : goal.returns
unfolding label_turn
returns c =
    five_pieces c.args.text.now.items (codes " ") (decimal (10000 * c.args.turn + 9999)) (codes " << /P (0) >> ") (decimal (10000 * c.args.turn + 10000)) (codes " << /S /D >>") _ _ _ _ _
    c.in_ok-push.ensures.items (c.in_ok-push_number.ensures ∙ ap (λ n. c.push.new.self.items ++ decimal (10000 * n + 9999)) c.from-before.ensures)
    c.in_ok-extend_from_slice.ensures.items
    (c.in_ok-push_number-2.ensures ∙ ap (λ n. c.extend_from_slice.new.self.items ++ decimal (10000 * n + 10000)) c.from-before.ensures)
    c.in_ok-extend_from_slice-2.ensures.items
