use Rattle.std.proofs.Common.{arith, ◌≡◌, ◌+◌, ◌-◌, ◌/◌, ◌^◌, ◌∙◌, ap, sym, get_or}
use Rattle.s3_edit.specs.Inner.Passes.{whole_at}
use Rattle.s3_edit.specs.Picture.{point_width}
use Rattle.s3_edit.proofs.Whole.{end_written, part, point_fits, side_by_side, whole_part}
use Rattle.s3_edit.proofs.amount.edit_parts.Goals as goal

pub returns-clause-picture : goal.returns-clause-picture
returns-clause-picture c =
    let fits = point_fits c.args.decimals c.args.width c.requires.unit in
    let end : c.edit_point-end.result ≡ c.args.width - (c.args.decimals + point_width c.args.decimals) = omega (arith, c.edit_point-end.ensures.end) in
    side_by_side (λ k. part c.args.commas c.args.decimals c.args.magnitude k) (λ k. whole_at c.args.commas (c.args.magnitude / 10 ^ c.args.decimals) k) c.args.width (c.args.decimals + point_width c.args.decimals) c.edit_point-end.new.out c.edit_whole.new.out fits
    (λ k. whole_part c.args.commas c.args.decimals c.args.magnitude k c.requires.digit)
    (end_written c.args.commas c.args.decimals c.args.magnitude c.args.width c.edit_digits-whole.new.out c.edit_point-end.new.out c.requires.unit c.edit_digits-whole.ensures.digits c.edit_point-end.ensures.point c.edit_point-end.ensures.rest)
    (λ k h. ap (λ i. get_or c.edit_whole.new.out (i - 1 - k) 0) (sym end) ∙ c.edit_whole.ensures.picture k (omega (arith, h, end)) ∙ ap (λ v. whole_at c.args.commas v k) c.edit_digits-whole.ensures.left)
    (λ i h. c.edit_whole.ensures.rest i (omega (arith, h, end)))
