use Rattle.std.proofs.Common.{arith, ◌≡◌, ◌+◌, ◌-◌, ◌/◌, ◌^◌, ◌∙◌, ap, sym, get_or}
use Rattle.s3_edit.specs.Inner.Passes.{whole_at}
use Rattle.s3_edit.specs.Picture.{point_width}
use Rattle.s3_edit.proofs.Whole.{end_written, part, point_fits, side_by_side, whole_part}
use Rattle.s3_edit.proofs.short_amount.put_body.Goals as goal

pub returns-clause-picture : goal.returns-clause-picture
returns-clause-picture c =
    let fits = point_fits c.args.decimals c.args.width c.requires.unit in
    let end : c.put_point-end.result ≡ c.args.width - (c.args.decimals + point_width c.args.decimals) = omega (arith, c.put_point-end.ensures.end) in
    side_by_side (λ k. part c.args.commas c.args.decimals c.args.magnitude k) (λ k. whole_at c.args.commas (c.args.magnitude / 10 ^ c.args.decimals) k) c.args.width (c.args.decimals + point_width c.args.decimals) c.put_point-end.new.text c.put_whole.new.text fits
    (λ k. whole_part c.args.commas c.args.decimals c.args.magnitude k (λ h. c.requires.some))
    (end_written c.args.commas c.args.decimals c.args.magnitude c.args.width c.put_decimals-whole.new.text c.put_point-end.new.text c.requires.unit c.put_decimals-whole.ensures.digits c.put_point-end.ensures.point c.put_point-end.ensures.rest)
    (λ k h. ap (λ i. get_or c.put_whole.new.text (i - 1 - k) 0) (sym end) ∙ c.put_whole.ensures.picture k (omega (arith, h, end)) ∙ ap (λ v. whole_at c.args.commas v k) c.put_decimals-whole.ensures.left)
    (λ i h. c.put_whole.ensures.rest i (omega (arith, h, end)))
