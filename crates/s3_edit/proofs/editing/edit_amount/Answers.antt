use Rattle.std.proofs.Common.{◌≡◌, ◌≤◌, ◌+◌, ◌-◌, arith, ap, ◌∙◌, refl, sym, get_or, length, unsigned_abs, FitsSigned, w64, rules, take, drop}
use Rattle.std.proofs.lemmas.Int.{to_z-of_z}
use Rattle.s3_decimal.specs.Exact.{is_negative}
use Rattle.std.proofs.lemmas.List.{get_or_append_left, length-take-le}
use Rattle.s3_edit.specs.declared.code.EditCode.TheVariants.{Edited}
use Rattle.s3_edit.specs.Picture.{amount_at, sign_width}
use Rattle.s3_edit.proofs.Joined.{joined}
use Rattle.s3_edit.proofs.Widths.{fitting}
use Rattle.s3_edit.proofs.editing.edit_amount.Goals as goal

pub returns-in-Some-clause-picture : goal.returns-in-Some-clause-picture
returns-in-Some-clause-picture c = λ place l.
    let w = c.body_width-body.result + c.sign_width.result in
    let is = fitting (Edited c.args.style) (Edited c.args.style) c.args.number.digits c.args.number.decimals (length c.args.out.now) refl c.requires in
    let body = rw (c.from.ensures, c.from-decimals.ensures) at c.body_width-body.ensures.value in
    let room : w ≤ length c.args.out.now = omega (arith, is.fits, body, c.sign_width.ensures.value) in
    let long : length (take w c.args.out.now) ≡ w = length-take-le w c.args.out.now room in
    let written : length c.edit_short_amount.new.text ≡ w = omega (arith, c.edit_short_amount.auto.text, long) in
    get_or_append_left c.edit_short_amount.new.text (drop w c.args.out.now) 0 (w - 1 - place) (omega (arith, l, written))
    ∙ ap (λ n. get_or c.edit_short_amount.new.text (n - 1 - place) 0) (sym long)
    ∙ c.edit_short_amount.ensures place (omega (arith, l, long))
    ∙ ap (λ b. amount_at c.args.style c.args.number.decimals b c.in-Some.magnitude place) c.is_negative.ensures
    ∙ ap (λ n. amount_at c.args.style c.args.number.decimals (is_negative c.args.number.value) n place) c.in-Some.ensures.0

pub returns-clause-picture : goal.returns-clause-picture
returns-clause-picture c =
    let fits : FitsSigned w64 c.args.number.value = search rules in
    let n : c.unsigned_abs.result ≡ unsigned_abs c.args.number.value = c.unsigned_abs.ensures.value ∙ ap unsigned_abs (to_z-of_z w64 c.args.number.value fits) in
    let sign = c.sign_width.ensures.value in
    rw (sign, ← n, ← c.is_negative-2.ensures, ← c.from-decimals.ensures)
    (joined c.args.style c.from-decimals.result c.is_negative-2.result c.unsigned_abs.result c.body_width-body.result c.edit_body.new.out c.edit_sign.new.out
    c.edit_body.ensures.picture c.edit_sign.ensures.picture c.edit_sign.ensures.before)
