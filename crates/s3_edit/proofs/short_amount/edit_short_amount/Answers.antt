use Rattle.std.proofs.Common.{arith, refl, ◌≡◌, ◌+◌, ◌-◌, ◌∙◌, ap, length, get_or}
use Rattle.s3_edit.specs.Picture.{sign_width}
use Rattle.s3_edit.proofs.Joined.{joined}
use Rattle.s3_edit.proofs.Whole.{shown_body}
use Rattle.s3_edit.proofs.ShortLemmas.{some_shown, whole_room, wide, width_is}
use Rattle.s3_edit.proofs.short_amount.edit_short_amount.Goals as goal

pub blank-requires-clause-some : goal.blank-requires-clause-some
blank-requires-clause-some c = (wide c.args.style.now c.args.form.now.digits c.args.form.now.decimals (length c.args.text.now) c.args.form.now.has_digits c.args.form.now.within_longest c.requires.room).0

pub blank-requires-clause-few : goal.blank-requires-clause-few
blank-requires-clause-few c = (wide c.args.style.now c.args.form.now.digits c.args.form.now.decimals (length c.args.text.now) c.args.form.now.has_digits c.args.form.now.within_longest c.requires.room).1

pub put_body-requires-clause-fits : goal.put_body-requires-clause-fits
put_body-requires-clause-fits c =
    rw (c.from-decimals.ensures, c.sign_width.ensures.value, c.blank.auto.text) (whole_room c.args.style.now c.args.magnitude c.args.form.now.digits c.args.form.now.decimals (length c.args.text.now) c.requires.below c.args.form.now.decimals_within c.requires.room)

pub returns : goal.returns
returns c =
    let width = width_is c.args.style.now c.args.form.now.digits c.args.form.now.decimals (length c.args.text.now) c.requires.room in
    let body = length c.blank.new.text - c.sign_width.result in
    λ p l.
    let at : length c.args.text.now - 1 - p ≡ body + sign_width c.args.style.now.sign - 1 - p = omega (arith, width, c.sign_width.ensures.value, c.blank.auto.text) in
    rw (← c.from-decimals.ensures)
    (ap (λ i. get_or c.put_body.new.text i 0) at
    ∙ joined c.args.style.now c.from-decimals.result c.args.negative c.args.magnitude body c.put_body.new.text c.put_body.new.text
    (λ k h. c.put_body.ensures.picture k h ∙ shown_body c.args.style.now c.from-decimals.result c.args.magnitude k (some_shown c.args.style.now c.args.magnitude c.requires.some))
    (λ k h. c.put_body.ensures.rest (body + sign_width c.args.style.now.sign - 1 - k) (omega (arith, h)) ∙ c.edit_sign.ensures.picture k h) (λ i h. refl) p (omega (arith, l, width, c.sign_width.ensures.value, c.blank.auto.text)))
