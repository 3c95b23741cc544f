use Rattle.std.proofs.Common.{◌≡◌, length, unsigned_abs, rules, ap, ◌∙◌, refl, FitsSigned, w64}
use Rattle.std.proofs.lemmas.Int.{to_z-of_z}
use Rattle.s3_edit.specs.declared.code.EditCode.TheVariants.{Zoned, Date, Suppressed}
use Rattle.s3_edit.proofs.Widths.{date_fits, fitting, width_known}
use Rattle.s3_edit.proofs.editing.edit_places.Goals as goal

pub edit_plain-requires : goal.edit_plain-requires
edit_plain-requires c =
    rw c.from-digits.ensures (fitting c.args.code Zoned c.args.number.digits c.args.number.decimals (length c.args.out.now) c.in-Zoned.is c.requires).fits

pub edit_plain-requires-in-Date : goal.edit_plain-requires-in-Date
edit_plain-requires-in-Date c =
    (date_fits c.args.number.digits c.args.number.decimals (length c.args.out.now) (fitting c.args.code Date c.args.number.digits c.args.number.decimals (length c.args.out.now) c.in-Date.is c.requires)).1

pub edit_plain-requires-in-Suppressed : goal.edit_plain-requires-in-Suppressed
edit_plain-requires-in-Suppressed c =
    rw c.from-digits.ensures (fitting c.args.code Suppressed c.args.number.digits c.args.number.decimals (length c.args.out.now) c.in-Suppressed.is c.requires).fits

pub returns-in-Zoned-clause-width : goal.returns-in-Zoned-clause-width
returns-in-Zoned-clause-width c =
    let is = fitting c.args.code Zoned c.args.number.digits c.args.number.decimals (length c.args.out.now) c.in-Zoned.is c.requires in
    rw c.from-digits.ensures (width_known c.args.code Zoned c.args.number.digits c.args.number.decimals _ c.in-Zoned.is is.is_form refl)

pub returns-in-Zoned-clause-picture : goal.returns-in-Zoned-clause-picture
returns-in-Zoned-clause-picture c =
    let fits : FitsSigned w64 c.args.number.value = search rules in
    let n : c.unsigned_abs-magnitude.result ≡ unsigned_abs c.args.number.value = c.unsigned_abs-magnitude.ensures.value ∙ ap unsigned_abs (to_z-of_z w64 c.args.number.value fits) in
    rw (c.in-Zoned.is, ← n, ← c.is_negative-negative.ensures) c.edit_plain.ensures.picture

pub returns-in-Zoned-clause-rest : goal.returns-in-Zoned-clause-rest
returns-in-Zoned-clause-rest c = c.edit_plain.ensures.rest

pub returns-in-Date-clause-width : goal.returns-in-Date-clause-width
returns-in-Date-clause-width c =
    let is = fitting c.args.code Date c.args.number.digits c.args.number.decimals (length c.args.out.now) c.in-Date.is c.requires in
    width_known c.args.code Date c.args.number.digits c.args.number.decimals 8 c.in-Date.is is.is_form (date_fits c.args.number.digits c.args.number.decimals (length c.args.out.now) is).0

pub returns-in-Date-clause-picture : goal.returns-in-Date-clause-picture
returns-in-Date-clause-picture c =
    let fits : FitsSigned w64 c.args.number.value = search rules in
    let n : c.unsigned_abs-magnitude.result ≡ unsigned_abs c.args.number.value = c.unsigned_abs-magnitude.ensures.value ∙ ap unsigned_abs (to_z-of_z w64 c.args.number.value fits) in
    rw (c.in-Date.is, ← n) c.edit_plain-in-Date.ensures.picture

pub returns-in-Date-clause-rest : goal.returns-in-Date-clause-rest
returns-in-Date-clause-rest c = c.edit_plain-in-Date.ensures.rest

pub returns-in-Suppressed-clause-width : goal.returns-in-Suppressed-clause-width
returns-in-Suppressed-clause-width c =
    let is = fitting c.args.code Suppressed c.args.number.digits c.args.number.decimals (length c.args.out.now) c.in-Suppressed.is c.requires in
    rw c.from-digits.ensures (width_known c.args.code Suppressed c.args.number.digits c.args.number.decimals _ c.in-Suppressed.is is.is_form refl)

pub returns-in-Suppressed-clause-picture : goal.returns-in-Suppressed-clause-picture
returns-in-Suppressed-clause-picture c =
    let fits : FitsSigned w64 c.args.number.value = search rules in
    let n : c.unsigned_abs-magnitude.result ≡ unsigned_abs c.args.number.value = c.unsigned_abs-magnitude.ensures.value ∙ ap unsigned_abs (to_z-of_z w64 c.args.number.value fits) in
    rw (c.in-Suppressed.is, ← n) c.edit_plain-in-Suppressed.ensures.picture

pub returns-in-Suppressed-clause-rest : goal.returns-in-Suppressed-clause-rest
returns-in-Suppressed-clause-rest c = c.edit_plain-in-Suppressed.ensures.rest
