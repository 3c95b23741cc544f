use Rattle.std.proofs.Common.{refl, ◌≡◌, ◌^◌, ◌%◌, unsigned_abs, ap, sym, to_z, of_z}
use Rattle.std.specs.Int.{w64}
use Rattle.std.proofs.lemmas.Int.{to_z-of_z}
use Rattle.s3_decimal.proofs.Scaling.{stored_is, units_alike}
use Rattle.s3_decimal.proofs.scale.store_units.Goals as goal

pub returns-clause-value : goal.returns-clause-value
returns-clause-value c = λ rounding.
    let whole : to_z w64 (of_z w64 c.args.value) ≡ c.args.value = to_z-of_z w64 c.args.value c.ranges.value in
    let kept = rw whole at c.kept.ensures.value in
    let magnitude : c.unsigned_abs.result ≡ unsigned_abs c.args.value = rw whole at c.unsigned_abs.ensures.value in
    rw kept
    (stored_is rounding c.args.form.digits c.args.form.decimals c.args.form.decimals c.from.result c.args.value
    (rw (c.from.ensures, magnitude) (ap (λ t. t % 10 ^ c.args.form.digits) (sym (units_alike rounding c.args.form.decimals c.args.form.decimals (unsigned_abs c.args.value) refl)))))
