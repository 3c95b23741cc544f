use Rattle.std.proofs.Common.{arith, ◌≡◌, ◌^◌, ◌%◌, ◌∙◌, ap, sym, length, min, refl, unsigned_abs}
use Rattle.s3_decimal.specs.Exact.{is_negative}
use Rattle.s3_decimal.specs.Records.{zoned_bytes}
use Rattle.s3_decimal.proofs.DigitsMoved.{low_zoned, moved_is}
use Rattle.s3_decimal.proofs.DigitsWritten.{length-zoned_bytes, zoned_last}
use Rattle.s3_decimal.proofs.moving.move_to.Goals as goal

pub returns-clause-value : goal.returns-clause-value
returns-clause-value c =
    let s = c.args.source in
    let t = c.args.target in
    let places = c.min-places.result in
    let shorter : places ≡ min (length (zoned_bytes (is_negative s.value) s.digits (unsigned_abs s.value))) t.digits =
    c.min-places.ensures ∙ ap (λ k. min k t.digits) (sym (length-zoned_bytes (is_negative s.value) s.digits (unsigned_abs s.value))) in
    let low = low_zoned (is_negative s.value) s.digits places (unsigned_abs s.value) (omega arith) in
    let number = moved_is (zoned_bytes (is_negative s.value) s.digits (unsigned_abs s.value)) t.digits t.value places (unsigned_abs s.value % 10 ^ places) shorter t.within_digits low in
    let magnitude : c.unsigned_abs.result ≡ unsigned_abs s.value = grind arith in
    rw (zoned_last (is_negative s.value) s.digits (unsigned_abs s.value) s.has_digits, ← number)
    (rw (c.replaced.ensures.value, c.is_negative.ensures, magnitude, c.short_power_of_ten.ensures.value) refl)
