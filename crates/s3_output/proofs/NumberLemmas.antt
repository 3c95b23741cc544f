-- The width of a written number, and that it fits before its end position.
use Rattle.std.proofs.Common.{◌≡◌, ℕ, zero, suc, ◌+◌, ◌/◌, ◌≤◌, List, Bool, true, false, length, take, refl, sym, ◌∙◌, ap, subst, arith}
use Rattle.std.specs.Prelude.{ℤ, unsigned_abs, Option, Some, None, unwrap_or, nat_le}
use Rattle.std.proofs.lemmas.Bool.{true≢false}
use Rattle.std.proofs.lemmas.Bool.Decides.{nat_tests}
use Rattle.std.proofs.lemmas.List.{take_all}
use Rattle.s3_decimal.specs.Exact.{is_negative}
use Rattle.s3_decimal.specs.Records.{packed_bytes, zoned_bytes}
use Rattle.s3_edit.specs.declared.code.EditCode.{EditCode}
use Rattle.s3_edit.specs.Picture.{pictured, width_of}
use Rattle.s3_lines.specs.declared.sheet.OutputForm.{OutputForm}
use Rattle.s3_lines.specs.declared.sheet.OutputForm.TheVariants.{Plain, Packed, Edited}
use Rattle.s3_meaning.specs.Output.{edited}
use Rattle.s3_program.specs.Operands.{is_within_end, number_fits}
use Rattle.s3_output.specs.declared.numbers.NumberForm.{NumberForm}
use Rattle.s3_output.specs.Inner.Contents.{edited_width, number_put, number_width}
use Rattle.s3_output.specs.Inner.Numbers.{FitsNumber, number_of}

-- ---- the width of a written number
length_zoned : (b : Bool) (n v : ℕ) → length (zoned_bytes b n v) ≡ n
length_zoned b zero v = refl
length_zoned b (suc n) v = ap (λ k. suc k) (length_zoned b n v)

length_packed : (b : Bool) (n v : ℕ) → length (packed_bytes b n v) ≡ n
length_packed b zero v = refl
length_packed b (suc n) v = ap (λ k. suc k) (length_packed b n v)

length_pictured : (code : EditCode) (decimals : ℕ) (b : Bool) (v n : ℕ) → length (pictured code decimals b v n) ≡ n
length_pictured code decimals b v zero = refl
length_pictured code decimals b v (suc n) = ap (λ k. suc k) (length_pictured code decimals b v n)

number_length : (form : OutputForm) (digits decimals : ℕ) (v : ℤ) → length (number_put form false digits decimals v) ≡ number_width form digits decimals
number_length Plain digits decimals v = length_zoned (is_negative v) digits (unsigned_abs v)
number_length Packed digits decimals v = length_packed (is_negative v) (digits / 2 + 1) (unsigned_abs v)
number_length (Edited code) digits decimals v = length_pictured code decimals (is_negative v) (unsigned_abs v) (edited_width code digits decimals)

pub laid_length : (value : ℤ) (form : NumberForm) → form.width ≡ length (number_of value form)
laid_length value form = form.has_positions ∙ sym (number_length form.form form.digits form.decimals value)

least : (m n : ℕ) → nat_le m n ≡ true → m ≤ n
least m n h = grind (arith, nat_tests, h)

width_least : (form : OutputForm) (digits decimals end : ℕ) → number_fits form digits decimals end ≡ true → number_width form digits decimals ≤ end
width_least Plain digits decimals end h = least digits end h
width_least Packed digits decimals end h = least (digits / 2 + 1) end h
width_least (Edited code) digits decimals end h = by (width_of code digits decimals) h
  where
    by : (o : Option ℕ) → is_within_end end o ≡ true → unwrap_or o 0 ≤ end
    by None h = absurd (true≢false (sym h))
    by (Some n) h = least n end h

pub laid_begins : (value : ℤ) (form : NumberForm) (end : ℕ) → FitsNumber value form end → form.width ≤ end
laid_begins value form end fits = subst (λ k. k ≤ end) (sym form.has_positions) (width_least form.form form.digits form.decimals end fits.fits)

pub edited_all : (code : EditCode) (value : ℤ) (digits decimals : ℕ) (bytes : List ℕ) (w : ℕ) → width_of code digits decimals ≡ Some w → length bytes ≡ edited_width code digits decimals
    → take w bytes ≡ pictured code decimals (is_negative value) (unsigned_abs value) w → bytes ≡ edited code digits decimals value
edited_all code value digits decimals bytes w wide long written =
    let e : length bytes ≡ w = long ∙ ap (λ o. unwrap_or o 0) wide in
    sym (take_all w bytes (omega (arith, e))) ∙ (written ∙ ap (λ o. pictured code decimals (is_negative value) (unsigned_abs value) (unwrap_or o 0)) (sym wide))
