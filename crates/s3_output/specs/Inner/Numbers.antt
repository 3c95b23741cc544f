-- The bytes of a number in the form of its card.
use Rattle.std.specs.Prelude.{◌≡◌, ℕ, ◌<◌, ◌^◌, ℤ, true, false, unsigned_abs, List}
use Rattle.s3_program.specs.Operands.{number_fits}
use Rattle.s3_output.specs.declared.numbers.NumberForm.{NumberForm}
use Rattle.s3_output.specs.Inner.Contents.{number_put}

abbrev pub number_of : ℤ → NumberForm → List ℕ
number_of value form = number_put form.form false form.digits form.decimals value

-- the number fits its form, and the form fits before an end position
pub record FitsNumber (value : ℤ) (form : NumberForm) (end : ℕ) : Type 0 where
  pub below : unsigned_abs value < 10 ^ form.digits
  pub fits : number_fits form.form form.digits form.decimals end ≡ true
