-- The values at the start of a job.
use Rattle.std.specs.Prelude.{◌≡◌, ℕ, ◌+◌, ◌*◌, ◌%◌, ◌<◌, nat_lt, Bool, ℤ, pos, List, map, length, replicate}
use Rattle.std.specs.List.{list_all}
use Rattle.s3_decimal.specs.declared.number.Form.{Form}
use Rattle.s3_lines.specs.declared.sheet.Shape.{Shape}
use Rattle.s3_lines.specs.Ranges.{shape_in_range}
use Rattle.s3_meaning.specs.Names.{udate, umonth, uday, uyear}
use Rattle.s3_meaning.specs.Environment.{Environment, put_number, date_part, at_first}
use Rattle.s3_program.specs.declared.program.Defined.{Defined}
use Rattle.s3_program.specs.declared.program.Program.{Program}
use Rattle.s3_program.specs.Inner.Stands.{source_named}
use Rattle.s3_operations.specs.Inner.Held.{digits_and_decimals, form_in_shape, held, IsSound}
use Rattle.s3_operations.specs.declared.values.Values.{Values}

-- Each part of the date fits its field of two digits. Six digits always fit. Bytes whose low half is above 9 may give more, up to 165,
-- which a field of two digits can't hold.
pub record IsDate (date : List ℕ) : Type 0 where
  pub month : date_part date 0 < 100
  pub day : date_part date 2 < 100
  pub year : date_part date 4 < 100

-- each byte has a digit in its low half
abbrev pub are_digits : List ℕ → Bool
are_digits date = list_all (λ byte. nat_lt (byte % 16) 10) date

-- the fields of the date get their numbers
abbrev pub with_date : List ℕ → Environment → Environment
with_date date e =
    put_number udate (pos (date_part date 0 * 10000 + date_part date 2 * 100 + date_part date 4))
    (put_number umonth (pos (date_part date 0))
    (put_number uday (pos (date_part date 2))
    (put_number uyear (pos (date_part date 4)) e)))

abbrev pub are_fields_in_range : List (Defined Shape) → Bool
are_fields_in_range fields = list_all (λ field. shape_in_range field.meaning) fields

-- a zero for each field, in its form
pub record IsZeros (fields : List (Defined Shape)) (zeros : List ℤ) (of : List Form) : Type 0 where
  pub numbers : zeros ≡ replicate (length fields) (pos 0)
  pub forms : map digits_and_decimals of ≡ map (λ field. form_in_shape field.meaning) fields

-- the environment `e` with the fields, the indicators and the remainder of another environment
abbrev pub with_values : Environment → Environment → Environment
with_values values e = record e { numbers = values.numbers; texts = values.texts; on = values.on; remainder = values.remainder }

-- at the start of a job, values are as in its first environment
pub record Begins (program : Program) (switches : ℕ) (date : List ℕ) (values : Values) : Type 0 where
  pub sound : IsSound program values
  pub held : (rest : Environment) → held program values rest ≡ with_values (at_first (source_named program) switches date) rest
