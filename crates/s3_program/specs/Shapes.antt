-- The shapes of named fields, by kind and length.
use Rattle.std.specs.Prelude.{◌==◌, Bool, true, false, ◌&&◌, Option, Some, None}
use Rattle.s3_lines.specs.declared.sheet.Shape.{Shape}
use Rattle.s3_lines.specs.declared.sheet.Shape.TheVariants.{Alphanumeric, Numeric}
use Rattle.s3_program.specs.declared.program.Meaning.{Meaning}
use Rattle.s3_program.specs.declared.program.Meaning.TheVariants as a

-- the shape of a field, from its first definition
abbrev pub shape_meant : Meaning → Option Shape
shape_meant (a.Field field) = Some field.meaning
shape_meant _ = None

abbrev pub is_numeric_shape : Option Shape → Bool
is_numeric_shape (Some (Numeric digits decimals)) = true
is_numeric_shape _ = false

abbrev pub is_text_shape : Option Shape → Bool
is_text_shape (Some (Alphanumeric length)) = true
is_text_shape _ = false

abbrev pub same_shape : Shape → Shape → Bool
same_shape (Alphanumeric m) (Alphanumeric n) = m == n
same_shape (Numeric m d) (Numeric n e) = m == n && d == e
same_shape (Alphanumeric m) (Numeric n e) = false
same_shape (Numeric m d) (Alphanumeric n) = false

-- two shapes of the same kind and the same length, in bytes or digits
abbrev pub same_kind_and_length : Shape → Shape → Bool
same_kind_and_length (Alphanumeric m) (Alphanumeric n) = m == n
same_kind_and_length (Numeric m d) (Numeric n e) = m == n
same_kind_and_length (Alphanumeric m) (Numeric n e) = false
same_kind_and_length (Numeric m d) (Alphanumeric n) = false
