-- The fields of lines of the I sheet.
use Rattle.std.specs.Prelude.{◌≡◌, ◌+◌, ◌-◌, ℕ, List, Option, Some, None, map, false}
use Rattle.std.specs.List.{All, IsDistinct}
use Rattle.s3_cards.specs.Names.{same_name}
use Rattle.s3_cards.specs.declared.name.Name.{Name}
use Rattle.s3_cells.specs.Inner.Fields.{LiesIn}
use Rattle.s3_cells.specs.declared.field.Field.{Field}
use Rattle.s3_cells.specs.declared.kind.FieldKind.{FieldKind}
use Rattle.s3_cells.specs.declared.marks.DecimalMark.TheVariants.{Point}
use Rattle.s3_cells.specs.declared.marks.NumberCells.{NumberCells}
use Rattle.s3_cells.specs.declared.marks.TextCells.{TextCells}
use Rattle.s3_cells.specs.declared.marks.Thousands.TheVariants.{Nothing}
use Rattle.s3_cells.specs.declared.kind.FieldKind.TheVariants.{Text, Zoned as ZonedKind, Packed as PackedKind}
use Rattle.s3_lines.specs.declared.sheet.FieldForm.{FieldForm}
use Rattle.s3_lines.specs.declared.sheet.FieldForm.TheVariants.{Alphanumeric, Zoned, Packed, PackedText}
use Rattle.s3_lines.specs.declared.sheet.FieldLine.{FieldLine}

-- cells as they are without options
abbrev pub plain_text : TextCells
plain_text = record { safe = false; capitals = false }

abbrev pub plain_number : NumberCells
plain_number = record { decimal = Point; thousands = Nothing }

-- P without decimals is of no field that a table shows
abbrev pub kind_of : FieldForm → Option FieldKind
kind_of Alphanumeric = Some (Text plain_text)
kind_of (Zoned decimals) = Some (ZonedKind decimals plain_number)
kind_of (Packed decimals) = Some (PackedKind decimals plain_number)
kind_of PackedText = None

-- name, first byte from 0, bytes, and how it lies in them
abbrev pub column_of : Field → Name × (ℕ × (ℕ × Option FieldKind))
column_of field = (field.name, (field.start, (field.width, Some field.kind)))

abbrev pub entry_column : FieldLine Name → Name × (ℕ × (ℕ × Option FieldKind))
entry_column entry = (entry.name, (entry.from - 1, (entry.to + 1 - entry.from, kind_of entry.form)))

abbrev pub field_name : Field → Name
field_name field = field.name

-- they are those of the lines, in their order, lie in the records, and have names of their own
pub record AreFieldsOf (record_length : ℕ) (entries : List (FieldLine Name)) (fields : List Field) : Type 0 where
  pub lie : All (LiesIn record_length) fields
  pub columns : map column_of fields ≡ map entry_column entries
  pub own_names : IsDistinct same_name (map field_name fields)
