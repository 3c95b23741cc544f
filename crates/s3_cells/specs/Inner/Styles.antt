-- Fields with their cells written in another way.
use Rattle.std.specs.Prelude.{ℕ, ◌==◌, ◌&&◌, Bool, if◌then◌else◌}
use Rattle.std.specs.List.{list_any}
use Rattle.s3_cards.specs.Names.{same_name}
use Rattle.s3_cards.specs.declared.name.Name.{Name}
use Rattle.s3_cells.specs.declared.dates.DateField.TheVariants.{Text as TextDate, Number as NumberDate}
use Rattle.s3_cells.specs.declared.field.Field.{Field}
use Rattle.s3_cells.specs.declared.kind.FieldKind.{FieldKind}
use Rattle.s3_cells.specs.declared.kind.FieldKind.TheVariants.{Text as TextKind, Zoned, Packed, Date}
use Rattle.s3_cells.specs.declared.styles.CellStyle.{CellStyle}

-- name, first byte from 0, bytes, and how it lies in them
abbrev pub form_of : Field → Name × (ℕ × (ℕ × FieldKind))
form_of field = (field.name, (field.start, (field.width, field.kind)))

-- a field that is named as a date is one if it has six positions, and is a text or a zoned number without decimals
abbrev pub kind_styled : CellStyle → (is_date : Bool) → (width : ℕ) → FieldKind → FieldKind
kind_styled cells is_date width (TextKind old) = if is_date && (width == 6) then Date TextDate else TextKind cells.texts
kind_styled cells is_date width (Zoned decimals old) = if (decimals == 0) && is_date && (width == 6) then Date NumberDate else Zoned decimals cells.numbers
kind_styled cells is_date width (Packed decimals old) = Packed decimals cells.numbers
kind_styled cells is_date width (Date form) = Date form

abbrev pub form_styled : CellStyle → Field → Name × (ℕ × (ℕ × FieldKind))
form_styled cells field =
    (field.name, (field.start, (field.width, kind_styled cells (list_any (λ name. same_name name field.name) cells.dates.now) field.width field.kind)))
