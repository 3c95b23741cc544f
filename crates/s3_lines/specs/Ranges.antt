-- The ranges that entries of the sheets share: of numbers, of indicators by their use, of record lengths, and of the shapes of
-- fields.
use Rattle.std.specs.Prelude.{ℕ, ◌-◌, ◌*◌, nat_le, Bool, true, false, ◌&&◌, Option, Some, None}
use Rattle.s3_lines.specs.declared.indicator.Indicator.{Indicator}
use Rattle.s3_lines.specs.declared.indicator.Indicator.TheVariants.{General, Level, LastRecord, Halt, Overflow, Switch}
use Rattle.s3_lines.specs.declared.sheet.Device.{Device}
use Rattle.s3_lines.specs.declared.sheet.Device.TheVariants.{CardReader, Printer, Disk}
use Rattle.s3_lines.specs.declared.sheet.FieldForm.{FieldForm}
use Rattle.s3_lines.specs.declared.sheet.FieldForm.TheVariants.{Alphanumeric as AlphanumericForm, Zoned, Packed, PackedText}
use Rattle.s3_lines.specs.declared.sheet.Shape.{Shape}
use Rattle.s3_lines.specs.declared.sheet.Shape.TheVariants.{Alphanumeric, Numeric}

abbrev pub is_between : (low high n : ℕ) → Bool
is_between low high n = nat_le low n && nat_le n high

-- an entry that may be blank
abbrev pub if_given : {X : Type 0} → (X → Bool) → Option X → Bool
if_given test None = true
if_given test (Some x) = test x

-- 01 to 99, H1 to H9: of a record type, or of a field
abbrev pub is_record_indicator : Indicator → Bool
is_record_indicator (General n) = is_between 1 99 n
is_record_indicator (Halt n) = is_between 1 9 n
is_record_indicator _ = false

-- OA to OG, OV
abbrev pub is_overflow_indicator : Indicator → Bool
is_overflow_indicator (Overflow n) = is_between 1 8 n
is_overflow_indicator _ = false

-- U1 to U8
abbrev pub is_switch_indicator : Indicator → Bool
is_switch_indicator (Switch n) = is_between 1 8 n
is_switch_indicator _ = false

-- L0 to L9, LR
abbrev pub is_total_indicator : Indicator → Bool
is_total_indicator (Level n) = nat_le n 9
is_total_indicator LastRecord = true
is_total_indicator _ = false

-- 01 to 99, L1 to L9, LR, H1 to H9, and OA to OG and OV for SETON and SETOF
abbrev pub is_resulting_indicator : Indicator → Bool
is_resulting_indicator (General n) = is_between 1 99 n
is_resulting_indicator (Level n) = is_between 1 9 n
is_resulting_indicator LastRecord = true
is_resulting_indicator (Halt n) = is_between 1 9 n
is_resulting_indicator (Overflow n) = is_between 1 8 n
is_resulting_indicator _ = false

-- in bytes
abbrev pub longest_record : Device → ℕ
longest_record CardReader = 96
longest_record Printer = 132
longest_record Disk = 1024

-- 1 to 256 characters, or 1 to 15 digits of which 0 to 9 are decimals
abbrev pub shape_in_range : Shape → Bool
shape_in_range (Alphanumeric length) = is_between 1 256 length
shape_in_range (Numeric digits decimals) = is_between 1 15 digits && nat_le decimals 9 && nat_le decimals digits

-- what so many positions hold
abbrev pub shape_of_positions : FieldForm → (width : ℕ) → Shape
shape_of_positions AlphanumericForm width = Alphanumeric width
shape_of_positions (Zoned decimals) width = Numeric width decimals
shape_of_positions (Packed decimals) width = Numeric (2 * width - 1) decimals
shape_of_positions PackedText width = Alphanumeric width
