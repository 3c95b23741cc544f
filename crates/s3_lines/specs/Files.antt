-- What an F line says of its file, one entry after another.
use Rattle.std.specs.Prelude.{Bool, true, false, not, ◌&&◌, Option, Some}
use Rattle.s3_lines.specs.declared.sheet.FileUse.{FileUse}
use Rattle.s3_lines.specs.declared.sheet.FileUse.TheVariants.{Input, Output}
use Rattle.s3_lines.specs.declared.sheet.Device.{Device}
use Rattle.s3_lines.specs.declared.sheet.Device.TheVariants.{CardReader, Printer, Disk}
use Rattle.s3_lines.specs.declared.sheet.Designation.{Designation}
use Rattle.s3_lines.specs.declared.sheet.Designation.TheVariants.{Primary, Secondary, Chained}
use Rattle.s3_lines.specs.declared.sheet.FileLine.{FileLine}

abbrev pub is_input_use : FileUse → Bool
is_input_use Input = true
is_input_use _ = false

abbrev pub is_output_use : FileUse → Bool
is_output_use Output = true
is_output_use _ = false

abbrev pub is_card_reader : Device → Bool
is_card_reader CardReader = true
is_card_reader _ = false

abbrev pub is_printer : Device → Bool
is_printer Printer = true
is_printer _ = false

abbrev pub is_disk : Device → Bool
is_disk Disk = true
is_disk _ = false

-- P or S: read by the cycle
abbrev pub is_by_cycle : Option Designation → Bool
is_by_cycle (Some Primary) = true
is_by_cycle (Some Secondary) = true
is_by_cycle _ = false

-- C
abbrev pub is_chained : Option Designation → Bool
is_chained (Some Chained) = true
is_chained _ = false

-- a file that is neither added to nor changed
abbrev pub is_only_read : FileLine → Bool
is_only_read line = is_input_use line.usage && not line.has_additions

abbrev pub is_designated : Designation → FileLine → Bool
is_designated Primary file = on file.designation
  where
    on : Option Designation → Bool
    on (Some Primary) = true
    on _ = false
is_designated Secondary file = on file.designation
  where
    on : Option Designation → Bool
    on (Some Secondary) = true
    on _ = false
is_designated Chained file = on file.designation
  where
    on : Option Designation → Bool
    on (Some Chained) = true
    on _ = false
