-- The table of files: the ways a program can use a file on each device.
use Rattle.std.specs.Prelude.{Bool, false, not, ◌&&◌, ◌||◌, is_some, if◌then◌else◌}
use Rattle.s3_lines.specs.Files.{is_input_use, is_output_use, is_by_cycle, is_chained, is_disk, is_printer}
use Rattle.s3_lines.specs.declared.sheet.FileUse.{FileUse}
use Rattle.s3_lines.specs.declared.sheet.FileUse.TheVariants.{Input, Output, Update}
use Rattle.s3_lines.specs.declared.sheet.Device.{Device}
use Rattle.s3_lines.specs.declared.sheet.Device.TheVariants.{CardReader, Printer, Disk}
use Rattle.s3_lines.specs.declared.sheet.FileLine.{FileLine}
use Rattle.s3_lines.specs.declared.sheet.Spacing.{Spacing}

-- columns 28, 31, 32 and 66 blank
abbrev pub is_plain : FileLine → Bool
is_plain file = not file.is_random && not file.is_keyed && not file.is_indexed && not file.has_additions

-- ---- lines of the table
-- type I, designation P or S
abbrev pub is_read_from_cards : FileLine → Bool
is_read_from_cards file = is_input_use file.usage && is_by_cycle file.designation && is_plain file

-- type O, no designation
abbrev pub is_printed : FileLine → Bool
is_printed file = is_output_use file.usage && not (is_some file.designation) && is_plain file

-- type I or U, designation P or S, in order or by key order, with additions or without
abbrev pub is_read_in_order : FileLine → Bool
is_read_in_order file = not (is_output_use file.usage) && is_by_cycle file.designation && not file.is_random

-- type I or U, designation C, mode R; additions only if the file is indexed
abbrev pub is_read_by_chain : FileLine → Bool
is_read_by_chain file =
    not (is_output_use file.usage) && is_chained file.designation && file.is_random && (file.is_indexed || not file.has_additions)

-- type O, no designation: a load, or additions
abbrev pub is_loaded : FileLine → Bool
is_loaded file = is_output_use file.usage && not (is_some file.designation) && not file.is_random

-- type O, designation C, mode R, without index and additions
abbrev pub is_direct_load : FileLine → Bool
is_direct_load file =
    is_output_use file.usage && is_chained file.designation && file.is_random && not file.is_keyed && not file.is_indexed && not file.has_additions

-- A in 31 and I in 32 go together
abbrev pub is_indexed_as_keyed : FileLine → Bool
is_indexed_as_keyed file = if file.is_keyed then file.is_indexed else not file.is_indexed

-- the allowed uses of a disk file
abbrev pub is_disk_file : FileLine → Bool
is_disk_file file =
    is_indexed_as_keyed file
    && (is_read_in_order file || is_read_by_chain file || is_loaded file || is_direct_load file)

abbrev pub is_in_table_on : Device → FileLine → Bool
is_in_table_on CardReader file = is_read_from_cards file
is_in_table_on Printer file = is_printed file
is_in_table_on Disk file = is_disk_file file

-- an allowed use of a file on its device
abbrev pub is_in_table : FileLine → Bool
is_in_table file = is_in_table_on file.device file

abbrev pub is_card_file_on : Device → FileLine → Bool
is_card_file_on CardReader file = is_read_from_cards file
is_card_file_on Printer file = false
is_card_file_on Disk file = false

abbrev pub is_card_file : FileLine → Bool
is_card_file file = is_card_file_on file.device file

abbrev pub is_print_file : FileLine → Bool
is_print_file file = is_printer file.device && is_printed file

-- ---- the lines that a file's use allows
-- a record line is allowed, except for an output file that isn't a direct load
abbrev pub allows_records : FileLine → Bool
allows_records file = not (is_output_use file.usage) || (is_disk file.device && is_direct_load file)

-- Type O with A in 66 requires ADD, types I and U with A allow it, and all others forbid it.
-- Without ADD, a file of type I can't be written.
abbrev pub is_addition_allowed : FileUse → (has_additions is_addition : Bool) → Bool
is_addition_allowed Output has_additions is_addition = if has_additions then is_addition else not is_addition
is_addition_allowed Input has_additions is_addition = has_additions && is_addition
is_addition_allowed Update has_additions is_addition = has_additions || not is_addition

-- a file with a use outside the table is checked only for type I
abbrev pub allows_output : FileLine → (is_addition : Bool) → Bool
allows_output file is_addition =
    if is_in_table file then is_addition_allowed file.usage file.has_additions is_addition else not (is_input_use file.usage)

-- spaces or skips, which only the print file may have
abbrev pub has_spacing : Spacing → Bool
has_spacing spacing =
    is_some spacing.space_before || is_some spacing.space_after || is_some spacing.skip_before || is_some spacing.skip_after
