-- Errors that several columns of a card show together.
use Rattle.std.specs.Prelude.{ℕ, ◌+◌, ◌-◌, List, Bool, false, ◌&&◌, ◌||◌, not, Option, Some, None, length, nat_lt, nat_le}
use Rattle.s3_entries.specs.declared.calculation.TheConstants as calculation
use Rattle.s3_entries.specs.declared.file.TheConstants as file
use Rattle.s3_entries.specs.declared.output.TheConstants as output
use Rattle.s3_entries.specs.declared.span.Span.{Span}
use Rattle.s3_lines.specs.Files.{is_printer, is_by_cycle}
use Rattle.s3_cards.specs.Names.{name_of, same_name}
use Rattle.s3_cards.specs.declared.name.Name.{Name}
use Rattle.s3_lines.specs.Ranges.{is_between, if_given, longest_record, shape_in_range, shape_of_positions}
use Rattle.s3_lines.specs.Reserved.{is_reserved, page}
use Rattle.s3_lines.specs.declared.sheet.KeyField.{KeyField}
use Rattle.s3_lines.specs.declared.sheet.FieldLine.{FieldLine}
use Rattle.s3_lines.specs.declared.sheet.FileLine.{FileLine}
use Rattle.s3_sheets.specs.Columns.{columns, are_blank, number_of, number_between}
use Rattle.s3_sheets.specs.Entries.{constant_text, factor_of}
use Rattle.s3_sheets.specs.Lines.{file_line, field_line, longest_name, definition_of, is_addition}
use Rattle.s3_sheets.specs.Rules.{no_faults, is_blank_or}
use Rattle.s3_sheets.specs.declared.kind.CardKind.{CardKind}
use Rattle.s3_sheets.specs.declared.kind.CardKind.TheVariants.{Comment, Unknown, Header, File, Record, RecordAnd, RecordOr, Field, Calculation, OutputLine, OutputAnd, OutputOr, OutputField}
use Rattle.s3_sheets.specs.declared.faults.Faults.{Faults}

-- whether some column of an entry isn't blank
abbrev pub are_filled : List ℕ → Span → Bool
are_filled card entry = not (are_blank (columns card entry))

-- ---- File Description specifications
abbrev pub is_with_index : FileLine → Bool
is_with_index file = file.is_keyed && file.is_indexed

-- An entry that the card's file can't have. Only primary and secondary files may have E, only indexed files a key length and start,
-- and only print files an overflow indicator.
unfoldable pub has_stray_entry : List ℕ → Bool
has_stray_entry card =
    let line : FileLine = file_line card in
    (line.ends_job && not (is_by_cycle line.designation))
    || (not (is_with_index line) && (are_filled card file.KEY_LENGTH || are_filled card file.KEY_START))
    || (are_filled card file.OVERFLOW && not (is_printer line.device))

-- whether a key lies in a record
abbrev pub is_key_within : ℕ → Option KeyField → Bool
is_key_within record_length None = false
is_key_within record_length (Some key) = nat_le (key.start + key.length) (record_length + 1)

-- the record length isn't one that the device allows, or an indexed file has no key within its record
unfoldable pub has_bad_extent : List ℕ → Bool
has_bad_extent card =
    let file : FileLine = file_line card in
    not (is_between 1 (longest_record file.device) file.record_length) || (is_with_index file && not (is_key_within file.record_length file.key))

-- ---- Input specifications
-- the field's From and To aren't in order, or its length isn't 1 to 256 characters or 1 to 15 digits, or decimals exceed digits
unfoldable pub has_bad_positions : List ℕ → Bool
has_bad_positions card =
    let field : FieldLine Name = field_line card in
    not (nat_le field.from field.to && shape_in_range (shape_of_positions field.form (field.to + 1 - field.from)))

-- ---- Calculation specifications
unfoldable pub has_bad_factor : List ℕ → Bool
has_bad_factor card = not (is_blank_or (factor_of (longest_name card)) (columns card calculation.FACTOR_2))

-- a result's length isn't 1 to 256 characters, or with decimals 1 to 15 digits; a result without a length isn't defined here
unfoldable pub has_bad_definition : List ℕ → Bool
has_bad_definition card = not (if_given shape_in_range (definition_of (columns card calculation.LENGTH) (columns card calculation.DECIMALS)))

-- ---- Output specifications
-- columns 16 to 18 must have ADD; otherwise column 16 must be blank, and 17 and 18 may have spaces
unfoldable pub has_bad_addition : List ℕ → Bool
has_bad_addition card = not (is_addition card) && are_filled card output.BEFORE_SPACES

unfoldable pub has_bad_space : List ℕ → Bool
has_bad_space card =
    not (is_addition card)
    && (not (is_blank_or (number_between 0 3) (columns card output.SPACE_BEFORE)) || not (is_blank_or (number_between 0 3) (columns card output.SPACE_AFTER)))

-- a field of the date: UDATE, UMONTH, UDAY or UYEAR
abbrev pub is_of_date : Name → Bool
is_of_date name = is_reserved name && not (same_name name page)

-- The card has both a field and a constant, or an entry that its content can't have. A constant can't have an edit code, B or P,
-- a packed field no edit code, and a field of the date no B.
unfoldable pub has_bad_content : List ℕ → Bool
has_bad_content card =
    (are_filled card output.CONSTANT && (are_filled card output.FIELD_NAME || are_filled card output.EDIT_CODE || are_filled card output.BLANK_AFTER || are_filled card output.PACKED))
    || (are_filled card output.FIELD_NAME && are_filled card output.EDIT_CODE && are_filled card output.PACKED)
    || (are_filled card output.BLANK_AFTER && is_of_date (name_of (columns card output.FIELD_NAME)))

-- the card has neither a field nor a constant
abbrev pub has_no_content : List ℕ → Bool
has_no_content card = are_blank (columns card output.FIELD_NAME) && are_blank (columns card output.CONSTANT)

-- a constant must begin at position 1 or later
abbrev pub begins_too_early : Option ℕ → Option (List ℕ) → Bool
begins_too_early (Some end) (Some text) = nat_lt end (length text)
begins_too_early (Some end) None = false
begins_too_early None text = false

unfoldable pub has_early_constant : List ℕ → Bool
has_early_constant card = begins_too_early (number_of (columns card output.END_POSITION)) (constant_text (columns card output.CONSTANT))

-- ---- all specifications
-- the errors that columns of a card show together
abbrev pub combined_faults : CardKind → List ℕ → Faults
combined_faults Comment card = no_faults
combined_faults Unknown card = no_faults
combined_faults Header card = no_faults
combined_faults File card = record { entry = has_stray_entry card; name = false; number = has_bad_extent card }
combined_faults Record card = no_faults
combined_faults RecordAnd card = no_faults
combined_faults RecordOr card = no_faults
combined_faults Field card = record { entry = false; name = false; number = has_bad_positions card }
combined_faults Calculation card = record { entry = false; name = has_bad_factor card; number = has_bad_definition card }
combined_faults OutputLine card = record { entry = has_bad_addition card; name = false; number = has_bad_space card }
combined_faults OutputAnd card = no_faults
combined_faults OutputOr card = no_faults
combined_faults OutputField card = record { entry = has_bad_content card; name = has_no_content card; number = has_early_constant card }
