-- Each entry of the table is tested, computed on its source.
use Rattle.std.proofs.Common.{◌≡◌, true, refl}
use Rattle.std.specs.Prelude.{Bool}
use Rattle.std.specs.List.{list_all}
use Rattle.s3_cards.specs.Codes.{code_page, ebcdic}
use Rattle.s3_cards.specs.Names.{is_word}
use Rattle.s3_lines.specs.Reserved.{reserved_names}
use Rattle.s3_sheets.specs.Columns.{digits_number, number_between}
use Rattle.s3_sheets.specs.Indicators.{indicator_of, listed, level_behind, condition_of}
use Rattle.s3_sheets.specs.Entries.{text_of, constant_text, number_literal_of, factor_of, code_of, time_of, operations}
use Rattle.s3_sheets.specs.Kinds.{says_and, says_or, kind_of}
use Rattle.s3_sheets.specs.Rules.{rule_faults}
use Rattle.s3_sheets.specs.Tables.{header_rules, file_rules, record_rules, record_and_rules, record_or_rules, field_rules, calculation_rules, output_line_rules, output_group_rules, output_field_rules}
use Rattle.s3_sheets.specs.Lines.{device_of, file_line, field_line, calculation_line, is_addition, spacing_of, output_card, output_field, line_of, lines_of}
use Rattle.s3_sheets.specs.Combinations.{has_stray_entry, has_bad_extent, has_bad_positions, has_bad_factor, has_bad_definition, has_bad_addition, has_bad_space, has_bad_content, has_early_constant}
use Rattle.s3_sheets.specs.Sheets.{faults_of, is_at_fault, is_outside, is_too_many, card_holds, sheet_diagnostics}
use Rattle.s3_sheets.specs.declared.kind.CardKind.{CardKind}
use Rattle.s3_sheets.specs.declared.kind.CardKind.TheVariants as kind
use Rattle.s3_program.specs.Matching.{is_type_of, in_all_of, in_some_of, in_type_of, level_shape_of, marks_of}
use Rattle.s3_program.specs.Conditions.{forbidden_among}
use Rattle.s3_diagnose.specs.Lookups.{tables_given}
use Rattle.s3_diagnose.specs.Diagnostics.{compile_diagnostics}
use Rattle.s3_blame.specs.Inner.Tested.{takes_away}
use Rattle.s3_blame.specs.Inner.Entries.{Row, rows_of, file_rows, record_rows, and_rows, or_rows, field_rows, calculation_rows, line_rows, line_and_rows, line_or_rows, put_rows}

abbrev pub is_shown : CardKind → Row → Bool
is_shown kind row = takes_away row.number kind row.change

file_rows_shown : list_all (is_shown kind.File) file_rows ≡ true
unfolding file_rows code_page ebcdic faults_of rule_faults reserved_names digits_number number_between indicator_of listed level_behind condition_of is_word text_of constant_text number_literal_of factor_of code_of time_of operations says_and says_or kind_of header_rules file_rules record_rules record_and_rules record_or_rules field_rules calculation_rules output_line_rules output_group_rules output_field_rules device_of file_line field_line calculation_line is_addition spacing_of output_card output_field line_of lines_of has_stray_entry has_bad_extent has_bad_positions has_bad_factor has_bad_definition has_bad_addition has_bad_space has_bad_content has_early_constant is_at_fault is_outside is_too_many card_holds sheet_diagnostics compile_diagnostics tables_given is_type_of in_all_of in_some_of in_type_of level_shape_of marks_of forbidden_among
file_rows_shown = refl

record_rows_shown : list_all (is_shown kind.Record) record_rows ≡ true
unfolding record_rows code_page ebcdic faults_of rule_faults reserved_names digits_number number_between indicator_of listed level_behind condition_of is_word text_of constant_text number_literal_of factor_of code_of time_of operations says_and says_or kind_of header_rules file_rules record_rules record_and_rules record_or_rules field_rules calculation_rules output_line_rules output_group_rules output_field_rules device_of file_line field_line calculation_line is_addition spacing_of output_card output_field line_of lines_of has_stray_entry has_bad_extent has_bad_positions has_bad_factor has_bad_definition has_bad_addition has_bad_space has_bad_content has_early_constant is_at_fault is_outside is_too_many card_holds sheet_diagnostics compile_diagnostics tables_given is_type_of in_all_of in_some_of in_type_of level_shape_of marks_of forbidden_among
record_rows_shown = refl

and_rows_shown : list_all (is_shown kind.RecordAnd) and_rows ≡ true
unfolding and_rows code_page ebcdic faults_of rule_faults reserved_names digits_number number_between indicator_of listed level_behind condition_of is_word text_of constant_text number_literal_of factor_of code_of time_of operations says_and says_or kind_of header_rules file_rules record_rules record_and_rules record_or_rules field_rules calculation_rules output_line_rules output_group_rules output_field_rules device_of file_line field_line calculation_line is_addition spacing_of output_card output_field line_of lines_of has_stray_entry has_bad_extent has_bad_positions has_bad_factor has_bad_definition has_bad_addition has_bad_space has_bad_content has_early_constant is_at_fault is_outside is_too_many card_holds sheet_diagnostics compile_diagnostics tables_given is_type_of in_all_of in_some_of in_type_of level_shape_of marks_of forbidden_among
and_rows_shown = refl

or_rows_shown : list_all (is_shown kind.RecordOr) or_rows ≡ true
unfolding or_rows code_page ebcdic faults_of rule_faults reserved_names digits_number number_between indicator_of listed level_behind condition_of is_word text_of constant_text number_literal_of factor_of code_of time_of operations says_and says_or kind_of header_rules file_rules record_rules record_and_rules record_or_rules field_rules calculation_rules output_line_rules output_group_rules output_field_rules device_of file_line field_line calculation_line is_addition spacing_of output_card output_field line_of lines_of has_stray_entry has_bad_extent has_bad_positions has_bad_factor has_bad_definition has_bad_addition has_bad_space has_bad_content has_early_constant is_at_fault is_outside is_too_many card_holds sheet_diagnostics compile_diagnostics tables_given is_type_of in_all_of in_some_of in_type_of level_shape_of marks_of forbidden_among
or_rows_shown = refl

field_rows_shown : list_all (is_shown kind.Field) field_rows ≡ true
unfolding field_rows code_page ebcdic faults_of rule_faults reserved_names digits_number number_between indicator_of listed level_behind condition_of is_word text_of constant_text number_literal_of factor_of code_of time_of operations says_and says_or kind_of header_rules file_rules record_rules record_and_rules record_or_rules field_rules calculation_rules output_line_rules output_group_rules output_field_rules device_of file_line field_line calculation_line is_addition spacing_of output_card output_field line_of lines_of has_stray_entry has_bad_extent has_bad_positions has_bad_factor has_bad_definition has_bad_addition has_bad_space has_bad_content has_early_constant is_at_fault is_outside is_too_many card_holds sheet_diagnostics compile_diagnostics tables_given is_type_of in_all_of in_some_of in_type_of level_shape_of marks_of forbidden_among
field_rows_shown = refl

calculation_rows_shown : list_all (is_shown kind.Calculation) calculation_rows ≡ true
unfolding calculation_rows code_page ebcdic faults_of rule_faults reserved_names digits_number number_between indicator_of listed level_behind condition_of is_word text_of constant_text number_literal_of factor_of code_of time_of operations says_and says_or kind_of header_rules file_rules record_rules record_and_rules record_or_rules field_rules calculation_rules output_line_rules output_group_rules output_field_rules device_of file_line field_line calculation_line is_addition spacing_of output_card output_field line_of lines_of has_stray_entry has_bad_extent has_bad_positions has_bad_factor has_bad_definition has_bad_addition has_bad_space has_bad_content has_early_constant is_at_fault is_outside is_too_many card_holds sheet_diagnostics compile_diagnostics tables_given is_type_of in_all_of in_some_of in_type_of level_shape_of marks_of forbidden_among
calculation_rows_shown = refl

line_rows_shown : list_all (is_shown kind.OutputLine) line_rows ≡ true
unfolding line_rows code_page ebcdic faults_of rule_faults reserved_names digits_number number_between indicator_of listed level_behind condition_of is_word text_of constant_text number_literal_of factor_of code_of time_of operations says_and says_or kind_of header_rules file_rules record_rules record_and_rules record_or_rules field_rules calculation_rules output_line_rules output_group_rules output_field_rules device_of file_line field_line calculation_line is_addition spacing_of output_card output_field line_of lines_of has_stray_entry has_bad_extent has_bad_positions has_bad_factor has_bad_definition has_bad_addition has_bad_space has_bad_content has_early_constant is_at_fault is_outside is_too_many card_holds sheet_diagnostics compile_diagnostics tables_given is_type_of in_all_of in_some_of in_type_of level_shape_of marks_of forbidden_among
line_rows_shown = refl

line_and_rows_shown : list_all (is_shown kind.OutputAnd) line_and_rows ≡ true
unfolding line_and_rows code_page ebcdic faults_of rule_faults reserved_names digits_number number_between indicator_of listed level_behind condition_of is_word text_of constant_text number_literal_of factor_of code_of time_of operations says_and says_or kind_of header_rules file_rules record_rules record_and_rules record_or_rules field_rules calculation_rules output_line_rules output_group_rules output_field_rules device_of file_line field_line calculation_line is_addition spacing_of output_card output_field line_of lines_of has_stray_entry has_bad_extent has_bad_positions has_bad_factor has_bad_definition has_bad_addition has_bad_space has_bad_content has_early_constant is_at_fault is_outside is_too_many card_holds sheet_diagnostics compile_diagnostics tables_given is_type_of in_all_of in_some_of in_type_of level_shape_of marks_of forbidden_among
line_and_rows_shown = refl

line_or_rows_shown : list_all (is_shown kind.OutputOr) line_or_rows ≡ true
unfolding line_or_rows code_page ebcdic faults_of rule_faults reserved_names digits_number number_between indicator_of listed level_behind condition_of is_word text_of constant_text number_literal_of factor_of code_of time_of operations says_and says_or kind_of header_rules file_rules record_rules record_and_rules record_or_rules field_rules calculation_rules output_line_rules output_group_rules output_field_rules device_of file_line field_line calculation_line is_addition spacing_of output_card output_field line_of lines_of has_stray_entry has_bad_extent has_bad_positions has_bad_factor has_bad_definition has_bad_addition has_bad_space has_bad_content has_early_constant is_at_fault is_outside is_too_many card_holds sheet_diagnostics compile_diagnostics tables_given is_type_of in_all_of in_some_of in_type_of level_shape_of marks_of forbidden_among
line_or_rows_shown = refl

put_rows_shown : list_all (is_shown kind.OutputField) put_rows ≡ true
unfolding put_rows code_page ebcdic faults_of rule_faults reserved_names digits_number number_between indicator_of listed level_behind condition_of is_word text_of constant_text number_literal_of factor_of code_of time_of operations says_and says_or kind_of header_rules file_rules record_rules record_and_rules record_or_rules field_rules calculation_rules output_line_rules output_group_rules output_field_rules device_of file_line field_line calculation_line is_addition spacing_of output_card output_field line_of lines_of has_stray_entry has_bad_extent has_bad_positions has_bad_factor has_bad_definition has_bad_addition has_bad_space has_bad_content has_early_constant is_at_fault is_outside is_too_many card_holds sheet_diagnostics compile_diagnostics tables_given is_type_of in_all_of in_some_of in_type_of level_shape_of marks_of forbidden_among
put_rows_shown = refl

pub all_shown : (kind : CardKind) → list_all (is_shown kind) (rows_of kind) ≡ true
all_shown kind.Comment = refl
all_shown kind.Unknown = refl
all_shown kind.Header = refl
all_shown kind.File = file_rows_shown
all_shown kind.Record = record_rows_shown
all_shown kind.RecordAnd = and_rows_shown
all_shown kind.RecordOr = or_rows_shown
all_shown kind.Field = field_rows_shown
all_shown kind.Calculation = calculation_rows_shown
all_shown kind.OutputLine = line_rows_shown
all_shown kind.OutputAnd = line_and_rows_shown
all_shown kind.OutputOr = line_or_rows_shown
all_shown kind.OutputField = put_rows_shown
