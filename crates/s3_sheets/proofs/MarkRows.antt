-- The entries in error of cards with diagnostic 4, computed.
use Rattle.std.proofs.Common.{refl}
use Rattle.s3_cards.specs.Codes.{code_page, ebcdic}
use Rattle.s3_cards.specs.Names.{is_word}
use Rattle.s3_lines.specs.Reserved.{reserved_names}
use Rattle.s3_sheets.specs.Columns.{digits_number, number_between}
use Rattle.s3_sheets.specs.Indicators.{indicator_of, listed, level_behind, condition_of}
use Rattle.s3_sheets.specs.Entries.{text_of, constant_text, number_literal_of, factor_of, code_of, time_of, operations}
use Rattle.s3_sheets.specs.Kinds.{says_and, says_or, kind_of}
use Rattle.s3_sheets.specs.Rules.{rule_faults}
use Rattle.s3_sheets.specs.Tables.{header_rules, file_rules, record_rules, record_and_rules, record_or_rules, field_rules, calculation_rules, output_line_rules, output_group_rules, output_field_rules}
use Rattle.s3_sheets.specs.Lines.{device_of, file_line, field_line, calculation_line, is_addition, spacing_of, output_card, output_field, line_of, lines_of}
use Rattle.s3_sheets.specs.Combinations.{has_stray_entry, has_bad_extent, has_bad_positions, has_bad_factor, has_bad_definition, has_bad_addition, has_bad_space, has_bad_content, has_early_constant}
use Rattle.s3_sheets.specs.Sheets.{faults_of, is_at_fault, is_outside, is_too_many, card_holds, sheet_diagnostics}
use Rattle.s3_sheets.specs.Inner.MarkSamples.{AreMarked, file_marks, field_marks, calculation_marks}

pub file_marks_found : AreMarked file_marks
unfolding file_marks code_page ebcdic faults_of rule_faults reserved_names digits_number number_between indicator_of listed level_behind condition_of is_word text_of constant_text number_literal_of factor_of code_of time_of operations says_and says_or kind_of header_rules file_rules record_rules record_and_rules record_or_rules field_rules calculation_rules output_line_rules output_group_rules output_field_rules device_of file_line field_line calculation_line is_addition spacing_of output_card output_field line_of lines_of has_stray_entry has_bad_extent has_bad_positions has_bad_factor has_bad_definition has_bad_addition has_bad_space has_bad_content has_early_constant is_at_fault is_outside is_too_many card_holds sheet_diagnostics
file_marks_found = refl

pub field_marks_found : AreMarked field_marks
unfolding field_marks code_page ebcdic faults_of rule_faults reserved_names digits_number number_between indicator_of listed level_behind condition_of is_word text_of constant_text number_literal_of factor_of code_of time_of operations says_and says_or kind_of header_rules file_rules record_rules record_and_rules record_or_rules field_rules calculation_rules output_line_rules output_group_rules output_field_rules device_of file_line field_line calculation_line is_addition spacing_of output_card output_field line_of lines_of has_stray_entry has_bad_extent has_bad_positions has_bad_factor has_bad_definition has_bad_addition has_bad_space has_bad_content has_early_constant is_at_fault is_outside is_too_many card_holds sheet_diagnostics
field_marks_found = refl

pub calculation_marks_found : AreMarked calculation_marks
unfolding calculation_marks code_page ebcdic faults_of rule_faults reserved_names digits_number number_between indicator_of listed level_behind condition_of is_word text_of constant_text number_literal_of factor_of code_of time_of operations says_and says_or kind_of header_rules file_rules record_rules record_and_rules record_or_rules field_rules calculation_rules output_line_rules output_group_rules output_field_rules device_of file_line field_line calculation_line is_addition spacing_of output_card output_field line_of lines_of has_stray_entry has_bad_extent has_bad_positions has_bad_factor has_bad_definition has_bad_addition has_bad_space has_bad_content has_early_constant is_at_fault is_outside is_too_many card_holds sheet_diagnostics
calculation_marks_found = refl
