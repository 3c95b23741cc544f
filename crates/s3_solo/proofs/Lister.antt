-- The card lister's run, computed.
use Rattle.std.proofs.Common.{◌≡◌, [], ◌∷◌, refl}
use Rattle.s3_cards.specs.Codes.{code_page, ebcdic}
use Rattle.s3_cards.specs.Deck.{card_of}
use Rattle.s3_cards.specs.Names.{is_word}
use Rattle.s3_ocl.specs.Values.{count_value, date_value, switches_value}
use Rattle.s3_ocl.specs.Statements.{texts_behind, pieces_in, pieces_from, statement_at, statements_within}
use Rattle.s3_ocl.specs.Contents.{first_in}
use Rattle.s3_ocl.specs.Faults.{first_fault, statement_faults, faults_behind}
use Rattle.s3_ocl.specs.Jobs.{job_at}
use Rattle.s3_ocl.specs.Streams.{jobs_within}
use Rattle.s3_lines.specs.Reserved.{reserved_names}
use Rattle.s3_sheets.specs.Columns.{digits_number, number_between}
use Rattle.s3_sheets.specs.Indicators.{indicator_of, listed, level_behind, condition_of}
use Rattle.s3_sheets.specs.Entries.{text_of, constant_text, number_literal_of, factor_of, code_of, time_of, operations}
use Rattle.s3_sheets.specs.Kinds.{says_and, says_or, kind_of}
use Rattle.s3_sheets.specs.Rules.{rule_faults}
use Rattle.s3_sheets.specs.Tables.{header_rules, file_rules, record_rules, record_and_rules, record_or_rules, field_rules, calculation_rules, output_line_rules, output_group_rules, output_field_rules}
use Rattle.s3_sheets.specs.Lines.{device_of, file_line, field_line, calculation_line, is_addition, spacing_of, output_card, output_field, line_of, lines_of}
use Rattle.s3_sheets.specs.Combinations.{has_stray_entry, has_bad_extent, has_bad_positions, has_bad_factor, has_bad_definition, has_bad_addition, has_bad_space, has_bad_content, has_early_constant}
use Rattle.s3_sheets.specs.Sheets.{faults_of, is_at_fault, is_outside, is_too_many, card_holds, sheet_diagnostics}
use Rattle.s3_program.specs.Matching.{is_type_of, in_all_of, in_some_of, in_type_of, level_shape_of, marks_of}
use Rattle.s3_program.specs.Conditions.{forbidden_among}
use Rattle.s3_diagnose.specs.Lookups.{tables_given}
use Rattle.s3_diagnose.specs.Diagnostics.{compile_diagnostics}
use Rattle.s3_job_files.specs.Closing.{files_closed}
use Rattle.s3_opening.specs.Opening.{open_lines}
use Rattle.s3_meaning.specs.Runs.{ask, ended, to_totals, replied, halted}
use Rattle.s3_meaning.specs.Moving.{number_moved, field_moved, fields_moved}
use Rattle.s3_meaning.specs.Output.{printed, stored_or_halted, file_line_put, line_put, lines_put}
use Rattle.s3_meaning.specs.Calculating.{divided, not_found, chained_to, on_chain, chained, performed, calculated}
use Rattle.s3_meaning.specs.Cycle.{halts_shown, headings, cleared, headed, typed, on_read, file_read, files_read, totals, last_time, total_time, overflow_lines, detail_time, record_time, selected_or_last, reading_time, one_cycle, anew_within, again}
use Rattle.s3_solo.specs.declared.action.Action.TheVariants.{Turn}
use Rattle.s3_solo.specs.declared.action.Did.TheVariants.{Idle}
use Rattle.s3_solo.specs.Solo.{step_of, closed}
use Rattle.s3_solo.specs.Inner.Samples.{after_turns, first_line, listing}

-- what the lister's run is said to do
pub record ListerRun : Type 0 where
  pub whole : (after_turns 8).lines.printed ≡ listing
  pub over : (step_of (after_turns 8) Turn).did ≡ Idle
  pub no_halts : (after_turns 8).halts ≡ []
  pub six : (closed (after_turns 6)).lines.printed ≡ listing
  pub five : (closed (after_turns 5)).lines.printed ≡ first_line ∷ []

pub lister_run : ListerRun
unfolding code_page ebcdic card_of is_word count_value date_value switches_value texts_behind pieces_in pieces_from statement_at statements_within first_in first_fault statement_faults faults_behind job_at jobs_within faults_of rule_faults reserved_names digits_number number_between indicator_of listed level_behind condition_of text_of constant_text number_literal_of factor_of code_of time_of operations says_and says_or kind_of header_rules file_rules record_rules record_and_rules record_or_rules field_rules calculation_rules output_line_rules output_group_rules output_field_rules device_of file_line field_line calculation_line is_addition spacing_of output_card output_field line_of lines_of has_stray_entry has_bad_extent has_bad_positions has_bad_factor has_bad_definition has_bad_addition has_bad_space has_bad_content has_early_constant is_at_fault is_outside is_too_many card_holds sheet_diagnostics is_type_of in_all_of in_some_of in_type_of level_shape_of marks_of forbidden_among tables_given compile_diagnostics open_lines files_closed ask ended to_totals replied halted number_moved field_moved fields_moved printed stored_or_halted file_line_put line_put lines_put divided not_found chained_to on_chain chained performed calculated halts_shown headings cleared headed typed on_read file_read files_read totals last_time total_time overflow_lines detail_time record_time selected_or_last reading_time one_cycle anew_within again
lister_run = record { whole = refl; over = refl; no_halts = refl; six = refl; five = refl }
