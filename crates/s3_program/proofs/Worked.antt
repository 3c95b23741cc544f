-- The worked examples, computed.
use Rattle.std.proofs.Common.{◌≡◌, true, false, refl}
use Rattle.std.specs.List.{list_any}
use Rattle.s3_lines.specs.Reserved.{reserved_names}
use Rattle.s3_program.specs.Inner.Valid.{is_valid, named}
use Rattle.s3_program.specs.Inner.Meant.{are_of_kinds}
use Rattle.s3_program.specs.Inner.Positions.{are_in_range, are_within, inputs_within, outputs_within}
use Rattle.s3_program.specs.Inner.Labels.{labels_stand, tags_from, subroutines_from}
use Rattle.s3_program.specs.Inner.Conditions.{are_clear}
use Rattle.s3_program.specs.Conditions.{forbidden_among, first_file_of}
use Rattle.s3_program.specs.Matching.{marks_of, is_type_of, in_all_of, in_some_of, in_type_of, level_shape_of}
use Rattle.s3_program.specs.Inner.Samples.{whole, wrong_slots, wrong_tables, wrong_lines}

pub whole_valid : is_valid whole ≡ true
unfolding is_valid named are_of_kinds are_in_range are_within inputs_within outputs_within labels_stand tags_from subroutines_from are_clear forbidden_among marks_of is_type_of in_all_of in_some_of in_type_of level_shape_of first_file_of reserved_names
whole_valid = refl

pub slots_refused : list_any is_valid wrong_slots ≡ false
unfolding is_valid named are_of_kinds are_in_range are_within inputs_within outputs_within labels_stand tags_from subroutines_from are_clear forbidden_among marks_of is_type_of in_all_of in_some_of in_type_of level_shape_of first_file_of reserved_names
slots_refused = refl

pub tables_refused : list_any is_valid wrong_tables ≡ false
unfolding is_valid named are_of_kinds are_in_range are_within inputs_within outputs_within labels_stand tags_from subroutines_from are_clear forbidden_among marks_of is_type_of in_all_of in_some_of in_type_of level_shape_of first_file_of reserved_names
tables_refused = refl

pub lines_refused : list_any is_valid wrong_lines ≡ false
unfolding is_valid named are_of_kinds are_in_range are_within inputs_within outputs_within labels_stand tags_from subroutines_from are_clear forbidden_among marks_of is_type_of in_all_of in_some_of in_type_of level_shape_of first_file_of reserved_names
lines_refused = refl
