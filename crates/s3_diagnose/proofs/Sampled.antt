-- The samples, computed.
use Rattle.std.proofs.Common.{refl}
use Rattle.s3_lines.specs.Reserved.{reserved_names}
use Rattle.s3_program.specs.Matching.{is_type_of, in_all_of, in_some_of, in_type_of, level_shape_of, marks_of}
use Rattle.s3_program.specs.Conditions.{forbidden_among}
use Rattle.s3_diagnose.specs.Lookups.{tables_given}
use Rattle.s3_diagnose.specs.Diagnostics.{compile_diagnostics}
use Rattle.s3_diagnose.specs.Inner.Samples.{undefined, redefined, indicated, unfit, misplaced, strayed, mismatched, misused}
use Rattle.s3_diagnose.specs.Inner.Sampling.{HaveTheirs}

pub undefined_rows : HaveTheirs undefined
unfolding reserved_names compile_diagnostics tables_given is_type_of in_all_of in_some_of in_type_of level_shape_of marks_of forbidden_among
undefined_rows = refl

pub redefined_rows : HaveTheirs redefined
unfolding reserved_names compile_diagnostics tables_given is_type_of in_all_of in_some_of in_type_of level_shape_of marks_of forbidden_among
redefined_rows = refl

pub indicated_rows : HaveTheirs indicated
unfolding reserved_names compile_diagnostics tables_given is_type_of in_all_of in_some_of in_type_of level_shape_of marks_of forbidden_among
indicated_rows = refl

pub unfit_rows : HaveTheirs unfit
unfolding reserved_names compile_diagnostics tables_given is_type_of in_all_of in_some_of in_type_of level_shape_of marks_of forbidden_among
unfit_rows = refl

pub misplaced_rows : HaveTheirs misplaced
unfolding reserved_names compile_diagnostics tables_given is_type_of in_all_of in_some_of in_type_of level_shape_of marks_of forbidden_among
misplaced_rows = refl

pub strayed_rows : HaveTheirs strayed
unfolding reserved_names compile_diagnostics tables_given is_type_of in_all_of in_some_of in_type_of level_shape_of marks_of forbidden_among
strayed_rows = refl

pub mismatched_rows : HaveTheirs mismatched
unfolding reserved_names compile_diagnostics tables_given is_type_of in_all_of in_some_of in_type_of level_shape_of marks_of forbidden_among
mismatched_rows = refl

pub misused_rows : HaveTheirs misused
unfolding reserved_names compile_diagnostics tables_given is_type_of in_all_of in_some_of in_type_of level_shape_of marks_of forbidden_among
misused_rows = refl
