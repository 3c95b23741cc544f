use Rattle.std.specs.Prelude.{filter_map}
use Rattle.s3_meaning.specs.Source.{calculation_line, input_line, reserved_shapes}
use Rattle.s3_diagnose.specs.Lookups.{input_given, result_given}
use Rattle.s3_blame.proofs.NameLemmas.{noted_in_turn}
use Rattle.s3_blame.proofs.known.fields_defined.Goals as goal

pub returns : goal.returns
returns c = λ read.
    noted_in_turn c.new-table.result.entries c.note_reserved.new.table.entries c.note_fields.new.table.entries c.note_results.new.table.entries
    reserved_shapes (filter_map input_given (filter_map input_line c.args.lines.now)) (filter_map result_given (filter_map calculation_line c.args.lines.now))
    c.new-table.ensures.empty c.in_ok-note_reserved.ensures (c.in_ok-note_fields.ensures read) c.in_ok-note_results.ensures
