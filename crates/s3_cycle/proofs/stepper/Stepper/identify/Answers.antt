use Rattle.std.proofs.Common.{ap, refl, ◌∙◌}
use Rattle.std.specs.Option.{option_or}
use Rattle.s3_meaning.specs.Selection.{control_value}
use Rattle.s3_match.specs.Inner.Controls.{break_of, held_in}
use Rattle.s3_match.specs.Inner.Reading.{IsReading}
use Rattle.s3_match.specs.Inner.Types.{kind_at}
use Rattle.s3_cycle.proofs.GoingLemmas.{changed_stays}
use Rattle.s3_cycle.specs.Inner.Going.{IsTaken}
use Rattle.s3_cycle.proofs.IdentifyLemmas.{bytes_there, identifies}
use Rattle.s3_cycle.proofs.stepper.Stepper.identify.Goals as goal

pub returns : goal.returns
returns c =
    let taken = changed_stays (λ program progress. IsTaken program progress c.args.selection) c.args.self.now c.identify_type.new.self _ c.identify_type.ensures c.requires.taken in
    let reading = changed_stays (λ program progress. IsReading program progress.reading) c.args.self.now c.identify_type.new.self _ c.identify_type.ensures c.requires.reading in
    let bytes = bytes_there c.identify_type.new.self.progress.reading.files.items c.args.selection.place c.index.result.now taken.record_there.within c.index.ensures in
    identifies c.args.self.now c.identify_type.new.self c.raise_levels.new.self c.break_and_hold-level.new.self c.args.selection (kind_at c.args.self.now.program c.args.selection.start).indicator c.break_and_hold-level.result c.identify_type.ensures refl
    (c.break_and_hold-level.ensures.level c.identify_type.new.self.program reading.control_levels taken.record_there.starts ∙ ap (break_of (held_in c.identify_type.new.self.state.controls.held) (kind_at c.identify_type.new.self.program c.args.selection.start)) (c.as_slice-bytes.ensures ∙ bytes))
    c.raise_levels.ensures
    (λ n. c.break_and_hold-level.ensures.held c.identify_type.new.self.program reading.control_levels taken.record_there.starts n ∙ (λ i. option_or (control_value (kind_at c.identify_type.new.self.program c.args.selection.start) ((c.as_slice-bytes.ensures ∙ bytes) i) n) (held_in c.identify_type.new.self.state.controls.held n)))
