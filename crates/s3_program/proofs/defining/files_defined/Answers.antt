use Rattle.std.proofs.Common.{◌∙◌, sym}
use Rattle.s3_program.specs.Inner.Given.{file_given}
use Rattle.s3_program.proofs.GivenLemmas.{one_more, none_first}
use Rattle.s3_program.proofs.defining.files_defined.Goals as goal

pub loop-line-preserved : goal.loop-line-preserved
loop-line-preserved c = one_more _ _ file_given c.args.lines.now c.loop-line.line-index _ c.loop-line-test.true c.loop-line.invariant c.in_ok-note_file.ensures

pub loop-line-init : goal.loop-line-init
loop-line-init c = c.new-table.ensures.empty ∙ sym none_first
