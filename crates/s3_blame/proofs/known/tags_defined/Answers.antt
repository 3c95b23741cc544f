use Rattle.std.proofs.Common.{◌∙◌, ap, sym}
use Rattle.std.specs.Option.{option_to_list}
use Rattle.s3_program.specs.Inner.Given.{all_noted}
use Rattle.s3_program.proofs.GivenLemmas.{none_first, one_more}
use Rattle.s3_blame.specs.Inner.Names.{tag_on}
use Rattle.s3_blame.proofs.known.tags_defined.Goals as goal

pub loop-line-preserved : goal.loop-line-preserved
loop-line-preserved c =
    one_more _ _ tag_on c.args.lines.now c.loop-line.line-index _ c.loop-line-test.true c.loop-line.invariant
    (c.in_ok-note_card.ensures ∙ ap (λ entry. all_noted c.loop-line.table.entries (option_to_list entry)) c.tag_of.ensures)

pub loop-line-init : goal.loop-line-init
loop-line-init c = c.new-table.ensures.empty ∙ sym none_first
