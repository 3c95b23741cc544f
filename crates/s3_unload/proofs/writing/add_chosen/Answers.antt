use Rattle.std.proofs.Common.{◌∙◌, sym}
use Rattle.s3_unload.proofs.RowLemmas.{chosen_row}
use Rattle.s3_unload.proofs.writing.add_chosen.Goals as goal

pub returns-in_ok-add_row-clause-text : goal.returns-in_ok-add_row-clause-text
returns-in_ok-add_row-clause-text c = λ d b.
    chosen_row d c.args.fields.now c.args.chosen.now c.args.bytes.now c.args.writer.now c.add_row.new.writer (sym c.has.ensures ∙ c.if-has.true) (c.in_ok-add_row.ensures.text d b)
