use Rattle.std.proofs.Common.{◌∙◌, ap}
use Rattle.csv.specs.Writing.{with_delimiter}
use Rattle.s3_unload.specs.Inner.Tables.{IsBetweenRows}
use Rattle.s3_unload.proofs.RowLemmas.{begun, table_made}
use Rattle.s3_unload.proofs.writing.table.Goals as goal

pub returns-in-Ok-clause-text : goal.returns-in-Ok-clause-text
returns-in-Ok-clause-text c =
    let between : IsBetweenRows c.args.delimiter c.from_writer-writer.result = record {
      set_up = c.from_writer-writer.ensures.cfg ∙ c.delimiter.ensures ∙ ap (λ b. with_delimiter b c.args.delimiter) c.new.ensures;
      fields = c.from_writer-writer.ensures.fields;
      wrote = c.from_writer-writer.ensures.wrote;
    } in
    let head = c.in_ok-write_heading.ensures.text c.args.delimiter between in
    table_made c.args.delimiter c.deref.result.now c.deref-2.result.now c.args.layout.now.fields.items _ c.from_writer-writer.result _ _ c.in-Ok.text.items c.write_rows-done.result (cc) (cc)
    (begun c.from_writer-writer.result c.new-2.result c.from_writer-writer.ensures.wtr c.new-2.ensures.items c.from_writer-writer.ensures.empty)
    head (c.write_rows-done.ensures.text c.args.delimiter head.between) c.in-Ok.ensures.ok
