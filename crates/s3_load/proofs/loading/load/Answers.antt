use Rattle.std.proofs.Common.{◌≡◌, ◌∙◌, ℕ, List, refl, subst}
use Rattle.s3_labels.specs.Contents.{contents_of}
use Rattle.s3_load.specs.Inner.Filling.{records_of}
use Rattle.s3_load.specs.Inner.Loaded.{HasRecords}
use Rattle.std.specs.Prelude.{None}
use Rattle.csv.specs.Reading.{strip_bom}
use Rattle.s3_load.specs.Inner.Quotes.{open_quote}
use Rattle.s3_load.specs.Inner.Tables.{IsTable}
use Rattle.s3_load.proofs.loading.load.Goals as goal

pub returns-clause-loaded : goal.returns-clause-loaded
returns-clause-loaded g c =
    let order = c.args.order.now in
    let rows = c.in_ok-rows.rows.items in
    let has = subst (λ rs. HasRecords order (records_of rs) (contents_of c.args.pack.now) (contents_of c.in_ok-changed.changed.items)) c.deref-3.ensures.value c.in_ok-changed.ensures.loaded in
    record {
      rows = rows;
      table = λ bytes known.
          subst (λ (t : List ℕ). IsTable t order.delimiter order.layout.now.record_length order.layout.now.fields.items order.fills order.chosen.now order.key rows) (c.as_slice.ensures.value ∙ c.in_ok-text.ensures.text bytes known) (c.in_ok-rows.ensures.table c.as_slice.result.now refl);
      header = has.header;
      mounts = has.mounts;
      filled = has.filled;
    }

pub returns-clause-closed : goal.returns-clause-closed
returns-clause-closed g c = λ text known.
    subst (λ (t : List ℕ). open_quote c.args.order.now.delimiter (strip_bom t) ≡ None) (c.deref.ensures.value ∙ c.in_ok-text.ensures.text text known) c.in_ok-refuse_open_quote.ensures.closed
