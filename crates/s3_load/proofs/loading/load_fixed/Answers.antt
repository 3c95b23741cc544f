use Rattle.std.proofs.Common.{◌∙◌, ℕ, List, subst}
use Rattle.s3_labels.specs.Contents.{contents_of}
use Rattle.s3_load.specs.Inner.Filling.{records_of}
use Rattle.s3_load.specs.Inner.FixedTexts.{IsFixedText}
use Rattle.s3_load.specs.Inner.Loaded.{HasRecords}
use Rattle.s3_load.proofs.loading.load_fixed.Goals as goal

pub returns-clause-loaded : goal.returns-clause-loaded
returns-clause-loaded g c =
    let order = c.args.order.now in
    let rows = c.in_ok-rows.rows.items in
    record {
      rows = rows;
      records = λ bytes known. subst (λ (t : List ℕ). IsFixedText c.args.form order.layout.now.record_length order.key t rows) (c.deref.ensures.value ∙ c.in_ok-text.ensures.text bytes known) c.in_ok-rows.ensures.text;
      has = subst (λ rs. HasRecords order (records_of rs) (contents_of c.args.pack.now) (contents_of c.in_ok-changed.changed.items)) c.deref-2.ensures.value c.in_ok-changed.ensures.loaded;
    }
