use Rattle.std.proofs.Common.{◌≡◌, IfOk, sym, subst}
use Rattle.s3_store.specs.Bytes.{bytes_at}
use Rattle.s3_keyed.specs.Index.{layout_of, index_in}
use Rattle.s3_keyed.specs.Inner.Index.{keys_at}
use Rattle.s3_keyed.specs.Inner.Calls.{Answers, index_answer, unit_of}
use Rattle.s3_keyed.specs.Inner.Shape.{layout_in}
use Rattle.s3_keyed.specs.Inner.Keyed.{shown, opened_of}
use Rattle.s3_files.specs.Inner.Files.{AreStored}
use Rattle.s3_keyed.proofs.keyed.Keyed.check.Goals as goal

pub returns-clause-opened : goal.returns-clause-opened
returns-clause-opened g c =
    subst (λ s. IfOk c.open.result (λ keyed. shown keyed ≡ opened_of s (layout_of c.args.label.now) c.args.label.now.count)) c.of.ensures.sectors
    (subst (λ l. IfOk c.open.result (λ keyed. shown keyed ≡ opened_of c.of.result.file.sectors l c.args.label.now.count)) c.of.ensures.layout
    (subst (λ n. IfOk c.open.result (λ keyed. shown keyed ≡ opened_of c.of.result.file.sectors (layout_in c.of.result) n)) c.of.ensures.count c.open.ensures.opened))

pub returns-clause-good : goal.returns-clause-good
returns-clause-good g c =
    let contents = (g.P.Sectors.state c.args.pool.now).contents in
    subst (λ s. Answers (index_answer (index_in (layout_of c.args.label.now) c.args.label.now.count (bytes_at s contents)) (keys_at (layout_of c.args.label.now) c.args.label.now.count (bytes_at s contents))) (unit_of c.open.result)) c.of.ensures.sectors
    (subst (λ l. Answers (index_answer (index_in l c.args.label.now.count (bytes_at c.of.result.file.sectors contents)) (keys_at l c.args.label.now.count (bytes_at c.of.result.file.sectors contents))) (unit_of c.open.result)) c.of.ensures.layout
    (subst (λ n. Answers (index_answer (index_in (layout_in c.of.result) n (bytes_at c.of.result.file.sectors contents)) (keys_at (layout_in c.of.result) n (bytes_at c.of.result.file.sectors contents))) (unit_of c.open.result)) c.of.ensures.count c.open.ensures.good))

pub open-requires : goal.open-requires
open-requires g c = record { stored = subst (λ s. AreStored s (g.P.Sectors.state c.args.pool.now).contents) (sym c.of.ensures.sectors) c.requires.stored }
