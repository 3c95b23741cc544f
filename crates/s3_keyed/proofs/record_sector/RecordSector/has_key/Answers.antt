use Rattle.std.proofs.Common.{◌≡◌, ◌==◌, IfOk, sym, ap, subst, ◌∙◌}
use Rattle.s3_store.specs.Bytes.{part}
use Rattle.s3_keyed.specs.KeyOrder.{number_of}
use Rattle.s3_keyed.specs.Inner.Shape.{layout_in, bytes_in, entry_here}
use Rattle.s3_keyed.proofs.Places.{key_there}
use Rattle.s3_keyed.proofs.record_sector.RecordSector.has_key.Goals as goal

pub returns-clause-ok : goal.returns-clause-ok
returns-clause-ok g c =
    let f = c.args.file.now in
    let file = bytes_in f (g.P.Sectors.state c.args.pool.now).contents in
    let there = ap (λ a. number_of (part file a f.key_length)) c.key_place-at.ensures.place ∙ sym (key_there (layout_in f) c.args.i file f.some_start f.key_inside) in
    subst (λ n. IfOk c.has_key_at.result (λ is. is ≡ (n == (entry_here f.key_length c.args.index.now c.args.j).key))) there c.has_key_at.ensures.ok
