use Rattle.std.proofs.Common.{◌≡◌, ◌*◌, Some, sym, ap, subst, ◌∙◌, length}
use Rattle.s3_store.specs.Bytes.{bytes_at, part}
use Rattle.s3_files.specs.Inner.Files.{IsReadInPart}
use Rattle.s3_files.proofs.PartLemmas.{on_err}
use Rattle.s3_files.proofs.RecordLemmas.{get_record, of_record}
use Rattle.s3_files.proofs.sequential.SequentialRecordFile.get.Goals as goal

pub returns-clause-ok : goal.returns-clause-ok
returns-clause-ok g c =
    let file = bytes_at c.args.self.now.sectors (g.P.Sectors.state c.args.pool.now).contents in
    let long = c.args.self.now.record_length in
    let is : c.read_bytes.new.bytes ≡ part file (c.args.i * long) long = c.in_ok-read_bytes.ensures.ok ∙ ap (λ at. part file at (length c.args.bytes.now)) c.place.ensures.place ∙ ap (part file (c.args.i * long)) c.requires.long in
    get_record long c.args.self.now.count c.args.i file c.if-i-self.false ∙ ap Some (sym is)

pub returns-in_err-read_bytes-clause-partly : goal.returns-in_err-read_bytes-clause-partly
returns-in_err-read_bytes-clause-partly g c =
    let file = bytes_at c.args.self.now.sectors (g.P.Sectors.state c.args.pool.now).contents in
    let long = c.args.self.now.record_length in
    let partly : IsReadInPart (part file (c.args.i * long) long) c.args.bytes.now c.read_bytes.new.bytes =
    subst (λ n. IsReadInPart (part file (c.args.i * long) n) c.args.bytes.now c.read_bytes.new.bytes) c.requires.long
    (subst (λ at. IsReadInPart (part file at (length c.args.bytes.now)) c.args.bytes.now c.read_bytes.new.bytes) c.place.ensures.place c.in_err-read_bytes.ensures.partly) in
    on_err c.from_residual.result (λ whole there. of_record long c.args.self.now.count c.args.i file c.args.bytes.now c.read_bytes.new.bytes whole c.if-i-self.false there partly)
