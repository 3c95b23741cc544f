use Rattle.std.proofs.Common.{Ok, sym, ap, ◌∙◌}
use Rattle.s3_files.specs.Inner.Records.{got}
use Rattle.s3_files.proofs.PartLemmas.{on_err}
use Rattle.s3_files.proofs.RecordLemmas.{get_record, of_record}
use Rattle.s3_keyed.specs.Calls.{keyed_result}
use Rattle.s3_keyed.specs.Inner.Shape.{bytes_in}
use Rattle.s3_keyed.proofs.CallLemmas.{no_record}
use Rattle.s3_keyed.proofs.keyed.Keyed.get.Goals as goal

pub returns-then-self-i-clause-got : goal.returns-then-self-i-clause-got
returns-then-self-i-clause-got g c =
    let self = c.args.self.now in
    ap (λ o. keyed_result (got o)) (no_record self.file.file.record_length self.count c.args.i (bytes_in self.file (g.P.Sectors.state c.args.pool.now).contents) c.if-self-i.true)

pub returns-clause-got : goal.returns-clause-got
returns-clause-got g c =
    let self = c.args.self.now in
    ap (λ o. keyed_result (got o)) (get_record self.file.file.record_length self.count c.args.i (bytes_in self.file (g.P.Sectors.state c.args.pool.now).contents) c.if-self-i.false)
    ∙ ap Ok (sym c.in_ok-read_record.ensures.ok)

pub returns-in_err-read_record-clause-partly : goal.returns-in_err-read_record-clause-partly
returns-in_err-read_record-clause-partly g c =
    let self = c.args.self.now in
    on_err c.from_residual.result (λ whole there. of_record self.file.file.record_length self.count c.args.i (bytes_in self.file (g.P.Sectors.state c.args.pool.now).contents) c.args.bytes.now c.read_record.new.bytes whole c.if-self-i.false there c.in_err-read_record.ensures.partly)
