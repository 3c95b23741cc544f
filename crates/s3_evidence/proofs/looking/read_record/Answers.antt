use Rattle.std.proofs.lemmas.Result.{IfOk-weaker}
use Rattle.s3_evidence.proofs.Abouts.{record_read}
use Rattle.s3_evidence.proofs.looking.read_record.Goals as goal

pub returns-clause-from : goal.returns-clause-from
returns-clause-from g c = IfOk-weaker c.read_bytes.result _ _
    (λ read from. record_read c.args.label.now c.as_slice.result.now c.args.bureau.now.beside.state.contents c.place_in_order.new.bureau.beside.state.contents read c.as_slice.ensures.value c.in_ok-i.ensures.keeps.contents from)
    c.read_bytes.ensures.from
