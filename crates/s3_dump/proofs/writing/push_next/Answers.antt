use Rattle.s3_dump.proofs.WriterLemmas.{next_read}
use Rattle.s3_dump.proofs.writing.push_next.Goals as goal

pub returns : goal.returns
returns c = next_read c.args.text.now.items c.push.new.text.items c.push_number.new.text.items c.args.number c.from.result c.requires c.from.ensures c.in_ok-push.ensures c.in_ok-push_number.ensures
