use Rattle.s3_dump.proofs.WriterLemmas.{first_read}
use Rattle.s3_dump.proofs.writing.push_first.Goals as goal

pub returns : goal.returns
returns c = first_read c.args.text.now.items c.push.new.text.items c.push_number.new.text.items c.args.number c.from.result c.requires c.from.ensures c.in_ok-push.ensures c.in_ok-push_number.ensures
