use Rattle.s3_dump.proofs.IndexLemmas.{one_more_record}
use Rattle.s3_dump.proofs.index.entries_of.Goals as goal

pub loop-i-preserved : goal.loop-i-preserved
loop-i-preserved c = one_more_record c.args.line.now c.args.records.now c.loop-i.i c.loop-i.entries c.insert.new.self c.key_in.result c.loop-i.invariant c.key_in.ensures c.in_ok-insert.ensures.entries
