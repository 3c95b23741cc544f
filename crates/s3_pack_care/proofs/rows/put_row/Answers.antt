use Rattle.s3_pack_care.specs.Inner.Rows.{shape_of}
use Rattle.s3_pack_care.proofs.RowLemmas.{tail_kept}
use Rattle.s3_pack_care.proofs.rows.put_row.Goals as goal

pub returns-in-Ok-clause-tail : goal.returns-in-Ok-clause-tail
returns-in-Ok-clause-tail c = tail_kept (shape_of c.args.file.now) c.args.i c.args.store.now c.put.new.pool c.requires.there c.put.ensures.others

pub returns-in-Err-clause-tail : goal.returns-in-Err-clause-tail
returns-in-Err-clause-tail c = tail_kept (shape_of c.args.file.now) c.args.i c.args.store.now c.put.new.pool c.requires.there c.put.ensures.others
