use Rattle.s3_day_log.proofs.writing.Line.reply.Goals as goal

pub returns : goal.returns
returns c = rw (c.word.ensures, c.from.ensures) at c.members.ensures
