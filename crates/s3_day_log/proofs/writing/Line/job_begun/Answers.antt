use Rattle.s3_day_log.proofs.writing.Line.job_begun.Goals as goal

pub returns : goal.returns
returns c = rw (c.kind_or_null.ensures, c.text_or_null.ensures, c.from.ensures, c.from-2.ensures) at c.members.ensures
