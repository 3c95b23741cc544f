use Rattle.s3_journal.proofs.writing.Line.appended.Goals as goal

pub returns : goal.returns
returns c = rw (c.as_str.ensures.value, c.as_str-2.ensures.value) at c.members.ensures
