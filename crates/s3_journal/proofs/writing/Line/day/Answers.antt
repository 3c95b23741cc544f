use Rattle.s3_journal.proofs.writing.Line.day.Goals as goal

pub returns : goal.returns
returns c = rw (c.as_str.ensures.value, c.command.ensures, c.as_str-2.ensures.value, c.as_str-3.ensures.value, c.from.ensures) at c.members.ensures
