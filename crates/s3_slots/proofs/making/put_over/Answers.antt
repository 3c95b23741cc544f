use Rattle.std.proofs.Common.{sym}
use Rattle.s3_slots.proofs.Judging.{absent_nowhere, absent_dropped}
use Rattle.s3_slots.proofs.making.put_over.Goals as goal

pub returns-in-Absent-clause-slot : goal.returns-in-Absent-clause-slot
returns-in-Absent-clause-slot c = rw (absent_dropped c.args.new.now.name c.args.slots.now (sym c.in-Absent.ensures)) c.put.ensures.slot

pub returns-in-Absent-clause-old : goal.returns-in-Absent-clause-old
returns-in-Absent-clause-old c = rw (absent_nowhere c.args.new.now.name c.args.slots.now (sym c.in-Absent.ensures)) c.put.ensures.freed
