use Rattle.std.proofs.Common.{take}
use Rattle.s3_dump.specs.Inner.Writing.{reads}
use Rattle.s3_dump.proofs.reading.restore.Given as goal

abbrev pub invariant-loop-place : goal.invariant-loop-place
invariant-loop-place l = reads (take l.place l.text) l.mode l.bytes.items
