use Rattle.std.proofs.Common.{◌≡◌, ◌++◌, take, vec_items}
use Rattle.s3_punch.specs.Inner.Ebcdic.{byte_faults}
use Rattle.s3_punch.proofs.ebcdic.note_bytes.Given as goal

abbrev pub invariant-loop-place : goal.invariant-loop-place
invariant-loop-place l = vec_items l.faults ≡ vec_items l.initial.faults ++ byte_faults (take l.place l.bytes)
