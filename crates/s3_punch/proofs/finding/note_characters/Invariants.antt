-- What is wrong with the characters so far.
use Rattle.std.proofs.Common.{◌≡◌, ◌++◌, take, vec_items}
use Rattle.s3_punch.specs.Inner.Faults.{character_faults}
use Rattle.s3_punch.proofs.finding.note_characters.Given as goal

abbrev pub invariant-loop-place : goal.invariant-loop-place
invariant-loop-place l = vec_items l.faults ≡ vec_items l.initial.faults ++ character_faults l.line (take l.place l.characters)
