use Rattle.std.proofs.Common.{◌≡◌, []}
use Rattle.s3_load.proofs.ColumnLemmas.{ApartBelow}
use Rattle.s3_amend.proofs.fields.note_overlaps.Given as goal

abbrev pub invariant-loop-place : goal.invariant-loop-place
invariant-loop-place l = record {
  apart : l.mistakes.items ≡ [] → ApartBelow l.named l.place;
  before : l.mistakes.items ≡ [] → l.initial.mistakes.items ≡ [];
}
