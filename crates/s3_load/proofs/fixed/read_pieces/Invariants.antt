use Rattle.std.proofs.Common.{◌≡◌, length}
use Rattle.s3_load.proofs.FixedLemmas.{HasRead}
use Rattle.s3_load.proofs.fixed.read_pieces.Given as goal

abbrev pub invariant-loop-piece : goal.invariant-loop-piece
invariant-loop-piece l = record {
  before : l.faults.count ≡ 0 → l.initial.faults.count ≡ 0;
  read : l.faults.count ≡ 0 → HasRead l.form l.record_length l.text l.rows.items l.rest;
}

abbrev pub decreases-loop-piece : goal.decreases-loop-piece
decreases-loop-piece l = length l.rest
