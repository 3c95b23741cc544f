-- Those so far were read, and all else stays.
use Rattle.std.specs.Prelude.{None}
use Rattle.std.specs.List.{All}
use Rattle.s3_cards.specs.declared.levels.LevelId.{LevelId}
use Rattle.s3_evidence.specs.Inner.About.{IsOwnArea}
use Rattle.s3_evidence.specs.Inner.Looks.{Looks}
use Rattle.s3_evidence.proofs.looking.read_slots.Given as goal

abbrev pub invariant-loop-place : goal.invariant-loop-place
invariant-loop-place g l = record {
  looks : Looks None l.fn.bureau l.bureau;
  own : (level : LevelId) → All (λ place. IsOwnArea level place.area) l.fn.places → All (λ slot. IsOwnArea level slot.area) l.slots.items;
}
