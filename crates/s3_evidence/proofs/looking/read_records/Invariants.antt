-- Those so far were read, and all else stays.
use Rattle.std.specs.Prelude.{None}
use Rattle.std.specs.List.{All}
use Rattle.s3_cards.specs.declared.levels.LevelId.{LevelId}
use Rattle.s3_evidence.specs.Inner.About.{IsInUse, IsReadInUse}
use Rattle.s3_evidence.specs.Inner.Looks.{Looks}
use Rattle.s3_evidence.proofs.looking.read_records.Given as goal

abbrev pub invariant-loop-wanted : goal.invariant-loop-wanted
invariant-loop-wanted g l = record {
  looks : Looks None l.fn.bureau l.bureau;
  from : (level : LevelId) → All (λ one. IsInUse level l.fn.bureau one.label) l.fn.records → All (IsReadInUse level l.fn.bureau) l.read.items;
}
