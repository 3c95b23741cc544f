-- Those so far were read, and all else stays.
use Rattle.std.specs.Prelude.{None}
use Rattle.std.specs.List.{All}
use Rattle.s3_cards.specs.declared.levels.LevelId.{LevelId}
use Rattle.s3_labels.specs.Inner.Areas.{Areas}
use Rattle.s3_slots.specs.declared.label.FileLabel.{FileLabel}
use Rattle.s3_evidence.specs.Inner.About.{HasIndex}
use Rattle.s3_evidence.specs.Inner.Looks.{Looks}
use Rattle.s3_evidence.proofs.looking.check_indexes.Given as goal

abbrev pub invariant-loop-file : goal.invariant-loop-file
invariant-loop-file g l = record {
  looks : Looks None l.fn.bureau l.bureau;
  own : (level : LevelId) (areas : Areas) → All (λ file. HasIndex level areas file.0 file.1) l.fn.files → All (λ index. (label : FileLabel) × HasIndex level areas index.label label) l.indexes.items;
}
