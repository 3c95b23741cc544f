use Rattle.std.proofs.Common.{subst, sym}
use Rattle.std.specs.List.{All}
use Rattle.s3_cards.specs.declared.name.Name.{Name}
use Rattle.s3_slots.specs.declared.label.FileLabel.{FileLabel}
use Rattle.s3_evidence.specs.declared.evidence.CheckedIndex.{CheckedIndex}
use Rattle.s3_evidence.specs.Inner.About.{HasIndex}
use Rattle.s3_evidence.proofs.Abouts.{all_more}
use Rattle.s3_evidence.proofs.Looks.{looks_then}
use Rattle.s3_evidence.proofs.looking.check_indexes.Goals as goal

pub loop-file-preserved : goal.loop-file-preserved
loop-file-preserved g c = record {
  looks = looks_then _ c.args.bureau.now c.loop-file.bureau c.find_flaw.new.bureau c.loop-file.invariant.looks c.in_ok-flaw.ensures;
  own = λ level areas all. subst (All (λ (index : CheckedIndex). (label : FileLabel) × HasIndex level areas index.label label)) (sym c.in_ok-add.ensures)
      (all_more (λ (index : CheckedIndex). (label : FileLabel) × HasIndex level areas index.label label) c.loop-file.indexes.items _ (c.loop-file.invariant.own level areas all) (c.file-item.result.1, subst (λ (file : Name × FileLabel). HasIndex level areas file.0 file.1) (sym c.file-item.is) (all c.loop-file.file-index _ c.loop-file-test.true)));
}
