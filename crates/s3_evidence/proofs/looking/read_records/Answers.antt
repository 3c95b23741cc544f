use Rattle.std.proofs.Common.{◌∙◌, ap, subst, sym}
use Rattle.std.specs.List.{All}
use Rattle.s3_evidence.specs.declared.wanted.WantedRecord.{WantedRecord}
use Rattle.s3_evidence.specs.Inner.About.{IsInUse, IsReadInUse}
use Rattle.s3_evidence.proofs.Abouts.{all_more, read_before}
use Rattle.s3_evidence.proofs.Looks.{looks_then}
use Rattle.s3_evidence.proofs.looking.read_records.Goals.{in-Some+in_ok-add, in_default}
use Rattle.s3_evidence.proofs.looking.read_records.Goals as goal

pub loop-wanted-preserved : goal.loop-wanted-preserved
loop-wanted-preserved g c = record {
  looks = looks_then _ c.args.bureau.now c.loop-wanted.bureau c.read_record.new.bureau c.loop-wanted.invariant.looks c.in_ok-bytes.ensures.looks;
  from = λ level all. elim c.match-branch-2.branch [
    | in-Some+in_ok-add w ↦ subst (All (IsReadInUse level c.args.bureau.now)) (sym (ap (λ read. read.items) w.read-is ∙ w.in_ok-add.ensures))
        (all_more (IsReadInUse level c.args.bureau.now) c.loop-wanted.read.items _ (c.loop-wanted.invariant.from level all)
        (read_before level c.args.bureau.now c.loop-wanted.bureau c.wanted-item.result.label _ (record { file = c.wanted-item.result.file; number = c.wanted-item.result.number; bytes = w.in-Some.bytes }) c.loop-wanted.invariant.looks
        (subst (λ (one : WantedRecord). IsInUse level c.args.bureau.now one.label) (sym c.wanted-item.is) (all c.loop-wanted.wanted-index _ c.loop-wanted-test.true)) w.in-Some.is c.in_ok-bytes.ensures.from))
    | in_default w ↦ subst (All (IsReadInUse level c.args.bureau.now)) (sym (ap (λ read. read.items) w.read-is)) (c.loop-wanted.invariant.from level all)
  ];
}
