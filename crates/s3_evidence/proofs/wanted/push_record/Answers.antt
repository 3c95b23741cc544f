use Rattle.std.proofs.Common.{sym, subst}
use Rattle.std.specs.List.{All}
use Rattle.s3_evidence.specs.declared.wanted.WantedRecord.{WantedRecord}
use Rattle.s3_evidence.specs.Inner.About.{IsInUse}
use Rattle.s3_evidence.proofs.Abouts.{all_more}
use Rattle.s3_evidence.proofs.wanted.push_record.Goals as goal

pub returns-in_ok-push-in-Some : goal.returns-in_ok-push-in-Some
returns-in_ok-push-in-Some g c = λ before.
    subst (All (λ (one : WantedRecord). IsInUse c.args.level c.args.bureau.now one.label)) (sym c.in_ok-push-in-Some.ensures.items)
    (all_more (λ (one : WantedRecord). IsInUse c.args.level c.args.bureau.now one.label) c.args.records.now.items _ before c.in-Some.ensures)
