use Rattle.std.proofs.Common.{sym, subst}
use Rattle.std.specs.List.{All}
use Rattle.s3_evidence.specs.declared.wanted.SlotPlace.{SlotPlace}
use Rattle.s3_evidence.specs.Inner.About.{IsOwnArea}
use Rattle.s3_evidence.proofs.Abouts.{all_more}
use Rattle.s3_evidence.proofs.wanted.push_slot.Goals as goal

pub returns-in_ok-push-in-Some : goal.returns-in_ok-push-in-Some
returns-in_ok-push-in-Some c = λ own before.
    subst (All (λ (place : SlotPlace). IsOwnArea c.args.asked.now.level place.area)) (sym c.in_ok-push-in-Some.ensures.items)
    (all_more (λ (place : SlotPlace). IsOwnArea c.args.asked.now.level place.area) c.args.slots.now.items _ before own)
