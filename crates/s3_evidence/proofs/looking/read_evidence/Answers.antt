use Rattle.std.proofs.Common.{subst, sym}
use Rattle.std.specs.List.{All}
use Rattle.s3_cards.specs.declared.name.Name.{Name}
use Rattle.s3_slots.specs.declared.label.FileLabel.{FileLabel}
use Rattle.s3_evidence.specs.declared.wanted.SlotPlace.{SlotPlace}
use Rattle.s3_evidence.specs.declared.wanted.Wanted.{Wanted}
use Rattle.s3_evidence.specs.declared.wanted.WantedRecord.{WantedRecord}
use Rattle.s3_evidence.specs.Inner.About.{HasIndex, IsInUse, IsOwnArea, IsWanted}
use Rattle.s3_evidence.proofs.looking.read_evidence.Goals as goal

pub returns-in_ok-read_slots-in-Slots-clause-about : goal.returns-in_ok-read_slots-in-Slots-clause-about
returns-in_ok-read_slots-in-Slots-clause-about g c = c.in_ok-read_slots-in-Slots.ensures.own c.args.level
    (subst (All (λ (place : SlotPlace). IsOwnArea c.args.level place.area)) (sym c.deref-in-Slots.ensures.value) (subst (λ (wanted : Wanted). IsWanted c.args.level c.args.bureau.now wanted) c.in-Slots.is c.in_ok-find_wanted.ensures))

pub returns-in_ok-read_records-in-Totals-clause-about : goal.returns-in_ok-read_records-in-Totals-clause-about
returns-in_ok-read_records-in-Totals-clause-about g c = c.in_ok-read_records-in-Totals.ensures.from c.args.level
    (subst (All (λ (one : WantedRecord). IsInUse c.args.level c.args.bureau.now one.label)) (sym c.deref.ensures.value) (subst (λ (wanted : Wanted). IsWanted c.args.level c.args.bureau.now wanted) c.in-Totals.is c.in_ok-find_wanted.ensures))

pub returns-in_ok-check_indexes-in-Indexes-clause-about : goal.returns-in_ok-check_indexes-in-Indexes-clause-about
returns-in_ok-check_indexes-in-Indexes-clause-about g c = c.in_ok-check_indexes-in-Indexes.ensures.own c.args.level c.args.bureau.now.beside.areas
    (subst (All (λ (file : Name × FileLabel). HasIndex c.args.level c.args.bureau.now.beside.areas file.0 file.1)) (sym c.deref-in-Indexes.ensures.value) (subst (λ (wanted : Wanted). IsWanted c.args.level c.args.bureau.now wanted) c.in-Indexes.is c.in_ok-find_wanted.ensures))
