use Rattle.s3_labels.proofs.Regions.{ready_room}
use Rattle.s3_labels.proofs.Changes.{drop_kept, label_dropped, ready_with, other_place}
use Rattle.s3_labels.proofs.Said.{says_dropped}
use Rattle.s3_labels.proofs.pack.Pack.drop_label.Goals as goal

pub clear_slot-requires-clause-room : goal.clear_slot-requires-clause-room
clear_slot-requires-clause-room g c = ready_room _ _ c.requires.ready

pub returns-clause-ok : goal.returns-clause-ok
returns-clause-ok g c = label_dropped _ _ _ _ _ c.in_ok-place.ensures.ok c.in_ok-place.ensures.place c.free.ensures

pub returns-clause-ready : goal.returns-clause-ready
returns-clause-ready g c =
    ready_with _ _ _ _ _ _ _ c.free.ensures c.in_ok-clear_slot.ensures.within c.requires.ready
    (drop_kept c.args.level c.args.name c.in_ok-place.place c.args.self.now.areas _ c.requires.ready c.in_ok-place.ensures.place)

pub returns-in_err-clear_slot-clause-others : goal.returns-in_err-clear_slot-clause-others
returns-in_err-clear_slot-clause-others g c = λ j other.
    c.in_err-clear_slot.ensures.others j (other_place _ _ j c.in_ok-place.ensures.place other)

pub returns-clause-others : goal.returns-clause-others
returns-clause-others g c = λ j other.
    c.in_ok-clear_slot.ensures.others j (other_place _ _ j c.in_ok-place.ensures.place other)

pub returns-clause-says : goal.returns-clause-says
returns-clause-says g c =
    says_dropped c.args.level c.args.name c.in_ok-place.place c.args.self.now.areas _ (g.P.Sectors.state c.args.self.now.pool).contents (g.P.Sectors.state c.clear_slot.new.pool).contents c.in_ok-place.ensures.within
    c.in_ok-place.ensures.ok c.in_ok-place.ensures.place c.in_ok-clear_slot.ensures.others c.free.ensures c.in_ok-clear_slot.ensures.cleared
