use Rattle.s3_labels.proofs.Regions.{ready_room}
use Rattle.s3_labels.proofs.Changes.{count_set, count_kept, ready_with, other_place}
use Rattle.std.proofs.Common.{arith}
use Rattle.s3_labels.proofs.Said.{says_counted}
use Rattle.s3_labels.proofs.pack.Pack.set_count.Goals as goal

pub write_count-requires-clause-room : goal.write_count-requires-clause-room
write_count-requires-clause-room g c = ready_room _ _ c.requires.ready

pub returns-clause-ok : goal.returns-clause-ok
returns-clause-ok g c = count_set _ _ _ _ _ _ c.in_ok-place.ensures.ok c.in_ok-place.ensures.place c.recount.ensures

pub returns-clause-ready : goal.returns-clause-ready
returns-clause-ready g c =
    ready_with _ _ _ _ _ _ _ c.recount.ensures c.in_ok-write_count.ensures.within c.requires.ready
    (count_kept c.args.level c.args.name c.args.count c.in_ok-place.place c.args.self.now.areas _ c.requires.ready c.in_ok-place.ensures.place c.requires.room)

pub returns-in_err-write_count-clause-others : goal.returns-in_err-write_count-clause-others
returns-in_err-write_count-clause-others g c = λ j other.
    c.in_err-write_count.ensures.others j (other_place _ _ j c.in_ok-place.ensures.place other)

pub returns-clause-others : goal.returns-clause-others
returns-clause-others g c = λ j other.
    c.in_ok-write_count.ensures.others j (other_place _ _ j c.in_ok-place.ensures.place other)

pub returns-clause-says : goal.returns-clause-says
returns-clause-says g c =
    says_counted c.args.level c.args.name c.in_ok-place.place c.args.self.now.areas _ (g.P.Sectors.state c.args.self.now.pool).contents (g.P.Sectors.state c.write_count.new.pool).contents c.in_ok-place.ensures.within
    c.in_ok-place.ensures.ok c.in_ok-place.ensures.place c.in_ok-write_count.ensures.others c.args.count (omega (arith, c.ranges.count))
    (count_kept c.args.level c.args.name c.args.count c.in_ok-place.place c.args.self.now.areas _ c.requires.ready c.in_ok-place.ensures.place c.requires.room)
    c.recount.ensures c.in_ok-write_count.ensures.written
