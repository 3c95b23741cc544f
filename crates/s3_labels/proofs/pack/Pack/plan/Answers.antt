use Rattle.std.proofs.Common.{arith, ◌∙◌}
use Rattle.std.proofs.lemmas.Option.{slice_get-get_or}
use Rattle.s3_labels.specs.Inner.Areas.{region_at, slots_at}
use Rattle.s3_labels.proofs.Makes.{planning_start, planning_written, planning_fails, planning_end}
use Rattle.s3_labels.proofs.Regions.{region_fits, region_whole}
use Rattle.s3_slots.proofs.NewFiles.{new_key, new_tracks}
use Rattle.s3_labels.proofs.pack.Pack.plan.Goals as goal

pub make_in-requires-clause-fits : goal.make_in-requires-clause-fits
make_in-requires-clause-fits g c = region_fits c.args.level c.args.self.now.areas _ c.region-region.result c.requires.ready c.region-region.ensures

pub make_in-requires-clause-whole : goal.make_in-requires-clause-whole
make_in-requires-clause-whole g c = region_whole c.args.level c.args.self.now.areas _ c.region-region.result c.requires.ready c.region-region.ensures

pub returns-in-Err-clause-err : goal.returns-in-Err-clause-err
returns-in-Err-clause-err g c =
    let areas = c.args.self.now.areas in
    planning_fails areas.header.format (region_at c.args.level areas) areas.masters c.args.news.now (slots_at c.args.level areas) c.loop-place.place c.loop-place.slots.items _ c.in-Err.fault
    (slice_get-get_or c.args.news.now c.loop-place.place _ c.loop-place-test.true) (rw (c.header-format.ensures, c.region-region.ensures, c.masters.ensures.slots, c.deref_mut.ensures.value) at c.in-Err.ensures.err) c.loop-place.invariant

pub returns-clause-ok : goal.returns-clause-ok
returns-clause-ok g c =
    let areas = c.args.self.now.areas in
    planning_end areas.header.format (region_at c.args.level areas) areas.masters c.args.news.now (slots_at c.args.level areas) c.loop-place.place c.loop-place.slots.items (let past = c.loop-place-test.false in omega (arith, past)) c.loop-place.invariant

pub make_in-requires-clause-key : goal.make_in-requires-clause-key
make_in-requires-clause-key g c = new_key _ (c.requires.proper c.loop-place.place _ c.loop-place-test.true)

pub make_in-requires-clause-length : goal.make_in-requires-clause-length
make_in-requires-clause-length g c = (c.requires.proper c.loop-place.place _ c.loop-place-test.true).length.0

pub make_in-requires-clause-tracks : goal.make_in-requires-clause-tracks
make_in-requires-clause-tracks g c = new_tracks _ (c.requires.proper c.loop-place.place _ c.loop-place-test.true)

pub loop-place-init : goal.loop-place-init
loop-place-init g c = rw (c.in_ok-slots.ensures ∙ c.slots.ensures.slots) (planning_start c.args.self.now.areas.header.format (region_at c.args.level c.args.self.now.areas) c.args.self.now.areas.masters c.args.news.now (slots_at c.args.level c.args.self.now.areas))

pub loop-place-preserved : goal.loop-place-preserved
loop-place-preserved g c =
    let areas = c.args.self.now.areas in
    planning_written areas.header.format (region_at c.args.level areas) areas.masters c.args.news.now (slots_at c.args.level areas) c.loop-place.place c.loop-place.slots.items c.make_in.new.slots _ c.loop-place.slots.len
    (slice_get-get_or c.args.news.now c.loop-place.place _ c.loop-place-test.true) (rw (c.header-format.ensures, c.region-region.ensures, c.masters.ensures.slots, c.deref_mut.ensures.value) at c.in_default.ensures.ok)
    (rw c.deref_mut.ensures.value at c.make_in.auto.slots) c.loop-place.slots.ok.0 c.loop-place.invariant
