use Rattle.std.proofs.Common.{refl, ap, ◌∙◌, arith}
use Rattle.s3_store.proofs.Frames.{within_refl}
use Rattle.s3_slots.proofs.NewFiles.{new_key, new_tracks}
use Rattle.s3_labels.specs.Inner.Areas.{Areas, region_at}
use Rattle.s3_labels.specs.Areas.{area_of}
use Rattle.s3_labels.proofs.Regions.{region_fits, region_whole, ready_room, slot_on_pack}
use Rattle.s3_labels.proofs.Changes.{made_ready}
use Rattle.s3_labels.proofs.Outcomes.{label_refused, label_same, label_failed, sectors_refused, sectors_same, sectors_failed, later_failed}
use Rattle.s3_labels.proofs.Makes.{there_for, make_within, records_within, blanks_stay, slots_stay, others_of_make, few_areas}
use Rattle.s3_labels.proofs.Said.{says_made}
use Rattle.s3_labels.proofs.pack.Pack.make.Goals as goal

pub make-requires-clause-fits : goal.make-requires-clause-fits
make-requires-clause-fits g c = region_fits c.args.level c.args.self.now.areas _ (region_at c.args.level c.args.self.now.areas) c.requires.ready refl

pub make-requires-clause-key : goal.make-requires-clause-key
make-requires-clause-key g c = new_key c.args.new.now c.requires.proper

pub make-requires-clause-length : goal.make-requires-clause-length
make-requires-clause-length g c = c.requires.proper.length.0

pub make-requires-clause-tracks : goal.make-requires-clause-tracks
make-requires-clause-tracks g c = new_tracks c.args.new.now c.requires.proper

pub make-requires-clause-whole : goal.make-requires-clause-whole
make-requires-clause-whole g c = region_whole c.args.level c.args.self.now.areas _ (region_at c.args.level c.args.self.now.areas) c.requires.ready refl

pub write_records-requires-clause-there : goal.write_records-requires-clause-there
write_records-requires-clause-there g c = (there_for c.args.level c.args.self.now.areas _ c.in_ok-made.made.label c.requires.ready c.in_ok-made.ensures.placed).stored

pub write_records-requires-clause-few : goal.write_records-requires-clause-few
write_records-requires-clause-few g c = (there_for c.args.level c.args.self.now.areas _ c.in_ok-made.made.label c.requires.ready c.in_ok-made.ensures.placed).few

pub write_made-requires-clause-room : goal.write_made-requires-clause-room
write_made-requires-clause-room g c = let r = ready_room c.args.self.now.areas _ c.requires.ready in omega (arith, r, c.in_ok-write_records.ensures.within.count)

pub returns-in_err-write_made-clause-within : goal.returns-in_err-write_made-clause-within
returns-in_err-write_made-clause-within g c =
    make_within (area_of c.args.level) c.args.new.now.name _ c.in_ok-made.made.label _ _ _
    (record { slots = _; at = c.in_ok-made.made.at; is = c.in_ok-made.ensures.ok; there = c.in_ok-made.ensures.there; named = c.in_ok-made.ensures.named })
    c.in_ok-write_records.ensures.within c.in_err-write_made.ensures.within

pub returns-clause-blank : goal.returns-clause-blank
returns-clause-blank g c = λ direct.
    blanks_stay c.args.level c.args.self.now.areas _ (area_of c.args.level) _ c.in_ok-made.made.label (g.P.Sectors.state c.write_records.new.pool) (g.P.Sectors.state c.write_made.new.pool) (few_areas c.args.level) c.requires.ready
    c.in_ok-made.ensures.placed c.in_ok-write_made.ensures.within (c.in_ok-write_records.ensures.blank direct)

pub returns-in_err-write_records-clause-ready : goal.returns-in_err-write_records-clause-ready
returns-in_err-write_records-clause-ready g c =
    made_ready c.args.level c.args.new.now c.args.self.now.areas c.make.new.self _ (g.P.Sectors.state c.args.self.now.pool) (g.P.Sectors.state c.write_records.new.pool) c.requires.ready c.requires.proper
    c.in_ok-made.ensures.ok c.in_ok-made.ensures.alone c.in_err-write_records.ensures.within

pub returns-in_err-write_made-clause-ready : goal.returns-in_err-write_made-clause-ready
returns-in_err-write_made-clause-ready g c =
    made_ready c.args.level c.args.new.now c.args.self.now.areas c.make.new.self _ (g.P.Sectors.state c.args.self.now.pool) (g.P.Sectors.state c.write_made.new.pool) c.requires.ready c.requires.proper
    c.in_ok-made.ensures.ok c.in_ok-made.ensures.alone
    (make_within (area_of c.args.level) c.args.new.now.name _ c.in_ok-made.made.label _ _ _
    (record { slots = _; at = c.in_ok-made.made.at; is = c.in_ok-made.ensures.ok; there = c.in_ok-made.ensures.there; named = c.in_ok-made.ensures.named })
    c.in_ok-write_records.ensures.within c.in_err-write_made.ensures.within)

pub returns-clause-ready : goal.returns-clause-ready
returns-clause-ready g c =
    made_ready c.args.level c.args.new.now c.args.self.now.areas c.make.new.self _ (g.P.Sectors.state c.args.self.now.pool) (g.P.Sectors.state c.write_made.new.pool) c.requires.ready c.requires.proper
    c.in_ok-made.ensures.ok c.in_ok-made.ensures.alone
    (make_within (area_of c.args.level) c.args.new.now.name _ c.in_ok-made.made.label _ _ _
    (record { slots = _; at = c.in_ok-made.made.at; is = c.in_ok-made.ensures.ok; there = c.in_ok-made.ensures.there; named = c.in_ok-made.ensures.named })
    c.in_ok-write_records.ensures.within c.in_ok-write_made.ensures.within)

pub returns-clause-written : goal.returns-clause-written
returns-clause-written g c = record {
  slot = c.in_ok-made.made.at;
  there = c.in_ok-made.ensures.there;
  bytes = c.in_ok-write_made.ensures.written;
}

pub returns-clause-on_pack : goal.returns-clause-on_pack
returns-clause-on_pack g c =
    slot_on_pack c.args.level c.make.new.self (g.P.Sectors.state c.write_made.new.pool).contents c.in_ok-made.made.at c.in_ok-made.made.label c.in_ok-made.ensures.there
    (made_ready c.args.level c.args.new.now c.args.self.now.areas c.make.new.self _ (g.P.Sectors.state c.args.self.now.pool) (g.P.Sectors.state c.write_made.new.pool) c.requires.ready c.requires.proper
    c.in_ok-made.ensures.ok c.in_ok-made.ensures.alone
    (make_within (area_of c.args.level) c.args.new.now.name _ c.in_ok-made.made.label _ _ _
    (record { slots = _; at = c.in_ok-made.made.at; is = c.in_ok-made.ensures.ok; there = c.in_ok-made.ensures.there; named = c.in_ok-made.ensures.named })
    c.in_ok-write_records.ensures.within c.in_ok-write_made.ensures.within))

pub returns-in_err-write_records-clause-others : goal.returns-in_err-write_records-clause-others
returns-in_err-write_records-clause-others g c = λ j below not_old not_new.
    slots_stay c.args.level c.args.self.now.areas _ (area_of c.args.level) c.in_ok-made.made.label (g.P.Sectors.state c.args.self.now.pool) (g.P.Sectors.state c.write_records.new.pool) (few_areas c.args.level) c.requires.ready
    c.in_ok-made.ensures.placed c.in_err-write_records.ensures.within j below

pub returns-in_err-write_made-clause-others : goal.returns-in_err-write_made-clause-others
returns-in_err-write_made-clause-others g c = λ j below not_old not_new.
    let other = others_of_make c.in_ok-made.made.freed _ _ c.in_ok-made.made.at j c.in_ok-made.ensures.old c.in_ok-made.ensures.slot not_old not_new in
    c.in_err-write_made.ensures.others j other.0 other.1
    ∙ slots_stay c.args.level c.args.self.now.areas _ (area_of c.args.level) c.in_ok-made.made.label (g.P.Sectors.state c.args.self.now.pool) (g.P.Sectors.state c.write_records.new.pool) (few_areas c.args.level) c.requires.ready
    c.in_ok-made.ensures.placed c.in_ok-write_records.ensures.within j below

pub returns-clause-others : goal.returns-clause-others
returns-clause-others g c = λ j below not_old not_new.
    let other = others_of_make c.in_ok-made.made.freed _ _ c.in_ok-made.made.at j c.in_ok-made.ensures.old c.in_ok-made.ensures.slot not_old not_new in
    c.in_ok-write_made.ensures.others j other.0 other.1
    ∙ slots_stay c.args.level c.args.self.now.areas _ (area_of c.args.level) c.in_ok-made.made.label (g.P.Sectors.state c.args.self.now.pool) (g.P.Sectors.state c.write_records.new.pool) (few_areas c.args.level) c.requires.ready
    c.in_ok-made.ensures.placed c.in_ok-write_records.ensures.within j below

pub returns-clause-says : goal.returns-clause-says
returns-clause-says g c =
    says_made c.args.level c.args.new.now c.args.self.now.areas c.make.new.self (g.P.Sectors.state c.args.self.now.pool).contents (g.P.Sectors.state c.write_made.new.pool).contents c.in_ok-made.made.at c.in_ok-made.made.label c.in_ok-made.made.freed
    c.requires.ready c.requires.proper c.know_widths.ensures.codes c.know_widths.ensures.date c.in_ok-made.ensures.within c.in_ok-made.ensures.ok c.in_ok-made.ensures.alone c.in_ok-made.ensures.slot c.in_ok-made.ensures.there c.in_ok-made.ensures.old
    c.in_ok-write_made.ensures.written c.in_ok-write_made.ensures.cleared
    (λ j below not_old not_new. c.in_ok-write_made.ensures.others j not_old not_new
    ∙ slots_stay c.args.level c.args.self.now.areas _ (area_of c.args.level) c.in_ok-made.made.label (g.P.Sectors.state c.args.self.now.pool) (g.P.Sectors.state c.write_records.new.pool) (few_areas c.args.level) c.requires.ready
    c.in_ok-made.ensures.placed c.in_ok-write_records.ensures.within j below)

-- ---- refusals
pub returns-in_err-made-clause-err : goal.returns-in_err-made-clause-err
returns-in_err-made-clause-err g c = label_refused c.from_residual.result _ c.in_err-made.field-0.0 c.from_residual.ensures.1 c.in_err-made.ensures.err

pub returns-in_err-made-clause-same : goal.returns-in_err-made-clause-same
returns-in_err-made-clause-same g c = label_same c.from_residual.result _ (ap (λ (a : Areas). record c.args.self.now { areas = a }) c.in_err-made.ensures.same)

pub returns-in_err-made-clause-alone : goal.returns-in_err-made-clause-alone
returns-in_err-made-clause-alone g c = c.in_err-made.ensures.alone

pub returns-in_err-made-clause-within : goal.returns-in_err-made-clause-within
returns-in_err-made-clause-within g c = within_refl _ _

pub returns-in_err-made-clause-failures : goal.returns-in_err-made-clause-failures
returns-in_err-made-clause-failures g c = label_failed c.from_residual.result _ c.in_err-made.field-0.0 c.from_residual.ensures.1

pub returns-in_err-made-clause-ready : goal.returns-in_err-made-clause-ready
returns-in_err-made-clause-ready g c = rw c.in_err-made.ensures.same c.requires.ready

pub returns-in_err-write_records-clause-err : goal.returns-in_err-write_records-clause-err
returns-in_err-write_records-clause-err g c =
    sectors_refused c.from_residual-in_err-write_records.result _ c.in_err-write_records.field-0.0 c.from_residual-in_err-write_records.ensures.1

pub returns-in_err-write_records-clause-same : goal.returns-in_err-write_records-clause-same
returns-in_err-write_records-clause-same g c =
    sectors_same c.from_residual-in_err-write_records.result c.in_err-write_records.field-0.0 _ c.from_residual-in_err-write_records.ensures.1

pub returns-in_err-write_records-clause-within : goal.returns-in_err-write_records-clause-within
returns-in_err-write_records-clause-within g c =
    records_within (area_of c.args.level) c.args.new.now.name _ c.in_ok-made.made.label _ _
    (record { slots = _; at = c.in_ok-made.made.at; is = c.in_ok-made.ensures.ok; there = c.in_ok-made.ensures.there; named = c.in_ok-made.ensures.named })
    c.in_err-write_records.ensures.within

pub returns-in_err-write_records-clause-failures : goal.returns-in_err-write_records-clause-failures
returns-in_err-write_records-clause-failures g c =
    sectors_failed c.from_residual-in_err-write_records.result c.write_records.result c.in_err-write_records.field-0.0 _ _ c.from_residual-in_err-write_records.ensures.1
    c.in_err-write_records.was c.write_records.ensures.failures

pub returns-in_err-write_made-clause-err : goal.returns-in_err-write_made-clause-err
returns-in_err-write_made-clause-err g c =
    sectors_refused c.from_residual-in_err-write_made.result _ c.in_err-write_made.field-0.0 c.from_residual-in_err-write_made.ensures.1

pub returns-in_err-write_made-clause-same : goal.returns-in_err-write_made-clause-same
returns-in_err-write_made-clause-same g c =
    sectors_same c.from_residual-in_err-write_made.result c.in_err-write_made.field-0.0 _ c.from_residual-in_err-write_made.ensures.1

pub returns-in_err-write_made-clause-failures : goal.returns-in_err-write_made-clause-failures
returns-in_err-write_made-clause-failures g c =
    later_failed _ _ _ _ c.in_ok-write_records.ensures.failures
    (sectors_failed c.from_residual-in_err-write_made.result c.write_made.result c.in_err-write_made.field-0.0 _ _ c.from_residual-in_err-write_made.ensures.1
    c.in_err-write_made.was c.write_made.ensures.failures)

pub returns-clause-within : goal.returns-clause-within
returns-clause-within g c =
    make_within (area_of c.args.level) c.args.new.now.name _ c.in_ok-made.made.label _ _ _
    (record { slots = _; at = c.in_ok-made.made.at; is = c.in_ok-made.ensures.ok; there = c.in_ok-made.ensures.there; named = c.in_ok-made.ensures.named })
    c.in_ok-write_records.ensures.within c.in_ok-write_made.ensures.within

pub returns-clause-failures : goal.returns-clause-failures
returns-clause-failures g c = later_failed _ _ _ _ c.in_ok-write_records.ensures.failures c.in_ok-write_made.ensures.failures
