use Rattle.std.proofs.Common.{◌*◌, Ok, refl, sym, ap, ◌∙◌, arith}
use Rattle.s3_files.proofs.RecordLemmas.{length_records, records_set}
use Rattle.s3_keyed.specs.Index.{keys_of}
use Rattle.s3_keyed.specs.Inner.Shape.{layout_in, bytes_in}
use Rattle.s3_keyed.specs.Inner.Keyed.{shown, records_now}
use Rattle.s3_keyed.proofs.Places.{index_stays}
use Rattle.s3_keyed.proofs.CallLemmas.{below_capacity, keys_updated, ordered_same, place_there, same_key, update_changed, update_made}
use Rattle.s3_keyed.proofs.Unused.{record_unused, unused_same}
use Rattle.s3_keyed.proofs.keyed.Keyed.replace.Goals as goal

pub returns-then-not-have_same_key-clause-updated : goal.returns-then-not-have_same_key-clause-updated
returns-then-not-have_same_key-clause-updated g c =
    let self = c.args.self.now in
    update_changed (layout_in self.file).key c.args.i c.args.bytes.now c.args.old.now (records_now (shown self) (g.P.Sectors.state c.args.pool.now).contents) _ _ _
    c.requires.there refl refl c.have_same_key.ensures c.if-not-have_same_key.true

pub write_record-requires-clause-within : goal.write_record-requires-clause-within
write_record-requires-clause-within g c =
    let self = c.args.self.now in
    below_capacity c.args.i self.count self.file.file.capacity
    (place_there self.file.file.record_length self.count c.args.i (bytes_in self.file (g.P.Sectors.state c.args.pool.now).contents) c.args.old.now c.requires.there) self.counted

pub returns-clause-updated : goal.returns-clause-updated
returns-clause-updated g c =
    let self = c.args.self.now in
    let long = self.file.file.record_length in
    let bytes = bytes_in self.file (g.P.Sectors.state c.args.pool.now).contents in
    let new = bytes_in self.file (g.P.Sectors.state c.write_record.new.pool).contents in
    let records = records_now (shown self) (g.P.Sectors.state c.args.pool.now).contents in
    let place = (layout_in self.file).key in
    let below = place_there long self.count c.args.i bytes c.args.old.now c.requires.there in
    let same = same_key place c.args.bytes.now c.args.old.now _ _ _ refl refl c.have_same_key.ensures c.if-not-have_same_key.false in
    update_made place c.args.i c.args.bytes.now c.args.old.now records c.requires.there same (omega (arith, length_records long self.count bytes, below))
    ∙ ap Ok (sym (records_set long self.count c.args.i bytes new c.args.bytes.now below c.write_record.ensures.outside c.in_ok-write_record.ensures.ok))

pub returns-clause-ordered : goal.returns-clause-ordered
returns-clause-ordered g c =
    let self = c.args.self.now in
    let layout = layout_in self.file in
    let long = self.file.file.record_length in
    let bytes = bytes_in self.file (g.P.Sectors.state c.args.pool.now).contents in
    let new = bytes_in self.file (g.P.Sectors.state c.write_record.new.pool).contents in
    let records = records_now (shown self) (g.P.Sectors.state c.args.pool.now).contents in
    let below = place_there long self.count c.args.i bytes c.args.old.now c.requires.there in
    let same = same_key layout.key c.args.bytes.now c.args.old.now _ _ _ refl refl c.have_same_key.ensures c.if-not-have_same_key.false in
    let set = records_set long self.count c.args.i bytes new c.args.bytes.now below c.write_record.ensures.outside c.in_ok-write_record.ensures.ok in
    ordered_same _ _ _ _ _ _ _ _ _ _ c.requires.ordered
    (index_stays layout bytes new (c.args.i * long) long self.file.file.count c.write_record.ensures.records c.write_record.ensures.outside)
    (index_stays layout bytes new (c.args.i * long) long self.indexed c.write_record.ensures.records c.write_record.ensures.outside)
    (ap (keys_of layout.key) set ∙ keys_updated layout.key c.args.i c.args.bytes.now c.args.old.now records c.requires.there same)

pub returns-then-not-have_same_key-clause-unused : goal.returns-then-not-have_same_key-clause-unused
returns-then-not-have_same_key-clause-unused g c =
    unused_same (layout_in c.args.self.now.file) c.args.self.now.count (bytes_in c.args.self.now.file (g.P.Sectors.state c.args.pool.now).contents)

pub returns-in_err-write_record-clause-unused : goal.returns-in_err-write_record-clause-unused
returns-in_err-write_record-clause-unused g c =
    let self = c.args.self.now in
    record_unused (layout_in self.file) self.count c.args.i (bytes_in self.file (g.P.Sectors.state c.args.pool.now).contents) (bytes_in self.file (g.P.Sectors.state c.write_record.new.pool).contents) (place_there self.file.file.record_length self.count c.args.i (bytes_in self.file (g.P.Sectors.state c.args.pool.now).contents) c.args.old.now c.requires.there) c.write_record.ensures.outside

pub returns-clause-unused : goal.returns-clause-unused
returns-clause-unused g c =
    let self = c.args.self.now in
    record_unused (layout_in self.file) self.count c.args.i (bytes_in self.file (g.P.Sectors.state c.args.pool.now).contents) (bytes_in self.file (g.P.Sectors.state c.write_record.new.pool).contents) (place_there self.file.file.record_length self.count c.args.i (bytes_in self.file (g.P.Sectors.state c.args.pool.now).contents) c.args.old.now c.requires.there) c.write_record.ensures.outside
