use Rattle.std.proofs.Common.{◌*◌, Ok, refl, sym, subst, ap, ◌∙◌, arith}
use Rattle.std.specs.List.{Contains}
use Rattle.s3_store.specs.Bytes.{part}
use Rattle.s3_store.specs.Inner.Bytes.{SameOutside}
use Rattle.s3_store.proofs.Frames.{within_from_keeps, keeps_within}
use Rattle.s3_files.proofs.FileFrames.{stored_keeps}
use Rattle.s3_files.proofs.RecordLemmas.{length_records, get_record, records_set}
use Rattle.s3_keyed.specs.Index.{keys_of}
use Rattle.s3_keyed.specs.Inner.Shape.{layout_in, bytes_in}
use Rattle.s3_keyed.specs.Inner.Keyed.{shown, records_now}
use Rattle.s3_keyed.proofs.Places.{index_stays}
use Rattle.s3_keyed.proofs.CallLemmas.{no_record, below_capacity, update_none, update_changed, update_made, same_key, keys_updated, ordered_same}
use Rattle.s3_keyed.proofs.Unused.{record_unused, unused_behind, unused_kept, unused_same}
use Rattle.s3_keyed.proofs.keyed.Keyed.update.Goals as goal

pub returns-then-i-self-clause-updated : goal.returns-then-i-self-clause-updated
returns-then-i-self-clause-updated g c =
    let self = c.args.self.now in
    let bytes = bytes_in self.file (g.P.Sectors.state c.args.pool.now).contents in
    update_none (layout_in self.file).key c.args.i c.args.bytes.now (records_now (shown self) (g.P.Sectors.state c.args.pool.now).contents) (no_record self.file.file.record_length self.count c.args.i bytes c.if-i-self.true)

pub returns-then-not-branch-clause-updated : goal.returns-then-not-branch-clause-updated
returns-then-not-branch-clause-updated g c =
    let self = c.args.self.now in
    let long = self.file.file.record_length in
    let bytes = bytes_in self.file (g.P.Sectors.state c.args.pool.now).contents in
    update_changed (layout_in self.file).key c.args.i c.args.bytes.now (part bytes (c.args.i * long) long) (records_now (shown self) (g.P.Sectors.state c.args.pool.now).contents) _ _ _
    (get_record long self.count c.args.i bytes c.if-i-self.false) refl refl c.in_ok-has_key_of.ensures.ok c.if-not-branch.true

pub returns-in_err-write_record-clause-within : goal.returns-in_err-write_record-clause-within
returns-in_err-write_record-clause-within g c = keeps_within (Contains c.args.self.now.file.file.sectors) _ _ _ c.has_key_of.ensures.reads.keeps c.write_record.ensures.changes.within

pub returns-clause-within : goal.returns-clause-within
returns-clause-within g c = keeps_within (Contains c.args.self.now.file.file.sectors) _ _ _ c.has_key_of.ensures.reads.keeps c.write_record.ensures.changes.within

pub returns-clause-updated : goal.returns-clause-updated
returns-clause-updated g c =
    let self = c.args.self.now in
    let long = self.file.file.record_length in
    let bytes = bytes_in self.file (g.P.Sectors.state c.args.pool.now).contents in
    let new = bytes_in self.file (g.P.Sectors.state c.write_record.new.pool).contents in
    let records = records_now (shown self) (g.P.Sectors.state c.args.pool.now).contents in
    let place = (layout_in self.file).key in
    let there = get_record long self.count c.args.i bytes c.if-i-self.false in
    let same = same_key place c.args.bytes.now (part bytes (c.args.i * long) long) _ _ _ refl refl c.in_ok-has_key_of.ensures.ok c.if-not-branch.false in
    let outside : SameOutside (c.args.i * long) long bytes new = subst (λ l. SameOutside (c.args.i * long) long (bytes_in self.file l) new) c.has_key_of.ensures.reads.keeps.contents c.write_record.ensures.outside in
    update_made place c.args.i c.args.bytes.now (part bytes (c.args.i * long) long) records there same (omega (arith, length_records long self.count bytes, c.if-i-self.false))
    ∙ ap Ok (sym (records_set long self.count c.args.i bytes new c.args.bytes.now c.if-i-self.false outside c.in_ok-write_record.ensures.ok))

pub returns-clause-ordered : goal.returns-clause-ordered
returns-clause-ordered g c =
    let self = c.args.self.now in
    let layout = layout_in self.file in
    let long = self.file.file.record_length in
    let bytes = bytes_in self.file (g.P.Sectors.state c.args.pool.now).contents in
    let new = bytes_in self.file (g.P.Sectors.state c.write_record.new.pool).contents in
    let records = records_now (shown self) (g.P.Sectors.state c.args.pool.now).contents in
    let there = get_record long self.count c.args.i bytes c.if-i-self.false in
    let same = same_key layout.key c.args.bytes.now (part bytes (c.args.i * long) long) _ _ _ refl refl c.in_ok-has_key_of.ensures.ok c.if-not-branch.false in
    let outside : SameOutside (c.args.i * long) long bytes new = subst (λ l. SameOutside (c.args.i * long) long (bytes_in self.file l) new) c.has_key_of.ensures.reads.keeps.contents c.write_record.ensures.outside in
    let set = records_set long self.count c.args.i bytes new c.args.bytes.now c.if-i-self.false outside c.in_ok-write_record.ensures.ok in
    ordered_same _ _ _ _ _ _ _ _ _ _ c.requires.ordered
    (index_stays layout bytes new (c.args.i * long) long self.file.file.count c.write_record.ensures.records outside)
    (index_stays layout bytes new (c.args.i * long) long self.indexed c.write_record.ensures.records outside)
    (ap (keys_of layout.key) set ∙ keys_updated layout.key c.args.i c.args.bytes.now (part bytes (c.args.i * long) long) records there same)

pub write_record-requires-clause-stored : goal.write_record-requires-clause-stored
write_record-requires-clause-stored g c = stored_keeps c.args.self.now.file.file.sectors _ _ c.requires.stored c.has_key_of.ensures.reads.keeps

pub returns-in_err-has_key_of-clause-within : goal.returns-in_err-has_key_of-clause-within
returns-in_err-has_key_of-clause-within g c = within_from_keeps (Contains c.args.self.now.file.file.sectors) _ _ c.has_key_of.ensures.reads.keeps

pub returns-then-not-branch-clause-within : goal.returns-then-not-branch-clause-within
returns-then-not-branch-clause-within g c = within_from_keeps (Contains c.args.self.now.file.file.sectors) _ _ c.has_key_of.ensures.reads.keeps

pub has_key_of-requires-clause-within : goal.has_key_of-requires-clause-within
has_key_of-requires-clause-within g c = below_capacity c.args.i c.args.self.now.count c.args.self.now.file.file.capacity c.if-i-self.false c.args.self.now.counted

pub write_record-requires-clause-within : goal.write_record-requires-clause-within
write_record-requires-clause-within g c = below_capacity c.args.i c.args.self.now.count c.args.self.now.file.file.capacity c.if-i-self.false c.args.self.now.counted

pub returns-then-i-self-clause-unused : goal.returns-then-i-self-clause-unused
returns-then-i-self-clause-unused g c =
    unused_same (layout_in c.args.self.now.file) c.args.self.now.count (bytes_in c.args.self.now.file (g.P.Sectors.state c.args.pool.now).contents)

pub returns-in_err-has_key_of-clause-unused : goal.returns-in_err-has_key_of-clause-unused
returns-in_err-has_key_of-clause-unused g c =
    unused_kept (layout_in c.args.self.now.file) c.args.self.now.count c.args.self.now.file.file.sectors (g.P.Sectors.state c.args.pool.now) (g.P.Sectors.state c.has_key_of.new.pool) c.has_key_of.ensures.reads.keeps

pub returns-then-not-branch-clause-unused : goal.returns-then-not-branch-clause-unused
returns-then-not-branch-clause-unused g c =
    unused_kept (layout_in c.args.self.now.file) c.args.self.now.count c.args.self.now.file.file.sectors (g.P.Sectors.state c.args.pool.now) (g.P.Sectors.state c.has_key_of.new.pool) c.has_key_of.ensures.reads.keeps

pub returns-in_err-write_record-clause-unused : goal.returns-in_err-write_record-clause-unused
returns-in_err-write_record-clause-unused g c =
    let self = c.args.self.now in
    unused_behind (layout_in self.file) self.count self.file.file.sectors (g.P.Sectors.state c.args.pool.now) (g.P.Sectors.state c.has_key_of.new.pool) (g.P.Sectors.state c.write_record.new.pool) c.has_key_of.ensures.reads.keeps
    (record_unused (layout_in self.file) self.count c.args.i (bytes_in self.file (g.P.Sectors.state c.has_key_of.new.pool).contents) (bytes_in self.file (g.P.Sectors.state c.write_record.new.pool).contents) c.if-i-self.false c.write_record.ensures.outside)

pub returns-clause-unused : goal.returns-clause-unused
returns-clause-unused g c =
    let self = c.args.self.now in
    unused_behind (layout_in self.file) self.count self.file.file.sectors (g.P.Sectors.state c.args.pool.now) (g.P.Sectors.state c.has_key_of.new.pool) (g.P.Sectors.state c.write_record.new.pool) c.has_key_of.ensures.reads.keeps
    (record_unused (layout_in self.file) self.count c.args.i (bytes_in self.file (g.P.Sectors.state c.has_key_of.new.pool).contents) (bytes_in self.file (g.P.Sectors.state c.write_record.new.pool).contents) c.if-i-self.false c.write_record.ensures.outside)
