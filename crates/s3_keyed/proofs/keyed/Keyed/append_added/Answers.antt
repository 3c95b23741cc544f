use Rattle.std.proofs.Common.{◌+◌, ◌^◌, refl, arith}
use Rattle.s3_keyed.specs.KeyOrder.{number_of}
use Rattle.s3_keyed.specs.Inner.Added.{entries_of}
use Rattle.s3_keyed.specs.Inner.Shape.{layout_in, bytes_in}
use Rattle.s3_files.proofs.RecordLemmas.{records_push}
use Rattle.s3_keyed.proofs.Appending.{appended_added, added_lacks}
use Rattle.s3_keyed.proofs.MergeSteps.{number_fits}
use Rattle.s3_store.proofs.Calls.{changes_none, changes_no_memory}
use Rattle.s3_keyed.proofs.Unused.{record_unused, unused_same}
use Rattle.s3_keyed.proofs.keyed.Keyed.append_added.Goals as goal

pub returns-clause-ok : goal.returns-clause-ok
returns-clause-ok g c =
    let self = c.args.self.now in
    records_push self.file.file.record_length self.count (bytes_in self.file (g.P.Sectors.state c.args.pool.now).contents) (bytes_in self.file (g.P.Sectors.state c.write_record.new.pool).contents) c.args.bytes.now c.write_record.ensures.outside c.in_ok-write_record.ensures.ok

pub returns-clause-ordered : goal.returns-clause-ordered
returns-clause-ordered g c =
    let self = c.args.self.now in
    appended_added (layout_in self.file) self.file.file.count self.indexed self.count (256 ^ self.file.key_length) (number_of c.args.key.bytes)
    (bytes_in self.file (g.P.Sectors.state c.args.pool.now).contents) (bytes_in self.file (g.P.Sectors.state c.write_record.new.pool).contents)
    (entries_of self.added) (entries_of c.insert.new.self) c.args.bytes.now
    c.requires.ordered c.write_record.ensures.outside c.in_ok-write_record.ensures.ok c.write_record.ensures.records c.requires.key c.requires.is_new c.requires.short c.in_ok-insert.ensures.ok

pub overflow_add-number : goal.overflow_add-number
overflow_add-number g c = number_fits c.args.self.now.file c.args.self.now.count c.requires.room

pub overflow_add-self : goal.overflow_add-self
overflow_add-self g c = number_fits c.args.self.now.file c.args.self.now.count c.requires.room

pub insert-requires : goal.insert-requires
insert-requires g c = record { is_new = added_lacks _ _ _ _ _ _ _ (number_of c.args.key.bytes) c.requires.ordered c.requires.is_new }

pub returns-in_err-insert-clause-changes : goal.returns-in_err-insert-clause-changes
returns-in_err-insert-clause-changes g c =
    changes_no_memory _ _ c.from_residual.ensures.1 c.in_err-insert.ensures.fault (changes_none {T = Unit {0}} c.args.self.now.file.file.sectors tt (g.P.Sectors.state c.args.pool.now))

pub returns-in_err-insert-clause-same : goal.returns-in_err-insert-clause-same
returns-in_err-insert-clause-same g c = record { sectors = refl; layout = refl; started = refl }

pub returns-in_err-write_record-clause-same : goal.returns-in_err-write_record-clause-same
returns-in_err-write_record-clause-same g c = record { sectors = refl; layout = refl; started = refl }

pub returns-clause-same : goal.returns-clause-same
returns-clause-same g c = record { sectors = refl; layout = refl; started = refl }

pub returns-in_err-insert-clause-unused : goal.returns-in_err-insert-clause-unused
returns-in_err-insert-clause-unused g c =
    unused_same (layout_in c.args.self.now.file) (c.args.self.now.count + 1) (bytes_in c.args.self.now.file (g.P.Sectors.state c.args.pool.now).contents)

pub returns-in_err-write_record-clause-unused : goal.returns-in_err-write_record-clause-unused
returns-in_err-write_record-clause-unused g c =
    let self = c.args.self.now in
    record_unused (layout_in self.file) (self.count + 1) self.count (bytes_in self.file (g.P.Sectors.state c.args.pool.now).contents) (bytes_in self.file (g.P.Sectors.state c.write_record.new.pool).contents) (omega arith) c.write_record.ensures.outside

pub returns-clause-unused : goal.returns-clause-unused
returns-clause-unused g c =
    let self = c.args.self.now in
    record_unused (layout_in self.file) (self.count + 1) self.count (bytes_in self.file (g.P.Sectors.state c.args.pool.now).contents) (bytes_in self.file (g.P.Sectors.state c.write_record.new.pool).contents) (omega arith) c.write_record.ensures.outside
