use Rattle.std.proofs.Common.{◌≡◌, ◌+◌, ◌++◌, ◌∷◌, [], ◌^◌, length, ap, subst, ◌∙◌, arith}
use Rattle.s3_keyed.specs.KeyOrder.{number_of}
use Rattle.s3_keyed.specs.Index.{index_in}
use Rattle.s3_keyed.specs.Inner.Index.{keys_at}
use Rattle.s3_keyed.specs.Inner.Keyed.{IsOrdered}
use Rattle.s3_keyed.specs.Inner.Added.{entries_of}
use Rattle.s3_keyed.specs.Inner.Shape.{layout_in, bytes_in}
use Rattle.s3_files.proofs.RecordLemmas.{records_push}
use Rattle.s3_keyed.proofs.Places.{length_keys, same_records}
use Rattle.s3_keyed.proofs.Appending.{appended_indexed}
use Rattle.s3_store.proofs.Calls.{changes_err, changes_then}
use Rattle.s3_keyed.proofs.Unused.{entry_unused, record_unused, unused_then}
use Rattle.s3_keyed.proofs.keyed.Keyed.append_indexed.Goals as goal

pub write_entry-requires-clause-within : goal.write_entry-requires-clause-within
write_entry-requires-clause-within g c =
    let self = c.args.self.now in
    let counted = c.requires.ordered.counted in
    omega (arith, counted, c.requires.room, length_keys (layout_in self.file) self.count (bytes_in self.file (g.P.Sectors.state c.args.pool.now).contents))

pub returns-in_err-write_record-clause-changes : goal.returns-in_err-write_record-clause-changes
returns-in_err-write_record-clause-changes g c = changes_err _ _ c.from_residual-in_err-write_record.ensures.1 (changes_then c.in_ok-write_entry.ensures.changes c.in_err-write_record.ensures.changes)

pub returns-clause-ok : goal.returns-clause-ok
returns-clause-ok g c =
    let self = c.args.self.now in
    let old = bytes_in self.file (g.P.Sectors.state c.args.pool.now).contents in
    let middle = bytes_in self.file (g.P.Sectors.state c.write_entry.new.pool).contents in
    let new = bytes_in self.file (g.P.Sectors.state c.write_record.new.pool).contents in
    records_push self.file.file.record_length self.count middle new c.args.bytes.now c.write_record.ensures.outside c.in_ok-write_record.ensures.ok
    ∙ ap (λ l. l ++ c.args.bytes.now ∷ []) (same_records (layout_in self.file) old middle self.count self.indexed self.counted c.write_entry.ensures.outside)

pub returns-clause-ordered : goal.returns-clause-ordered
returns-clause-ordered g c =
    let self = c.args.self.now in
    let old = bytes_in self.file (g.P.Sectors.state c.args.pool.now).contents in
    let middle = bytes_in self.file (g.P.Sectors.state c.write_entry.new.pool).contents in
    let new = bytes_in self.file (g.P.Sectors.state c.write_record.new.pool).contents in
    let counted = c.requires.ordered.counted in
    let none = ap length c.requires.none_added in
    let same : self.indexed ≡ self.count = omega (arith, counted, none, length_keys (layout_in self.file) self.count old) in
    subst (λ n. IsOrdered self.file.file.count (n + 1) (256 ^ self.file.key_length) (index_in (layout_in self.file) self.file.file.count new) (index_in (layout_in self.file) (n + 1) new) (entries_of self.added) (keys_at (layout_in self.file) (self.count + 1) new)) same
    (appended_indexed (layout_in self.file) self.file.file.count self.indexed self.count (256 ^ self.file.key_length) (number_of c.args.key.bytes) old middle new (entries_of self.added) c.args.bytes.now
    c.requires.ordered c.requires.none_added c.requires.above c.in_ok-write_entry.ensures.ok c.write_entry.ensures.others (same_records (layout_in self.file) old middle self.count self.indexed self.counted c.write_entry.ensures.outside)
    c.write_record.ensures.outside c.in_ok-write_record.ensures.ok c.write_record.ensures.records c.requires.key)

pub returns-clause-changes : goal.returns-clause-changes
returns-clause-changes g c = changes_then c.in_ok-write_entry.ensures.changes c.in_ok-write_record.ensures.changes

pub returns-in_err-write_entry-clause-unused : goal.returns-in_err-write_entry-clause-unused
returns-in_err-write_entry-clause-unused g c =
    let self = c.args.self.now in
    let old = bytes_in self.file (g.P.Sectors.state c.args.pool.now).contents in
    let middle = bytes_in self.file (g.P.Sectors.state c.write_entry.new.pool).contents in
    let counted = c.requires.ordered.counted in
    let none = ap length c.requires.none_added in
    let same : self.indexed ≡ self.count = omega (arith, counted, none, length_keys (layout_in self.file) self.count old) in
    entry_unused (layout_in self.file) (self.count + 1) self.indexed old middle (omega (arith, same)) c.write_entry.ensures.outside

pub returns-in_err-write_record-clause-unused : goal.returns-in_err-write_record-clause-unused
returns-in_err-write_record-clause-unused g c =
    let self = c.args.self.now in
    let old = bytes_in self.file (g.P.Sectors.state c.args.pool.now).contents in
    let middle = bytes_in self.file (g.P.Sectors.state c.write_entry.new.pool).contents in
    let new = bytes_in self.file (g.P.Sectors.state c.write_record.new.pool).contents in
    let counted = c.requires.ordered.counted in
    let none = ap length c.requires.none_added in
    let same : self.indexed ≡ self.count = omega (arith, counted, none, length_keys (layout_in self.file) self.count old) in
    unused_then (layout_in self.file) (self.count + 1) old middle new
    (entry_unused (layout_in self.file) (self.count + 1) self.indexed old middle (omega (arith, same)) c.write_entry.ensures.outside)
    (record_unused (layout_in self.file) (self.count + 1) self.count middle new (omega arith) c.write_record.ensures.outside)

pub returns-clause-unused : goal.returns-clause-unused
returns-clause-unused g c =
    let self = c.args.self.now in
    let old = bytes_in self.file (g.P.Sectors.state c.args.pool.now).contents in
    let middle = bytes_in self.file (g.P.Sectors.state c.write_entry.new.pool).contents in
    let new = bytes_in self.file (g.P.Sectors.state c.write_record.new.pool).contents in
    let counted = c.requires.ordered.counted in
    let none = ap length c.requires.none_added in
    let same : self.indexed ≡ self.count = omega (arith, counted, none, length_keys (layout_in self.file) self.count old) in
    unused_then (layout_in self.file) (self.count + 1) old middle new
    (entry_unused (layout_in self.file) (self.count + 1) self.indexed old middle (omega (arith, same)) c.write_entry.ensures.outside)
    (record_unused (layout_in self.file) (self.count + 1) self.count middle new (omega arith) c.write_record.ensures.outside)
