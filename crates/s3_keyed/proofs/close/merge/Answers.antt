use Rattle.std.proofs.Common.{◌≡◌, ◌≢◌, ◌+◌, ◌-◌, ◌^◌, ◌<◌, ℕ, true, length, map, take, refl, sym, ap, subst, ◌∙◌, arith}
use Rattle.std.specs.List.{All, Contains, range_with_len}
use Rattle.s3_files.specs.Records.{records_in}
use Rattle.s3_files.proofs.FileFrames.{stored_within, stored_keeps}
use Rattle.s3_keyed.specs.KeyOrder.{insert_entries, ascends, keys_in}
use Rattle.s3_keyed.specs.Index.{entry_at, index_in}
use Rattle.s3_keyed.specs.Inner.Added.{entries_of}
use Rattle.s3_keyed.specs.Inner.Shape.{layout_in, bytes_in, entry_of}
use Rattle.s3_keyed.proofs.Merging.{IsMerging, merge-start}
use Rattle.s3_keyed.proofs.MergeSteps.{next_place, next_fits, above_fits, less_left, less_added, some_entries, last_at, no_entries, last_hit, last_miss, step_moved, step_placed, merge_ends, ascends_take, short_take, short_at}
use Rattle.s3_keyed.proofs.Places.{same_records}
use Rattle.s3_keyed.proofs.Unused.{unused_same, unused_step}
use Rattle.s3_store.proofs.Calls.{changes_none, changes_err, changes_behind, changes_then}
use Rattle.s3_keyed.proofs.close.merge.Goals as goal

pub returns-in_err-write_entry-clause-records : goal.returns-in_err-write_entry-clause-records
returns-in_err-write_entry-clause-records g c =
    let f = c.args.file.now in
    λ count few.
    same_records (layout_in f) (bytes_in f (g.P.Sectors.state c.last_above.new.pool).contents) (bytes_in f (g.P.Sectors.state c.write_entry.new.pool).contents) count (c.highest.left + (c.len-above.result - 1)) few c.write_entry.ensures.outside
    ∙ ap (λ l. records_in f.file.record_length count (bytes_in f l)) c.last_above.ensures.reads.keeps.contents
    ∙ c.highest.invariant.records count few

pub returns-in_err-write_entry-clause-unused : goal.returns-in_err-write_entry-clause-unused
returns-in_err-write_entry-clause-unused g c =
    let f = c.args.file.now in
    let long = some_entries (entries_of c.highest.added) (entry_of c.in-Some.top) c.len-above.result c.len-above.ensures c.in-Some.ensures in
    unused_step (layout_in f) (c.args.indexed + length (entries_of c.args.added.now)) (c.highest.left + (c.len-above.result - 1)) f.file.sectors (bytes_in f (g.P.Sectors.state c.args.pool.now).contents)
    (g.P.Sectors.state c.highest.pool) (g.P.Sectors.state c.last_above.new.pool) (g.P.Sectors.state c.write_entry.new.pool)
    (next_place c.highest.left _ (c.args.indexed + length (entries_of c.args.added.now)) c.len-above.result (entries_of c.highest.added) c.highest.invariant.merging.room (omega arith) long)
    c.highest.invariant.unused c.last_above.ensures.reads.keeps c.write_entry.ensures.outside

pub returns-in_err-write_entry-clause-changes : goal.returns-in_err-write_entry-clause-changes
returns-in_err-write_entry-clause-changes g c =
    changes_err _ _ c.from_residual-in_err-write_entry.ensures.1 (changes_then c.highest.invariant.changes (changes_behind c.in_ok-last.ensures.reads c.in_err-write_entry.ensures.changes))

pub returns-in_err-write_entry-2-clause-records : goal.returns-in_err-write_entry-2-clause-records
returns-in_err-write_entry-2-clause-records g c =
    let f = c.args.file.now in
    λ count few.
    same_records (layout_in f) (bytes_in f (g.P.Sectors.state c.last_above.new.pool).contents) (bytes_in f (g.P.Sectors.state c.write_entry-in_default-2.new.pool).contents) count (c.highest.left + (c.len-above.result - 1)) few c.write_entry-in_default-2.ensures.outside
    ∙ ap (λ l. records_in f.file.record_length count (bytes_in f l)) c.last_above.ensures.reads.keeps.contents
    ∙ c.highest.invariant.records count few

pub returns-in_err-write_entry-2-clause-unused : goal.returns-in_err-write_entry-2-clause-unused
returns-in_err-write_entry-2-clause-unused g c =
    let f = c.args.file.now in
    let long = some_entries (entries_of c.highest.added) (entry_of c.in-Some.top) c.len-above.result c.len-above.ensures c.in-Some.ensures in
    unused_step (layout_in f) (c.args.indexed + length (entries_of c.args.added.now)) (c.highest.left + (c.len-above.result - 1)) f.file.sectors (bytes_in f (g.P.Sectors.state c.args.pool.now).contents)
    (g.P.Sectors.state c.highest.pool) (g.P.Sectors.state c.last_above.new.pool) (g.P.Sectors.state c.write_entry-in_default-2.new.pool)
    (next_place c.highest.left _ (c.args.indexed + length (entries_of c.args.added.now)) c.len-above.result (entries_of c.highest.added) c.highest.invariant.merging.room (omega arith) long)
    c.highest.invariant.unused c.last_above.ensures.reads.keeps c.write_entry-in_default-2.ensures.outside

pub returns-in_err-write_entry-2-clause-changes : goal.returns-in_err-write_entry-2-clause-changes
returns-in_err-write_entry-2-clause-changes g c =
    changes_err _ _ c.from_residual-in_err-write_entry-2.ensures.1 (changes_then c.highest.invariant.changes (changes_behind c.in_ok-last.ensures.reads c.in_err-write_entry-2.ensures.changes))

pub write_entry-requires-in_default-2-clause-short : goal.write_entry-requires-in_default-2-clause-short
write_entry-requires-in_default-2-clause-short g c =
    let items = entries_of c.highest.added in
    let above = c.len-above.result - 1 in
    let long = some_entries (entries_of c.highest.added) (entry_of c.in-Some.top) c.len-above.result c.len-above.ensures c.in-Some.ensures in
    short_at (256 ^ c.args.file.now.key_length) above (entry_of c.in-Some.top) items c.highest.invariant.short (last_at items above (entry_of c.in-Some.top) long c.in-Some.ensures)

pub highest-preserved-in-Some-2 : goal.highest-preserved-in-Some-2
highest-preserved-in-Some-2 g c =
    let f = c.args.file.now in
    let old = entry_at (layout_in f) (bytes_in f (g.P.Sectors.state c.args.pool.now).contents) in
    let now = entry_at (layout_in f) (bytes_in f (g.P.Sectors.state c.highest.pool).contents) in
    let new = entry_at (layout_in f) (bytes_in f (g.P.Sectors.state c.write_entry.new.pool).contents) in
    let left = c.highest.left in
    let above = c.len-above.result - 1 in
    let items = entries_of c.highest.added in
    let top = entry_of c.in-Some.top in
    let total = c.args.indexed + length (entries_of c.args.added.now) in
    let whole = insert_entries (map old (range_with_len 0 c.args.indexed)) (entries_of c.args.added.now) in
    let long = some_entries (entries_of c.highest.added) (entry_of c.in-Some.top) c.len-above.result c.len-above.ensures c.in-Some.ensures in
    let got = last_at items above top long c.in-Some.ensures in
    let others : (i : ℕ) → i ≢ left + above → new i ≡ now i = λ i other. c.write_entry.ensures.others i other ∙ ap (λ l. entry_at (layout_in f) (bytes_in f l) i) c.last_above.ensures.reads.keeps.contents in
    let hit = last_hit (now (left - 1)) left top.key (256 ^ f.key_length) c.in_ok-last.field-0 c.in-Some-2.last c.in-Some-2.is c.in_ok-last.ensures.last in
    record {
      upto = omega (arith, c.highest.invariant.upto);
      merging = step_moved old now new left above total items top (entry_of c.in-Some-2.last) whole c.highest.invariant.merging c.highest.invariant.added_ascends long got hit.0 hit.1 hit.2 c.in_ok-write_entry.ensures.ok others;
      added_ascends = c.highest.invariant.added_ascends;
      short = c.highest.invariant.short;
      records = λ count few.
          same_records (layout_in f) (bytes_in f (g.P.Sectors.state c.last_above.new.pool).contents) (bytes_in f (g.P.Sectors.state c.write_entry.new.pool).contents) count (left + above) few c.write_entry.ensures.outside
          ∙ ap (λ l. records_in f.file.record_length count (bytes_in f l)) c.last_above.ensures.reads.keeps.contents
          ∙ c.highest.invariant.records count few;
      unused = unused_step (layout_in f) (c.args.indexed + length (entries_of c.args.added.now)) (c.highest.left + (c.len-above.result - 1)) f.file.sectors (bytes_in f (g.P.Sectors.state c.args.pool.now).contents)
          (g.P.Sectors.state c.highest.pool) (g.P.Sectors.state c.last_above.new.pool) (g.P.Sectors.state c.write_entry.new.pool)
          (next_place c.highest.left _ (c.args.indexed + length (entries_of c.args.added.now)) c.len-above.result (entries_of c.highest.added) c.highest.invariant.merging.room (omega arith) long)
          c.highest.invariant.unused c.last_above.ensures.reads.keeps c.write_entry.ensures.outside;
      changes = changes_then c.highest.invariant.changes (changes_behind c.in_ok-last.ensures.reads c.in_ok-write_entry.ensures.changes);
    }

pub highest-preserved : goal.highest-preserved
highest-preserved g c =
    let f = c.args.file.now in
    let old = entry_at (layout_in f) (bytes_in f (g.P.Sectors.state c.args.pool.now).contents) in
    let now = entry_at (layout_in f) (bytes_in f (g.P.Sectors.state c.highest.pool).contents) in
    let new = entry_at (layout_in f) (bytes_in f (g.P.Sectors.state c.write_entry-in_default-2.new.pool).contents) in
    let left = c.highest.left in
    let above = c.len-above.result - 1 in
    let items = entries_of c.highest.added in
    let top = entry_of c.in-Some.top in
    let total = c.args.indexed + length (entries_of c.args.added.now) in
    let whole = insert_entries (map old (range_with_len 0 c.args.indexed)) (entries_of c.args.added.now) in
    let long = some_entries (entries_of c.highest.added) (entry_of c.in-Some.top) c.len-above.result c.len-above.ensures c.in-Some.ensures in
    let got = last_at items above top long c.in-Some.ensures in
    let others : (i : ℕ) → i ≢ left + above → new i ≡ now i = λ i other. c.write_entry-in_default-2.ensures.others i other ∙ ap (λ l. entry_at (layout_in f) (bytes_in f l) i) c.last_above.ensures.reads.keeps.contents in
    let miss = last_miss (now (left - 1)) left top.key (256 ^ f.key_length) c.in_ok-last.field-0 c.in_default-2.is c.in_ok-last.ensures.last in
    let rest : entries_of c.remove_last.new.self ≡ take above items = c.remove_last.ensures ∙ ap (λ n. take (n - 1) items) (sym c.len-above.ensures) in
    record {
      upto = c.highest.invariant.upto;
      merging = subst (λ l. IsMerging old new left l total whole) (sym rest) (step_placed old now new left above c.args.indexed total items top whole c.highest.invariant.merging c.highest.invariant.added_ascends c.requires.ascending c.highest.invariant.upto long got miss c.in_ok-write_entry-2.ensures.ok others);
      added_ascends = subst (λ l. ascends (keys_in l) ≡ true) (sym rest) (ascends_take above items c.highest.invariant.added_ascends);
      short = subst (All (λ entry. entry.key < 256 ^ f.key_length)) (sym rest) (short_take (256 ^ f.key_length) above items c.highest.invariant.short);
      records = λ count few.
          same_records (layout_in f) (bytes_in f (g.P.Sectors.state c.last_above.new.pool).contents) (bytes_in f (g.P.Sectors.state c.write_entry-in_default-2.new.pool).contents) count (left + above) few c.write_entry-in_default-2.ensures.outside
          ∙ ap (λ l. records_in f.file.record_length count (bytes_in f l)) c.last_above.ensures.reads.keeps.contents
          ∙ c.highest.invariant.records count few;
      unused = unused_step (layout_in f) (c.args.indexed + length (entries_of c.args.added.now)) (c.highest.left + (c.len-above.result - 1)) f.file.sectors (bytes_in f (g.P.Sectors.state c.args.pool.now).contents)
          (g.P.Sectors.state c.highest.pool) (g.P.Sectors.state c.last_above.new.pool) (g.P.Sectors.state c.write_entry-in_default-2.new.pool)
          (next_place c.highest.left _ (c.args.indexed + length (entries_of c.args.added.now)) c.len-above.result (entries_of c.highest.added) c.highest.invariant.merging.room (omega arith) long)
          c.highest.invariant.unused c.last_above.ensures.reads.keeps c.write_entry-in_default-2.ensures.outside;
      changes = changes_then c.highest.invariant.changes (changes_behind c.in_ok-last.ensures.reads c.in_ok-write_entry-2.ensures.changes);
    }

pub returns-clause-merged : goal.returns-clause-merged
unfolding index_in
returns-clause-merged g c =
    let f = c.args.file.now in
    let old = entry_at (layout_in f) (bytes_in f (g.P.Sectors.state c.args.pool.now).contents) in
    let now = entry_at (layout_in f) (bytes_in f (g.P.Sectors.state c.highest.pool).contents) in
    merge_ends old now c.highest.left (c.args.indexed + length (entries_of c.args.added.now)) (entries_of c.highest.added) (insert_entries (map old (range_with_len 0 c.args.indexed)) (entries_of c.args.added.now)) c.highest.invariant.merging (no_entries (entries_of c.highest.added) c.last.result c.in_default.is c.last.ensures)

pub highest-init : goal.highest-init
highest-init g c =
    let f = c.args.file.now in
    record {
      upto = omega arith;
      merging = merge-start (entry_at (layout_in f) (bytes_in f (g.P.Sectors.state c.args.pool.now).contents)) c.args.indexed (entries_of c.args.added.now);
      added_ascends = c.requires.added_ascends;
      short = c.requires.short;
      records = λ count few. refl;
      unused = unused_same (layout_in f) (c.args.indexed + length (entries_of c.args.added.now)) (bytes_in f (g.P.Sectors.state c.args.pool.now).contents);
      changes = changes_none f.file.sectors tt (g.P.Sectors.state c.args.pool.now);
    }

pub last_above-requires-clause-stored : goal.last_above-requires-clause-stored
last_above-requires-clause-stored g c =
    let sectors = c.args.file.now.file.sectors in
    stored_within sectors (Contains sectors) _ (g.P.Sectors.state c.highest.pool) c.requires.stored c.highest.invariant.changes.within

pub overflow_cast-above : goal.overflow_cast-above
overflow_cast-above g c =
    let f = c.args.file.now in
    let long = some_entries (entries_of c.highest.added) (entry_of c.in-Some.top) c.len-above.result c.len-above.ensures c.in-Some.ensures in
    above_fits c.highest.left _ (next_fits f c.highest.left _ (next_place c.highest.left _ f.file.capacity c.len-above.result (entries_of c.highest.added) c.highest.invariant.merging.room c.requires.room long))

pub overflow_add-left : goal.overflow_add-left
overflow_add-left g c =
    let f = c.args.file.now in
    let long = some_entries (entries_of c.highest.added) (entry_of c.in-Some.top) c.len-above.result c.len-above.ensures c.in-Some.ensures in
    next_fits f c.highest.left _ (next_place c.highest.left _ f.file.capacity c.len-above.result (entries_of c.highest.added) c.highest.invariant.merging.room c.requires.room long)

pub write_entry-requires-clause-stored : goal.write_entry-requires-clause-stored
write_entry-requires-clause-stored g c =
    let sectors = c.args.file.now.file.sectors in
    stored_keeps sectors (g.P.Sectors.state c.highest.pool) _ (stored_within sectors (Contains sectors) _ _ c.requires.stored c.highest.invariant.changes.within) c.last_above.ensures.reads.keeps

pub write_entry-requires-clause-within : goal.write_entry-requires-clause-within
write_entry-requires-clause-within g c =
    let f = c.args.file.now in
    let long = some_entries (entries_of c.highest.added) (entry_of c.in-Some.top) c.len-above.result c.len-above.ensures c.in-Some.ensures in
    next_place c.highest.left _ f.file.capacity c.len-above.result (entries_of c.highest.added) c.highest.invariant.merging.room c.requires.room long

pub overflow_cast-above-in_default-2 : goal.overflow_cast-above-in_default-2
overflow_cast-above-in_default-2 g c =
    let f = c.args.file.now in
    let long = some_entries (entries_of c.highest.added) (entry_of c.in-Some.top) c.len-above.result c.len-above.ensures c.in-Some.ensures in
    above_fits c.highest.left _ (next_fits f c.highest.left _ (next_place c.highest.left _ f.file.capacity c.len-above.result (entries_of c.highest.added) c.highest.invariant.merging.room c.requires.room long))

pub overflow_add-left-in_default-2 : goal.overflow_add-left-in_default-2
overflow_add-left-in_default-2 g c =
    let f = c.args.file.now in
    let long = some_entries (entries_of c.highest.added) (entry_of c.in-Some.top) c.len-above.result c.len-above.ensures c.in-Some.ensures in
    next_fits f c.highest.left _ (next_place c.highest.left _ f.file.capacity c.len-above.result (entries_of c.highest.added) c.highest.invariant.merging.room c.requires.room long)

pub write_entry-requires-in_default-2-clause-stored : goal.write_entry-requires-in_default-2-clause-stored
write_entry-requires-in_default-2-clause-stored g c =
    let sectors = c.args.file.now.file.sectors in
    stored_keeps sectors (g.P.Sectors.state c.highest.pool) _ (stored_within sectors (Contains sectors) _ _ c.requires.stored c.highest.invariant.changes.within) c.last_above.ensures.reads.keeps

pub write_entry-requires-in_default-2-clause-within : goal.write_entry-requires-in_default-2-clause-within
write_entry-requires-in_default-2-clause-within g c =
    let f = c.args.file.now in
    let long = some_entries (entries_of c.highest.added) (entry_of c.in-Some.top) c.len-above.result c.len-above.ensures c.in-Some.ensures in
    next_place c.highest.left _ f.file.capacity c.len-above.result (entries_of c.highest.added) c.highest.invariant.merging.room c.requires.room long

pub write_entry-requires-clause-short : goal.write_entry-requires-clause-short
write_entry-requires-clause-short g c =
    let f = c.args.file.now in
    let last = entry_at (layout_in f) (bytes_in f (g.P.Sectors.state c.highest.pool).contents) (c.highest.left - 1) in
    (last_hit last c.highest.left (entry_of c.in-Some.top).key (256 ^ f.key_length) c.in_ok-last.field-0 c.in-Some-2.last c.in-Some-2.is c.in_ok-last.ensures.last).3

pub overflow_sub-left : goal.overflow_sub-left
overflow_sub-left g c =
    let f = c.args.file.now in
    let last = entry_at (layout_in f) (bytes_in f (g.P.Sectors.state c.highest.pool).contents) (c.highest.left - 1) in
    (last_hit last c.highest.left (entry_of c.in-Some.top).key (256 ^ f.key_length) c.in_ok-last.field-0 c.in-Some-2.last c.in-Some-2.is c.in_ok-last.ensures.last).0

pub highest-smaller-in-Some-2 : goal.highest-smaller-in-Some-2
highest-smaller-in-Some-2 g c =
    let f = c.args.file.now in
    let last = entry_at (layout_in f) (bytes_in f (g.P.Sectors.state c.highest.pool).contents) (c.highest.left - 1) in
    less_left c.highest.left (length (entries_of c.highest.added)) (last_hit last c.highest.left (entry_of c.in-Some.top).key (256 ^ f.key_length) c.in_ok-last.field-0 c.in-Some-2.last c.in-Some-2.is c.in_ok-last.ensures.last).0

pub highest-smaller : goal.highest-smaller
highest-smaller g c =
    let long = some_entries (entries_of c.highest.added) (entry_of c.in-Some.top) c.len-above.result c.len-above.ensures c.in-Some.ensures in
    less_added c.highest.left c.len-above.result (entries_of c.highest.added) _ c.remove_last.ensures long
