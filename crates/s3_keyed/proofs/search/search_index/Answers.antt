use Rattle.std.proofs.Common.{◌*◌, ◌+◌, ◌-◌, ◌/◌, ◌<◌, ap, ◌∙◌, subst, arith}
use Rattle.std.proofs.Math.Nat.{mul-le-mul_left}
use Rattle.s3_keyed.specs.KeyOrder.{number_of}
use Rattle.s3_keyed.specs.Index.{entry_at}
use Rattle.s3_keyed.specs.Inner.Shape.{layout_in, bytes_in, index_sector, entry_here}
use Rattle.s3_store.proofs.Calls.{reads_then}
use Rattle.s3_keyed.proofs.Sectors.{starts_before, place_within, covers, all_held, sector_ascends, all_above, all_below, found_within, nowhere}
use Rattle.s3_keyed.proofs.search.search_index.Goals as goal

pub read_sector-requires-clause-within : goal.read_sector-requires-clause-within
read_sector-requires-clause-within g c =
    let f = c.args.file.now in
    let p = c.entries_per_sector-per_sector.result in
    let place = c.next_of-place.result in
    let said = c.entries_per_sector-per_sector.ensures in
    subst (λ q. place < (f.file.capacity + q - 1) / q) said.result (place_within p c.args.entries f.file.capacity place said.some (starts_before c.args.entries p place c.halve.high said.some c.next_of-place.ensures.below c.halve.invariant.within) c.requires.few)

pub overflow_mul-place : goal.overflow_mul-place
overflow_mul-place g c =
    let starts = starts_before c.args.entries c.entries_per_sector-per_sector.result c.next_of-place.result c.halve.high c.entries_per_sector-per_sector.ensures.some c.next_of-place.ensures.below c.halve.invariant.within in
    omega (arith, starts, c.ranges.entries)

pub overflow_sub-entries : goal.overflow_sub-entries
overflow_sub-entries g c =
    let starts = starts_before c.args.entries c.entries_per_sector-per_sector.result c.next_of-place.result c.halve.high c.entries_per_sector-per_sector.ensures.some c.next_of-place.ensures.below c.halve.invariant.within in
    omega (arith, starts)

pub find_entry-requires-clause-some : goal.find_entry-requires-clause-some
find_entry-requires-clause-some g c =
    let p = c.entries_per_sector-per_sector.result in
    let some = c.entries_per_sector-per_sector.ensures.some in
    let starts = starts_before c.args.entries p c.next_of-place.result c.halve.high some c.next_of-place.ensures.below c.halve.invariant.within in
    (covers p c.args.entries c.next_of-place.result c.min-count.result some starts c.min-count.ensures).some

pub find_entry-requires-clause-ascending : goal.find_entry-requires-clause-ascending
find_entry-requires-clause-ascending g c =
    let f = c.args.file.now in
    let p = c.entries_per_sector-per_sector.result in
    let n = c.args.entries in
    let m = c.min-count.result in
    let place = c.next_of-place.result in
    let some = c.entries_per_sector-per_sector.ensures.some in
    let bytes = bytes_in f (g.P.Sectors.state c.args.pool.now).contents in
    let here = covers p n place m some (starts_before n p place c.halve.high some c.next_of-place.ensures.below c.halve.invariant.within) c.min-count.ensures in
    let is = c.in_ok-read_sector.ensures.ok ∙ ap (λ l. index_sector f place (bytes_in f l)) c.halve.invariant.reads.keeps.contents in
    sector_ascends (entry_at (layout_in f) bytes) (entry_here c.from-key_length.result c.read_sector.new.bytes) (place * p) m n
    (all_held (layout_in f) place p m c.from-key_length.result bytes c.read_sector.new.bytes c.from-key_length.ensures c.entries_per_sector-per_sector.ensures.result f.short_key here.few is)
    here.within c.requires.ascending

pub halve-preserved-in-Before : goal.halve-preserved-in-Before
halve-preserved-in-Before g c =
    let f = c.args.file.now in
    let p = c.entries_per_sector-per_sector.result in
    let n = c.args.entries in
    let m = c.min-count.result in
    let place = c.next_of-place.result in
    let some = c.entries_per_sector-per_sector.ensures.some in
    let bytes = bytes_in f (g.P.Sectors.state c.args.pool.now).contents in
    let here = covers p n place m some (starts_before n p place c.halve.high some c.next_of-place.ensures.below c.halve.invariant.within) c.min-count.ensures in
    let is = c.in_ok-read_sector.ensures.ok ∙ ap (λ l. index_sector f place (bytes_in f l)) c.halve.invariant.reads.keeps.contents in
    let same = all_held (layout_in f) place p m c.from-key_length.result bytes c.read_sector.new.bytes c.from-key_length.ensures c.entries_per_sector-per_sector.ensures.result f.short_key here.few is in
    record {
      within = omega (arith, c.next_of-place.ensures.below, c.halve.invariant.within);
      below = c.halve.invariant.below;
      above = all_above (entry_at (layout_in f) bytes) (entry_here c.from-key_length.result c.read_sector.new.bytes) (place * p) m n (number_of c.args.key.now.bytes) same here.some c.requires.ascending c.in-Before.ensures;
      reads = reads_then c.halve.invariant.reads c.in_ok-read_sector.ensures.reads;
    }

pub returns-in-Within-clause-found : goal.returns-in-Within-clause-found
returns-in-Within-clause-found g c =
    let f = c.args.file.now in
    let p = c.entries_per_sector-per_sector.result in
    let n = c.args.entries in
    let m = c.min-count.result in
    let place = c.next_of-place.result in
    let some = c.entries_per_sector-per_sector.ensures.some in
    let bytes = bytes_in f (g.P.Sectors.state c.args.pool.now).contents in
    let here = covers p n place m some (starts_before n p place c.halve.high some c.next_of-place.ensures.below c.halve.invariant.within) c.min-count.ensures in
    let is = c.in_ok-read_sector.ensures.ok ∙ ap (λ l. index_sector f place (bytes_in f l)) c.halve.invariant.reads.keeps.contents in
    let same = all_held (layout_in f) place p m c.from-key_length.result bytes c.read_sector.new.bytes c.from-key_length.ensures c.entries_per_sector-per_sector.ensures.result f.short_key here.few is in
    found_within (entry_at (layout_in f) bytes) (entry_here c.from-key_length.result c.read_sector.new.bytes) (place * p) m n (number_of c.args.key.now.bytes) c.in-Within.found same here.within c.requires.ascending c.in-Within.ensures

pub halve-preserved : goal.halve-preserved
halve-preserved g c =
    let f = c.args.file.now in
    let p = c.entries_per_sector-per_sector.result in
    let n = c.args.entries in
    let m = c.min-count.result in
    let place = c.next_of-place.result in
    let some = c.entries_per_sector-per_sector.ensures.some in
    let bytes = bytes_in f (g.P.Sectors.state c.args.pool.now).contents in
    let here = covers p n place m some (starts_before n p place c.halve.high some c.next_of-place.ensures.below c.halve.invariant.within) c.min-count.ensures in
    let is = c.in_ok-read_sector.ensures.ok ∙ ap (λ l. index_sector f place (bytes_in f l)) c.halve.invariant.reads.keeps.contents in
    let same = all_held (layout_in f) place p m c.from-key_length.result bytes c.read_sector.new.bytes c.from-key_length.ensures c.entries_per_sector-per_sector.ensures.result f.short_key here.few is in
    record {
      within = c.halve.invariant.within;
      below = λ i less inside. all_below (entry_at (layout_in f) bytes) (entry_here c.from-key_length.result c.read_sector.new.bytes) (place * p) m n (number_of c.args.key.now.bytes) same here.some here.within c.requires.ascending c.in-Behind.ensures i (here.rest i less inside);
      above = c.halve.invariant.above;
      reads = reads_then c.halve.invariant.reads c.in_ok-read_sector.ensures.reads;
    }

pub returns-clause-found : goal.returns-clause-found
returns-clause-found g c =
    let f = c.args.file.now in
    let p = c.entries_per_sector-per_sector.result in
    let met = mul-le-mul_left p c.halve-test.false in
    nowhere (entry_at (layout_in f) (bytes_in f (g.P.Sectors.state c.args.pool.now).contents)) c.args.entries (c.halve.low * p) (c.halve.high * p) (number_of c.args.key.now.bytes) (omega (arith, met)) c.halve.invariant.below c.halve.invariant.above
