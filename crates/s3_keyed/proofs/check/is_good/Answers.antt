use Rattle.std.proofs.Common.{◌≡◌, ◌*◌, ◌+◌, ◌/◌, ℕ, ◌-◌, ◌<◌, ◌≤◌, map, min, refl, ap, ◌∙◌, subst, sym, arith}
use Rattle.std.specs.List.{range_with_len}
use Rattle.s3_store.specs.Bytes.{part}
use Rattle.s3_keyed.specs.KeyOrder.{number_of}
use Rattle.s3_keyed.specs.Index.{entry_at, index_in}
use Rattle.s3_keyed.specs.Inner.Shape.{layout_in, bytes_in, keys_on, index_sector, entry_here}
use Rattle.s3_keyed.specs.Inner.Checking.{IsGoodSector}
use Rattle.s3_keyed.proofs.Checked.{AreChecked, checked-none, checked-good, none_short}
use Rattle.s3_keyed.proofs.Goodness.{to_good, not_good}
use Rattle.s3_keyed.proofs.Places.{length_keys}
use Rattle.s3_store.proofs.Calls.{reads_ok, reads_err, reads_no_memory, reads_then}
use Rattle.s3_keyed.proofs.Sectors.{starts, all_places, covers, all_held, good-next, next-checked, next-last}
use Rattle.s3_keyed.proofs.check.is_good.Goals as goal

pub returns-then-count-eq0-clause-good : goal.returns-then-count-eq0-clause-good
unfolding index_in
returns-then-count-eq0-clause-good g c =
    let f = c.args.file.now in
    let bytes = bytes_in f (g.P.Sectors.state c.args.pool.now).contents in
    let entry = entry_at (layout_in f) bytes in
    let keys = keys_on f (g.P.Sectors.state c.args.pool.now).contents in
    to_good (map entry (range_with_len 0 f.file.count)) keys (checked-good entry keys f.file.count (length_keys (layout_in f) f.file.count bytes) (subst (AreChecked entry keys) (sym c.if-count-eq0.true) (checked-none entry keys)))

pub loop-place-init : goal.loop-place-init
loop-place-init g c =
    let f = c.args.file.now in
    let contents = (g.P.Sectors.state c.args.pool.now).contents in
    let none : 0 ≡ min (0 * c.entries_per_sector-per_sector.result) f.file.count = omega arith in
    let entry = entry_at (layout_in f) (bytes_in f contents) in
    record {
      checked = subst (AreChecked entry (keys_on f contents)) none (checked-none entry (keys_on f contents));
      last = λ first. absurd (omega (arith, first));
      short = none_short _ f.key_length c.of-last.ensures.short;
      records = c.in_ok-read.ensures.ok ∙ ap (λ l. part (bytes_in f l) (256 * c.read.new.self.place) 256) (sym c.read.ensures.reads.keeps.contents);
      reads = reads_ok tt c.in_ok-read.ensures.reads;
    }

pub returns-in_err-read_sector-clause-reads : goal.returns-in_err-read_sector-clause-reads
returns-in_err-read_sector-clause-reads g c = reads_err _ _ c.from_residual-in_err-read_sector.ensures.1 (reads_then c.loop-place.invariant.reads c.in_err-read_sector.ensures.reads)

pub entries_in-entries-requires : goal.entries_in-entries-requires
entries_in-entries-requires g c =
    let n = c.args.file.now.file.count in
    let place = c.loop-place.place in
    starts n c.entries_per_sector-per_sector.result place c.entries_per_sector-per_sector.ensures.some (subst (λ e. place < e) c.div_ceil-place-end.ensures c.loop-place-test.true)

pub overflow_mul-place : goal.overflow_mul-place
overflow_mul-place g c =
    let n = c.args.file.now.file.count in
    let place = c.loop-place.place in
    omega (arith, starts n c.entries_per_sector-per_sector.result place c.entries_per_sector-per_sector.ensures.some (subst (λ e. place < e) c.div_ceil-place-end.ensures c.loop-place-test.true))

pub is_sector_good-requires-clause-some : goal.is_sector_good-requires-clause-some
is_sector_good-requires-clause-some g c =
    let n = c.args.file.now.file.count in
    let place = c.loop-place.place in
    (covers c.entries_per_sector-per_sector.result n place c.entries_in-entries.result c.entries_per_sector-per_sector.ensures.some (starts n c.entries_per_sector-per_sector.result place c.entries_per_sector-per_sector.ensures.some (subst (λ e. place < e) c.div_ceil-place-end.ensures c.loop-place-test.true)) c.entries_in-entries.ensures).some

pub note-requires-clause-some : goal.note-requires-clause-some
note-requires-clause-some g c =
    let n = c.args.file.now.file.count in
    let place = c.loop-place.place in
    (covers c.entries_per_sector-per_sector.result n place c.entries_in-entries.result c.entries_per_sector-per_sector.ensures.some (starts n c.entries_per_sector-per_sector.result place c.entries_per_sector-per_sector.ensures.some (subst (λ e. place < e) c.div_ceil-place-end.ensures c.loop-place-test.true)) c.entries_in-entries.ensures).some

pub overflow_sub-entries : goal.overflow_sub-entries
overflow_sub-entries g c =
    let n = c.args.file.now.file.count in
    let place = c.loop-place.place in
    (covers c.entries_per_sector-per_sector.result n place c.entries_in-entries.result c.entries_per_sector-per_sector.ensures.some (starts n c.entries_per_sector-per_sector.result place c.entries_per_sector-per_sector.ensures.some (subst (λ e. place < e) c.div_ceil-place-end.ensures c.loop-place-test.true)) c.entries_in-entries.ensures).some

pub returns-in_err-is_sector_good-clause-reads : goal.returns-in_err-is_sector_good-clause-reads
returns-in_err-is_sector_good-clause-reads g c =
    reads_err _ _ c.from_residual-in_err-is_sector_good.ensures.1 (reads_then (reads_then c.loop-place.invariant.reads c.in_ok-read_sector.ensures.reads) c.in_err-is_sector_good.ensures.reads)

pub returns-then-not-branch-clause-reads : goal.returns-then-not-branch-clause-reads
returns-then-not-branch-clause-reads g c = reads_ok _ (reads_then (reads_then c.loop-place.invariant.reads c.in_ok-read_sector.ensures.reads) c.in_ok-is_sector_good.ensures.reads)

pub returns-in_err-note-clause-reads : goal.returns-in_err-note-clause-reads
returns-in_err-note-clause-reads g c =
    reads_no_memory _ _ c.from_residual-in_err-note.ensures.1 c.in_err-note.ensures (reads_then (reads_then c.loop-place.invariant.reads c.in_ok-read_sector.ensures.reads) c.in_ok-is_sector_good.ensures.reads)

pub returns-then-not-branch-clause-good : goal.returns-then-not-branch-clause-good
unfolding index_in
returns-then-not-branch-clause-good g c =
    let f = c.args.file.now in
    let p = c.entries_per_sector-per_sector.result in
    let n = f.file.count in
    let m = c.entries_in-entries.result in
    let place = c.loop-place.place in
    let contents = (g.P.Sectors.state c.args.pool.now).contents in
    let bytes = bytes_in f contents in
    let entry = entry_at (layout_in f) bytes in
    let keys = keys_on f contents in
    let sector = c.read_sector.new.bytes in
    let some = c.entries_per_sector-per_sector.ensures.some in
    let starts = starts n p place some (subst (λ e. place < e) c.div_ceil-place-end.ensures c.loop-place-test.true) in
    let here = covers p n place m some starts c.entries_in-entries.ensures in
    let is = c.in_ok-read_sector.ensures.ok ∙ ap (λ l. index_sector f place (bytes_in f l)) c.loop-place.invariant.reads.keeps.contents in
    let same = all_held (layout_in f) place p m f.key_length bytes sector refl c.entries_per_sector-per_sector.ensures.result f.short_key here.few is in
    let read = reads_then c.loop-place.invariant.reads c.in_ok-read_sector.ensures.reads in
    let bad = rw (c.if-not-branch.true, read.keeps.contents) at c.in_ok-is_sector_good.ensures.good in
    not_good (map entry (range_with_len 0 n)) keys (λ good. bad (good-next entry (entry_here f.key_length sector) keys p place m n _ same here some starts c.loop-place.invariant.last good))

pub loop-place-preserved : goal.loop-place-preserved
loop-place-preserved g c =
    let f = c.args.file.now in
    let p = c.entries_per_sector-per_sector.result in
    let n = f.file.count in
    let m = c.entries_in-entries.result in
    let place = c.loop-place.place in
    let contents = (g.P.Sectors.state c.args.pool.now).contents in
    let bytes = bytes_in f contents in
    let entry = entry_at (layout_in f) bytes in
    let keys = keys_on f contents in
    let sector = c.read_sector.new.bytes in
    let some = c.entries_per_sector-per_sector.ensures.some in
    let starts = starts n p place some (subst (λ e. place < e) c.div_ceil-place-end.ensures c.loop-place-test.true) in
    let here = covers p n place m some starts c.entries_in-entries.ensures in
    let is = c.in_ok-read_sector.ensures.ok ∙ ap (λ l. index_sector f place (bytes_in f l)) c.loop-place.invariant.reads.keeps.contents in
    let same = all_held (layout_in f) place p m f.key_length bytes sector refl c.entries_per_sector-per_sector.ensures.result f.short_key here.few is in
    let read = reads_then c.loop-place.invariant.reads c.in_ok-read_sector.ensures.reads in
    let good : IsGoodSector keys place (number_of c.loop-place.last.bytes) (entry_here f.key_length sector) m = rw (c.if-not-branch.false, read.keeps.contents) at c.in_ok-is_sector_good.ensures.good in
    let key : number_of c.key_of_entry-last.result.bytes ≡ (entry_here f.key_length sector (m - 1)).key = rw c.from-key_length.ensures at c.key_of_entry-last.ensures.key in
    record {
      checked = next-checked entry (entry_here f.key_length sector) keys p place m n _ same here c.entries_in-entries.ensures starts c.loop-place.invariant.last c.loop-place.invariant.checked good;
      last = λ _. next-last entry (entry_here f.key_length sector) p place m n _ same here c.entries_in-entries.ensures starts key;
      short = rw c.from-key_length.ensures at c.key_of_entry-last.ensures.short;
      records = c.in_ok-is_sector_good.ensures.here ∙ ap (λ l. part (bytes_in f l) (256 * c.is_sector_good.new.records.place) 256) (sym c.is_sector_good.ensures.reads.keeps.contents);
      reads = reads_ok tt (reads_then read c.in_ok-is_sector_good.ensures.reads);
    }

pub returns-clause-good : goal.returns-clause-good
unfolding index_in
returns-clause-good g c =
    let f = c.args.file.now in
    let contents = (g.P.Sectors.state c.args.pool.now).contents in
    let entry = entry_at (layout_in f) (bytes_in f contents) in
    let keys = keys_on f contents in
    let place = c.loop-place.place in
    let whole = all_places f.file.count c.entries_per_sector-per_sector.result place c.entries_per_sector-per_sector.ensures.some (subst (λ e. e ≤ place) c.div_ceil-place-end.ensures c.loop-place-test.false) in
    to_good (map entry (range_with_len 0 f.file.count)) keys (checked-good entry keys f.file.count (length_keys (layout_in f) f.file.count (bytes_in f contents)) (subst (AreChecked entry keys) whole c.loop-place.invariant.checked))

pub is_sector_good-requires-clause-inside : goal.is_sector_good-requires-clause-inside
is_sector_good-requires-clause-inside g c =
    let n = c.args.file.now.file.count in
    let place = c.loop-place.place in
    let some = c.entries_per_sector-per_sector.ensures.some in
    let starts = starts n c.entries_per_sector-per_sector.result place some (subst (λ e. place < e) c.div_ceil-place-end.ensures c.loop-place-test.true) in
    let here = covers c.entries_per_sector-per_sector.result n place c.entries_in-entries.result some starts c.entries_in-entries.ensures in
    subst (λ p. c.entries_in-entries.result ≤ p) c.entries_per_sector-per_sector.ensures.result here.few

pub note-requires-clause-inside : goal.note-requires-clause-inside
note-requires-clause-inside g c =
    let n = c.args.file.now.file.count in
    let place = c.loop-place.place in
    let some = c.entries_per_sector-per_sector.ensures.some in
    let starts = starts n c.entries_per_sector-per_sector.result place some (subst (λ e. place < e) c.div_ceil-place-end.ensures c.loop-place-test.true) in
    let here = covers c.entries_per_sector-per_sector.result n place c.entries_in-entries.result some starts c.entries_in-entries.ensures in
    subst (λ p. c.entries_in-entries.result ≤ p) c.entries_per_sector-per_sector.ensures.result here.few

pub is_sector_good-requires-clause-short_key : goal.is_sector_good-requires-clause-short_key
is_sector_good-requires-clause-short_key g c = c.loop-place.invariant.short

pub is_sector_good-requires-clause-here : goal.is_sector_good-requires-clause-here
is_sector_good-requires-clause-here g c =
    c.loop-place.invariant.records ∙ ap (λ l. part (bytes_in c.args.file.now l) (256 * c.loop-place.records.place) 256) (sym c.in_ok-read_sector.ensures.reads.keeps.contents)

pub key_of_entry-last-requires-clause-inside : goal.key_of_entry-last-requires-clause-inside
key_of_entry-last-requires-clause-inside g c =
    let n = c.args.file.now.file.count in
    let place = c.loop-place.place in
    let some = c.entries_per_sector-per_sector.ensures.some in
    let starts = starts n c.entries_per_sector-per_sector.result place some (subst (λ e. place < e) c.div_ceil-place-end.ensures c.loop-place-test.true) in
    let here = covers c.entries_per_sector-per_sector.result n place c.entries_in-entries.result some starts c.entries_in-entries.ensures in
    let few : c.entries_in-entries.result ≤ 256 / (c.args.file.now.key_length + 4) = subst (λ p. c.entries_in-entries.result ≤ p) c.entries_per_sector-per_sector.ensures.result here.few in
    subst (λ k. c.entries_in-entries.result - 1 < 256 / (k + 4)) (sym c.from-key_length.ensures) (by c.entries_in-entries.result (256 / (c.args.file.now.key_length + 4)) here.some few)
  where
    by : (m p : ℕ) → 0 < m → m ≤ p → m - 1 < p
    by m p some few = omega (arith, some, few)
