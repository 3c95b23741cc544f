use Rattle.std.proofs.Common.{◌≡◌, ◌+◌, ◌*◌, ◌/◌, ◌%◌, ◌≤◌, refl, sym, ap, subst, ◌∙◌, arith}
use Rattle.s3_store.specs.Bytes.{part}
use Rattle.s3_keyed.specs.Index.{entry_at, entry_place}
use Rattle.s3_keyed.specs.Inner.Shape.{layout_in, bytes_in, entry_here}
use Rattle.s3_keyed.proofs.Places.{length_buffer}
use Rattle.s3_keyed.proofs.Few.{rows_inside, few_bytes, held_from, found_from}
use Rattle.s3_keyed.proofs.search.search_from.Goals as goal

pub overflow_mul-room : goal.overflow_mul-room
overflow_mul-room g c =
    let small = few_bytes c.entries_looked_at-count.result (c.from-key_length.result + 4) c.entries_looked_at-count.ensures.few (omega (arith, c.from-key_length.ensures, c.requires.short)) in
    omega (arith, small)

pub slice_bounds-room-end : goal.slice_bounds-room-end
slice_bounds-room-end g c =
    few_bytes c.entries_looked_at-count.result (c.from-key_length.result + 4) c.entries_looked_at-count.ensures.few (omega (arith, c.from-key_length.ensures, c.requires.short))

pub slice_bounds-bytes-end : goal.slice_bounds-bytes-end
slice_bounds-bytes-end g c =
    sym (length_buffer 48 (c.entries_looked_at-count.result * (c.from-key_length.result + 4)) (few_bytes c.entries_looked_at-count.result (c.from-key_length.result + 4) c.entries_looked_at-count.ensures.few (omega (arith, c.from-key_length.ensures, c.requires.short))))

pub read_entries-requires-clause-inside : goal.read_entries-requires-clause-inside
read_entries-requires-clause-inside g c =
    let f = c.args.file.now in
    let count = c.entries_looked_at-count.result in
    let k = c.from-key_length.result in
    let small = few_bytes count (k + 4) c.entries_looked_at-count.ensures.few (omega (arith, c.from-key_length.ensures, c.requires.short)) in
    let long = length_buffer 48 (count * (k + 4)) small ∙ ap (λ n. count * (n + 4)) c.from-key_length.ensures in
    let per_is = c.entries_per_sector.ensures.result in
    let fits : c.args.first % f.per_sector + count ≤ 256 / (f.key_length + 4) =
    subst (λ p. c.args.first % p + count ≤ 256 / (f.key_length + 4)) (per_is ∙ sym f.whole_entries) (subst (λ p. c.args.first % c.entries_per_sector.result + count ≤ p) per_is c.entries_looked_at-count.ensures.sector) in
    subst (λ n. c.args.first % f.per_sector * (f.key_length + 4) + n ≤ 256) (sym long) (rows_inside (c.args.first % f.per_sector) count (f.key_length + 4) fits)

pub number_with-requires-clause-whole : goal.number_with-requires-clause-whole
number_with-requires-clause-whole g c =
    let count = c.entries_looked_at-count.result in
    let k = c.from-key_length.result in
    c.read_entries.auto.bytes ∙ length_buffer 48 (count * (k + 4)) (few_bytes count (k + 4) c.entries_looked_at-count.ensures.few (omega (arith, c.from-key_length.ensures, c.requires.short)))

pub returns-clause-found : goal.returns-clause-found
returns-clause-found g c =
    let f = c.args.file.now in
    let bytes = bytes_in f (g.P.Sectors.state c.args.pool.now).contents in
    let first = c.args.first in
    let per = c.entries_per_sector.result in
    let per_is = c.entries_per_sector.ensures.result in
    let k = c.from-key_length.result in
    let count = c.entries_looked_at-count.result in
    let piece = c.read_entries.new.bytes in
    let small = few_bytes count (k + 4) c.entries_looked_at-count.ensures.few (omega (arith, c.from-key_length.ensures, c.requires.short)) in
    let is : piece ≡ part bytes (entry_place (layout_in f) first) (count * (f.key_length + 4)) = c.in_ok-read_entries.ensures.ok ∙ ap (part bytes (entry_place (layout_in f) first)) (length_buffer 48 (count * (k + 4)) small ∙ ap (λ n. count * (n + 4)) c.from-key_length.ensures) in
    found_from (entry_at (layout_in f) bytes) (entry_here k piece) first count c.args.entries c.args.key c.number_with.result
    (rw c.from-key_length.ensures (held_from (layout_in f) first (first / (256 / (f.key_length + 4))) (first % (256 / (f.key_length + 4))) count f.key_length bytes piece refl refl refl (subst (λ n. first % n + count ≤ n) per_is c.entries_looked_at-count.ensures.sector) is))
    c.entries_looked_at-count.ensures.within c.number_with.ensures
