use Rattle.std.proofs.Common.{◌+◌, length, arith}
use Rattle.s3_slots.specs.Slots.{record_sectors}
use Rattle.s3_keyed.proofs.Places.{entry_within}
use Rattle.s3_keyed.proofs.entries.place_of.Goals as goal

pub returns-clause-within : goal.returns-clause-within
returns-clause-within c =
    let f = c.args.file.now in
    let short = f.short_key in
    rw (f.whole_entries, c.from-width.ensures, c.sectors_before.ensures) (let w = entry_within (record_sectors f.file.capacity f.file.record_length) (f.key_length + 4) c.args.i f.file.capacity (length f.file.sectors) (omega arith) (omega arith) c.requires f.index_fits in omega (arith, w))

pub overflow_add-result-2 : goal.overflow_add-result-2
overflow_add-result-2 c =
    let f = c.args.file.now in
    let short = f.short_key in
    let small = f.small in
    rw (f.whole_entries, c.from-width.ensures, c.sectors_before.ensures) (let w = entry_within (record_sectors f.file.capacity f.file.record_length) (f.key_length + 4) c.args.i f.file.capacity (length f.file.sectors) (omega arith) (omega arith) c.requires f.index_fits in omega (arith, w, small))
