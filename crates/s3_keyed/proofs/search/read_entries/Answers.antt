use Rattle.std.proofs.Common.{◌+◌, length, arith}
use Rattle.s3_slots.specs.Slots.{record_sectors}
use Rattle.s3_keyed.proofs.Places.{sector_there, row_there}
use Rattle.s3_keyed.proofs.search.read_entries.Goals as goal

pub overflow_add-sector : goal.overflow_add-sector
overflow_add-sector g c =
    let f = c.args.file.now in
    let there = sector_there (record_sectors f.file.capacity f.file.record_length) (f.key_length + 4) c.args.first f.file.capacity (length f.file.sectors) (omega arith) (omega (arith, f.short_key)) c.requires.within f.index_fits in
    rw (f.whole_entries, c.sectors_before.ensures) (omega (arith, there, f.small))

pub overflow_mul-start : goal.overflow_mul-start
overflow_mul-start g c = rw c.from.ensures (omega (arith, c.requires.inside))

pub read_in_sector-requires-clause-there : goal.read_in_sector-requires-clause-there
read_in_sector-requires-clause-there g c =
    let f = c.args.file.now in
    rw (f.whole_entries, c.sectors_before.ensures) (sector_there (record_sectors f.file.capacity f.file.record_length) (f.key_length + 4) c.args.first f.file.capacity (length f.file.sectors) (omega arith) (omega (arith, f.short_key)) c.requires.within f.index_fits)

pub read_in_sector-requires-clause-inside : goal.read_in_sector-requires-clause-inside
read_in_sector-requires-clause-inside g c =
    let f = c.args.file.now in
    rw (f.whole_entries, c.from.ensures) (row_there (f.key_length + 4) c.args.first (omega arith) (omega (arith, f.short_key)))

pub read_in_sector-requires-clause-one : goal.read_in_sector-requires-clause-one
read_in_sector-requires-clause-one g c = rw c.from.ensures c.requires.inside

pub returns-clause-ok : goal.returns-clause-ok
returns-clause-ok g c = rw (← c.args.file.now.whole_entries, ← c.sectors_before.ensures, ← c.from.ensures) c.read_in_sector.ensures.ok
