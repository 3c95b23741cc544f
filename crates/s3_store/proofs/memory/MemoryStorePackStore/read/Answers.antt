use Rattle.std.proofs.Common.{◌/◌, Some, length, sym, ap, ◌∙◌, arith}
use Rattle.s3_store.proofs.Chunks.{below_whole, slice_get-first_chunks}
use Rattle.s3_store.proofs.memory.MemoryStorePackStore.read.Goals as goal

pub get_sector-requires : goal.get_sector-requires
get_sector-requires c =
    let within = below_whole c.self.inside.bytes.items _ c.args.n c.self.view_is c.requires in
    omega (arith, within, ap length c.deref.ensures.value, c.from.ensures)

pub returns-clause-bytes : goal.returns-clause-bytes
returns-clause-bytes c =
    let items = c.self.inside.bytes.items in
    let within = below_whole items _ c.args.n c.self.view_is c.requires in
    let got = rw (c.deref.ensures.value, c.from.ensures) at c.get_sector.ensures in
    rw (← c.self.view_is) (slice_get-first_chunks (length items / 256) c.args.n items within ∙ ap Some (sym got))
