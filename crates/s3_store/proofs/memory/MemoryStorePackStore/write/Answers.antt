use Rattle.std.proofs.Common.{length, ap, arith}
use Rattle.s3_store.proofs.Chunks.{below_whole, sectors_of-written}
use Rattle.s3_store.proofs.memory.MemoryStorePackStore.write.Goals as goal

pub put_sector-requires : goal.put_sector-requires
put_sector-requires c =
    let within = below_whole c.self.inside.bytes.items _ c.args.n c.self.view_is c.requires in
    omega (arith, within, ap length c.deref_mut.ensures.value, c.from.ensures)

pub returns-clause-contents : goal.returns-clause-contents
returns-clause-contents c =
    let items = c.self.inside.bytes.items in
    let within = below_whole items _ c.args.n c.self.view_is c.requires in
    let after = rw (c.deref_mut.ensures.value, c.from.ensures) at c.put_sector.ensures in
    let same = ap length c.deref_mut.ensures.value in
    rw (← c.self.view_is) (sectors_of-written items _ c.put_sector.new.bytes c.args.n c.args.bytes.now after (omega (arith, c.put_sector.auto.bytes, same)) (omega (arith, c.self.inside.bytes.ok)) c.told-bytes within)
