use Rattle.std.proofs.Common.{◌≡◌, ◌/◌, length, min, arith}
use Rattle.s3_store.proofs.Chunks.{sectors_of-take}
use Rattle.s3_store.proofs.memory.MemoryStore.from_bytes.Goals as goal

pub returns : goal.returns
returns c =
    let items = c.args.bytes.items in
    let count : c.min-count.result ≡ min (length items / 256) 65535 = omega (arith, c.min-count.ensures, c.len.ensures, c.args.bytes.ok) in
    rw c.truncate.ensures.items (sectors_of-take 65535 c.min-count.result items count)
