use Rattle.std.proofs.Common.{◌≡◌, ◌/◌, length, sym, ap, ◌∙◌, arith}
use Rattle.s3_store.proofs.Chunks.{length-first_chunks}
use Rattle.s3_store.proofs.memory.MemoryStorePackStore.sectors.Goals as goal

pub returns : goal.returns
returns c =
    let items = c.self.inside.bytes.items in
    let whole : c.len.result ≡ length items = omega (arith, c.len.ensures, c.self.inside.bytes.ok) in
    rw (← c.self.view_is) (ap (λ n. n / 256) whole ∙ sym (length-first_chunks (length items / 256) items))
