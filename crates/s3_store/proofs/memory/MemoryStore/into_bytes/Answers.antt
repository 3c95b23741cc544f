use Rattle.std.proofs.Common.{◌/◌, length, sym, ap, ◌∙◌}
use Rattle.std.specs.List.{concat}
use Rattle.s3_store.proofs.Chunks.{concat-first_chunks}
use Rattle.s3_store.proofs.memory.MemoryStore.into_bytes.Goals as goal

pub returns-clause-bytes : goal.returns-clause-bytes
returns-clause-bytes c =
    let items = c.self.inside.bytes.items in
    sym (concat-first_chunks (length items / 256) items c.self.invariant.whole) ∙ ap concat c.self.view_is
