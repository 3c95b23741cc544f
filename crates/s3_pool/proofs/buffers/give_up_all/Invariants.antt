use Rattle.std.proofs.Common.{◌≡◌, ◌<◌, ℕ, Some, slice_get, length}
use Rattle.s3_pool.specs.declared.buffers.Buffer.{Buffer}
use Rattle.s3_pool.specs.Inner.Buffers.{KeepsLaid}
use Rattle.s3_pool.proofs.buffers.give_up_all.Given as goal

abbrev pub invariant-loop-slot : goal.invariant-loop-slot
invariant-loop-slot g l = record {
  end : l.slot-end ≡ length l.initial.buffers.slots.items;
  keeps : KeepsLaid (g.S.PackStore.contents l.initial.store) l.initial.buffers.slots.items (g.S.PackStore.contents l.store) l.initial.buffers.slots.items;
  failures : g.S.PackStore.failures l.store ≡ g.S.PackStore.failures l.initial.store;
  in_step : (j : ℕ) (z : Buffer) → j < l.slot → slice_get l.initial.buffers.slots.items j ≡ Some z → slice_get (g.S.PackStore.contents l.store) z.sector ≡ Some z.bytes.value;
}
