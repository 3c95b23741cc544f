-- The buffers after a reference into one of them has ended.
use Rattle.std.specs.Prelude.{◌≡◌, ℕ, List, [], ◌∷◌, ◌++◌, Option, Some, None, IsSomeAnd, true, length, slice_get, slice_set}
use Rattle.std.specs.Borrow.{Fml, MutBor, Lends, Array, u8}
use Rattle.std.specs.Box.{with_value}
use Rattle.std.specs.Vec.{with_item}
use Rattle.s3_pool.specs.declared.buffers.Buffer.{Buffer}
use Rattle.s3_pool.specs.declared.buffers.Buffers.{Buffers}
use Rattle.s3_pool.specs.contracts.buffers.Buffer as buffer
use Rattle.s3_pool.specs.contracts.buffers.Buffers as buffers

-- a buffer after a write of its bytes
abbrev pub dirty : Buffer → List ℕ → Buffer
dirty b bytes = record { sector = b.sector; bytes = with_value b.bytes bytes; is_dirty = true }

-- the buffer gets the bytes that the caller leaves
abbrev pub LendsBytes : MutBor Buffer → MutBor (List ℕ) → Fml
LendsBytes b r = Lends buffer.the_row (Array u8 256) b r (dirty b.now)

-- the buffers with this buffer in a slot
abbrev pub with_buffer : Buffers → ℕ → Buffer → Buffers
with_buffer s slot b = record s { slots = with_item s.slots slot b }

abbrev pub LendsBuffer : MutBor Buffers → ℕ → MutBor Buffer → Fml
LendsBuffer s slot r = Lends buffers.the_row buffer.the_row s r (with_buffer s.now slot)

-- the place of a new buffer: this slot, or a new one at the end
abbrev pub place : List Buffer → Option ℕ → ℕ
place slots None = length slots
place slots (Some slot) = slot

-- the slots with this buffer at its place
abbrev pub with_taken : List Buffer → Option ℕ → Buffer → List Buffer
with_taken slots None x = slots ++ x ∷ []
with_taken slots (Some slot) x = slice_set slots slot x

-- the store has the bytes of the buffer in this slot
abbrev pub IsInStep : List (List ℕ) → List Buffer → ℕ → Type 0
IsInStep sectors slots slot = IsSomeAnd (slice_get slots slot) (λ x. slice_get sectors x.sector ≡ Some x.bytes.value)
