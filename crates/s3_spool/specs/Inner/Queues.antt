-- Queues of printed lines, in the spool blocks of a pack.
use Rattle.std.specs.Prelude.{◌≡◌, ◌<◌, ◌≤◌, ℕ, ◌+◌, ◌-◌, ◌==◌, ◌&&◌, nat_le, List, [], ◌∷◌, ◌++◌, length, map, drop, replicate, slice_index, Result, Ok, Err, if◌then◌else◌}
use Rattle.byteorder.specs.Endian.{big_number, big_bytes}
use Rattle.s3_cards.specs.Printed.{Printed}
use Rattle.s3_cards.specs.declared.levels.LevelId.{LevelId}
use Rattle.s3_cards.specs.declared.levels.LevelId.TheVariants.{One, Two}
use Rattle.s3_store.specs.Bytes.{sector_bytes, part}
use Rattle.s3_store.specs.declared.sector_fault.SectorFault.TheVariants.{Device, NoMemory}
use Rattle.s3_spool.specs.declared.fault.SpoolFault.{SpoolFault}
use Rattle.s3_spool.specs.declared.fault.SpoolFault.TheVariants.{QuotaFull, Empty, Sectors}

-- ---- a line in its block
-- the sector of a block, 0 to 127
abbrev pub block_sector : ℕ → ℕ
block_sector block = 25 + block

-- page, line, length, the text as printed, and zeros
abbrev pub block_bytes : Printed → List ℕ
block_bytes line =
    (big_bytes 2 line.page ++ line.line ∷ length line.text ∷ []) ++ (line.text ++ replicate (252 - length line.text) 0)

-- the length of a block's text; a number that isn't 1 to 132 counts as 132, since a block that was never written may have any
abbrev pub text_length : ℕ → ℕ
text_length n = if nat_le 1 n && nat_le n 132 then n else 132

-- the line in the bytes of a block
abbrev pub line_of_block : List ℕ → Printed
line_of_block bytes =
    record { page = big_number 2 bytes; line = slice_index bytes 2; text = part bytes 4 (text_length (slice_index bytes 3)) }

-- ---- the blocks
-- The free blocks, and the blocks of each level, the oldest line's first. Each level has a number of lines that it may queue.
pub record Blocks : Type 0 where
  pub free : List ℕ
  pub one : List ℕ
  pub two : List ℕ
  pub quota_one : ℕ
  pub quota_two : ℕ

abbrev pub blocks_of : LevelId → Blocks → List ℕ
blocks_of One blocks = blocks.one
blocks_of Two blocks = blocks.two

abbrev pub quota_of : LevelId → Blocks → ℕ
quota_of One blocks = blocks.quota_one
quota_of Two blocks = blocks.quota_two

-- how often a block occurs in a list
abbrev pub times : ℕ → List ℕ → ℕ
times block [] = 0
times block (other ∷ blocks) = (if block == other then 1 else 0) + times block blocks

-- the free blocks and those of both levels are 0 to 127, each once
pub record AreBlocks (free one two : List ℕ) : Type 0 where
  pub count : length free + length one + length two ≡ 128
  pub each : (block : ℕ) → block < 128 → times block free + times block one + times block two ≡ 1
  pub no_other : (block : ℕ) → 128 ≤ block → times block free + times block one + times block two ≡ 0

-- ---- the queues
-- the lines in these blocks, in order
unfoldable pub lines_in : List ℕ → List (List ℕ) → List Printed
lines_in blocks contents = map (λ block. line_of_block (sector_bytes contents (block_sector block))) blocks

-- the queue of a level, the oldest line first
abbrev pub queue_of : LevelId → Blocks → (contents : List (List ℕ)) → List Printed
queue_of level blocks contents = lines_in (blocks_of level blocks) contents

-- the first free block becomes the last block of a level
abbrev pub with_queued : LevelId → ℕ → Blocks → Blocks
with_queued One block blocks = record blocks { free = drop 1 blocks.free; one = blocks.one ++ block ∷ [] }
with_queued Two block blocks = record blocks { free = drop 1 blocks.free; two = blocks.two ++ block ∷ [] }

-- the first block of a level becomes the first free one
abbrev pub with_taken : LevelId → ℕ → Blocks → Blocks
with_taken One block blocks = record blocks { free = block ∷ blocks.free; one = drop 1 blocks.one }
with_taken Two block blocks = record blocks { free = block ∷ blocks.free; two = drop 1 blocks.two }

-- a sector of a block without a line
pub record IsFreeSector (blocks : Blocks) (n : ℕ) : Type 0 where
  pub block : ℕ
  pub few : block < 128
  pub place : n ≡ block_sector block
  pub free : times block blocks.one + times block blocks.two ≡ 0

-- the number of failed transfers by a call's answer
abbrev pub failed_by : {T : Type 0} → Result T SpoolFault → ℕ
failed_by (Ok _) = 0
failed_by (Err QuotaFull) = 0
failed_by (Err Empty) = 0
failed_by (Err (Sectors Device)) = 1
failed_by (Err (Sectors NoMemory)) = 0
