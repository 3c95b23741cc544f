-- The lines of a queue stay where the sectors of all blocks stay.
use Rattle.std.proofs.Common.{◌≡◌, inl, inr, ℕ, ◌<◌, ◌≤◌, List, [], ◌∷◌, length, slice_get, refl, ap, ◌∙◌, arith}
use Rattle.std.proofs.lemmas.Bool.{cases_lt}
use Rattle.std.proofs.lemmas.List.{length-map}
use Rattle.std.specs.Prelude.{unwrap_or, take, replicate, ◌++◌}
use Rattle.s3_cards.specs.Printed.{Printed}
use Rattle.s3_cards.specs.declared.levels.LevelId.{LevelId}
use Rattle.s3_cards.specs.declared.levels.LevelId.TheVariants.{One, Two}
use Rattle.s3_store.specs.Bytes.{sector_bytes}
use Rattle.s3_spool.specs.Inner.Queues.{AreBlocks, Blocks, block_sector, blocks_of, line_of_block, lines_in, queue_of, times}
use Rattle.s3_spool.proofs.BlocksLemmas.{times-same}

-- each block has the same sector
abbrev pub SameBlocks : (old new : List (List ℕ)) → Type 0
SameBlocks old new = (b : ℕ) → b < 128 → slice_get new (block_sector b) ≡ slice_get old (block_sector b)

same_bytes : (old new : List (List ℕ)) (n : ℕ) → slice_get new n ≡ slice_get old n → sector_bytes new n ≡ sector_bytes old n
unfolding sector_bytes
same_bytes old new n same = ap (λ o. take 256 (unwrap_or o [] ++ replicate 256 0)) same

none_behind : (x : ℕ) (xs : List ℕ) → ((b : ℕ) → 128 ≤ b → times b (x ∷ xs) ≡ 0) → (b : ℕ) → 128 ≤ b → times b xs ≡ 0
none_behind x xs none b high = omega (arith, none b high)

below : (x : ℕ) (xs : List ℕ) → ((b : ℕ) → 128 ≤ b → times b (x ∷ xs) ≡ 0) → x < 128
below x xs none = elim (cases_lt x 128) [
  | inl less ↦ less
  | inr past ↦ absurd (omega (arith, none x past, times-same x x xs refl))
]

pub same_lines : (old new : List (List ℕ)) (blocks : List ℕ) → SameBlocks old new → ((b : ℕ) → 128 ≤ b → times b blocks ≡ 0) → lines_in blocks new ≡ lines_in blocks old
unfolding lines_in
same_lines old new [] same none = refl
same_lines old new (x ∷ xs) same none =
    ap (λ (line : Printed). line ∷ lines_in xs new) (ap line_of_block (same_bytes old new (block_sector x) (same x (below x xs none))))
    ∙ ap (λ (lines : List Printed). line_of_block (sector_bytes old (block_sector x)) ∷ lines) (same_lines old new xs same (none_behind x xs none))

pub same_queue : (level : LevelId) (blocks : Blocks) (old new : List (List ℕ)) → AreBlocks blocks.free blocks.one blocks.two → SameBlocks old new → queue_of level blocks new ≡ queue_of level blocks old
same_queue One blocks old new are same = same_lines old new blocks.one same (λ b high. omega (arith, are.no_other b high))
same_queue Two blocks old new are same = same_lines old new blocks.two same (λ b high. omega (arith, are.no_other b high))

-- a queue has as many lines as blocks
pub queue_length : (level : LevelId) (blocks : Blocks) (contents : List (List ℕ)) → length (queue_of level blocks contents) ≡ length (blocks_of level blocks)
unfolding lines_in
queue_length level blocks contents = length-map (blocks_of level blocks) (λ block. line_of_block (sector_bytes contents (block_sector block)))
