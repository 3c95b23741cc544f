-- What a call of one level leaves of the pack and the queues beside it.
use Rattle.std.proofs.Common.{◌≡◌, ◌⊎◌, inl, inr, ℕ, ◌<◌, ◌≤◌, List, length, slice_get, Result, refl, sym, ap, subst, ◌∙◌, leb, true, false, arith}
use Rattle.std.proofs.lemmas.Bool.Decides.{leb_tells}
use Rattle.s3_cards.specs.Inner.Levels.{other}
use Rattle.s3_cards.specs.Printed.{Printed}
use Rattle.s3_cards.specs.declared.levels.LevelId.{LevelId}
use Rattle.s3_cards.specs.declared.levels.LevelId.TheVariants.{One, Two}
use Rattle.s3_store.specs.Inner.State.{PoolState, ChangesWithin, KeepsContents, KeepsInStep}
use Rattle.s3_slots.specs.Header.{region_of}
use Rattle.s3_slots.specs.Stretches.{IsIn}
use Rattle.s3_slots.specs.declared.header.Header.{Header}
use Rattle.s3_labels.specs.Inner.Areas.{Areas, slots_at, with_slots, IsReady as IsPackReady}
use Rattle.s3_labels.proofs.Regions.{accepted_placed, ready_region}
use Rattle.s3_job_files.specs.Inner.Holds.{IsOutOfReach, seen}
use Rattle.s3_job_files.specs.Inner.Packs.{KeepsOthers}
use Rattle.s3_job_files.proofs.Packs.{header_kept, not_label, with_again, with_own}
use Rattle.s3_job_files.proofs.Putting.{pack_over}
use Rattle.s3_job_files.proofs.Staying.{SeesSame, ready_over as files_ready_over}
use Rattle.s3_spool.specs.Inner.Queues.{Blocks, IsFreeSector, block_sector, blocks_of, lines_in, queue_of, quota_of, times}
use Rattle.s3_spool.proofs.QueueLemmas.{SameBlocks, same_queue}
use Rattle.s3_solo.specs.World.{World}
use Rattle.s3_level.specs.declared.level.Level.{Level}
use Rattle.s3_level.specs.declared.taken.Taken.{Taken}
use Rattle.s3_level.specs.Inner.Holds.{AreAll, Around, HoldsParts, IsBeyond, IsQueuedSector, IsReady, Shown, Spares, around, open_files, shown, with_seen}
use Rattle.s3_level.specs.Inner.Turning.{TakesTurns}

-- ---- sectors
-- the sectors of the blocks are out of reach of a level's files
block_out : (level : LevelId) (areas : Areas) (contents : List (List ℕ)) (n : ℕ) → IsPackReady areas contents → 25 ≤ n → n < 153 → IsOutOfReach level areas.header n
block_out level areas contents n pack low high = record {
  labels = not_label level n low;
  region = λ inside. omega (arith, ((accepted_placed (length contents) areas.header pack.header).level level n inside).0);
}

same_blocks : (level : LevelId) (areas : Areas) (s t : PoolState) → IsPackReady areas s.contents → KeepsInStep (IsOutOfReach level areas.header) s t → SameBlocks s.contents t.contents
same_blocks level areas s t pack keeps b few = keeps.contents (block_sector b) (block_out level areas s.contents (block_sector b) pack (omega arith) (omega arith))

-- a free sector is one of a block
pub free_is_block : (blocks : Blocks) (n : ℕ) → IsFreeSector blocks n → (25 ≤ n) × (n < 153)
free_is_block blocks n is = (omega (arith, is.place), omega (arith, is.place, is.few))

-- a region has no block
region_no_block : (level : LevelId) (areas : Areas) (contents : List (List ℕ)) (blocks : Blocks) (n : ℕ) → IsPackReady areas contents → IsIn (region_of level areas.header) n → ¬ IsFreeSector blocks n
region_no_block level areas contents blocks n pack inside is =
    omega (arith, ((accepted_placed (length contents) areas.header pack.header).level level n inside).0, (free_is_block blocks n is).1)

masters_no_block : (areas : Areas) (contents : List (List ℕ)) (blocks : Blocks) (n : ℕ) → IsPackReady areas contents → IsIn areas.header.masters n → ¬ IsFreeSector blocks n
masters_no_block areas contents blocks n pack inside is =
    omega (arith, ((accepted_placed (length contents) areas.header pack.header).masters n inside).0, (free_is_block blocks n is).1)

-- a line that is put changes nothing that a level sees of the pack
pub put_sees : (level : LevelId) (areas : Areas) (blocks : Blocks) (s t : PoolState) → IsPackReady areas s.contents → ChangesWithin (IsFreeSector blocks) s t
    → SeesSame level (seen areas s.contents) (seen areas t.contents)
put_sees level areas blocks s t pack within = record {
  header = refl;
  masters = refl;
  slots = refl;
  own_sectors = λ n inside. within.contents n (region_no_block level areas s.contents blocks n pack inside);
  master_sectors = λ n inside. within.contents n (masters_no_block areas s.contents blocks n pack inside);
}

-- the spool blocks lie on a pack that is ready
pub spool_room : (areas : Areas) (contents : List (List ℕ)) → IsPackReady areas contents → 153 ≤ length contents
spool_room areas contents ready = let r = ready_region One areas contents ready in omega (arith, r.low, r.high)

-- a line that is put leaves the level ready
pub ready_put : (level : Level) (areas : Areas) (blocks : Blocks) (s t : PoolState) → IsReady level (seen areas s.contents) → ChangesWithin (IsFreeSector blocks) s t → IsReady level (seen areas t.contents)
ready_put level areas blocks s t ready within = record {
  files = files_ready_over level.id (open_files level.job) (seen areas s.contents) (seen areas t.contents) ready.files (put_sees level.id areas blocks s t ready.files.pack within)
      (pack_over areas s.contents t.contents within.count ready.files.pack);
  job = ready.job;
  of_library = ready.of_library;
}

-- ---- queues
-- the files of a level leave all queues
pub queues_stay : (level one_or_two : LevelId) (areas : Areas) (blocks : Blocks) (s t : PoolState) → IsPackReady areas s.contents → AreAll blocks → KeepsInStep (IsOutOfReach level areas.header) s t
    → queue_of one_or_two blocks t.contents ≡ queue_of one_or_two blocks s.contents
queues_stay level one_or_two areas blocks s t pack are keeps = same_queue one_or_two blocks s.contents t.contents are (same_blocks level areas s t pack keeps)

-- a queued block is one of the 128
queued_few : (level : LevelId) (blocks : Blocks) (block : ℕ) → AreAll blocks → 0 < times block (blocks_of level blocks) → block < 128
queued_few level blocks block are queued = by_cases (leb_tells 128 block)
  where
    not_high : (l : LevelId) → 128 ≤ block → 0 < times block (blocks_of l blocks) → ⊥
    not_high One high some = omega (arith, are.no_other block high, some)
    not_high Two high some = omega (arith, are.no_other block high, some)

    by_cases : ((leb 128 block ≡ true) × (128 ≤ block)) ⊎ ((leb 128 block ≡ false) × (block < 128)) → block < 128
    by_cases (inl past) = absurd (not_high level past.1 queued)
    by_cases (inr below) = below.1

-- the files of a level are kept apart from it
queued_out : (level one_or_two : LevelId) (areas : Areas) (contents : List (List ℕ)) (blocks : Blocks) (n : ℕ) → IsPackReady areas contents → AreAll blocks → IsQueuedSector one_or_two blocks n → IsOutOfReach level areas.header n
queued_out level one_or_two areas contents blocks n pack are is =
    block_out level areas contents n pack (omega (arith, is.place)) (omega (arith, is.place, queued_few one_or_two blocks is.block are is.queued))

-- a queued block holds a line
queued_not_free : (level : LevelId) (blocks : Blocks) (n : ℕ) → IsQueuedSector level blocks n → ¬ IsFreeSector blocks n
queued_not_free One blocks n is free =
    let same : is.block ≡ free.block = omega (arith, is.place, free.place) in
    let queued : 0 < times free.block blocks.one = subst (λ (block : ℕ). 0 < times block blocks.one) same is.queued in
    omega (arith, free.free, queued)
queued_not_free Two blocks n is free =
    let same : is.block ≡ free.block = omega (arith, is.place, free.place) in
    let queued : 0 < times free.block blocks.two = subst (λ (block : ℕ). 0 < times block blocks.two) same is.queued in
    omega (arith, free.free, queued)

-- so what the level is shown afterwards differs by the pack alone
pub shown_after : (level : LevelId) (old new : Areas) (blocks : Blocks) (s t : PoolState) → IsPackReady old s.contents → AreAll blocks → KeepsOthers level old new s t
    → shown level (around new t blocks) ≡ with_seen (seen new t.contents) (shown level (around old s blocks))
shown_after level old new blocks s t pack are keeps =
    ap (λ (queue : List Printed). record { seen = seen new t.contents; queue = queue; quota = quota_of level blocks }) (queues_stay level level old blocks s t pack are keeps.sectors)

pub shown_moved : (old new : Level) (areas new_areas : Areas) (s t : PoolState) (blocks : Blocks) (w : World) → IsPackReady areas s.contents → AreAll blocks → KeepsOthers old.id areas new_areas s t → new.id ≡ old.id
    → HoldsParts new (with_seen (seen new_areas t.contents) (shown old.id (around areas s blocks))) w → HoldsParts new (shown new.id (around new_areas t blocks)) w
shown_moved old new areas new_areas s t blocks w pack are keeps id held =
    subst (λ (k : Shown). HoldsParts new k w) (sym (shown_after old.id areas new_areas blocks s t pack are keeps) ∙ ap (λ (l : LevelId). shown l (around new_areas t blocks)) (sym id)) held

-- turns whose files moved
pub turns_moved : {E : Type 0} (result : Result Taken E) (old new : Level) (areas new_areas : Areas) (s t : PoolState) (blocks : Blocks) → IsPackReady areas s.contents → AreAll blocks
    → KeepsOthers old.id areas new_areas s t
    → TakesTurns result (HoldsParts old (shown old.id (around areas s blocks))) (HoldsParts new (with_seen (seen new_areas t.contents) (shown old.id (around areas s blocks))))
    → TakesTurns result (HoldsParts old (shown old.id (around areas s blocks))) (HoldsParts new (shown old.id (around new_areas t blocks)))
turns_moved result old new areas new_areas s t blocks pack are keeps turns =
    subst (λ (k : Shown). TakesTurns result (HoldsParts old (shown old.id (around areas s blocks))) (HoldsParts new k)) (sym (shown_after old.id areas new_areas blocks s t pack are keeps)) turns

-- ---- what is spared
pub spares_files : (level : LevelId) (old new : Areas) (blocks : Blocks) (s t : PoolState) → IsPackReady old s.contents → AreAll blocks → KeepsOthers level old new s t
    → Spares level (around old s blocks) (around new t blocks)
spares_files level old new blocks s t pack are keeps = record {
  pack = keeps.pack;
  areas = keeps.areas;
  sectors = record {
    count = keeps.sectors.count;
    contents = λ n beyond. keeps.sectors.contents n beyond.files;
    stored = λ n beyond. keeps.sectors.stored n beyond.files;
  };
  queue = queues_stay level (other level) old blocks s t pack are keeps.sectors;
  queue_blocks = refl;
  queue_sectors = record {
    count = keeps.sectors.count;
    contents = λ n is. keeps.sectors.contents n (queued_out level (other level) old s.contents blocks n pack are is);
    stored = λ n is. keeps.sectors.stored n (queued_out level (other level) old s.contents blocks n pack are is);
  };
  quotas = λ one_or_two. refl;
  blocks = are;
}

pub spares_none : (level : LevelId) (beside : Around) → IsPackReady beside.areas beside.state.contents → AreAll beside.blocks → Spares level beside beside
spares_none level beside pack are = record {
  pack = pack;
  areas = with_own level beside.areas;
  sectors = record { count = refl; contents = λ n beyond. refl; stored = λ n beyond in_step. in_step };
  queue = refl;
  queue_blocks = refl;
  queue_sectors = record { count = refl; contents = λ n is. refl; stored = λ n is in_step. in_step };
  quotas = λ one_or_two. refl;
  blocks = are;
}

pub spares_then : (level : LevelId) (old middle new : Around) → Spares level old middle → Spares level middle new → Spares level old new
spares_then level old middle new first second = record {
  pack = second.pack;
  areas = second.areas ∙ ap (with_slots level (slots_at level new.areas)) first.areas ∙ with_again level (slots_at level middle.areas) (slots_at level new.areas) old.areas;
  sectors = record {
    count = second.sectors.count ∙ first.sectors.count;
    contents = λ n beyond. second.sectors.contents n (along n beyond) ∙ first.sectors.contents n beyond;
    stored = λ n beyond in_step. second.sectors.stored n (along n beyond) (first.sectors.stored n beyond in_step);
  };
  queue = second.queue ∙ first.queue;
  queue_blocks = second.queue_blocks ∙ first.queue_blocks;
  queue_sectors = record {
    count = second.queue_sectors.count ∙ first.queue_sectors.count;
    contents = λ n is. second.queue_sectors.contents n (still n is) ∙ first.queue_sectors.contents n is;
    stored = λ n is in_step. second.queue_sectors.stored n (still n is) (first.queue_sectors.stored n is in_step);
  };
  quotas = λ one_or_two. second.quotas one_or_two ∙ first.quotas one_or_two;
  blocks = second.blocks;
}
  where
    still : (n : ℕ) → IsQueuedSector (other level) old.blocks n → IsQueuedSector (other level) middle.blocks n
    still n is = record { block = is.block; place = is.place; queued = subst (λ (queue : List ℕ). 0 < times is.block queue) (sym first.queue_blocks) is.queued }

    along : (n : ℕ) → IsBeyond level old.areas.header n → IsBeyond level middle.areas.header n
    along n beyond = subst (λ (h : Header). IsBeyond level h n) (sym (header_kept level old.areas middle.areas first.areas)) beyond

-- a line that is put
pub spares_put : (level : LevelId) (areas : Areas) (blocks after : Blocks) (s t : PoolState) → IsPackReady areas s.contents
    → ChangesWithin (IsFreeSector blocks) s t
    → queue_of (other level) after t.contents ≡ queue_of (other level) blocks s.contents
    → blocks_of (other level) after ≡ blocks_of (other level) blocks
    → ((one_or_two : LevelId) → quota_of one_or_two after ≡ quota_of one_or_two blocks)
    → AreAll after
    → Spares level (around areas s blocks) (around areas t after)
spares_put level areas blocks after s t pack within queue same quotas are = record {
  pack = pack_over areas s.contents t.contents within.count pack;
  areas = with_own level areas;
  sectors = record {
    count = within.count;
    contents = λ n beyond. within.contents n (apart n beyond);
    stored = λ n beyond in_step. stays n (apart n beyond) in_step (within.stored n (apart n beyond));
  };
  queue = queue;
  queue_blocks = same;
  queue_sectors = record {
    count = within.count;
    contents = λ n is. within.contents n (queued_not_free (other level) blocks n is);
    stored = λ n is in_step. stays n (queued_not_free (other level) blocks n is) in_step (within.stored n (queued_not_free (other level) blocks n is));
  };
  quotas = quotas;
  blocks = are;
}
  where
    apart : (n : ℕ) → IsBeyond level areas.header n → ¬ IsFreeSector blocks n
    apart n beyond is = beyond.block (free_is_block blocks n is).0 (free_is_block blocks n is).1

    stays : (n : ℕ) → ¬ IsFreeSector blocks n → slice_get s.stored n ≡ slice_get s.contents n → (slice_get t.stored n ≡ slice_get s.stored n) ⊎ (slice_get t.stored n ≡ slice_get s.contents n) → slice_get t.stored n ≡ slice_get t.contents n
    stays n not_free in_step (inl same) = same ∙ in_step ∙ sym (within.contents n not_free)
    stays n not_free in_step (inr new) = new ∙ sym (within.contents n not_free)

-- a line that is taken
pub spares_taken : (level : LevelId) (areas : Areas) (blocks after : Blocks) (s t : PoolState) → IsPackReady areas s.contents
    → KeepsContents s t
    → blocks_of (other level) after ≡ blocks_of (other level) blocks
    → ((one_or_two : LevelId) → quota_of one_or_two after ≡ quota_of one_or_two blocks)
    → AreAll after
    → Spares level (around areas s blocks) (around areas t after)
spares_taken level areas blocks after s t pack keeps same quotas are = record {
  pack = subst (IsPackReady areas) (sym keeps.contents) pack;
  areas = with_own level areas;
  sectors = record {
    count = ap length keeps.contents;
    contents = λ n beyond. ap (λ (c : List (List ℕ)). slice_get c n) keeps.contents;
    stored = λ n beyond in_step. stays n in_step (keeps.stored.each n);
  };
  queue = ap (λ own. lines_in own t.contents) same ∙ ap (lines_in (blocks_of (other level) blocks)) keeps.contents;
  queue_blocks = same;
  queue_sectors = record {
    count = ap length keeps.contents;
    contents = λ n is. ap (λ (c : List (List ℕ)). slice_get c n) keeps.contents;
    stored = λ n is in_step. stays n in_step (keeps.stored.each n);
  };
  quotas = quotas;
  blocks = are;
}
  where
    stays : (n : ℕ) → slice_get s.stored n ≡ slice_get s.contents n → (slice_get t.stored n ≡ slice_get s.stored n) ⊎ (slice_get t.stored n ≡ slice_get s.contents n) → slice_get t.stored n ≡ slice_get t.contents n
    stays n in_step (inl same) = same ∙ in_step ∙ ap (λ (c : List (List ℕ)). slice_get c n) (sym keeps.contents)
    stays n in_step (inr new) = new ∙ ap (λ (c : List (List ℕ)). slice_get c n) (sym keeps.contents)
