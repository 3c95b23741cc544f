-- Rings of blocks, and the lines in them.
use Rattle.std.proofs.Common.{◌≡◌, ◌≢◌, ◌⊎◌, inl, inr, ℕ, zero, suc, ◌+◌, ◌-◌, ◌<◌, ◌≤◌, List, [], ◌∷◌, ◌++◌, length, take, drop, replicate, slice_get, Some, refl, sym, ap, ◌∙◌, arith, length-append}
use Rattle.std.specs.Prelude.{unwrap_or}
use Rattle.std.specs.List.{range_with_len}
use Rattle.std.proofs.lemmas.List.FromFn.{length-range_with_len}
use Rattle.std.proofs.Math.Seq.{take-append_seam}
use Rattle.std.proofs.lemmas.List.{take_all}
use Rattle.circular_buffer.specs.Buffer.{Buffer, buffer, keep_last}
use Rattle.s3_store.specs.Bytes.{sector_bytes}
use Rattle.s3_store.proofs.SectorLists.{slice_get_set_same, slice_get_set_other}
use Rattle.s3_store.proofs.Frames.{within_weaker}
use Rattle.s3_store.specs.Inner.State.{PoolState, ChangesWithin}
use Rattle.s3_cards.specs.Printed.{Printed}
use Rattle.s3_cards.specs.declared.levels.LevelId.{LevelId}
use Rattle.s3_cards.specs.declared.levels.LevelId.TheVariants.{One, Two}
use Rattle.s3_cards.specs.Inner.Levels.{other}
use Rattle.s3_spool.specs.Inner.Queues.{AreBlocks, Blocks, IsFreeSector, quota_of, times, block_sector, line_of_block, lines_in, queue_of, blocks_of, with_queued, with_taken}
use Rattle.std.proofs.lemmas.Bool.Decides.{nat_tests, eqb_tells, leb_tells}
use Rattle.std.specs.Prelude.{true, false, eqb, leb, slice_set}

range-more : (a n : ℕ) → range_with_len a (suc n) ≡ range_with_len a n ++ (a + n) ∷ []
range-more a zero = ap (λ k. k ∷ []) (omega arith)
range-more a (suc n) =
    let next : (a + 1) + n ≡ a + suc n = omega arith in
    ap (λ rest. a ∷ rest) (range-more (a + 1) n ∙ ap (λ k. range_with_len (a + 1) n ++ k ∷ []) next)

-- a ring that isn't full takes an item as its last
pub pushed_in_order : (items : List ℕ) (n k : ℕ) → items ≡ range_with_len 0 k → k < n → keep_last n (items ++ k ∷ []) ≡ range_with_len 0 (k + 1)
pushed_in_order items n k are below =
    let whole : length (range_with_len 0 k ++ k ∷ []) - n ≡ 0 = omega (arith, length-append (range_with_len 0 k) (k ∷ []), length-range_with_len 0 k) in
    let more : suc k ≡ k + 1 = omega arith in
    let place : 0 + k ≡ k = omega arith in
    ap (λ list. keep_last n (list ++ k ∷ [])) are
    ∙ ap (λ m. drop m (range_with_len 0 k ++ k ∷ [])) whole
    ∙ ap (λ m. range_with_len 0 k ++ m ∷ []) (sym place)
    ∙ sym (range-more 0 k)
    ∙ ap (range_with_len 0) more

pub read_sector_bytes : (contents : List (List ℕ)) (n : ℕ) (bytes : List ℕ) → slice_get contents n ≡ Some bytes → length bytes ≡ 256 → sector_bytes contents n ≡ bytes
unfolding sector_bytes
read_sector_bytes contents n bytes there whole =
    ap (λ found. take 256 (unwrap_or found [] ++ replicate 256 0)) there ∙ ap (λ k. take k (bytes ++ replicate 256 0)) (sym whole) ∙ take-append_seam bytes (replicate 256 0)

-- ---- how often a block occurs in a list
pub times-same : (block other : ℕ) (blocks : List ℕ) → block ≡ other → times block (other ∷ blocks) ≡ 1 + times block blocks
times-same block other blocks same = grind (arith, nat_tests)

times-other : (block other : ℕ) (blocks : List ℕ) → block ≢ other → times block (other ∷ blocks) ≡ times block blocks
times-other block other blocks differ = grind (arith, nat_tests)

pub times-append : (block : ℕ) (xs ys : List ℕ) → times block (xs ++ ys) ≡ times block xs + times block ys
times-append block [] ys = omega arith
times-append block (x ∷ xs) ys =
    let rest : times block (xs ++ ys) ≡ times block xs + times block ys = times-append block xs ys in
    rw rest (omega arith)

times-below : (block a n : ℕ) → block < a → times block (range_with_len a n) ≡ 0
times-below block a zero below = refl
times-below block a (suc n) below = times-other block a (range_with_len (a + 1) n) (omega arith) ∙ times-below block (a + 1) n (omega arith)

times-above : (block a n : ℕ) → a + n ≤ block → times block (range_with_len a n) ≡ 0
times-above block a zero above = refl
times-above block a (suc n) above = times-other block a (range_with_len (a + 1) n) (omega arith) ∙ times-above block (a + 1) n (omega arith)

times-within : (block a n : ℕ) → a ≤ block → block < a + n → times block (range_with_len a n) ≡ 1
times-within block a zero low high = absurd (omega arith)
times-within block a (suc n) low high = by_cases (λ more. times-within block (a + 1) n (omega arith) (omega arith)) (eqb_tells block a)
  where
    by_cases : (a + 1 ≤ block → times block (range_with_len (a + 1) n) ≡ 1) → ((eqb block a ≡ true) × (block ≡ a)) ⊎ ((eqb block a ≡ false) × (block ≢ a))
        → times block (range_with_len a (suc n)) ≡ 1
    by_cases later (inl same) = times-same block a (range_with_len (a + 1) n) same.1 ∙ ap (λ k. 1 + k) (times-below block (a + 1) n (omega arith))
    by_cases later (inr differ) = times-other block a (range_with_len (a + 1) n) differ.1 ∙ later (let apart : block ≢ a = differ.1 in omega arith)

pub first_blocks : (free one two : List ℕ) → free ≡ range_with_len 0 128 → one ≡ [] → two ≡ [] → AreBlocks free one two
first_blocks free one two all none_one none_two =
    rw (all, none_one, none_two) (record {
      count = omega (arith, length-range_with_len 0 128);
      each = λ block below. let one_time : times block (range_with_len 0 128) ≡ 1 = times-within block 0 128 (omega arith) (omega arith) in rw one_time refl;
      no_other = λ block above. let none : times block (range_with_len 0 128) ≡ 0 = times-above block 0 128 (omega arith) in rw none refl;
    })

-- ---- the first of some blocks
first_and_rest : (xs : List ℕ) (b : ℕ) → slice_get xs 0 ≡ Some b → xs ≡ b ∷ drop 1 xs
first_and_rest [] b first = cc
first_and_rest (x ∷ xs) b first = let same : x ≡ b = cc in ap (λ k. k ∷ xs) same

times-first : (block b : ℕ) (xs : List ℕ) → slice_get xs 0 ≡ Some b → times block xs ≡ times block (b ∷ []) + times block (drop 1 xs)
times-first block b xs first = ap (times block) (first_and_rest xs b first) ∙ times-append block (b ∷ []) (drop 1 xs)

once : (b : ℕ) → times b (b ∷ []) ≡ 1
once b = times-same b b [] refl

pub first_below : (free one two : List ℕ) (b : ℕ) → AreBlocks free one two → slice_get free 0 ≡ Some b → b < 128
first_below free one two b are first = by_cases (leb_tells 128 b)
  where
    by_cases : ((leb 128 b ≡ true) × (128 ≤ b)) ⊎ ((leb 128 b ≡ false) × (b < 128)) → b < 128
    by_cases (inl past) = absurd (omega (arith, are.no_other b past.1, times-first b b free first, once b))
    by_cases (inr below) = below.1

pub is_any_free : (free one two : List ℕ) (most_one most_two : ℕ) → AreBlocks free one two → length one ≤ most_one → length two ≤ most_two
    → most_one + most_two ≤ 128 → length one + length two < most_one + most_two → 0 < length free
is_any_free free one two most_one most_two are few_one few_two sum room = omega (arith, are.count)

-- a free block occurs nowhere else
pub free_elsewhere : (free one two : List ℕ) (b : ℕ) → AreBlocks free one two → slice_get free 0 ≡ Some b → times b one + times b two ≡ 0
free_elsewhere free one two b are first = omega (arith, are.each b (first_below free one two b are first), times-first b b free first, once b)

length-rest : (xs : List ℕ) (b : ℕ) → slice_get xs 0 ≡ Some b → length xs ≡ 1 + length (drop 1 xs)
length-rest xs b first = ap length (first_and_rest xs b first) ∙ omega arith

-- the first of a list becomes the last of another
pub moved_one : (free one two : List ℕ) (b : ℕ) → slice_get free 0 ≡ Some b → AreBlocks free one two → AreBlocks (drop 1 free) (one ++ b ∷ []) two
moved_one free one two b first are = record {
  count = omega (arith, are.count, length-rest free b first, length-append one (b ∷ []));
  each = λ block below. omega (arith, are.each block below, times-first block b free first, times-append block one (b ∷ []));
  no_other = λ block above. omega (arith, are.no_other block above, times-first block b free first, times-append block one (b ∷ []));
}

swapped : (free one two : List ℕ) → AreBlocks free one two → AreBlocks free two one
swapped free one two are = record {
  count = omega (arith, are.count);
  each = λ block below. omega (arith, are.each block below);
  no_other = λ block above. omega (arith, are.no_other block above);
}

turned : (free one two : List ℕ) → AreBlocks free one two → AreBlocks one free two
turned free one two are = record {
  count = omega (arith, are.count);
  each = λ block below. omega (arith, are.each block below);
  no_other = λ block above. omega (arith, are.no_other block above);
}

pub moved_two : (free one two : List ℕ) (b : ℕ) → slice_get free 0 ≡ Some b → AreBlocks free one two → AreBlocks (drop 1 free) one (two ++ b ∷ [])
moved_two free one two b first are = swapped (drop 1 free) (two ++ b ∷ []) one (moved_one free two one b first (swapped free one two are))

-- a level's first block becomes the first free one
pub back_from_one : (free one two : List ℕ) (b : ℕ) → slice_get one 0 ≡ Some b → AreBlocks free one two → AreBlocks (b ∷ free) (drop 1 one) two
back_from_one free one two b first are = record {
  count = omega (arith, are.count, length-rest one b first);
  each = λ block below. omega (arith, are.each block below, times-first block b one first, times-append block (b ∷ []) free);
  no_other = λ block above. omega (arith, are.no_other block above, times-first block b one first, times-append block (b ∷ []) free);
}

pub back_from_two : (free one two : List ℕ) (b : ℕ) → slice_get two 0 ≡ Some b → AreBlocks free one two → AreBlocks (b ∷ free) one (drop 1 two)
back_from_two free one two b first are = swapped (b ∷ free) (drop 1 two) one (back_from_one free two one b first (swapped free one two are))

pub kept_all : (n b : ℕ) (xs : List ℕ) → length xs < n → keep_last n (xs ++ b ∷ []) ≡ xs ++ b ∷ []
kept_all n b xs room =
    let none : length (xs ++ b ∷ []) - n ≡ 0 = omega (arith, length-append xs (b ∷ [])) in
    ap (λ m. drop m (xs ++ b ∷ [])) none

pub kept_all_behind : (n b : ℕ) (xs : List ℕ) → length xs < n → take n (b ∷ xs) ≡ b ∷ xs
kept_all_behind n b xs room = take_all n (b ∷ xs) (omega arith)

-- the rings that a spool has
abbrev pub AreRings : (free one two : Buffer ℕ) → Type 0
AreRings free one two = (free.capacity ≡ 128)
    × ((one.capacity + two.capacity ≤ 128)
    × ((length one.items ≤ one.capacity)
    × ((length two.items ≤ two.capacity) × AreBlocks free.items one.items two.items)))

abbrev rings_seen : (free one two : Buffer ℕ) → Blocks
rings_seen free one two = record { free = free.items; one = one.items; two = two.items; quota_one = one.capacity; quota_two = two.capacity }

-- a free ring has room for a block that a level gives back
pub kept_front : (level : LevelId) (free one two : Buffer ℕ) (b : ℕ) → slice_get (blocks_of level (rings_seen free one two)) 0 ≡ Some b → AreRings free one two
    → take free.capacity (b ∷ free.items) ≡ b ∷ free.items
kept_front One free one two b first are =
    let blocks : AreBlocks free.items one.items two.items = are.1.1.1.1 in
    kept_all_behind free.capacity b free.items (omega (arith, are.0, blocks.count, length-rest one.items b first))
kept_front Two free one two b first are =
    let blocks : AreBlocks free.items one.items two.items = are.1.1.1.1 in
    kept_all_behind free.capacity b free.items (omega (arith, are.0, blocks.count, length-rest two.items b first))

-- the rings where a level's first block becomes the first free one
pub taken_from_one : (free one two : Buffer ℕ) (b : ℕ) → slice_get one.items 0 ≡ Some b → AreRings free one two
    → AreRings (buffer (take free.capacity (b ∷ free.items)) free.capacity) (buffer (drop 1 one.items) one.capacity) two
taken_from_one free one two b first are =
    rw (kept_front One free one two b first are)
    (are.0, (are.1.0, (omega (arith, are.1.1.0, length-rest one.items b first), (are.1.1.1.0, back_from_one free.items one.items two.items b first are.1.1.1.1))))

pub taken_from_two : (free one two : Buffer ℕ) (b : ℕ) → slice_get two.items 0 ≡ Some b → AreRings free one two
    → AreRings (buffer (take free.capacity (b ∷ free.items)) free.capacity) one (buffer (drop 1 two.items) two.capacity)
taken_from_two free one two b first are =
    rw (kept_front Two free one two b first are)
    (are.0, (are.1.0, (are.1.1.0, (omega (arith, are.1.1.1.0, length-rest two.items b first), back_from_two free.items one.items two.items b first are.1.1.1.1))))

-- ---- the lines in blocks
kept_sector : (contents : List (List ℕ)) (n m : ℕ) (bytes : List ℕ) → m ≢ n → sector_bytes (slice_set contents n bytes) m ≡ sector_bytes contents m
unfolding sector_bytes
kept_sector contents n m bytes apart = ap (λ found. take 256 (unwrap_or found [] ++ replicate 256 0)) (slice_get_set_other contents n m bytes apart)

-- a block that isn't among some is written, and their lines stay
pub kept_lines : (blocks : List ℕ) (b : ℕ) (bytes : List ℕ) (contents : List (List ℕ)) → times b blocks ≡ 0
    → lines_in blocks (slice_set contents (block_sector b) bytes) ≡ lines_in blocks contents
unfolding lines_in
kept_lines [] b bytes contents none = refl
kept_lines (x ∷ xs) b bytes contents none = by_cases (λ rest. kept_lines xs b bytes contents rest) (eqb_tells b x)
  where
    by_cases : (times b xs ≡ 0 → lines_in xs (slice_set contents (block_sector b) bytes) ≡ lines_in xs contents)
        → ((eqb b x ≡ true) × (b ≡ x)) ⊎ ((eqb b x ≡ false) × (b ≢ x))
        → lines_in (x ∷ xs) (slice_set contents (block_sector b) bytes) ≡ lines_in (x ∷ xs) contents
    by_cases later (inl same) = absurd (omega (arith, times-same b x xs same.1))
    by_cases later (inr differ) =
        let apart : b ≢ x = differ.1 in
        let sectors_apart : block_sector x ≢ block_sector b = omega arith in
        let rest : times b xs ≡ 0 = omega (arith, times-other b x xs apart) in
        ap (λ bytes'. line_of_block bytes' ∷ lines_in xs (slice_set contents (block_sector b) bytes)) (kept_sector contents (block_sector b) (block_sector x) bytes sectors_apart)
        ∙ ap (λ lines. line_of_block (sector_bytes contents (block_sector x)) ∷ lines) (later rest)

pub lines_in-append : (xs ys : List ℕ) (contents : List (List ℕ)) → lines_in (xs ++ ys) contents ≡ lines_in xs contents ++ lines_in ys contents
unfolding lines_in
lines_in-append [] ys contents = refl
lines_in-append (x ∷ xs) ys contents = ap (λ lines. line_of_block (sector_bytes contents (block_sector x)) ∷ lines) (lines_in-append xs ys contents)

-- the line in the block that was written
written_line : (b : ℕ) (bytes : List ℕ) (contents : List (List ℕ)) (line : Printed) → length bytes ≡ 256 → block_sector b < length contents
    → line_of_block bytes ≡ line → lines_in (b ∷ []) (slice_set contents (block_sector b) bytes) ≡ line ∷ []
unfolding lines_in
written_line b bytes contents line whole there reads =
    ap (λ found. line_of_block found ∷ []) (read_sector_bytes (slice_set contents (block_sector b) bytes) (block_sector b) bytes (slice_get_set_same contents (block_sector b) bytes there) whole)
    ∙ ap (λ l. l ∷ []) reads

-- a line is put last
pub put_last : (own : List ℕ) (b : ℕ) (bytes : List ℕ) (contents : List (List ℕ)) (line : Printed) → times b own ≡ 0 → length bytes ≡ 256
    → block_sector b < length contents → line_of_block bytes ≡ line
    → lines_in (own ++ b ∷ []) (slice_set contents (block_sector b) bytes) ≡ lines_in own contents ++ line ∷ []
put_last own b bytes contents line elsewhere whole there reads =
    lines_in-append own (b ∷ []) (slice_set contents (block_sector b) bytes)
    ∙ ap (λ lines. lines ++ lines_in (b ∷ []) (slice_set contents (block_sector b) bytes)) (kept_lines own b bytes contents elsewhere)
    ∙ ap (λ lines. lines_in own contents ++ lines) (written_line b bytes contents line whole there reads)

-- the first line is the line of the first block
pub first_line : (own : List ℕ) (b : ℕ) (contents : List (List ℕ)) → slice_get own 0 ≡ Some b
    → lines_in own contents ≡ line_of_block (sector_bytes contents (block_sector b)) ∷ lines_in (drop 1 own) contents
unfolding lines_in
first_line own b contents first = ap (λ blocks. lines_in blocks contents) (first_and_rest own b first)

-- ---- queues
pub queued_last : (level : LevelId) (blocks : Blocks) (b : ℕ) (bytes : List ℕ) (contents : List (List ℕ)) (line : Printed)
    → times b blocks.one + times b blocks.two ≡ 0 → length bytes ≡ 256
    → block_sector b < length contents → line_of_block bytes ≡ line
    → queue_of level (with_queued level b blocks) (slice_set contents (block_sector b) bytes) ≡ queue_of level blocks contents ++ line ∷ []
queued_last One blocks b bytes contents line elsewhere whole there reads = put_last blocks.one b bytes contents line (omega arith) whole there reads
queued_last Two blocks b bytes contents line elsewhere whole there reads = put_last blocks.two b bytes contents line (omega arith) whole there reads

pub queued_other : (level : LevelId) (blocks : Blocks) (b : ℕ) (bytes : List ℕ) (contents : List (List ℕ))
    → times b blocks.one + times b blocks.two ≡ 0
    → queue_of (other level) (with_queued level b blocks) (slice_set contents (block_sector b) bytes) ≡ queue_of (other level) blocks contents
queued_other One blocks b bytes contents elsewhere = kept_lines blocks.two b bytes contents (omega arith)
queued_other Two blocks b bytes contents elsewhere = kept_lines blocks.one b bytes contents (omega arith)

pub queued_quota : (level one_or_two : LevelId) (blocks : Blocks) (b : ℕ) → quota_of one_or_two (with_queued level b blocks) ≡ quota_of one_or_two blocks
queued_quota One One blocks b = refl
queued_quota One Two blocks b = refl
queued_quota Two One blocks b = refl
queued_quota Two Two blocks b = refl

pub taken_quota : (level one_or_two : LevelId) (blocks : Blocks) (b : ℕ) → quota_of one_or_two (with_taken level b blocks) ≡ quota_of one_or_two blocks
taken_quota One One blocks b = refl
taken_quota One Two blocks b = refl
taken_quota Two One blocks b = refl
taken_quota Two Two blocks b = refl

pub taken_other : (level : LevelId) (blocks : Blocks) (b : ℕ) → blocks_of (other level) (with_taken level b blocks) ≡ blocks_of (other level) blocks
taken_other One blocks b = refl
taken_other Two blocks b = refl

-- what changes in the sector of a free block alone
pub within_free : (blocks : Blocks) (b : ℕ) (old new : PoolState) → b < 128 → times b blocks.one + times b blocks.two ≡ 0
    → ChangesWithin (λ i. i ≡ block_sector b) old new → ChangesWithin (IsFreeSector blocks) old new
within_free blocks b old new few elsewhere within =
    within_weaker (λ i. i ≡ block_sector b) (IsFreeSector blocks) old new (λ i here. record { block = b; few = few; place = here; free = elsewhere }) within

pub one_below : (free one two : List ℕ) (b : ℕ) → AreBlocks free one two → slice_get one 0 ≡ Some b → b < 128
one_below free one two b are first = first_below one free two b (turned free one two are) first

pub two_below : (free one two : List ℕ) (b : ℕ) → AreBlocks free one two → slice_get two 0 ≡ Some b → b < 128
two_below free one two b are first = first_below two free one b (turned free two one (swapped free one two are)) first

pub first_of_queue : (level : LevelId) (blocks : Blocks) (b : ℕ) (contents : List (List ℕ)) → slice_get (blocks_of level blocks) 0 ≡ Some b
    → queue_of level blocks contents ≡ line_of_block (sector_bytes contents (block_sector b)) ∷ queue_of level (with_taken level b blocks) contents
first_of_queue One blocks b contents first = first_line blocks.one b contents first
first_of_queue Two blocks b contents first = first_line blocks.two b contents first
