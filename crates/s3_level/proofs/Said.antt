-- The labels of a level say its slots while a line is put.
use Rattle.s3_cards.specs.declared.levels.LevelId.{LevelId}
use Rattle.s3_store.specs.Inner.State.{PoolState, ChangesWithin}
use Rattle.s3_labels.specs.Inner.Areas.{Areas}
use Rattle.s3_labels.specs.Inner.Labelled.{KeepsSaid}
use Rattle.s3_labels.proofs.Labelled.{says_kept}
use Rattle.s3_spool.specs.Inner.Queues.{Blocks, IsFreeSector}
use Rattle.s3_job_files.proofs.Packs.{not_label}
use Rattle.s3_level.proofs.Beside.{free_is_block}

pub said_put : (level : LevelId) (areas : Areas) (blocks : Blocks) (s t : PoolState) → ChangesWithin (IsFreeSector blocks) s t → KeepsSaid level areas s.contents areas t.contents
said_put level areas blocks s t within = says_kept level areas s.contents t.contents (λ n is. within.contents n (λ block. not_label level n (free_is_block blocks n block).0 is))
