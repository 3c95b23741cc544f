-- A level before its first turn.
use Rattle.std.proofs.Common.{◌≡◌, ℕ, []}
use Rattle.s3_cards.specs.declared.levels.LevelId.TheVariants.{One, Two}
use Rattle.s3_store.specs.Inner.State.{PoolState}
use Rattle.s3_slots.specs.Header.{quota_of as header_quota}
use Rattle.s3_labels.specs.Inner.Areas.{Areas, areas_on, IsReady as IsPackReady}
use Rattle.s3_spool.specs.Inner.Queues.{Blocks}
use Rattle.s3_job_files.specs.Inner.Holds.{seen}
use Rattle.s3_level.specs.declared.level.Level.{Level}
use Rattle.s3_level.specs.Inner.Holds.{Around, IsFresh, IsReady, around}
use Rattle.s3_bureau.proofs.Opening.{is_fresh}

-- it is ready over a pack that was just mounted
pub ready_at_start : (level : Level) (areas : Areas) (s : PoolState) (blocks : Blocks) (quota_one quota_two : ℕ)
    → ((beside : Around) → IsFresh beside → IsReady level (seen beside.areas beside.state.contents))
    → areas ≡ areas_on areas.header s.contents → IsPackReady areas s.contents
    → (blocks.one ≡ []) × (blocks.quota_one ≡ quota_one) → (blocks.two ≡ []) × (blocks.quota_two ≡ quota_two)
    → quota_one ≡ header_quota One areas.header → quota_two ≡ header_quota Two areas.header
    → IsReady level (seen areas s.contents)
ready_at_start level areas s blocks quota_one quota_two ready mounted pack one two quota1 quota2 =
    ready (around areas s blocks) (is_fresh areas s blocks quota_one quota_two mounted pack one two quota1 quota2)
