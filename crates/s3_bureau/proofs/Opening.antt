-- A bureau at its start.
use Rattle.std.proofs.Common.{◌≡◌, ℕ, List, [], sym, ap, subst, ◌∙◌}
use Rattle.s3_cards.specs.declared.levels.LevelId.{LevelId}
use Rattle.s3_cards.specs.declared.levels.LevelId.TheVariants.{One, Two}
use Rattle.s3_store.specs.Inner.State.{PoolState}
use Rattle.s3_slots.specs.Header.{quota_of as header_quota, region_of}
use Rattle.s3_labels.specs.Inner.Areas.{Areas, areas_on, IsReady as IsPackReady}
use Rattle.s3_labels.specs.Areas.{area_of}
use Rattle.s3_labels.specs.Untangled.{IsUntangled}
use Rattle.s3_labels.specs.Inner.Labelled.{SaysSlots}
use Rattle.s3_labels.proofs.Labelled.{says_mounted}
use Rattle.s3_spool.specs.Inner.Queues.{Blocks, blocks_of, quota_of}
use Rattle.s3_level.specs.Inner.Holds.{IsFresh, around}
use Rattle.s3_bureau.specs.Inner.Held.{IsSaid, State, header_of}

-- what is beside the levels is as it was mounted
pub is_fresh : (areas : Areas) (s : PoolState) (blocks : Blocks) (quota_one quota_two : ℕ) → areas ≡ areas_on areas.header s.contents → IsPackReady areas s.contents
    → (blocks.one ≡ []) × (blocks.quota_one ≡ quota_one) → (blocks.two ≡ []) × (blocks.quota_two ≡ quota_two)
    → quota_one ≡ header_quota One areas.header → quota_two ≡ header_quota Two areas.header
    → IsFresh (around areas s blocks)
is_fresh areas s blocks quota_one quota_two mounted pack one two quota1 quota2 = record {
  areas = mounted;
  pack = pack;
  queues = queues;
  quotas = quotas;
}
  where
    queues : (level : LevelId) → blocks_of level blocks ≡ []
    queues One = one.0
    queues Two = two.0

    quotas : (level : LevelId) → quota_of level blocks ≡ header_quota level areas.header
    quotas One = one.1 ∙ quota1
    quotas Two = two.1 ∙ quota2

-- the labels of a level give its slots, if none overlaps or is duplicate
pub said_at_start : (level : LevelId) (areas : Areas) (contents : List (List ℕ)) (bureau : State) → areas ≡ areas_on areas.header contents → bureau.beside.areas ≡ areas → bureau.beside.state.contents ≡ contents
    → IsUntangled (header_of bureau).format (region_of level (header_of bureau)) (area_of level) contents → IsSaid level bureau
said_at_start level areas contents bureau mounted same there untangled =
    subst (λ (c : List (List ℕ)). SaysSlots level bureau.beside.areas c) (sym there)
    (subst (λ (a : Areas). SaysSlots level a contents) (sym (same ∙ mounted ∙ ap (λ (a : Areas). areas_on a.header contents) (sym same))) (says_mounted level (header_of bureau) contents untangled))
