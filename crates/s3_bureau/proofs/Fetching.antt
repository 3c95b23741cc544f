-- What stays where a sector of the pack is read.
use Rattle.std.proofs.Common.{◌≡◌, List, ℕ, true, refl, sym, ap, subst, ◌∙◌}
use Rattle.s3_cards.specs.declared.levels.LevelId.{LevelId}
use Rattle.s3_cards.specs.declared.levels.LevelId.TheVariants.{One, Two}
use Rattle.s3_store.specs.Inner.State.{PoolState}
use Rattle.s3_labels.specs.Inner.Areas.{Areas}
use Rattle.s3_spool.specs.Inner.Queues.{Blocks, queue_of, quota_of}
use Rattle.s3_job_files.specs.Inner.Holds.{seen}
use Rattle.s3_solo.specs.World.{World}
use Rattle.s3_level.specs.declared.level.Level.{Level}
use Rattle.s3_level.specs.Inner.Holds.{Around, Holds, HoldsParts, IsReady, Shown, around, shown}
use Rattle.s3_bureau.specs.declared.bureau.Phase.{Phase}
use Rattle.s3_bureau.specs.declared.bureau.Phase.TheVariants.{Open, Finished, Stopped}
use Rattle.s3_bureau.specs.Inner.Held.{HoldsFor, IsReadyFor, State, has_worlds, level_of, takes_entries}

-- both levels can still take entries
pub still_ready : (one two : Level) (areas : Areas) (blocks : Blocks) (s t : PoolState) → t.contents ≡ s.contents → IsReadyFor one two (around areas s blocks) → IsReadyFor one two (around areas t blocks)
still_ready one two areas blocks s t same ready = record {
  one_is = ready.one_is;
  two_is = ready.two_is;
  one_ready = subst (λ (c : List (List ℕ)). IsReady one (seen areas c)) (sym same) ready.one_ready;
  two_ready = subst (λ (c : List (List ℕ)). IsReady two (seen areas c)) (sym same) ready.two_ready;
  blocks = ready.blocks;
}

-- what a level is shown, by its parts
abbrev shown_of : LevelId → Areas → Blocks → List (List ℕ) → Shown
shown_of level areas blocks contents = record { seen = seen areas contents; queue = queue_of level blocks contents; quota = quota_of level blocks }

still_shown : (level : LevelId) (old new : Around) → new.areas ≡ old.areas → new.blocks ≡ old.blocks → new.state.contents ≡ old.state.contents → shown level new ≡ shown level old
still_shown level old new areas blocks contents =
    ap (λ (a : Areas). shown_of level a new.blocks new.state.contents) areas
    ∙ ap (λ (b : Blocks). shown_of level old.areas b new.state.contents) blocks
    ∙ ap (λ (c : List (List ℕ)). shown_of level old.areas old.blocks c) contents

still_holds : (level : Level) (old new : Around) (w : World) → shown level.id new ≡ shown level.id old → Holds level old w → Holds level new w
still_holds level old new w same held = record { parts = subst (λ (s : Shown). HoldsParts level s w) (sym same) held.parts; asked = held.asked }

-- what is held stays so where no sector, no slot and no queue changes
pub still_held : (level : LevelId) (old new : State) (w : World) → has_worlds new.phase ≡ true → level_of level new ≡ level_of level old
    → new.beside.areas ≡ old.beside.areas → new.beside.blocks ≡ old.beside.blocks → new.beside.state.contents ≡ old.beside.state.contents
    → HoldsFor level old w → HoldsFor level new w
still_held level old new w goes_on his areas blocks contents held = record {
  goes_on = goes_on;
  world = subst (λ (l : Level). Holds l new.beside w) (sym his) (still_holds (level_of level old) old.beside new.beside w (still_shown (level_of level old).id old.beside new.beside areas blocks contents) held.world);
}

pub level_stays : (level : LevelId) (old new : State) → new.one ≡ old.one → new.two ≡ old.two → level_of level new ≡ level_of level old
level_stays One old new one two = one
level_stays Two old new one two = two

-- one that takes entries holds worlds
pub open_has : (phase : Phase) → takes_entries phase ≡ true → has_worlds phase ≡ true
open_has Open is = refl
open_has Finished is = absurd cc
open_has Stopped is = absurd cc

pub has_open : (new old : Phase) → new ≡ old → takes_entries old ≡ true → has_worlds new ≡ true
has_open new old same is = ap has_worlds same ∙ open_has old is
