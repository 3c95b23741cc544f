-- The worlds that a level reaches, and what it waits for at rest.
use Rattle.std.specs.Prelude.{◌≡◌, ◌⊎◌, ℕ, true, List, [], None, Ok}
use Rattle.s3_cards.specs.declared.levels.LevelId.{LevelId}
use Rattle.s3_slots.specs.Header.{mounted}
use Rattle.s3_slots.specs.declared.header.Header.{Header}
use Rattle.s3_operator.specs.Halts.{is_waiting}
use Rattle.s3_solo.specs.declared.action.Action.{Action}
use Rattle.s3_solo.specs.World.{World, at_start}
use Rattle.s3_solo.specs.Solo.{solo}

-- a level reaches this world by some entries, with some deck, over a mounted pack
pub record IsReached (w : World) : Type 0 where
  pub level : LevelId
  pub header : Header
  pub contents : List (List ℕ)
  pub deck : List (List ℕ)
  pub actions : List Action
  pub mounts : mounted contents ≡ Ok header
  pub there : solo (at_start level header contents deck) actions ≡ w

-- a halt waits, or no job runs and none is left
abbrev pub WaitsOrIsOver : World → Type 0
WaitsOrIsOver w = (is_waiting w.halts ≡ true) ⊎ ((w.job ≡ None) × (w.deck.jobs ≡ []))
