-- What the entries of a day leave of a bureau.
use Rattle.std.specs.Prelude.{◌≡◌, true, List, []}
use Rattle.s3_cards.specs.declared.levels.LevelId.{LevelId}
use Rattle.s3_store.specs.Inner.State.{KeepsInStep}
use Rattle.s3_bureau.specs.declared.entry.Entry.{Entry}
use Rattle.s3_bureau.specs.Entries.{own}
use Rattle.s3_bureau.specs.Sharing.{IsCommon, IsOwn}
use Rattle.s3_bureau.specs.Inner.Held.{State, header_of, held_by, is_open}
use Rattle.s3_bureau.specs.Inner.Underway.{KeepSaying, Performs}

-- By these entries a bureau came from the first state to another one, which takes more: each world that was held has taken its level's
-- own entries, and the sectors of a level without one are as they were.
pub record IsAfter (first : State) (entries : List Entry) (now : State) : Type 0 where
  pub takes_more : is_open now ≡ true
  pub header : header_of now ≡ header_of first
  pub performs : Performs entries (held_by first) (held_by now)
  pub says : KeepSaying first now
  pub idle : (level : LevelId) → own level entries ≡ [] → KeepsInStep (IsOwn level (header_of first)) first.beside.state now.beside.state

-- the sectors of the header, of the masters and those that nobody uses are as they were, in the store too
pub record KeepsCommon (first now : State) : Type 0 where
  pub header : header_of now ≡ header_of first
  pub common : KeepsInStep (IsCommon (header_of first)) first.beside.state now.beside.state
