-- The entries of one level: those of a script's entries that name it, in order.
use Rattle.std.specs.Prelude.{List, [], ◌∷◌}
use Rattle.s3_cards.specs.declared.levels.LevelId.{LevelId}
use Rattle.s3_cards.specs.declared.levels.LevelId.TheVariants.{One, Two}
use Rattle.s3_solo.specs.declared.action.Action.{Action}
use Rattle.s3_bureau.specs.declared.entry.Entry.{Entry}

-- the action of an entry, before the given actions, if the entry names the level
abbrev pub with_action : LevelId → LevelId → Action → List Action → List Action
with_action One One action actions = action ∷ actions
with_action Two Two action actions = action ∷ actions
with_action One Two action actions = actions
with_action Two One action actions = actions

-- the actions of the entries that name a level, in order
abbrev pub own : LevelId → List Entry → List Action
own level [] = []
own level (entry ∷ entries) = with_action level entry.level entry.action (own level entries)
