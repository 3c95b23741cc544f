-- What an operator meets: a level has gone on, a halt is shown, a halt is asked.
use Rattle.std.specs.Prelude.{ℕ, Bool, List, Option}
use Rattle.s3_cards.specs.Printed.{Printed}
use Rattle.s3_cards.specs.declared.levels.LevelId.{LevelId}
use Rattle.s3_operator.specs.Halts.{ShownHalt}
use Rattle.s3_bureau.specs.declared.entry.Entry.{Entry}

pub data Event : Type 0 where
  -- the level has gone on: what level 1 and level 2 have printed so far, whether level 1 is over, and the entries performed so far
  Followed : LevelId → (one two : List Printed) → (is_one_over : Bool) → List Entry → Event
  -- this halt waits in the level
  Shown : LevelId → ShownHalt → Event
  -- this halt waits in the level, and this is the reply, if there is one
  Asked : LevelId → ShownHalt → Option ℕ → Event
