-- What any list of steps makes of a bureau, in any order of the two levels' entries.
use Rattle.std.specs.Prelude.{◌≡◌, true, List, [], ◌∷◌}
use Rattle.s3_cards.specs.Inner.Levels.{other}
use Rattle.s3_cards.specs.declared.levels.LevelId.{LevelId}
use Rattle.s3_store.specs.Inner.State.{KeepsInStep}
use Rattle.s3_solo.specs.declared.action.Did.{Did}
use Rattle.s3_solo.specs.Inner.Formats.{answers as solo_answers}
use Rattle.s3_solo.specs.Solo.{solo}
use Rattle.s3_solo.specs.World.{World}
use Rattle.s3_bureau.specs.declared.entry.Entry.{Entry}
use Rattle.s3_bureau.specs.Entries.{own}
use Rattle.s3_bureau.specs.Inner.Agreement.{Performed, own_answers}
use Rattle.s3_bureau.specs.Inner.Held.{HoldsFor, IsForeign, State, header_of, is_open, level_of}
use Rattle.s3_bureau.specs.Inner.Underway.{Leaves}

-- A step gave this answer: the worlds of its level took the entry. The worlds of the other level, the other level itself, the header, and
-- the sectors of the header, the masters and the other level are unchanged.
pub record Stepped (entry : Entry) (did : Did) (old new : State) : Type 0 where
  pub performed : Performed entry did old new
  pub no_other : (w : World) → HoldsFor (other entry.level) new w → HoldsFor (other entry.level) old w
  pub stays : level_of (other entry.level) new ≡ level_of (other entry.level) old
  pub unchanged : KeepsInStep (IsForeign entry.level (header_of old)) old.beside.state new.beside.state
  pub header : header_of new ≡ header_of old
  pub goes_on : is_open new ≡ true

-- steps were made one after the other, and each succeeded with its answer
abbrev pub AreStepped : List Entry → List Did → (old new : State) → Type 0
AreStepped [] [] old new = new ≡ old
AreStepped (entry ∷ entries) (did ∷ answers) old new = (middle : State) × (Stepped entry did old middle × AreStepped entries answers middle new)
AreStepped [] (did ∷ answers) old new = ⊥
AreStepped (entry ∷ entries) [] old new = ⊥

-- each world that was represented for a level has taken that level's entries, in order, with the answers of the reference model
pub record TakesOwn (level : LevelId) (entries : List Entry) (answers : List Did) (old new : State) : Type 0 where
  pub world : (w : World) → HoldsFor level old w → HoldsFor level new (solo w (own level entries))
  pub answered : (w : World) → HoldsFor level old w → own_answers level entries answers ≡ solo_answers w (own level entries)

-- the worlds that are represented for a level are those of before
pub record KeepsWorlds (level : LevelId) (old new : State) : Type 0 where
  pub still : (w : World) → HoldsFor level old w → HoldsFor level new w
  pub none_new : (w : World) → HoldsFor level new w → HoldsFor level old w

-- what steps make of each level, and what they leave unchanged
pub record StepsMake (entries : List Entry) (answers : List Did) (old new : State) : Type 0 where
  pub takes : (level : LevelId) → TakesOwn level entries answers old new
  pub keeps : (level : LevelId) → own level entries ≡ [] → KeepsWorlds level old new
  pub leaves : Leaves entries old new
  pub goes_on : is_open old ≡ true → is_open new ≡ true

abbrev pub EachTakesItsOwn : Type 0
EachTakesItsOwn = (entries : List Entry) (answers : List Did) (old new : State) → AreStepped entries answers old new → StepsMake entries answers old new
