-- Two bureaus that agree for a level, and entries that were performed one after the other.
use Rattle.std.specs.Prelude.{◌≡◌, List, [], ◌∷◌}
use Rattle.s3_cards.specs.Inner.Levels.{other}
use Rattle.s3_cards.specs.declared.levels.LevelId.{LevelId}
use Rattle.s3_cards.specs.declared.levels.LevelId.TheVariants.{One, Two}
use Rattle.s3_solo.specs.declared.action.Did.{Did}
use Rattle.s3_solo.specs.World.{World}
use Rattle.s3_level.specs.Inner.Holds.{Steps}
use Rattle.s3_bureau.specs.declared.entry.Entry.{Entry}
use Rattle.s3_bureau.specs.Entries.{own}
use Rattle.s3_bureau.specs.Inner.Held.{HoldsFor, State}

-- Both bureaus represent the same world for the level. The other level, the spool blocks and the buffers may differ.
pub record Agree (level : LevelId) (one two : State) : Type 0 where
  pub world : World
  pub by_one : HoldsFor level one world
  pub by_two : HoldsFor level two world

-- a step performed this entry and gave this answer
pub record Performed (entry : Entry) (did : Did) (old new : State) : Type 0 where
  pub own : Steps entry.action did (HoldsFor entry.level old) (HoldsFor entry.level new)
  pub other : (w : World) → HoldsFor (other entry.level) old w → HoldsFor (other entry.level) new w

-- entries were performed one after the other, with these answers
abbrev pub ArePerformed : List Entry → List Did → (old new : State) → Type 0
ArePerformed [] [] old new = new ≡ old
ArePerformed (entry ∷ entries) (did ∷ answers) old new = (middle : State) × (Performed entry did old middle × ArePerformed entries answers middle new)
ArePerformed [] (did ∷ answers) old new = ⊥
ArePerformed (entry ∷ entries) [] old new = ⊥

-- the answer of an entry, before the given answers, if the entry names the level
abbrev pub with_answer : LevelId → LevelId → Did → List Did → List Did
with_answer One One did answers = did ∷ answers
with_answer Two Two did answers = did ∷ answers
with_answer One Two did answers = answers
with_answer Two One did answers = answers

-- the answers of the entries that name a level, in order
abbrev pub own_answers : LevelId → List Entry → List Did → List Did
own_answers level [] answers = []
own_answers level (entry ∷ entries) [] = []
own_answers level (entry ∷ entries) (did ∷ answers) = with_answer level entry.level did (own_answers level entries answers)

-- If two bureaus agree for a level and the level has the same entries in both, the bureaus agree for it afterwards. The level's entries
-- have the same answers. The other level's entries may differ.
abbrev pub AgreesAfter : Type 0
AgreesAfter =
    (level : LevelId) (one two new_one new_two : State) (entries others : List Entry) (answers other_answers : List Did)
    → Agree level one two → ArePerformed entries answers one new_one → ArePerformed others other_answers two new_two → own level entries ≡ own level others
    → Agree level new_one new_two × (own_answers level entries answers ≡ own_answers level others other_answers)
