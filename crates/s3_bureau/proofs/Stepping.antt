-- What a list of steps makes of each level.
use Rattle.std.proofs.Common.{◌≡◌, true, List, [], ◌∷◌, refl, sym, ap, subst, ◌∙◌}
use Rattle.s3_cards.specs.Inner.Levels.{other}
use Rattle.s3_cards.specs.declared.levels.LevelId.{LevelId}
use Rattle.s3_cards.specs.declared.levels.LevelId.TheVariants.{One, Two}
use Rattle.s3_solo.specs.declared.action.Action.{Action}
use Rattle.s3_solo.specs.declared.action.Did.{Did}
use Rattle.s3_solo.specs.Solo.{solo}
use Rattle.s3_solo.specs.World.{World}
use Rattle.s3_bureau.specs.declared.entry.Entry.{Entry}
use Rattle.s3_bureau.specs.Entries.{own, with_action}
use Rattle.s3_bureau.specs.Inner.Agreement.{ArePerformed}
use Rattle.s3_bureau.specs.Inner.Held.{HoldsFor, State, is_open}
use Rattle.s3_bureau.specs.Inner.Steps.{AreStepped, EachTakesItsOwn, TakesOwn}
use Rattle.s3_bureau.specs.Inner.Underway.{Leaves}
use Rattle.s3_bureau.proofs.Agreeing.{all_taken}
use Rattle.s3_bureau.proofs.Performing.{leaves_entry, leaves_none, leaves_then}

are_performed : (entries : List Entry) (answers : List Did) (old new : State) → AreStepped entries answers old new → ArePerformed entries answers old new
are_performed [] [] old new are = are
are_performed [] (did ∷ answers) old new are = absurd are
are_performed (entry ∷ entries) [] old new are = absurd are
are_performed (entry ∷ entries) (did ∷ answers) old new are = (are.0, (are.1.0.performed, are_performed entries answers are.0 new are.1.1))

-- an entry that isn't the level's own is the other's, and none of the rest is its own
no_entry : (level from : LevelId) (action : Action) (actions : List Action) → with_action level from action actions ≡ [] → (level ≡ other from) × (actions ≡ [])
no_entry One One action actions none = absurd cc
no_entry Two Two action actions none = absurd cc
no_entry One Two action actions none = (refl, none)
no_entry Two One action actions none = (refl, none)

none_new : (level : LevelId) (entries : List Entry) (answers : List Did) (old new : State) → AreStepped entries answers old new → own level entries ≡ [] → (w : World) → HoldsFor level new w → HoldsFor level old w
none_new level [] [] old new are none w held = subst (λ (b : State). HoldsFor level b w) are held
none_new level [] (did ∷ answers) old new are none w held = absurd are
none_new level (entry ∷ entries) [] old new are none w held = absurd are
none_new level (entry ∷ entries) (did ∷ answers) old new are none w held =
    let is = no_entry level entry.level entry.action (own level entries) none in
    let after : HoldsFor level are.0 w = none_new level entries answers are.0 new are.1.1 is.1 w held in
    subst (λ (l : LevelId). HoldsFor l old w) (sym is.0) (are.1.0.no_other w (subst (λ (l : LevelId). HoldsFor l are.0 w) is.0 after))

leaves_all : (entries : List Entry) (answers : List Did) (old new : State) → AreStepped entries answers old new → Leaves entries old new
leaves_all [] [] old new are = subst (λ (b : State). Leaves [] old b) (sym are) (leaves_none old)
leaves_all [] (did ∷ answers) old new are = absurd are
leaves_all (entry ∷ entries) [] old new are = absurd are
leaves_all (entry ∷ entries) (did ∷ answers) old new are =
    leaves_then (entry ∷ []) entries old are.0 new (leaves_entry entry old are.0 are.1.0.stays are.1.0.unchanged are.1.0.header) (leaves_all entries answers are.0 new are.1.1)

still_open : (entries : List Entry) (answers : List Did) (old new : State) → AreStepped entries answers old new → is_open old ≡ true → is_open new ≡ true
still_open [] [] old new are was = ap is_open are ∙ was
still_open [] (did ∷ answers) old new are was = absurd are
still_open (entry ∷ entries) [] old new are was = absurd are
still_open (entry ∷ entries) (did ∷ answers) old new are was = still_open entries answers are.0 new are.1.1 are.1.0.goes_on

pub each_takes_its_own : EachTakesItsOwn
each_takes_its_own entries answers old new are = record {
  takes = takes;
  keeps = λ level none. record {
    still = λ w held. subst (λ (actions : List Action). HoldsFor level new (solo w actions)) none ((takes level).world w held);
    none_new = none_new level entries answers old new are none;
  };
  leaves = leaves_all entries answers old new are;
  goes_on = still_open entries answers old new are;
}
  where
    takes : (level : LevelId) → TakesOwn level entries answers old new
    takes level = record {
      world = λ w held. (all_taken level entries answers old new w (are_performed entries answers old new are) held).0;
      answered = λ w held. (all_taken level entries answers old new w (are_performed entries answers old new are) held).1;
    }
