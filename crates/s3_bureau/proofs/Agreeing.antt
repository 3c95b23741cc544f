-- A level's own entries alone say what it holds and what it is answered.
use Rattle.std.proofs.Common.{◌≡◌, List, [], ◌∷◌, refl, sym, ap, ap₂, subst, ◌∙◌}
use Rattle.s3_cards.specs.Inner.Levels.{other}
use Rattle.s3_cards.specs.declared.levels.LevelId.{LevelId}
use Rattle.s3_cards.specs.declared.levels.LevelId.TheVariants.{One, Two}
use Rattle.s3_solo.specs.declared.action.Action.{Action}
use Rattle.s3_solo.specs.declared.action.Did.{Did}
use Rattle.s3_solo.specs.World.{World}
use Rattle.s3_solo.specs.Inner.Formats.{answers as solo_answers}
use Rattle.s3_solo.specs.Solo.{solo, step_of}
use Rattle.s3_level.specs.Inner.Holds.{Steps}
use Rattle.s3_bureau.specs.declared.entry.Entry.{Entry}
use Rattle.s3_bureau.specs.Inner.Agreement.{AgreesAfter, ArePerformed, own_answers, with_answer}
use Rattle.s3_bureau.specs.Entries.{own, with_action}
use Rattle.s3_bureau.specs.Inner.Held.{HoldsFor, State}

one_more : (level from : LevelId) (action : Action) (did : Did) (old middle new : State) (w : World) (actions : List Action) (answers : List Did)
    → Steps action did (HoldsFor from old) (HoldsFor from middle)
    → ((v : World) → HoldsFor (other from) old v → HoldsFor (other from) middle v)
    → ((v : World) → HoldsFor level middle v → HoldsFor level new (solo v actions) × (answers ≡ solo_answers v actions))
    → HoldsFor level old w
    → HoldsFor level new (solo w (with_action level from action actions)) × (with_answer level from did answers ≡ solo_answers w (with_action level from action actions))
one_more One One action did old middle new w actions answers mine his rest held =
    let taken = mine w held in let after = rest (step_of w action).world taken.1 in (after.0, ap₂ (λ (d : Did) (ds : List Did). d ∷ ds) taken.0 after.1)
one_more Two Two action did old middle new w actions answers mine his rest held =
    let taken = mine w held in let after = rest (step_of w action).world taken.1 in (after.0, ap₂ (λ (d : Did) (ds : List Did). d ∷ ds) taken.0 after.1)
one_more One Two action did old middle new w actions answers mine his rest held = rest w (his w held)
one_more Two One action did old middle new w actions answers mine his rest held = rest w (his w held)

pub all_taken : (level : LevelId) (entries : List Entry) (answers : List Did) (old new : State) (w : World) → ArePerformed entries answers old new → HoldsFor level old w
    → HoldsFor level new (solo w (own level entries)) × (own_answers level entries answers ≡ solo_answers w (own level entries))
all_taken level [] [] old new w are held = (subst (λ (b : State). HoldsFor level b w) (sym are) held, refl)
all_taken level [] (did ∷ answers) old new w are held = absurd are
all_taken level (entry ∷ entries) [] old new w are held = absurd are
all_taken level (entry ∷ entries) (did ∷ answers) old new w are held =
    one_more level entry.level entry.action did old are.0 new w (own level entries) (own_answers level entries answers) are.1.0.own are.1.0.other
    (λ v there. all_taken level entries answers are.0 new v are.1.1 there) held

pub agrees_after : AgreesAfter
agrees_after level one two new_one new_two entries others answers other_answers agree performed other_performed same =
    let first = all_taken level entries answers one new_one agree.world performed agree.by_one in
    let second = all_taken level others other_answers two new_two agree.world other_performed agree.by_two in (
      record {
        world = solo agree.world (own level entries);
        by_one = first.0;
        by_two = subst (λ (actions : List Action). HoldsFor level new_two (solo agree.world actions)) (sym same) second.0;
      },
      first.1 ∙ ap (solo_answers agree.world) same ∙ sym second.1,
    )
