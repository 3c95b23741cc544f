-- What the operator has followed of a day.
use Rattle.std.proofs.Common.{◌≡◌, inl, inr, ◌<◌, ◌≤◌, ℕ, zero, suc, true, List, [], ◌∷◌, ◌++◌, append_assoc, replicate, Option, None, is_some, refl, sym, ap, subst, ◌∙◌, arith}
use Rattle.std.proofs.lemmas.List.{append-nil, append_cancel_left}
use Rattle.s3_cards.specs.declared.levels.LevelId.{LevelId}
use Rattle.s3_cards.specs.declared.levels.LevelId.TheVariants.{One, Two}
use Rattle.s3_solo.specs.declared.action.Action.{Action}
use Rattle.s3_solo.specs.declared.action.Action.TheVariants.{Turn}
use Rattle.s3_solo.specs.Solo.{solo, step_of}
use Rattle.s3_solo.specs.World.{World}
use Rattle.s3_bureau.specs.declared.entry.Entry.{Entry}
use Rattle.s3_bureau.specs.Entries.{own}
use Rattle.s3_desk.specs.Inner.Desk.{StepsAlike}
use Rattle.s3_desk.specs.Inner.Moments.{Drained, EachFits, InTime, IsFollowed, MayDrain, MayTurn, Moment, Turned, drain_of, due_at, due_in, performed_in, turn_of, world_after}
use Rattle.s3_desk.proofs.Moments.{after_more, moments_of, performed_joined}

pub due_joined : (due : Option Entry) (xs ys : List Moment) → due_in due (xs ++ ys) ≡ due_in (due_in due xs) ys
due_joined due [] ys = refl
due_joined due (moment ∷ xs) ys = due_joined (due_at moment due) xs ys

-- with nothing after it
pub followed_same : (before : List Moment) → IsFollowed before → IsFollowed (before ++ [])
followed_same before followed = subst IsFollowed (sym (append-nil before)) followed

-- entries that aren't there are followed
pub none_due : (was is more : List Entry) (before : List Moment) → is ≡ was ++ more → is ≡ was → IsFollowed before → IsFollowed (before ++ moments_of more)
none_due was is more before whole same followed =
    let none : more ≡ [] = append_cancel_left was more [] (sym whole ∙ (same ∙ sym (append-nil was))) in
    subst (λ (es : List Entry). IsFollowed (before ++ moments_of es)) (sym none) (followed_same before followed)

own_turn : (level : LevelId) → own level (performed_in (Turned level ∷ [])) ≡ Turn ∷ []
own_turn One = refl
own_turn Two = refl

performed_turn : (before : List Moment) (level : LevelId) (n : ℕ) → performed_in (before ++ Turned level ∷ []) ++ replicate n (turn_of level) ≡ performed_in before ++ replicate (suc n) (turn_of level)
performed_turn before level n =
    ap (λ (es : List Entry). es ++ replicate n (turn_of level)) (performed_joined before (Turned level ∷ [])) ∙ append_assoc (performed_in before) (turn_of level ∷ []) (replicate n (turn_of level))

module _ (starts : LevelId → World) where
  after_turn : (before : List Moment) (level : LevelId) → world_after starts (before ++ Turned level ∷ []) level ≡ (step_of (world_after starts before level) Turn).world
  after_turn before level = after_more starts before (Turned level ∷ []) level ∙ ap (λ (actions : List Action). solo (world_after starts before level) actions) (own_turn level)

  module _ (IsPast IsCut : LevelId → List Entry → Type 0) where
    turns_fit : (level : LevelId) (before : List Moment) (times : ℕ) → (1 ≤ times → MayTurn starts IsPast IsCut before level)
        → ((n : ℕ) → 1 ≤ n → n < times → is_some (solo (world_after starts before level) (replicate n Turn)).job ≡ true)
        → ((n : ℕ) → 1 ≤ n → n < times → IsPast level (performed_in before ++ replicate n (turn_of level)))
        → EachFits (InTime starts IsPast IsCut) before (moments_of (replicate times (turn_of level)))
    turns_fit level before zero first at_work past = tt
    turns_fit level before (suc times) first at_work past = (
      first (omega arith),
      turns_fit level (before ++ Turned level ∷ []) times
          (λ some. inr (
            due_joined None before (Turned level ∷ []),
            (
              ap (λ (w : World). is_some w.job) (after_turn before level) ∙ at_work 1 (omega arith) (omega (arith, some)),
              subst (λ (es : List Entry). IsPast level es) (sym (performed_joined before (Turned level ∷ []))) (past 1 (omega arith) (omega (arith, some))),
            ),
          ))
          (λ n some less. ap (λ (w : World). is_some (solo w (replicate n Turn)).job) (after_turn before level) ∙ at_work (suc n) (omega arith) (omega (arith, less)))
          (λ n some less. subst (λ (es : List Entry). IsPast level es) (sym (performed_turn before level n)) (past (suc n) (omega arith) (omega (arith, less)))),
    )

    lines_fit : (level : LevelId) (before : List Moment) (times : ℕ) → (1 ≤ times → MayDrain starts before level) → EachFits (InTime starts IsPast IsCut) before (moments_of (replicate times (drain_of level)))
    lines_fit level before zero first = tt
    lines_fit level before (suc times) first = (first (omega arith), lines_fit level (before ++ Drained level ∷ []) times (λ some. inr (due_joined None before (Drained level ∷ []))))

    -- a level has gone on, and what was before was followed
    pub alike_fits : {M : Type 0} (holds : M → LevelId → World → Type 0) (stride : ℕ) (level : LevelId) (before : List Moment) (more was is : List Entry) (old : M) → is ≡ was ++ more → StepsAlike holds stride level was is old
        → holds old level (world_after starts before level) → IsFollowed before → was ≡ performed_in before → ((n : ℕ) → 1 ≤ n → n < stride → IsPast level (was ++ replicate n (turn_of level)))
        → EachFits (InTime starts IsPast IsCut) before (moments_of more)
    alike_fits holds stride level before more was is old whole (inl turns) held followed performed past =
        subst (λ (es : List Entry). EachFits (InTime starts IsPast IsCut) before (moments_of es)) (sym (append_cancel_left was more (replicate turns.times (turn_of level)) (sym whole ∙ turns.whole)))
        (turns_fit level before turns.times (λ some. inl followed) (turns.at_work (world_after starts before level) held)
        (λ n some less. subst (λ (es : List Entry). IsPast level (es ++ replicate n (turn_of level))) performed (past n some (omega (arith, less, turns.few)))))
    alike_fits holds stride level before more was is old whole (inr lines) held followed performed past =
        subst (λ (es : List Entry). EachFits (InTime starts IsPast IsCut) before (moments_of es)) (sym (append_cancel_left was more (replicate lines.times (drain_of level)) (sym whole ∙ lines.whole)))
        (lines_fit level before lines.times (λ some. inl followed))
