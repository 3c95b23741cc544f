-- The moves that a level has made say where it is, and the replies that were accepted say which moves these are.
use Rattle.std.proofs.Common.{◌≡◌, ◌≢◌, ◌⊎◌, inl, inr, ℕ, List, [], ◌∷◌, ◌++◌, replicate, refl, sym, ap, subst, ◌∙◌, zero, suc}
use Rattle.s3_solo.specs.declared.action.Action.{Action}
use Rattle.s3_solo.specs.declared.action.Action.TheVariants.{Turn, Reply, Drain}
use Rattle.s3_solo.specs.declared.action.Did.{Did}
use Rattle.s3_solo.specs.declared.action.Did.TheVariants.{Acted, Idle, Refused}
use Rattle.s3_solo.specs.World.{World}
use Rattle.s3_solo.specs.Serving.{Outcome}
use Rattle.s3_solo.specs.Solo.{closed, drained, replied, solo, turned}
use Rattle.s3_time.specs.Inner.Moves.{AllAct, IsAtRest, accepted, emptied, moves, replies, unhindered, with_move}
use Rattle.s3_time.proofs.Entries.{ActsOrIdle, Follows, closed_emptied, drain_same, reply_acts, reply_follows, reply_or_turn, turn_acts, turn_follows}

-- these moves lead from one world to another, apart from the number of drained lines: each acts while no line is queued
Went : World → List Action → World → Type 0
Went w [] v = emptied v ≡ emptied w
Went w (Turn ∷ actions) v = ((turned (emptied w)).did ≡ Acted) × Went (turned (emptied w)).world actions v
Went w (Reply digit ∷ actions) v = ((replied digit (emptied w)).did ≡ Acted) × Went (replied digit (emptied w)).world actions v
Went w (Drain ∷ actions) v = ⊥

-- how many lines are drained at the start makes no difference
went_same : (w u v : World) (actions : List Action) → emptied w ≡ emptied u → Went w actions v → Went u actions v
unfolding Went
went_same w u v [] same went = went ∙ same
went_same w u v (Turn ∷ actions) same went = subst (λ (x : World). ((turned x).did ≡ Acted) × Went (turned x).world actions v) same went
went_same w u v (Reply digit ∷ actions) same went = subst (λ (x : World). ((replied digit x).did ≡ Acted) × Went (replied digit x).world actions v) same went
went_same w u v (Drain ∷ actions) same went = went

-- ---- one more entry
turn_before : (w v : World) (o : Outcome) (actions : List Action) → ActsOrIdle w o → Follows o (turned (emptied w)) → Went o.world actions v → Went w (with_move Turn o.did actions) v
unfolding Went
turn_before w v o actions (inl act) follows went =
    let is = follows act in
    subst (λ (did : Did). Went w (with_move Turn did actions) v) (sym act) (is.0, went_same o.world (turned (emptied w)).world v actions (sym is.1) went)
turn_before w v o actions (inr is) follows went =
    subst (λ (p : Outcome). Went p.world actions v → Went w (with_move Turn p.did actions) v) (sym is) (λ there. there) went

reply_before : (digit : ℕ) (w v : World) (o : Outcome) (actions : List Action) → (o.did ≡ Acted) ⊎ ((o.did ≢ Acted) × (o.world ≡ w)) → Follows o (replied digit (emptied w)) → Went o.world actions v
    → Went w (with_move (Reply digit) o.did actions) v
unfolding Went
reply_before digit w v o actions (inl act) follows went =
    let is = follows act in
    subst (λ (did : Did). Went w (with_move (Reply digit) did actions) v) (sym act) (is.0, went_same o.world (replied digit (emptied w)).world v actions (sym is.1) went)
reply_before digit w v o actions (inr not) follows went = by o.did not.0
  where
    there : Went w actions v
    there = subst (λ (x : World). Went x actions v) not.1 went

    by : (did : Did) → did ≢ Acted → Went w (with_move (Reply digit) did actions) v
    by Acted wrong = absurd (wrong refl)
    by Idle wrong = there
    by (Refused number) wrong = there

-- a level went from its world by its moves
went_by_moves : (w : World) (actions : List Action) → Went w (moves w actions) (solo w actions)
unfolding Went
went_by_moves w [] = refl
went_by_moves w (Turn ∷ actions) =
    turn_before w (solo (turned w).world actions) (turned w) (moves (turned w).world actions) (turn_acts w) (turn_follows w) (went_by_moves (turned w).world actions)
went_by_moves w (Reply digit ∷ actions) =
    reply_before digit w (solo (replied digit w).world actions) (replied digit w) (moves (replied digit w).world actions) (reply_acts digit w) (reply_follows digit w)
    (went_by_moves (replied digit w).world actions)
went_by_moves w (Drain ∷ actions) =
    went_same (drained w).world w (solo (drained w).world actions) (moves (drained w).world actions) (drain_same w) (went_by_moves (drained w).world actions)

-- ---- what the moves say
ends : (w v : World) (actions : List Action) → Went w actions v → emptied v ≡ unhindered w actions
unfolding Went
ends w v [] went = went
ends w v (Turn ∷ actions) went = ends (turned (emptied w)).world v actions went.1
ends w v (Reply digit ∷ actions) went = ends (replied digit (emptied w)).world v actions went.1
ends w v (Drain ∷ actions) went = absurd went

all_act : (w v : World) (actions : List Action) → Went w actions v → AllAct w actions
unfolding Went
all_act w v [] went = tt
all_act w v (Turn ∷ actions) went = (went.0, all_act (turned (emptied w)).world v actions went.1)
all_act w v (Reply digit ∷ actions) went = (went.0, all_act (replied digit (emptied w)).world v actions went.1)
all_act w v (Drain ∷ actions) went = absurd went

pub world_after : (w : World) (actions : List Action) → emptied (solo w actions) ≡ unhindered w (moves w actions)
world_after w actions = ends w (solo w actions) (moves w actions) (went_by_moves w actions)

pub moves_act : (w : World) (actions : List Action) → AllAct w (moves w actions)
moves_act w actions = all_act w (solo w actions) (moves w actions) (went_by_moves w actions)

-- ---- which moves
-- at rest no turn acts
rests : (w v : World) → emptied v ≡ emptied w → IsAtRest v → (turned (emptied w)).did ≡ Acted → ⊥
rests w v same rest act =
    let idle : (turned (emptied w)).did ≡ Idle = subst (λ (x : World). (turned x).did ≡ Idle) same rest in
    let wrong : Idle ≡ Acted = sym idle ∙ act in cc

-- no turn acts where a reply does
either : (digit : ℕ) (w : World) → (turned w).did ≡ Acted → (replied digit w).did ≡ Acted → ⊥
either digit w turns replies = let wrong : Idle ≡ Acted = sym (reply_or_turn digit w replies) ∙ turns in cc

-- moves that lead to rest begin with those that lead less far, or as far, by the first of the same replies
begin_with : (w u v : World) (all some : List Action) (later : List ℕ) → Went w all u → Went w some v → IsAtRest u → replies all ≡ replies some ++ later
    → (rest : List Action) × (all ≡ some ++ rest)
unfolding Went
begin_with w u v all [] later one other rest same = (all, refl)
begin_with w u v [] (Turn ∷ some) later one other rest same = absurd (rests w u one rest other.0)
begin_with w u v (Turn ∷ all) (Turn ∷ some) later one other rest same =
    let is = begin_with (turned (emptied w)).world u v all some later one.1 other.1 rest same in (is.0, ap (λ actions. Turn ∷ actions) is.1)
begin_with w u v (Reply digit ∷ all) (Turn ∷ some) later one other rest same = absurd (either digit (emptied w) other.0 one.0)
begin_with w u v (Drain ∷ all) (Turn ∷ some) later one other rest same = absurd one
begin_with w u v [] (Reply digit ∷ some) later one other rest same = absurd (cc)
begin_with w u v (Turn ∷ all) (Reply digit ∷ some) later one other rest same = absurd (either digit (emptied w) one.0 other.0)
begin_with w u v (Reply digit ∷ all) (Reply digit' ∷ some) later one other rest same =
    let is_first : digit ≡ digit' = cc in
    let are_later : replies all ≡ replies some ++ later = cc in
    let there : Went (replied digit (emptied w)).world some v = subst (λ (n : ℕ). Went (replied n (emptied w)).world some v) (sym is_first) other.1 in
    let is = begin_with (replied digit (emptied w)).world u v all some later one.1 there rest are_later in
    (is.0, cc)
begin_with w u v (Drain ∷ all) (Reply digit ∷ some) later one other rest same = absurd one
begin_with w u v all (Drain ∷ some) later one other rest same = absurd other

pub moves_begin : (w : World) (one other : List Action) (later : List ℕ) → accepted w one ≡ accepted w other ++ later → IsAtRest (solo w one)
    → (rest : List Action) × (moves w one ≡ moves w other ++ rest)
moves_begin w one other later same rest =
    begin_with w (solo w one) (solo w other) (moves w one) (moves w other) later (went_by_moves w one) (went_by_moves w other) rest same

-- the same replies, to rest: the same moves
meet : (w u v : World) (one other : List Action) → Went w one u → Went w other v → IsAtRest u → IsAtRest v → replies one ≡ replies other → one ≡ other
unfolding Went
meet w u v [] [] went_one went_other rest_one rest_other same = refl
meet w u v [] (Turn ∷ other) went_one went_other rest_one rest_other same = absurd (rests w u went_one rest_one went_other.0)
meet w u v [] (Reply digit ∷ other) went_one went_other rest_one rest_other same = absurd (cc)
meet w u v [] (Drain ∷ other) went_one went_other rest_one rest_other same = absurd went_other
meet w u v (Turn ∷ one) [] went_one went_other rest_one rest_other same = absurd (rests w v went_other rest_other went_one.0)
meet w u v (Turn ∷ one) (Turn ∷ other) went_one went_other rest_one rest_other same =
    ap (λ actions. Turn ∷ actions) (meet (turned (emptied w)).world u v one other went_one.1 went_other.1 rest_one rest_other same)
meet w u v (Turn ∷ one) (Reply digit ∷ other) went_one went_other rest_one rest_other same = absurd (either digit (emptied w) went_one.0 went_other.0)
meet w u v (Turn ∷ one) (Drain ∷ other) went_one went_other rest_one rest_other same = absurd went_other
meet w u v (Reply digit ∷ one) [] went_one went_other rest_one rest_other same = absurd (cc)
meet w u v (Reply digit ∷ one) (Turn ∷ other) went_one went_other rest_one rest_other same = absurd (either digit (emptied w) went_other.0 went_one.0)
meet w u v (Reply digit ∷ one) (Reply digit' ∷ other) went_one went_other rest_one rest_other same =
    let is_first : digit ≡ digit' = cc in
    let are_later : replies one ≡ replies other = cc in
    let there : Went (replied digit (emptied w)).world other v = subst (λ (n : ℕ). Went (replied n (emptied w)).world other v) (sym is_first) went_other.1 in
    let is : one ≡ other = meet (replied digit (emptied w)).world u v one other went_one.1 there rest_one rest_other are_later in
    cc
meet w u v (Reply digit ∷ one) (Drain ∷ other) went_one went_other rest_one rest_other same = absurd went_other
meet w u v (Drain ∷ one) other went_one went_other rest_one rest_other same = absurd went_one

module _ (w : World) (one other : List Action) (same : accepted w one ≡ accepted w other) (rest_one : IsAtRest (solo w one)) (rest_other : IsAtRest (solo w other)) where
  pub moves_same : moves w one ≡ moves w other
  moves_same = meet w (solo w one) (solo w other) (moves w one) (moves w other) (went_by_moves w one) (went_by_moves w other) rest_one rest_other same

  pub world_same : emptied (solo w one) ≡ emptied (solo w other)
  world_same = world_after w one ∙ (ap (unhindered w) moves_same ∙ sym (world_after w other))

  pub end_same : closed (solo w one) ≡ closed (solo w other)
  end_same = sym (closed_emptied (solo w one)) ∙ (ap closed world_same ∙ closed_emptied (solo w other))

-- ---- without replies
turns_alone : (w : World) (actions : List Action) → replies actions ≡ [] → (n : ℕ) × (moves w actions ≡ replicate n Turn)
turns_alone w [] none = (0, refl)
turns_alone w (Turn ∷ actions) none = by (turned w).did (turns_alone (turned w).world actions none)
  where
    by : (did : Did) → (n : ℕ) × (moves (turned w).world actions ≡ replicate n Turn) → (n : ℕ) × (with_move Turn did (moves (turned w).world actions) ≡ replicate n Turn)
    by Acted are = (suc are.0, ap (λ turns. Turn ∷ turns) are.1)
    by Idle are = are
    by (Refused number) are = are
turns_alone w (Reply digit ∷ actions) none = absurd (cc)
turns_alone w (Drain ∷ actions) none = turns_alone (drained w).world actions none

turns_reply_nothing : (n : ℕ) → replies (replicate n Turn) ≡ []
turns_reply_nothing zero = refl
turns_reply_nothing (suc n) = turns_reply_nothing n

pub no_replies : (w : World) (actions : List Action) → replies actions ≡ [] → accepted w actions ≡ []
no_replies w actions none = let are = turns_alone w actions none in ap replies are.1 ∙ turns_reply_nothing are.0

pub turns : (w : World) (actions : List Action) → replies actions ≡ [] → (n : ℕ) × (moves w actions ≡ replicate n Turn)
turns = turns_alone
