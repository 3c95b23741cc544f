-- A reply that was given, and taken or not.
use Rattle.std.proofs.Common.{◌≡◌, ◌≢◌, ◌⊎◌, inl, inr, ◌+◌, ◌<◌, ◌++◌, ◌==◌, ◌||◌, ◌&&◌, ℕ, Bool, true, false, true≢false, List, [], ◌∷◌, if◌then◌else◌, Result, Ok, Err, Option, Some, None, IfOk, refl, sym, ap, subst, ◌∙◌, arith}
use Rattle.std.proofs.lemmas.Bool.Decides.{nat_tests}
use Rattle.std.proofs.lemmas.List.{append-nil}
use Rattle.s3_cards.specs.declared.levels.LevelId.{LevelId}
use Rattle.s3_operator.specs.declared.halt_code.HaltCode.{HaltCode}
use Rattle.s3_operator.specs.Halts.{ShownHalt, is_waiting, waiting}
use Rattle.s3_operator.specs.Replies.{goes_on, is_allowed}
use Rattle.s3_operator.specs.Table.{kind_of}
use Rattle.s3_solo.specs.declared.action.Action.TheVariants.{Reply}
use Rattle.s3_solo.specs.declared.action.Did.{Did}
use Rattle.s3_solo.specs.declared.action.Did.TheVariants.{Acted}
use Rattle.s3_solo.specs.Solo.{step_of}
use Rattle.s3_solo.specs.World.{World}
use Rattle.s3_bureau.specs.declared.entry.Entry.{Entry}
use Rattle.s3_bureau.specs.declared.stop.Stop.{Stop}
use Rattle.s3_desk.specs.declared.desk.Went.{Went}
use Rattle.s3_desk.specs.declared.desk.Went.TheVariants.{Rests}
use Rattle.s3_bureau.specs.Entries.{own}
use Rattle.s3_desk.specs.Inner.Desk.{Counts, GivesReply, with_reply}
use Rattle.s3_desk.specs.Inner.Events.{Asked, Event}
use Rattle.s3_desk.specs.Inner.Moments.{Waits, reply_to}
use Rattle.s3_desk.specs.Inner.Rounds.{Asks}
use Rattle.s3_desk.proofs.Halting.{reply_acts, reply_did}
use Rattle.s3_desk.proofs.Halts.{last_waits}
use Rattle.s3_desk.proofs.Moments.{reply_is}
use Rattle.s3_desk.proofs.Sittings.{counts_reply, counts_same}

-- no halt allows a reply of two digits
pub too_large : (code : HaltCode) (digit : ℕ) → 9 < digit → is_allowed code digit ≡ false
too_large code digit large = by (goes_on (kind_of code))
  where
    by : (b : Bool) → (digit == 0 && b || digit == 2 || digit == 3) ≡ false
    by b = grind (arith, nat_tests)

-- a reply acts where the halt allows it
pub allowed_as : (digit : ℕ) (did : Did) (is_taken : Bool) (old new : World → Type 0) → ((w : World) → old w → (did ≡ (step_of w (Reply digit)).did) × new (step_of w (Reply digit)).world)
    → (is_taken ≡ true → did ≡ Acted) → (is_taken ≡ false → did ≢ Acted) → (w : World) (code : HaltCode) → old w → waiting w.halts ≡ Some code → is_allowed code digit ≡ is_taken
allowed_as digit did true old new steps acted not w code held waits = reply_did digit w code waits (sym (steps w held).0 ∙ acted refl)
allowed_as digit did false old new steps acted not w code held waits = by (is_allowed code digit) refl
  where
    by : (b : Bool) → is_allowed code digit ≡ b → is_allowed code digit ≡ false
    by true is = absurd (not refl ((steps w held).0 ∙ reply_acts digit w code waits is))
    by false is = is

not_allowed : (level : LevelId) (code : HaltCode) (digit : ℕ) → is_allowed code digit ≡ false → reply_to level code (Some digit) ≡ []
not_allowed level code digit is = ap (λ (b : Bool). if b then (record { level = level; action = Reply digit }) ∷ [] else []) is

module _ {M : Type 0} (holds : M → LevelId → World → Type 0) {O : Type 0} (meets : O → Event → O → Type 0) where
  -- a halt is asked about, and the operator gives no reply
  pub asks_no_reply : (level : LevelId) (was : List Entry) (old : M) (halt : ShownHalt) (reply : Option ℕ) (from to : O) (answers : ℕ) → meets from (Asked level halt reply) to → reply ≡ None
      → ((w : World) → holds old level w → Waits w.halts halt) → Asks holds meets level Rests answers was was old from to false
  asks_no_reply level was old halt reply from to answers met none waits =
      let no : reply_to level halt.code reply ≡ [] = ap (reply_to level halt.code) none in
      inr (record {
        rests = refl;
        halt = halt;
        reply = reply;
        met = met;
        waits = waits;
        entries = λ w held. sym (ap (λ es. was ++ es) no ∙ append-nil was);
        taken = λ w held. no;
      })

  -- it gives one, which is taken if the halt allows it
  pub asks_reply : (level : LevelId) (was is : List Entry) (old new : M) (halt : ShownHalt) (reply : Option ℕ) (digit : ℕ) (from to : O) (result : Result Bool Stop) → meets from (Asked level halt reply) to
      → reply ≡ Some digit → ((w : World) → holds old level w → Waits w.halts halt) → GivesReply holds level digit was is old new result
      → IfOk result (λ is_taken. (w : World) (code : HaltCode) → holds old level w → waiting w.halts ≡ Some code → is_allowed code digit ≡ is_taken)
      → IfOk result (λ is_taken. (answers : ℕ) → Asks holds meets level Rests answers was is old from to is_taken)
  asks_reply level was is old new halt reply digit from to (Err stop) met some waits gives allowed = tt
  asks_reply level was is old new halt reply digit from to (Ok true) met some waits gives allowed = λ answers. inr (record {
    rests = refl;
    halt = halt;
    reply = reply;
    met = met;
    waits = waits;
    entries = λ w held. gives.whole ∙ ap (λ es. was ++ es) (sym (reply_is level halt.code reply digit some (allowed w halt.code held (last_waits w.halts halt (waits w held).last (waits w held).unanswered))));
    taken = λ w held. (digit, (some, allowed w halt.code held (last_waits w.halts halt (waits w held).last (waits w held).unanswered)));
  })
  asks_reply level was is old new halt reply digit from to (Ok false) met some waits gives allowed = λ answers. inr (record {
    rests = refl;
    halt = halt;
    reply = reply;
    met = met;
    waits = waits;
    entries = λ w held. gives.same ∙ sym (ap (λ es. was ++ es) (no w held) ∙ append-nil was);
    taken = no;
  })
    where
      no : (w : World) → holds old level w → reply_to level halt.code reply ≡ []
      no w held = ap (reply_to level halt.code) some ∙ not_allowed level halt.code digit (allowed w halt.code held (last_waits w.halts halt (waits w held).last (waits w held).unanswered))

  -- none is asked about
  pub asks_none : (level : LevelId) (went : Went) (answers : ℕ) (was : List Entry) (old : M) (operator : O) → ((went ≢ Rests) ⊎ (answers ≡ 65535)) ⊎ ((w : World) → holds old level w → is_waiting w.halts ≡ false)
      → Asks holds meets level went answers was was old operator operator false
  asks_none level went answers was old operator why = inl (record { same = refl; none = refl; not_taken = refl; why = why })

  pub asks_as : (level : LevelId) (went : Went) (answers : ℕ) (was is : List Entry) (old : M) (from to : O) (one other : Bool) → went ≡ Rests → one ≡ other
      → ((answers : ℕ) → Asks holds meets level Rests answers was is old from to one) → Asks holds meets level went answers was is old from to other
  asks_as level went answers was is old from to one other rests same asks =
      subst (λ (x : Went). Asks holds meets level x answers was is old from to other) (sym rests) (subst (λ (b : Bool). Asks holds meets level Rests answers was is old from to b) same (asks answers))

  pub counts_given : (level : LevelId) (digit : ℕ) (was is : List Entry) (old new : M) (result : Result Bool Stop) → GivesReply holds level digit was is old new result
      → IfOk result (λ is_taken. (answers : ℕ) → Counts level was is answers (with_reply is_taken answers))
  counts_given level digit was is old new (Ok true) gives = λ answers. counts_reply level digit answers was is gives.whole
  counts_given level digit was is old new (Ok false) gives = λ answers. counts_same level was is answers (ap (own level) gives.same)
  counts_given level digit was is old new (Err stop) gives = tt

-- a reply that is taken counts
pub counted_yes : (level : LevelId) (was is : List Entry) (old new : ℕ) (is_taken : Bool) → ((answers : ℕ) → Counts level was is answers (with_reply is_taken answers)) → is_taken ≡ true → new ≡ old + 1 → Counts level was is old new
counted_yes level was is old new true counts taken more = subst (λ (n : ℕ). Counts level was is old n) (sym more) (counts old)
counted_yes level was is old new false counts taken more = absurd (true≢false (sym taken))

pub counted_no : (level : LevelId) (was is : List Entry) (answers : ℕ) (is_taken : Bool) → ((answers : ℕ) → Counts level was is answers (with_reply is_taken answers)) → is_taken ≡ false → Counts level was is answers answers
counted_no level was is answers true counts not = absurd (true≢false not)
counted_no level was is answers false counts not = counts answers
