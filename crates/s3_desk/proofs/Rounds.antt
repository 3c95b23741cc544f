-- A round at the desk is a part of a day.
use Rattle.std.proofs.Common.{◌≡◌, ◌≢◌, ◌⊎◌, inl, inr, ◌<◌, ◌≤◌, ℕ, Bool, true, false, List, [], ◌∷◌, ◌++◌, append_assoc, replicate, Option, Some, None, Ok, refl, sym, ap, subst, ◌∙◌, arith}
use Rattle.std.proofs.lemmas.List.{append-nil, append_cancel_left}
use Rattle.s3_cards.specs.Inner.Levels.{other}
use Rattle.s3_cards.specs.declared.levels.LevelId.{LevelId}
use Rattle.s3_cards.specs.declared.levels.LevelId.TheVariants.{One, Two}
use Rattle.s3_operator.specs.Halts.{ShownHalt, is_waiting}
use Rattle.s3_solo.specs.Solo.{solo}
use Rattle.s3_solo.specs.World.{World}
use Rattle.s3_bureau.specs.declared.entry.Entry.{Entry}
use Rattle.s3_bureau.specs.Entries.{own}
use Rattle.s3_desk.specs.declared.ends.Bounds.{Bounds}
use Rattle.s3_desk.specs.declared.ends.End.TheVariants.{Halted}
use Rattle.s3_desk.specs.declared.ends.Ends.{Ends}
use Rattle.s3_desk.specs.declared.desk.Went.{Went}
use Rattle.s3_desk.specs.declared.desk.Went.TheVariants.{On, Rests, Cut}
use Rattle.s3_desk.specs.Inner.Desk.{Counts, FollowsAll, GoesOn, HasReached, IsLeft, IsPastReply, LevelGoes, LevelGoesOn, RepliesLast, Spends, StepsAlike, stride_of}
use Rattle.s3_desk.specs.Inner.Events.{Asked, Event, Followed, Shown}
use Rattle.s3_desk.specs.Inner.Moments.{AllShown, Drained, InTime, IsFollowed, IsNew, Met, Moment, Turned, Waits, performed_in, reply_to, shown_in, turn_of, world_after}
use Rattle.s3_desk.specs.Inner.Rounds.{Asks, Begun, IsLeftSo, IsTaken, Passes, Serves, Shows, ShowsAll, ShowsHalt, Sits, SitsFrom, at_level}
use Rattle.s3_desk.proofs.Following.{alike_fits, due_joined, followed_same, none_due}
use Rattle.s3_desk.proofs.Moments.{after_same, all_kept, all_shown, fits_so, is_new, moments_of, none_joined, none_new, not_his, passes_met, passes_none, passes_then, passes_work, performed_same, performed_work, quiet_joined, shown_work, shows_answered, shows_kept, shows_worked, vain_joined}
use Rattle.s3_desk.proofs.Sittings.{at_rest_so, both_go, level_goes, none_last, own-append, past_turns, rests_at, still_rests}

-- ---- a part that a level makes: the other one takes no entry, and no halt of it is shown
record Part {O : Type 0} (meets : O → Event → O → Type 0) (Fits : List Moment → Moment → Type 0) (level : LevelId) (before : List Moment) (is : List Entry) (from to : O) : Type 0 where
  pub day : List Moment
  pub passes : Passes meets Fits before day is from to
  pub his : own (other level) (performed_in day) ≡ []
  pub his_halts : shown_in (other level) day ≡ []

-- what is said of a level's count of replies is said of that before its question, which it didn't take
pub few_answers : (went : Went) (old new : ℕ) (waits : Type 0) → new ≡ old → (went ≡ Rests) × ((new ≢ 65535) × waits) → (went ≡ Rests) × ((old ≢ 65535) × waits)
few_answers went old new waits same facts = (facts.0, ((λ most. facts.1.0 (same ∙ most)), facts.1.1))

-- a limit of the rest of a day is one of the day
reached_before : (was between : List Entry) (bounds one two : Bounds) → Spends One was between bounds one → Spends Two was between bounds two
    → (level : LevelId) (es : List Entry) → HasReached level between es (at_level one two level) → HasReached level was es bounds
reached_before was between bounds one two one_spends two_spends One es (inl turns) = inl (omega (arith, turns, one_spends.turns))
reached_before was between bounds one two one_spends two_spends One es (inr lines) = inr (omega (arith, lines, one_spends.lines))
reached_before was between bounds one two one_spends two_spends Two es (inl turns) = inl (omega (arith, turns, two_spends.turns))
reached_before was between bounds one two one_spends two_spends Two es (inr lines) = inr (omega (arith, lines, two_spends.lines))

-- and what is past a reply in the rest of a day is past it in the day
past_before : (was between : List Entry) (one_count two_count : ℕ) → Counts One was between 0 one_count → Counts Two was between 0 two_count
    → (level : LevelId) (es : List Entry) → ((first : List Entry) → RepliesLast level first between (at_level one_count two_count level) → IsPastReply level first es) → IsPastReply level was es
past_before was between one_count two_count one_counts two_counts One es past = past was (one_counts was (none_last One was))
past_before was between one_count two_count one_counts two_counts Two es past = past was (two_counts was (none_last Two was))

module _ {M : Type 0} (holds : M → LevelId → World → Type 0) where
  now_held : (first : M) (starts : LevelId → World) (before : List Moment) (was : List Entry) (old : M) → Begun holds first starts before was old → (level : LevelId) → holds old level (world_after starts before level)
  now_held first starts before was old begun level =
      subst (λ es. holds old level (solo (starts level) (own level es))) begun.whole (begun.performed level (starts level) (begun.held level))

  held_then : (first : M) (starts : LevelId → World) (before after : List Moment) (was is : List Entry) (old new : M) → Begun holds first starts before was old → GoesOn holds was is old new → is ≡ performed_in after
      → (level : LevelId) → holds new level (world_after starts after level)
  held_then first starts before after was is old new begun goes whole level =
      subst (λ es. holds new level (solo (starts level) (own level es))) whole (goes first begun.performed level (starts level) (begun.held level))

  begun_then : (first : M) (starts : LevelId → World) (before after : List Moment) (was is : List Entry) (old new : M) → Begun holds first starts before was old → GoesOn holds was is old new → is ≡ performed_in after → IsFollowed after
      → Begun holds first starts after is new
  begun_then first starts before after was is old new begun goes whole followed = record { held = begun.held; performed = goes first begun.performed; whole = whole; followed = followed }

  module _ {O : Type 0} (meets : O → Event → O → Type 0) (starts : LevelId → World) (IsPast IsCut : LevelId → List Entry → Type 0) where
    abbrev Halts : Bool → LevelId → List Moment → Type 0
    Halts is_shown level day = Shows (world_after starts day level).halts (shown_in level day) is_shown

    abbrev HaltsAll : Bool → LevelId → List Moment → Type 0
    HaltsAll is_shown level day = ShowsAll (world_after starts day level).halts (shown_in level day) is_shown

    -- ---- a level goes on
    -- the turns of a stride, but for its first one, are no first turns after a reply
    abbrev IsPastStride : LevelId → List Entry → (answers : ℕ) → Type 0
    IsPastStride level was answers = (n : ℕ) → 1 ≤ n → n < stride_of answers → IsPast level (was ++ replicate n (turn_of level))

    abbrev work_part : (level : LevelId) (before : List Moment) (was is : List Entry) (old new : M) (from : O) (answers : ℕ) → LevelGoes holds level [] was is old new → StepsAlike holds (stride_of answers) level was is old
        → holds old level (world_after starts before level) → IsFollowed before → was ≡ performed_in before → IsPastStride level was answers → Part meets (InTime starts IsPast IsCut) level before is from from
    work_part level before was is old new from answers goes alike held followed whole past = record {
      day = moments_of goes.more;
      passes = passes_work meets starts IsPast IsCut before goes.more was is from goes.are whole goes.whole (alike_fits starts IsPast IsCut holds (stride_of answers) level before goes.more was is old goes.whole alike held followed whole past);
      his = ap (own (other level)) (performed_work goes.more goes.are)
          ∙ append_cancel_left (own (other level) was) (own (other level) goes.more) []
          (sym (own-append (other level) was goes.more) ∙ (sym (ap (own (other level)) goes.whole) ∙ (goes.alone ∙ sym (append-nil (own (other level) was)))));
      his_halts = shown_work (other level) goes.more;
    }

    not_of_other : (level : LevelId) (halt : ShownHalt) → shown_in (other level) (Met (Shown level halt) ∷ []) ≡ []
    not_of_other One halt = refl
    not_of_other Two halt = refl

    abbrev no_part : (level : LevelId) (before : List Moment) (is : List Entry) (from to : O) → is ≡ performed_in before → to ≡ from → Part meets (InTime starts IsPast IsCut) level before is from to
    no_part level before is from to whole same = record { day = []; passes = passes_none meets (InTime starts IsPast IsCut) before is from to whole same; his = refl; his_halts = refl }

    -- a part in which no level takes an entry, and no halt is shown
    record Silent (level : LevelId) (before : List Moment) (is : List Entry) (from to : O) : Type 0 where
      pub part : Part meets (InTime starts IsPast IsCut) level before is from to
      pub mine : own level (performed_in part.day) ≡ []
      pub mine_halts : shown_in level part.day ≡ []
      pub followed : IsFollowed (before ++ part.day)

    followed_part : (level : LevelId) (before : List Moment) (was is : List Entry) (now : M) (from to : O) → is ≡ performed_in before → ((level : LevelId) → holds now level (world_after starts before level))
        → (is ≡ was → IsFollowed before) → FollowsAll holds meets level was is now from to → Silent level before is from to
    followed_part level before was is now from to whole held none (inl same) = record { part = no_part level before is from to whole same.1; mine = refl; mine_halts = refl; followed = followed_same before (none same.0) }
    followed_part level before was is now from to whole held none (inr follows) = record {
      part = record {
        day = Met (Followed level follows.one follows.two follows.is_one_over is) ∷ [];
        passes = passes_met meets (InTime starts IsPast IsCut) before (Followed level follows.one follows.two follows.is_one_over is) is is from to whole (sym (append-nil is)) follows.met
            (record {
              one_printed = follows.one_drained (world_after starts before One) (held One);
              two_printed = follows.two_drained (world_after starts before Two) (held Two);
              one_over = λ is_over. follows.one_over.so is_over (world_after starts before One) (held One);
              only_over = λ over. follows.one_over.only (world_after starts before One) (held One) over;
              performed = whole;
            });
        his = refl;
        his_halts = refl;
      };
      mine = refl;
      mine_halts = refl;
      followed = due_joined None before (Met (Followed level follows.one follows.two follows.is_one_over is) ∷ []);
    }

    abbrev parts_then : (level : LevelId) (before : List Moment) (between is : List Entry) (from half to : O) (ahead : Part meets (InTime starts IsPast IsCut) level before between from half)
        → Part meets (InTime starts IsPast IsCut) level (before ++ ahead.day) is half to → Part meets (InTime starts IsPast IsCut) level before is from to
    parts_then level before between is from half to ahead next = record {
      day = ahead.day ++ next.day;
      passes = passes_then meets (InTime starts IsPast IsCut) before ahead.day next.day between is from half to ahead.passes next.passes;
      his = none_joined (other level) ahead.day next.day ahead.his next.his;
      his_halts = quiet_joined (other level) ahead.day next.day ahead.his_halts next.his_halts;
    }

    -- the level has been served: all its halts were shown
    record Served (level : LevelId) (before : List Moment) (is : List Entry) (from to : O) (is_shown : Bool) : Type 0 where
      pub part : Part meets (InTime starts IsPast IsCut) level before is from to
      pub all : HaltsAll is_shown level (before ++ part.day)
      pub followed : IsFollowed (before ++ part.day)

    shown_part : (level : LevelId) (before : List Moment) (is : List Entry) (middle : M) (from to : O) (was_shown is_shown : Bool) → is ≡ performed_in before → holds middle level (world_after starts before level)
        → IsFollowed before → Halts was_shown level before → ShowsHalt holds meets level middle from to was_shown is_shown → Served level before is from to is_shown
    shown_part level before is middle from to was_shown is_shown whole held followed shows (inl none) =
        let why = none.why (world_after starts before level) held in
        let all : HaltsAll was_shown level before = none_new (world_after starts before level).halts (shown_in level before) was_shown shows why.1 in
        record {
          part = no_part level before is from to whole none.same;
          all = subst (λ (day : List Moment). HaltsAll is_shown level day) (sym (append-nil before)) (subst (λ (b : Bool). HaltsAll b level before) (sym why.0) all);
          followed = followed_same before followed;
        }
    shown_part level before is middle from to was_shown is_shown whole held followed shows (inr one) =
        let new : IsNew (world_after starts before level).halts (shown_in level before) one.halt =
        is_new (world_after starts before level).halts (shown_in level before) was_shown one.halt shows one.was_not (one.waits (world_after starts before level) held) in
        record {
          part = record {
            day = Met (Shown level one.halt) ∷ [];
            passes = passes_met meets (InTime starts IsPast IsCut) before (Shown level one.halt) is is from to whole (sym (append-nil is)) one.met (new, followed);
            his = refl;
            his_halts = not_of_other level one.halt;
          };
          all = subst (λ (b : Bool). HaltsAll b level (before ++ Met (Shown level one.halt) ∷ [])) (sym one.is_now) (all_shown starts before level one.halt new);
          followed = due_joined None before (Met (Shown level one.halt) ∷ []) ∙ followed;
        }

    served : (level : LevelId) (first : M) (before : List Moment) (answers : ℕ) (was is : List Entry) (old new : M) (from to : O) (was_shown is_shown : Bool) → LevelGoes holds level [] was is old new
        → Serves holds meets level answers was is old new from to was_shown is_shown → Begun holds first starts before was old → Halts was_shown level before → IsPastStride level was answers → Served level before is from to is_shown
    served level first before answers was is old new from to was_shown is_shown goes serves begun shows past =
        let one : Part meets (InTime starts IsPast IsCut) level before is from from =
        work_part level before was is old new from answers goes serves.alike (now_held first starts before was old begun level) begun.followed begun.whole past in
        let one_shows : Halts was_shown level (before ++ one.day) = shows_worked starts before goes.more level was_shown goes.are shows in
        let two : Silent level (before ++ one.day) is from serves.half =
        followed_part level (before ++ one.day) was is serves.middle from serves.half one.passes.whole (held_then first starts before (before ++ one.day) was is old serves.middle begun serves.goes one.passes.whole)
        (λ same. none_due was is goes.more before goes.whole same begun.followed) serves.followed in
        let two_shows : Halts was_shown level ((before ++ one.day) ++ two.part.day) = shows_kept starts (before ++ one.day) two.part.day level two.mine two.mine_halts was_shown one_shows in
        let three : Served level ((before ++ one.day) ++ two.part.day) is serves.half to is_shown =
        shown_part level ((before ++ one.day) ++ two.part.day) is serves.middle serves.half to was_shown is_shown two.part.passes.whole
        (held_then first starts before ((before ++ one.day) ++ two.part.day) was is old serves.middle begun serves.goes two.part.passes.whole level) two.followed two_shows serves.shows in
        let joined = append_assoc (before ++ one.day) two.part.day three.part.day ∙ append_assoc before one.day (two.part.day ++ three.part.day) in
        record {
          part = parts_then level before is is from from to one (parts_then level (before ++ one.day) is is from serves.half to two.part three.part);
          all = subst (λ (day : List Moment). HaltsAll is_shown level day) joined three.all;
          followed = subst IsFollowed joined three.followed;
        }

    -- ---- a question
    record Question (level : LevelId) (went : Went) (answers : ℕ) (before : List Moment) (is : List Entry) (from to : O) (was_shown is_taken : Bool) : Type 0 where
      pub part : Part meets (InTime starts IsPast IsCut) level before is from to
      pub mine_halts : shown_in level part.day ≡ []
      pub taken : is_taken ≡ true → Halts false level (before ++ part.day)
      pub vain : is_taken ≡ false → performed_in part.day ≡ []
      pub asked : is_taken ≡ false → went ≡ Rests → answers ≢ 65535 → is_waiting (world_after starts before level).halts ≡ true
          → (halt : ShownHalt) × ((reply : Option ℕ) × (part.day ≡ Met (Asked level halt reply) ∷ []))
      pub followed : IsFollowed (before ++ part.day)

    -- where one that is at rest with a halt isn't asked, that is since it has taken too many replies
    not_asked : (went : Went) (answers : ℕ) (rests : Bool) → ((went ≢ Rests) ⊎ (answers ≡ 65535)) ⊎ (rests ≡ false) → went ≡ Rests → answers ≢ 65535 → rests ≡ true → ⊥
    not_asked went answers rests (inl (inl not)) is few waits = not is
    not_asked went answers rests (inl (inr most)) is few waits = few most
    not_asked went answers rests (inr none) is few waits = let wrong : true ≡ false = sym waits ∙ none in cc

    why_not : (level : LevelId) (went : Went) (answers : ℕ) (old : M) (w : World) → holds old level w → ((went ≢ Rests) ⊎ (answers ≡ 65535)) ⊎ ((w : World) → holds old level w → is_waiting w.halts ≡ false)
        → ((went ≢ Rests) ⊎ (answers ≡ 65535)) ⊎ (is_waiting w.halts ≡ false)
    why_not level went answers old w held (inl why) = inl why
    why_not level went answers old w held (inr none) = inr (none w held)

    true_not_false : (b : Bool) → b ≡ false → b ≡ true → ⊥
    true_not_false b one two = let wrong : true ≡ false = sym two ∙ one in cc

    is_vain : (level : LevelId) (halt : ShownHalt) (reply : Option ℕ) (is_taken : Bool) → IsTaken is_taken level halt.code reply → is_taken ≡ false → performed_in (Met (Asked level halt reply) ∷ []) ≡ []
    is_vain level halt reply true is not = absurd (true_not_false true not refl)
    is_vain level halt reply false is not = append-nil (reply_to level halt.code reply) ∙ is

    is_answered : (level : LevelId) (before : List Moment) (halt : ShownHalt) (reply : Option ℕ) (was_shown is_taken : Bool) → IsTaken is_taken level halt.code reply → Waits (world_after starts before level).halts halt → HaltsAll was_shown level before
        → is_taken ≡ true → Halts false level (before ++ Met (Asked level halt reply) ∷ [])
    is_answered level before halt reply was_shown true is waits all taken = shows_answered starts before level halt reply is.0 was_shown is.1.0 is.1.1 waits all
    is_answered level before halt reply was_shown false is waits all taken = absurd (true_not_false false refl taken)

    question : (level : LevelId) (went : Went) (answers : ℕ) (first : M) (before : List Moment) (was is : List Entry) (old : M) (from to : O) (was_shown is_taken : Bool) → Begun holds first starts before was old
        → HaltsAll was_shown level before → (went ≡ Rests → IsLeft (world_after starts before level)) → IsLeft (world_after starts before (other level)) ⊎ IsCut (other level) (performed_in before)
        → Asks holds meets level went answers was is old from to is_taken → Question level went answers before is from to was_shown is_taken
    question level went answers first before was is old from to was_shown is_taken begun all rests others (inl none) = record {
      part = no_part level before is from to (none.none ∙ begun.whole) none.same;
      mine_halts = refl;
      taken = λ taken. absurd (true_not_false is_taken none.not_taken taken);
      vain = λ not. refl;
      asked = λ not at_rest few waits. absurd (not_asked went answers (is_waiting (world_after starts before level).halts)
          (why_not level went answers old (world_after starts before level) (now_held first starts before was old begun level) none.why) at_rest few waits);
      followed = followed_same before begun.followed;
    }
    question level went answers first before was is old from to was_shown is_taken begun all rests others (inr one) =
        let held : holds old level (world_after starts before level) = now_held first starts before was old begun level in
        let waits : Waits (world_after starts before level).halts one.halt = one.waits (world_after starts before level) held in
        let taken : IsTaken is_taken level one.halt.code one.reply = one.taken (world_after starts before level) held in
        record {
          part = record {
            day = Met (Asked level one.halt one.reply) ∷ [];
            passes = passes_met meets (InTime starts IsPast IsCut) before (Asked level one.halt one.reply) was is from to begun.whole (one.entries (world_after starts before level) held) one.met
                (record { waits = waits; shown = all.all; rests = rests one.rests; other_rests = others; followed = begun.followed });
            his = ap (own (other level)) (append-nil (reply_to level one.halt.code one.reply)) ∙ not_his level one.halt.code one.reply;
            his_halts = refl;
          };
          mine_halts = refl;
          taken = is_answered level before one.halt one.reply was_shown is_taken taken waits all;
          vain = is_vain level one.halt one.reply is_taken taken;
          asked = λ not at_rest few waiting. (one.halt, (one.reply, refl));
          followed = due_joined None before (Met (Asked level one.halt one.reply) ∷ []) ∙ begun.followed;
        }

    -- ---- both levels
    record BothServed (before : List Moment) (is : List Entry) (from to : O) (one_shown two_shown : Bool) : Type 0 where
      pub day : List Moment
      pub passes : Passes meets (InTime starts IsPast IsCut) before day is from to
      pub one_all : HaltsAll one_shown One (before ++ day)
      pub two_all : HaltsAll two_shown Two (before ++ day)
      pub followed : IsFollowed (before ++ day)

    both_served : (first : M) (before : List Moment) (was between is : List Entry) (old middle new : M) (from half to : O) (one_was one_shown two_was two_shown : Bool) (one_count two_count : ℕ)
        → LevelGoes holds One [] was between old middle → Serves holds meets One one_count was between old middle from half one_was one_shown
        → LevelGoes holds Two [] between is middle new → Serves holds meets Two two_count between is middle new half to two_was two_shown
        → Begun holds first starts before was old → Halts one_was One before → Halts two_was Two before → IsPastStride One was one_count → IsPastStride Two between two_count → BothServed before is from to one_shown two_shown
    both_served first before was between is old middle new from half to one_was one_shown two_was two_shown one_count two_count one_goes one_serves two_goes two_serves begun one_shows two_shows one_past two_past =
        let one : Served One before between from half one_shown = served One first before one_count was between old middle from half one_was one_shown one_goes one_serves begun one_shows one_past in
        let begun_two : Begun holds first starts (before ++ one.part.day) between middle = begun_then first starts before (before ++ one.part.day) was between old middle begun one_goes.goes one.part.passes.whole one.followed in
        let still : Halts two_was Two (before ++ one.part.day) = shows_kept starts before one.part.day Two one.part.his one.part.his_halts two_was two_shows in
        let two : Served Two (before ++ one.part.day) is half to two_shown = served Two first (before ++ one.part.day) two_count between is middle new half to two_was two_shown two_goes two_serves begun_two still two_past in
        record {
          day = one.part.day ++ two.part.day;
          passes = passes_then meets (InTime starts IsPast IsCut) before one.part.day two.part.day between is from half to one.part.passes two.part.passes;
          one_all = subst (HaltsAll one_shown One) (append_assoc before one.part.day two.part.day)
              (all_kept starts (before ++ one.part.day) two.part.day One two.part.his two.part.his_halts one_shown one.all);
          two_all = subst (HaltsAll two_shown Two) (append_assoc before one.part.day two.part.day) two.all;
          followed = subst IsFollowed (append_assoc before one.part.day two.part.day) two.followed;
        }

    -- ---- a round that goes on
    sits_on : (before : List Moment) (is : List Entry) (from to : O) (one_shown two_shown : Bool) → BothServed before is from to one_shown two_shown → Sits meets starts IsPast IsCut before is from to one_shown two_shown None
    sits_on before is from to one_shown two_shown both = record { day = both.day; passes = both.passes; left = (inl both.one_all, inl both.two_all); followed = both.followed }

    -- level one was asked, and took the reply
    sits_first : (before : List Moment) (between is : List Entry) (from half to : O) (one_shown two_shown : Bool) (went : Went) (answers : ℕ) (is_taken now : Bool) (both : BothServed before between from half one_shown two_shown)
        → Question One went answers (before ++ both.day) is half to one_shown is_taken → is_taken ≡ true → now ≡ false → Sits meets starts IsPast IsCut before is from to now two_shown None
    sits_first before between is from half to one_shown two_shown went answers is_taken now both asked taken mark =
        let whole = append_assoc before both.day asked.part.day in
        record {
          day = both.day ++ asked.part.day;
          passes = passes_then meets (InTime starts IsPast IsCut) before both.day asked.part.day between is from half to both.passes asked.part.passes;
          left = (
            subst (λ (b : Bool). Halts b One (before ++ (both.day ++ asked.part.day))) (sym mark) (subst (Halts false One) whole (asked.taken taken)),
            inl (subst (HaltsAll two_shown Two) whole (all_kept starts (before ++ both.day) asked.part.day Two asked.part.his asked.part.his_halts two_shown both.two_all)),
          );
          followed = subst IsFollowed whole asked.followed;
        }

    -- level one was asked in vain
    record OneAsked (before : List Moment) (is : List Entry) (from to : O) (one_shown two_shown : Bool) (went : Went) (answers : ℕ) : Type 0 where
      pub day : List Moment
      pub passes : Passes meets (InTime starts IsPast IsCut) before day is from to
      pub one_all : HaltsAll one_shown One (before ++ day)
      pub two_all : HaltsAll two_shown Two (before ++ day)
      pub asked : went ≡ Rests → answers ≢ 65535 → is_waiting (world_after starts (before ++ day) One).halts ≡ true
          → (front : List Moment) × ((halt : ShownHalt) × ((reply : Option ℕ) × ((day ≡ front ++ Met (Asked One halt reply) ∷ []) × (performed_in (Met (Asked One halt reply) ∷ []) ≡ []))))
      pub followed : IsFollowed (before ++ day)

    abbrev one_asked : (before : List Moment) (between is : List Entry) (from half to : O) (one_shown two_shown : Bool) (went : Went) (answers : ℕ) (is_taken : Bool) (both : BothServed before between from half one_shown two_shown)
        → Question One went answers (before ++ both.day) is half to one_shown is_taken → is_taken ≡ false → OneAsked before is from to one_shown two_shown went answers
    one_asked before between is from half to one_shown two_shown went answers is_taken both question not =
        let whole = append_assoc before both.day question.part.day in
        let none : own One (performed_in question.part.day) ≡ [] = ap (own One) (question.vain not) in
        record {
          day = both.day ++ question.part.day;
          passes = passes_then meets (InTime starts IsPast IsCut) before both.day question.part.day between is from half to both.passes question.part.passes;
          one_all = subst (HaltsAll one_shown One) whole (all_kept starts (before ++ both.day) question.part.day One none question.mine_halts one_shown both.one_all);
          two_all = subst (HaltsAll two_shown Two) whole (all_kept starts (before ++ both.day) question.part.day Two question.part.his question.part.his_halts two_shown both.two_all);
          asked = λ rests few waits.
              let same : world_after starts (before ++ (both.day ++ question.part.day)) One ≡ world_after starts (before ++ both.day) One =
              ap (λ (d : List Moment). world_after starts d One) (sym whole) ∙ after_same starts (before ++ both.day) question.part.day One none in
              let is_asked = question.asked not rests few (ap (λ (w : World). is_waiting w.halts) (sym same) ∙ waits) in
              (both.day, (is_asked.0, (is_asked.1.0, (ap (λ (d : List Moment). both.day ++ d) is_asked.1.1, ap performed_in (sym is_asked.1.1) ∙ question.vain not))));
          followed = subst IsFollowed whole question.followed;
        }

    -- level two was asked, and took the reply
    sits_second : (before : List Moment) (between is : List Entry) (from half to : O) (one_shown two_shown : Bool) (one_went two_went : Went) (one_answers two_answers : ℕ) (is_taken now : Bool)
        (first : OneAsked before between from half one_shown two_shown one_went one_answers)
        → Question Two two_went two_answers (before ++ first.day) is half to two_shown is_taken → is_taken ≡ true → now ≡ false → Sits meets starts IsPast IsCut before is from to one_shown now None
    sits_second before between is from half to one_shown two_shown one_went two_went one_answers two_answers is_taken now first asked taken mark =
        let whole = append_assoc before first.day asked.part.day in
        record {
          day = first.day ++ asked.part.day;
          passes = passes_then meets (InTime starts IsPast IsCut) before first.day asked.part.day between is from half to first.passes asked.part.passes;
          left = (
            inl (subst (HaltsAll one_shown One) whole (all_kept starts (before ++ first.day) asked.part.day One asked.part.his asked.part.his_halts one_shown first.one_all)),
            subst (λ (b : Bool). Halts b Two (before ++ (first.day ++ asked.part.day))) (sym mark) (subst (Halts false Two) whole (asked.taken taken)),
          );
          followed = subst IsFollowed whole asked.followed;
        }

    -- ---- the last round: both were asked in vain
    sits_over : (before : List Moment) (between is : List Entry) (from half to : O) (one_shown two_shown one_now two_now : Bool) (one_went two_went : Went) (one_answers two_answers : ℕ) (is_taken : Bool) (ends : Ends)
        (first : OneAsked before between from half one_shown two_shown one_went one_answers)
        → (second : Question Two two_went two_answers (before ++ first.day) is half to two_shown is_taken) → is_taken ≡ false
        → (ends.one ≡ Halted → (one_went ≡ Rests) × ((one_answers ≢ 65535) × (is_waiting (world_after starts (before ++ (first.day ++ second.part.day)) One).halts ≡ true)))
        → (ends.two ≡ Halted → (two_went ≡ Rests) × ((two_answers ≢ 65535) × (is_waiting (world_after starts (before ++ (first.day ++ second.part.day)) Two).halts ≡ true)))
        → Sits meets starts IsPast IsCut before is from to one_now two_now (Some ends)
    sits_over before between is from half to one_shown two_shown one_now two_now one_went two_went one_answers two_answers is_taken ends first second not one_waits two_waits =
        let whole : (before ++ first.day) ++ second.part.day ≡ before ++ (first.day ++ second.part.day) = append_assoc before first.day second.part.day in
        let none : own Two (performed_in second.part.day) ≡ [] = ap (own Two) (second.vain not) in
        let one_same : world_after starts (before ++ (first.day ++ second.part.day)) One ≡ world_after starts (before ++ first.day) One =
        ap (λ (d : List Moment). world_after starts d One) (sym whole) ∙ after_same starts (before ++ first.day) second.part.day One second.part.his in
        let two_same : world_after starts (before ++ (first.day ++ second.part.day)) Two ≡ world_after starts (before ++ first.day) Two =
        ap (λ (d : List Moment). world_after starts d Two) (sym whole) ∙ after_same starts (before ++ first.day) second.part.day Two none in
        record {
          day = first.day ++ second.part.day;
          passes = passes_then meets (InTime starts IsPast IsCut) before first.day second.part.day between is from half to first.passes second.part.passes;
          left = (
            each_level (λ (level : LevelId). AllShown starts (before ++ (first.day ++ second.part.day)) level)
                (subst (λ (d : List Moment). AllShown starts d One) whole (all_kept starts (before ++ first.day) second.part.day One second.part.his second.part.his_halts one_shown first.one_all).all)
                (subst (λ (d : List Moment). AllShown starts d Two) whole (all_kept starts (before ++ first.day) second.part.day Two none second.mine_halts two_shown first.two_all).all),
            (
              λ halted.
                  let facts = one_waits halted in
                  let asked = first.asked facts.0 facts.1.0 (ap (λ (w : World). is_waiting w.halts) (sym one_same) ∙ facts.1.1) in
                  record {
                    before = before ++ asked.0;
                    halt = asked.1.0;
                    reply = asked.1.1.0;
                    later = second.part.day;
                    whole = sym whole
                        ∙ (ap (λ (d : List Moment). (before ++ d) ++ second.part.day) asked.1.1.1.0
                        ∙ (ap (λ (d : List Moment). d ++ second.part.day) (sym (append_assoc before asked.0 (Met (Asked One asked.1.0 asked.1.1.0) ∷ [])))
                        ∙ append_assoc (before ++ asked.0) (Met (Asked One asked.1.0 asked.1.1.0) ∷ []) second.part.day));
                    vain = vain_joined (Met (Asked One asked.1.0 asked.1.1.0) ∷ []) second.part.day asked.1.1.1.1 (second.vain not);
                  },
              λ halted.
                  let facts = two_waits halted in
                  let asked = second.asked not facts.0 facts.1.0 (ap (λ (w : World). is_waiting w.halts) (sym two_same) ∙ facts.1.1) in
                  record {
                    before = before ++ first.day;
                    halt = asked.0;
                    reply = asked.1.0;
                    later = [];
                    whole = sym whole ∙ ap (λ (d : List Moment). (before ++ first.day) ++ d) asked.1.1;
                    vain = ap performed_in (sym asked.1.1) ∙ second.vain not;
                  },
            ),
          );
          followed = subst IsFollowed whole second.followed;
        }
      where
        each_level : (P : LevelId → Type 0) → P One → P Two → (level : LevelId) → P level
        each_level P one two One = one
        each_level P one two Two = two

  -- ---- a round, whatever the day was before
  further : {A B : Type 0} (went : Went) → went ≢ On → (went ≡ Rests → A) → (went ≢ On → went ≢ Rests → B) → A ⊎ B
  further On not rests cut = absurd (not refl)
  further Rests not rests cut = inl (rests refl)
  further Cut not rests cut = inr (cut not (λ is. absurd cc))

  module _ {O : Type 0} (meets : O → Event → O → Type 0) (was p1 p2 : List Entry) (old b1 b2 : M) (o0 o1 o2 : O) (one_was one_shown two_was two_shown : Bool) (one_bounds two_bounds : Bounds) (one_count two_count : ℕ) (one two : Went)
      (one_goes : LevelGoesOn holds One was p1 old b1 (Ok one)) (two_goes : LevelGoesOn holds Two p1 p2 b1 b2 (Ok two))
      (one_serves : Serves holds meets One one_count was p1 old b1 o0 o1 one_was one_shown) (two_serves : Serves holds meets Two two_count p1 p2 b1 b2 o1 o2 two_was two_shown) where
    abbrev PastAt : LevelId → List Entry → Type 0
    PastAt level entries = (first : List Entry) → RepliesLast level first was (at_level one_count two_count level) → IsPastReply level first entries

    abbrev CutAt : LevelId → List Entry → Type 0
    CutAt level entries = HasReached level was entries (at_level one_bounds two_bounds level)

    module _ (first : M) (starts : LevelId → World) (before : List Moment) (begun : Begun holds first starts before was old)
        (one_shows : Shows (world_after starts before One).halts (shown_in One before) one_was) (two_shows : Shows (world_after starts before Two).halts (shown_in Two before) two_was) where
      both : BothServed meets starts PastAt CutAt before p2 o0 o2 one_shown two_shown
      both = both_served meets starts PastAt CutAt first before was p1 p2 old b1 b2 o0 o1 o2 one_was one_shown two_was two_shown one_count two_count (level_goes holds One was p1 old b1 one one_goes) one_serves (level_goes holds Two p1 p2 b1 b2 two two_goes) two_serves
          begun one_shows two_shows
          (λ n some less. past_turns One was was one_count n refl some less)
          (λ n some less. past_turns Two was p1 two_count n (level_goes holds One was p1 old b1 one one_goes).alone some less)

      begun_both : Begun holds first starts (before ++ both.day) p2 b2
      begun_both = record {
        held = begun.held;
        performed = both_go holds was p1 p2 p2 p2 old b1 b2 b2 b2 one two one_goes two_goes first begun.performed;
        whole = both.passes.whole;
        followed = both.followed;
      }

      one_left : one ≡ Rests → IsLeft (world_after starts (before ++ both.day) One)
      one_left rests = subst (λ es. IsLeft (solo (starts One) (own One es))) both.passes.whole
          (still_rests holds One p1 p2 first (level_goes holds Two p1 p2 b1 b2 two two_goes).alone
          (rests_at holds One was p1 old b1 first (at_rest_so holds One was p1 old b1 one one_goes rests) begun.performed) (starts One) (begun.held One))

      two_left : two ≡ Rests → IsLeft (world_after starts (before ++ both.day) Two)
      two_left rests = subst (λ es. IsLeft (solo (starts Two) (own Two es))) both.passes.whole
          (rests_at holds Two p1 p2 b1 b2 first (at_rest_so holds Two p1 p2 b1 b2 two two_goes rests) ((level_goes holds One was p1 old b1 one one_goes).goes first begun.performed) (starts Two) (begun.held Two))

    pub round_goes_on : SitsFrom holds meets PastAt CutAt was p2 old o0 o2 one_was two_was one_shown two_shown None
    round_goes_on first starts before begun one_shows two_shows = sits_on meets starts PastAt CutAt before p2 o0 o2 one_shown two_shown (both first starts before begun one_shows two_shows)

    module _ (one_not : one ≢ On) (two_not : two ≢ On) (one_cut : one ≢ On → one ≢ Rests → HasReached One was p2 one_bounds) (two_cut : two ≢ On → two ≢ Rests → HasReached Two was p2 two_bounds)
        (p3 : List Entry) (b3 : M) (o3 : O) (one_answers : ℕ) (is_first : Bool) (one_asks : Asks holds meets One one one_answers p2 p3 b2 o2 o3 is_first) where
      first_question : (first : M) (starts : LevelId → World) (before : List Moment) (begun : Begun holds first starts before was old)
          (one_shows : Shows (world_after starts before One).halts (shown_in One before) one_was) (two_shows : Shows (world_after starts before Two).halts (shown_in Two before) two_was)
          → Question meets starts PastAt CutAt One one one_answers (before ++ (both first starts before begun one_shows two_shows).day) p3 o2 o3 one_shown is_first
      first_question first starts before begun one_shows two_shows =
          let served = both first starts before begun one_shows two_shows in
          question meets starts PastAt CutAt One one one_answers first (before ++ served.day) p2 p3 b2 o2 o3 one_shown is_first (begun_both first starts before begun one_shows two_shows) served.one_all
          (one_left first starts before begun one_shows two_shows)
          (further two two_not (two_left first starts before begun one_shows two_shows) (λ not_on not_rests. subst (λ es. CutAt Two es) served.passes.whole (two_cut not_on not_rests)))
          one_asks

      pub round_takes_first : (now : Bool) → is_first ≡ true → now ≡ false → SitsFrom holds meets PastAt CutAt was p3 old o0 o3 one_was two_was now two_shown None
      round_takes_first now taken mark first starts before begun one_shows two_shows =
          sits_first meets starts PastAt CutAt before p2 p3 o0 o2 o3 one_shown two_shown one one_answers is_first now (both first starts before begun one_shows two_shows) (first_question first starts before begun one_shows two_shows) taken mark

      module _ (not_first : is_first ≡ false) (first_goes : GoesOn holds p2 p3 b2 b3) (p4 : List Entry) (b4 : M) (o4 : O) (two_answers : ℕ) (is_second : Bool) (two_asks : Asks holds meets Two two two_answers p3 p4 b3 o3 o4 is_second)
          (first : M) (starts : LevelId → World) (before : List Moment) (begun : Begun holds first starts before was old)
          (one_shows : Shows (world_after starts before One).halts (shown_in One before) one_was) (two_shows : Shows (world_after starts before Two).halts (shown_in Two before) two_was) where
        abbrev served_both : BothServed meets starts PastAt CutAt before p2 o0 o2 one_shown two_shown
        served_both = both first starts before begun one_shows two_shows

        one_question : Question meets starts PastAt CutAt One one one_answers (before ++ served_both.day) p3 o2 o3 one_shown is_first
        one_question = first_question first starts before begun one_shows two_shows

        abbrev asked_one : OneAsked meets starts PastAt CutAt before p3 o0 o3 one_shown two_shown one one_answers
        asked_one = one_asked meets starts PastAt CutAt before p2 p3 o0 o2 o3 one_shown two_shown one one_answers is_first served_both one_question not_first

        same_entries : performed_in (before ++ asked_one.day) ≡ p2
        same_entries = ap performed_in (sym (append_assoc before served_both.day one_question.part.day))
            ∙ (performed_same (before ++ served_both.day) one_question.part.day (one_question.vain not_first) ∙ sym served_both.passes.whole)

        begun_asked : Begun holds first starts (before ++ asked_one.day) p3 b3
        begun_asked = record { held = begun.held; performed = first_goes first (begun_both first starts before begun one_shows two_shows).performed; whole = asked_one.passes.whole; followed = asked_one.followed }

        left_still : (level : LevelId) → IsLeft (world_after starts (before ++ served_both.day) level) → IsLeft (world_after starts (before ++ asked_one.day) level)
        left_still level = subst (λ es. IsLeft (solo (starts level) (own level es))) (sym (same_entries ∙ served_both.passes.whole))

        second_question : Question meets starts PastAt CutAt Two two two_answers (before ++ asked_one.day) p4 o3 o4 two_shown is_second
        second_question =
            question meets starts PastAt CutAt Two two two_answers first (before ++ asked_one.day) p3 p4 b3 o3 o4 two_shown is_second begun_asked asked_one.two_all
            (λ rests. left_still Two (two_left first starts before begun one_shows two_shows rests))
            (further one one_not (λ rests. left_still One (one_left first starts before begun one_shows two_shows rests)) (λ not_on not_rests. subst (λ es. CutAt One es) (sym same_entries) (one_cut not_on not_rests)))
            two_asks

        sits_with_second : (now : Bool) → is_second ≡ true → now ≡ false → Sits meets starts PastAt CutAt before p4 o0 o4 one_shown now None
        sits_with_second now taken mark = sits_second meets starts PastAt CutAt before p3 p4 o0 o3 o4 one_shown two_shown one two one_answers two_answers is_second now asked_one second_question taken mark

        sits_at_end : (one_now two_now : Bool) (ends : Ends) → is_second ≡ false → GoesOn holds p3 p4 b3 b4
            → (ends.one ≡ Halted → (one ≡ Rests) × ((one_answers ≢ 65535) × ((w : World) → holds b4 One w → is_waiting w.halts ≡ true)))
            → (ends.two ≡ Halted → (two ≡ Rests) × ((two_answers ≢ 65535) × ((w : World) → holds b4 Two w → is_waiting w.halts ≡ true)))
            → Sits meets starts PastAt CutAt before p4 o0 o4 one_now two_now (Some ends)
        sits_at_end one_now two_now ends not second_goes one_halted two_halted =
            let day : List Moment = asked_one.day ++ second_question.part.day in
            let whole : p4 ≡ performed_in (before ++ day) = second_question.part.passes.whole ∙ ap performed_in (append_assoc before asked_one.day second_question.part.day) in
            let held : (level : LevelId) → holds b4 level (world_after starts (before ++ day) level) = held_then first starts (before ++ asked_one.day) (before ++ day) p3 p4 b3 b4 begun_asked second_goes whole in
            sits_over meets starts PastAt CutAt before p3 p4 o0 o3 o4 one_shown two_shown one_now two_now one two one_answers two_answers is_second ends asked_one second_question not
            (λ halted. let facts = one_halted halted in (facts.0, (facts.1.0, facts.1.1 (world_after starts (before ++ day) One) (held One))))
            (λ halted. let facts = two_halted halted in (facts.0, (facts.1.0, facts.1.1 (world_after starts (before ++ day) Two) (held Two))))

      module _ (not_first : is_first ≡ false) (first_goes : GoesOn holds p2 p3 b2 b3) (p4 : List Entry) (b4 : M) (o4 : O) (two_answers : ℕ) (is_second : Bool) (two_asks : Asks holds meets Two two two_answers p3 p4 b3 o3 o4 is_second) where
        pub round_takes_second : (one_now now : Bool) → is_second ≡ true → one_now ≡ one_shown → now ≡ false → SitsFrom holds meets PastAt CutAt was p4 old o0 o4 one_was two_was one_now now None
        round_takes_second one_now now taken same mark first starts before begun one_shows two_shows =
            subst (λ (b : Bool). Sits meets starts PastAt CutAt before p4 o0 o4 b now None) (sym same)
            (sits_with_second not_first first_goes p4 b4 o4 two_answers is_second two_asks first starts before begun one_shows two_shows now taken mark)

        pub round_ends_day : (one_now two_now : Bool) (ends : Ends) → is_second ≡ false → GoesOn holds p3 p4 b3 b4
            → (ends.one ≡ Halted → (one ≡ Rests) × ((one_answers ≢ 65535) × ((w : World) → holds b4 One w → is_waiting w.halts ≡ true)))
            → (ends.two ≡ Halted → (two ≡ Rests) × ((two_answers ≢ 65535) × ((w : World) → holds b4 Two w → is_waiting w.halts ≡ true)))
            → SitsFrom holds meets PastAt CutAt was p4 old o0 o4 one_was two_was one_now two_now (Some ends)
        round_ends_day one_now two_now ends not second_goes one_halted two_halted first starts before begun one_shows two_shows =
            sits_at_end not_first first_goes p4 b4 o4 two_answers is_second two_asks first starts before begun one_shows two_shows one_now two_now ends not second_goes one_halted two_halted

  -- ---- one round after another
  module _ {O : Type 0} (meets : O → Event → O → Type 0) where
    pub sits_at_first : (IsPast IsCut : LevelId → List Entry → Type 0) (was : List Entry) (old : M) (operator : O) (one two : Bool) → one ≡ false → two ≡ false → SitsFrom holds meets IsPast IsCut was was old operator operator false false one two None
    sits_at_first IsPast IsCut was old operator one two one_not two_not first starts before begun one_shows two_shows = record {
      day = [];
      passes = passes_none meets (InTime starts IsPast IsCut) before was operator operator begun.whole refl;
      left = (
        subst (λ (d : List Moment). Shows (world_after starts d One).halts (shown_in One d) one) (sym (append-nil before)) (subst (λ (b : Bool). Shows (world_after starts before One).halts (shown_in One before) b) (sym one_not) one_shows),
        subst (λ (d : List Moment). Shows (world_after starts d Two).halts (shown_in Two d) two) (sym (append-nil before)) (subst (λ (b : Bool). Shows (world_after starts before Two).halts (shown_in Two before) b) (sym two_not) two_shows),
      );
      followed = followed_same before begun.followed;
    }

    cut_so : (starts : LevelId → World) (IsPast IsCut OthersPast Others : LevelId → List Entry → Type 0) → ((level : LevelId) (entries : List Entry) → IsPast level entries → OthersPast level entries)
        → ((level : LevelId) (entries : List Entry) → IsCut level entries → Others level entries) → (day : List Moment) (moment : Moment) → InTime starts IsPast IsCut day moment → InTime starts OthersPast Others day moment
    cut_so starts IsPast IsCut OthersPast Others past go day (Turned level) (inl followed) = inl followed
    cut_so starts IsPast IsCut OthersPast Others past go day (Turned level) (inr turn) = inr (turn.0, (turn.1.0, past level (performed_in day) turn.1.1))
    cut_so starts IsPast IsCut OthersPast Others past go day (Drained level) fits = fits
    cut_so starts IsPast IsCut OthersPast Others past go day (Met (Followed level one two is_one_over entries)) fits =
        record { one_printed = fits.one_printed; two_printed = fits.two_printed; one_over = fits.one_over; only_over = fits.only_over; performed = fits.performed }
    cut_so starts IsPast IsCut OthersPast Others past go day (Met (Shown level halt)) fits = fits
    cut_so starts IsPast IsCut OthersPast Others past go day (Met (Asked level halt reply)) fits = record { waits = fits.waits; shown = fits.shown; rests = fits.rests; other_rests = by fits.other_rests; followed = fits.followed }
      where
        by : IsLeft (world_after starts day (other level)) ⊎ IsCut (other level) (performed_in day) → IsLeft (world_after starts day (other level)) ⊎ Others (other level) (performed_in day)
        by (inl left) = inl left
        by (inr cut) = inr (go (other level) (performed_in day) cut)

    pub sits_then : (IsPast IsCut LaterPast Later : LevelId → List Entry → Type 0) (was between is : List Entry) (old middle : M) (from half to : O) (one_was two_was one_then two_then one two : Bool) (ends : Option Ends)
        → GoesOn holds was between old middle → ((level : LevelId) (entries : List Entry) → LaterPast level entries → IsPast level entries) → ((level : LevelId) (entries : List Entry) → Later level entries → IsCut level entries)
        → SitsFrom holds meets IsPast IsCut was between old from half one_was two_was one_then two_then None → SitsFrom holds meets LaterPast Later between is middle half to one_then two_then one two ends
        → SitsFrom holds meets IsPast IsCut was is old from to one_was two_was one two ends
    sits_then IsPast IsCut LaterPast Later was between is old middle from half to one_was two_was one_then two_then one two ends goes past cut ahead next first starts before begun one_shows two_shows =
        let a : Sits meets starts IsPast IsCut before between from half one_then two_then None = ahead first starts before begun one_shows two_shows in
        let b : Sits meets starts LaterPast Later (before ++ a.day) is half to one two ends =
        next first starts (before ++ a.day) (begun_then first starts before (before ++ a.day) was between old middle begun goes a.passes.whole a.followed) a.left.0 a.left.1 in
        record {
          day = a.day ++ b.day;
          passes = passes_then meets (InTime starts IsPast IsCut) before a.day b.day between is from half to a.passes
              (record { whole = b.passes.whole; met = b.passes.met; fits = fits_so (InTime starts LaterPast Later) (InTime starts IsPast IsCut) (before ++ a.day) b.day (cut_so starts LaterPast Later IsPast IsCut past cut) b.passes.fits });
          left = subst (λ (d : List Moment). IsLeftSo starts d one two ends) (append_assoc before a.day b.day) b.left;
          followed = subst IsFollowed (append_assoc before a.day b.day) b.followed;
        }

    module _ (bounds : Bounds) (was between is : List Entry) (old middle : M) (from half to : O) (one_then two_then one two : Bool) (one_left two_left : Bounds) (one_count two_count : ℕ) (ends : Option Ends)
        (goes : GoesOn holds was between old middle) (one_spends : Spends One was between bounds one_left) (two_spends : Spends Two was between bounds two_left)
        (one_counts : Counts One was between 0 one_count) (two_counts : Counts Two was between 0 two_count)
        (ahead : SitsFrom holds meets (λ level entries. IsPastReply level was entries) (λ level entries. HasReached level was entries bounds) was between old from half false false one_then two_then None)
        (next : SitsFrom holds meets (λ level entries. (first : List Entry) → RepliesLast level first between (at_level one_count two_count level) → IsPastReply level first entries)
        (λ level entries. HasReached level between entries (at_level one_left two_left level)) between is middle half to one_then two_then one two ends) where
      more : SitsFrom holds meets (λ level entries. IsPastReply level was entries) (λ level entries. HasReached level was entries bounds) was is old from to false false one two ends
      more =
          sits_then (λ level entries. IsPastReply level was entries) (λ level entries. HasReached level was entries bounds)
          (λ level entries. (first : List Entry) → RepliesLast level first between (at_level one_count two_count level) → IsPastReply level first entries) (λ level entries. HasReached level between entries (at_level one_left two_left level))
          was between is old middle from half to false false one_then two_then one two ends goes (past_before was between one_count two_count one_counts two_counts) (reached_before was between bounds one_left two_left one_spends two_spends) ahead next

      -- one round more
      pub sits_on_and_on : ends ≡ None → SitsFrom holds meets (λ level entries. IsPastReply level was entries) (λ level entries. HasReached level was entries bounds) was is old from to false false one two None
      sits_on_and_on same = subst (λ (o : Option Ends). SitsFrom holds meets (λ level entries. IsPastReply level was entries) (λ level entries. HasReached level was entries bounds) was is old from to false false one two o) same more

      -- the last one
      pub sits_to_end : (over : Ends) → ends ≡ Some over → SitsFrom holds meets (λ level entries. IsPastReply level was entries) (λ level entries. HasReached level was entries bounds) was is old from to false false false false (Some over)
      sits_to_end over same first starts before begun one_shows two_shows =
          let sits : Sits meets starts (λ level entries. IsPastReply level was entries) (λ level entries. HasReached level was entries bounds) before is from to one two (Some over) =
          subst (λ (o : Option Ends). Sits meets starts (λ level entries. IsPastReply level was entries) (λ level entries. HasReached level was entries bounds) before is from to one two o) same (more first starts before begun one_shows two_shows) in
          record { day = sits.day; passes = sits.passes; left = sits.left; followed = sits.followed }
