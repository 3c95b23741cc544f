-- What is posted without `--again` wasn't posted before.
use Rattle.std.proofs.Common.{◌≡◌, ◌⊎◌, inl, inr, ℕ, List, [], ◌∷◌, Bool, true, false, ◌&&◌, ◌||◌, cond, Option, Some, refl, sym, subst, ◌∙◌, arith}
use Rattle.std.specs.Prelude.{is_some, find, not}
use Rattle.std.specs.Str.{bytes_eq as same}
use Rattle.std.proofs.lemmas.Bool.{true≢false}
use Rattle.std.proofs.lemmas.Slice.Eq.{bytes_eq-Decides}
use Rattle.s3_journal.specs.Inner.Posted.{Posted, OfDecks, OfTable, OfNothing, Line, same_posted, history, is_known, made, is_posted, standing_of, start_at, start_of}
use Rattle.s3_journal.specs.declared.standing.Standing.{Standing}
use Rattle.s3_journal.specs.declared.standing.Standing.TheVariants.{First, Current, NotPosted, OldCopy, Unknown}
use Rattle.s3_journal.specs.declared.standing.Start.{Start}
use Rattle.s3_journal.specs.declared.standing.Start.TheVariants.{Do, IsPosted, IsOld, IsUnknown}
use Rattle.s3_journal.specs.Inner.Crashes.{Attempt, Entry, Event, Starts, Restores, Copies, Changes, Reached, NoLine, OnlyLine, Renamed, Shop, Shows, IsMeant, AreMeant, PostsOnce, CrashesAreSeen, all_happen, counts, entries_after, entries_here, entries_of, happens, has_line, has_posted, is_once, left, line_back, line_for, put_back, started}

-- ---- truth values
isnt_true : {X : Type 0} → false ≡ true → X
isnt_true e = absurd (true≢false (sym e))

left_true : (a b : Bool) → a && b ≡ true → a ≡ true
left_true true b e = refl
left_true false b e = e

right_true : (a b : Bool) → a && b ≡ true → b ≡ true
right_true true b e = e
right_true false b e = isnt_true e

both_true : (a b : Bool) → a ≡ true → b ≡ true → a && b ≡ true
both_true true b one two = two
both_true false b one two = one

or_left : (a b : Bool) → a ≡ true → a || b ≡ true
or_left true b e = refl
or_left false b e = isnt_true e

or_right : (a b : Bool) → b ≡ true → a || b ≡ true
or_right true b e = refl
or_right false b e = e

one_of_two : (a b : Bool) → a || b ≡ true → (a ≡ true) ⊎ (b ≡ true)
one_of_two true b e = inl refl
one_of_two false b e = inr e

not_true : (a : Bool) → not a ≡ true → a ≡ false
not_true true e = isnt_true e
not_true false e = refl

not_had : (had posted : Bool) → (had ≡ true → posted ≡ true) → posted ≡ false → not had ≡ true
not_had true posted kept fresh = absurd (true≢false (sym (kept refl) ∙ fresh))
not_had false posted kept fresh = refl

-- ---- what is posted

same_is : (one other : List ℕ) → same one other ≡ true → one ≡ other
same_is one other e = (bytes_eq-Decides one other).0 e

same_text : (text : List ℕ) → same text text ≡ true
same_text text = (bytes_eq-Decides text text).1 refl

same_self : (posted : Posted) → same_posted posted posted ≡ counts posted
same_self (OfDecks one two) = both_true _ _ (same_text one) (same_text two)
same_self (OfTable table file) = both_true _ _ (same_text table) (same_text file)
same_self OfNothing = refl

not_posted : (standing : Standing) (posted : Bool) → start_at standing posted ≡ Do → posted ≡ false
not_posted First true e = grind arith
not_posted First false e = refl
not_posted Current true e = grind arith
not_posted Current false e = refl
not_posted NotPosted true e = grind arith
not_posted NotPosted false e = refl
not_posted OldCopy posted e = grind arith
not_posted Unknown posted e = grind arith

fresh_of : (day : Attempt) (shop : Shop) → start_of day.posted shop.pack shop.lines ≡ Do → is_posted day.posted shop.pack shop.lines ≡ false
fresh_of day shop e = not_posted (standing_of shop.pack shop.lines) _ e

-- ---- the history of a pack after one more line
as_known : (known : Bool) → known ≡ true → (all made_by : List Line) → cond (not known) all made_by ≡ made_by
as_known true e all made_by = refl
as_known false e all made_by = isnt_true e

pub history_more : (pack : List ℕ) (line : Line) (older : List Line) → is_known pack (line ∷ older) ≡ true → history pack (line ∷ older) ≡ cond (made pack line) (line ∷ history line.before older) (history pack older)
history_more pack line older known = as_known (is_known pack (line ∷ older)) known (line ∷ older) _

as_changed : (known : Bool) → known ≡ false → (all made_by : List Line) → cond (not known) all made_by ≡ all
as_changed true e all made_by = absurd (true≢false e)
as_changed false e all made_by = refl

-- of a pack that no line has, each line counts
pub history_changed : (pack : List ℕ) (lines : List Line) → is_known pack lines ≡ false → history pack lines ≡ lines
history_changed pack [] unknown = refl
history_changed pack (line ∷ older) unknown = as_changed (is_known pack (line ∷ older)) unknown (line ∷ older) _

after_known : (line : Line) (older : List Line) → is_known line.after (line ∷ older) ≡ true
after_known line older = or_left _ _ (or_left _ _ (same_text line.after))

before_known : (line : Line) (older : List Line) → is_known line.before (line ∷ older) ≡ true
before_known line older = or_left _ _ (or_right _ _ (same_text line.before))

-- one of these lines posted the same
abbrev IsAmong : Posted → List Line → Type 0
IsAmong posted lines = is_some (find (λ l. same_posted l.posted posted) lines) ≡ true

some_more : (fits : Bool) (line : Line) (older : Option Line) → is_some older ≡ true → is_some (cond fits (Some line) older) ≡ true
some_more true line older is = refl
some_more false line older is = is

among_more : (posted : Posted) (line : Line) (lines : List Line) → IsAmong posted lines → IsAmong posted (line ∷ lines)
among_more posted line lines is = some_more (same_posted line.posted posted) line _ is

among_chosen : (posted : Posted) (chosen : Bool) (lines others : List Line) → chosen ≡ true → IsAmong posted lines → IsAmong posted (cond chosen lines others)
among_chosen posted true lines others e is = is
among_chosen posted false lines others e is = isnt_true e

among_either : (posted : Posted) (chosen : Bool) (lines others all : List Line) → (IsAmong posted lines → IsAmong posted all) → (IsAmong posted others → IsAmong posted all) → IsAmong posted (cond chosen lines others) → IsAmong posted all
among_either posted true lines others all one other is = one is
among_either posted false lines others all one other is = other is

then_among : (posted : Posted) (line : Line) (lines all : List Line) → (IsAmong posted lines → IsAmong posted all) → IsAmong posted (line ∷ lines) → IsAmong posted (line ∷ all)
then_among posted line lines all more is = by (same_posted line.posted posted) is
  where
    by : (fits : Bool) → is_some (cond fits (Some line) (find (λ l. same_posted l.posted posted) lines)) ≡ true → is_some (cond fits (Some line) (find (λ l. same_posted l.posted posted) all)) ≡ true
    by true is = refl
    by false is = more is

-- the history of a pack has lines of the journal
among_all : (posted : Posted) (pack : List ℕ) (lines : List Line) → is_posted posted pack lines ≡ true → IsAmong posted lines
among_all posted pack [] is = is
among_all posted pack (line ∷ older) is =
    among_either posted (not (is_known pack (line ∷ older))) (line ∷ older) _ (line ∷ older) (λ it. it)
    (among_either posted (made pack line) (line ∷ history line.before older) (history pack older) (line ∷ older)
    (then_among posted line (history line.before older) older (among_all posted line.before older))
    (λ it. among_more posted line older (among_all posted pack older it)))
    is

-- ---- what the journal knows: of each pack that a line has, and of the one that is there; and of any other one, among all lines
record Kept (shop : Shop) : Type 0 where
  known : (pack : List ℕ) (posted : Posted) → is_known pack shop.lines ≡ true → has_posted posted (entries_of pack shop.past) ≡ true → is_posted posted pack shop.lines ≡ true
  here : (posted : Posted) → has_posted posted (entries_here shop) ≡ true → is_posted posted shop.pack shop.lines ≡ true
  among : (pack : List ℕ) (posted : Posted) → has_posted posted (entries_of pack shop.past) ≡ true → IsAmong posted shop.lines
  once : (pack : List ℕ) → is_once (entries_of pack shop.past) ≡ true

known_is : (shop : Shop) → Kept shop → (to pack : List ℕ) (posted : Posted) → is_known to shop.lines ≡ true → same to pack ≡ true → has_posted posted (entries_of pack shop.past) ≡ true → is_posted posted pack shop.lines ≡ true
known_is shop kept to pack posted known e = subst (λ p. has_posted posted (entries_of p shop.past) ≡ true → is_posted posted p shop.lines ≡ true) (same_is to pack e) (kept.known to posted known)

here_is : (shop : Shop) → Kept shop → (pack : List ℕ) (posted : Posted) → same shop.pack pack ≡ true → has_posted posted (entries_of pack shop.past) ≡ true → is_posted posted pack shop.lines ≡ true
here_is shop kept pack posted e = subst (λ p. has_posted posted (entries_of p shop.past) ≡ true → is_posted posted p shop.lines ≡ true) (same_is shop.pack pack e) (kept.here posted)

-- ---- a line of a command
then_some : (fits : Bool) (line : Line) (older : Option Line) (had : Bool) → (had ≡ true → is_some older ≡ true) → fits || had ≡ true → is_some (cond fits (Some line) older) ≡ true
then_some true line older had more is = refl
then_some false line older had more is = more is

-- a pack that isn't the new one, but the one before or the pack of an older line
other_known : (shop : Shop) → Kept shop → (pack : List ℕ) (posted : Posted) (is_new : Bool) → is_new ≡ false → (is_new || same shop.pack pack) || is_known pack shop.lines ≡ true → has_posted posted (entries_of pack shop.past) ≡ true → is_posted posted pack shop.lines ≡ true
other_known shop kept pack posted true e known = absurd (true≢false e)
other_known shop kept pack posted false e known = by (one_of_two (same shop.pack pack) (is_known pack shop.lines) known)
  where
    by : (same shop.pack pack ≡ true) ⊎ (is_known pack shop.lines ≡ true) → has_posted posted (entries_of pack shop.past) ≡ true → is_posted posted pack shop.lines ≡ true
    by (inl is) = here_is shop kept pack posted is
    by (inr is) = kept.known pack posted is

line_known : (day : Attempt) (shop : Shop) → Kept shop → (pack : List ℕ) (posted : Posted) (entries : List Entry) → is_known pack (line_for day shop ∷ shop.lines) ≡ true
    → (same day.after pack ≡ true → has_posted posted entries ≡ true → has_posted posted (entries_after day shop) ≡ true) → (same day.after pack ≡ false → entries ≡ entries_of pack shop.past)
    → has_posted posted entries ≡ true → is_posted posted pack (line_for day shop ∷ shop.lines) ≡ true
line_known day shop kept pack posted entries known new other had = subst (IsAmong posted) (sym (history_more pack (line_for day shop) shop.lines known)) (by (same day.after pack) refl)
  where
    by : (is_new : Bool) → same day.after pack ≡ is_new → IsAmong posted (cond is_new (line_for day shop ∷ history shop.pack shop.lines) (history pack shop.lines))
    by true e = then_some (same_posted day.posted posted) (line_for day shop) _ (has_posted posted (entries_here shop)) (kept.here posted) (new e had)
    by false e = other_known shop kept pack posted (same day.after pack) e known (subst (λ es. has_posted posted es ≡ true) (other e) had)

chosen_entries : (posted : Posted) (chosen : Bool) (entries others : List Entry) → chosen ≡ true → has_posted posted (cond chosen entries others) ≡ true → has_posted posted entries ≡ true
chosen_entries posted true entries others e is = is
chosen_entries posted false entries others e is = isnt_true e

other_entries : (chosen : Bool) (entries others : List Entry) → chosen ≡ false → cond chosen entries others ≡ others
other_entries true entries others e = absurd (true≢false e)
other_entries false entries others e = refl

once_entries : (chosen : Bool) (entries others : List Entry) → is_once entries ≡ true → is_once others ≡ true → is_once (cond chosen entries others) ≡ true
once_entries true entries others one other = one
once_entries false entries others one other = other

shown : (day : Attempt) (shop : Shop) → Shows day.after (entries_after day shop) shop → (pack : List ℕ) (posted : Posted) → same day.after pack ≡ true → has_posted posted (entries_of pack shop.past) ≡ true → has_posted posted (entries_after day shop) ≡ true
shown day shop shows pack posted e had = shows posted (subst (λ p. has_posted posted (entries_of p shop.past) ≡ true) (sym (same_is day.after pack e)) had)

either_had : (posted : Posted) (chosen : Bool) (entries others : List Entry) (lines : List Line) → (has_posted posted entries ≡ true → IsAmong posted lines) → (has_posted posted others ≡ true → IsAmong posted lines)
    → has_posted posted (cond chosen entries others) ≡ true → IsAmong posted lines
either_had posted true entries others lines one other had = one had
either_had posted false entries others lines one other had = other had

kept_left : (reached : Reached) (day : Attempt) (shop : Shop) → Kept shop → Shows day.after (entries_after day shop) shop → is_once (entries_after day shop) ≡ true → Kept (left reached day shop)
kept_left NoLine day shop kept shows once = kept
kept_left OnlyLine day shop kept shows once = record {
  known = λ pack posted known had. line_known day shop kept pack posted (entries_of pack shop.past) known (shown day shop shows pack posted) (λ e. refl) had;
  here = λ posted had. line_known day shop kept shop.pack posted (entries_here shop) (before_known (line_for day shop) shop.lines) (shown day shop shows shop.pack posted) (λ e. refl) had;
  among = λ pack posted had. among_more posted (line_for day shop) shop.lines (kept.among pack posted had);
  once = kept.once;
}
kept_left Renamed day shop kept shows once = record {
  known = λ pack posted known had. renamed pack posted known had;
  here = λ posted had. renamed day.after posted (after_known (line_for day shop) shop.lines) had;
  among = λ pack posted had.
      either_had posted (same day.after pack) (entries_after day shop) (entries_of pack shop.past) (line_for day shop ∷ shop.lines)
      (then_some (same_posted day.posted posted) (line_for day shop) _ (has_posted posted (entries_here shop)) (kept.among shop.pack posted)) (λ it. among_more posted (line_for day shop) shop.lines (kept.among pack posted it)) had;
  once = λ pack. once_entries (same day.after pack) (entries_after day shop) (entries_of pack shop.past) once (kept.once pack);
}
  where
    renamed : (pack : List ℕ) (posted : Posted) → is_known pack (line_for day shop ∷ shop.lines) ≡ true → has_posted posted (cond (same day.after pack) (entries_after day shop) (entries_of pack shop.past)) ≡ true → is_posted posted pack (line_for day shop ∷ shop.lines) ≡ true
    renamed pack posted known had =
        line_known day shop kept pack posted (cond (same day.after pack) (entries_after day shop) (entries_of pack shop.past)) known (chosen_entries posted (same day.after pack) (entries_after day shop) (entries_of pack shop.past))
        (other_entries (same day.after pack) (entries_after day shop) (entries_of pack shop.past)) had

-- ---- starts
fresh_entry : (again had older : Bool) → not had ≡ true → older ≡ true → (again || not had) && older ≡ true
fresh_entry true had older fresh once = once
fresh_entry false had older fresh once = both_true (not had) older fresh once

again_entry : (again had older : Bool) → again ≡ true → older ≡ true → (again || not had) && older ≡ true
again_entry true had older e once = once
again_entry false had older e once = isnt_true e

kept_started : (start : Start) (day : Attempt) (shop : Shop) → Kept shop → Shows day.after (entries_after day shop) shop → start_of day.posted shop.pack shop.lines ≡ start → Kept (started start day shop)
kept_started Do day shop kept shows e =
    kept_left day.reached day shop kept shows
    (fresh_entry day.again (has_posted day.posted (entries_here shop)) (is_once (entries_here shop)) (not_had _ _ (kept.here day.posted) (fresh_of day shop e)) (kept.once shop.pack))
kept_started IsPosted day shop kept shows e = kept
kept_started IsOld day shop kept shows e = kept
kept_started IsUnknown day shop kept shows e = kept

kept_attempt : (again : Bool) (day : Attempt) (shop : Shop) → day.again ≡ again → Kept shop → Shows day.after (entries_after day shop) shop → Kept (cond again (left day.reached day shop) (started (start_of day.posted shop.pack shop.lines) day shop))
kept_attempt true day shop e kept shows = kept_left day.reached day shop kept shows (again_entry day.again (has_posted day.posted (entries_here shop)) (is_once (entries_here shop)) e (kept.once shop.pack))
kept_attempt false day shop e kept shows = kept_started _ day shop kept shows refl

-- ---- packs that are put back
back_known : (to : List ℕ) (shop : Shop) → Kept shop → is_known to shop.lines ≡ true → (pack : List ℕ) (posted : Posted) → is_known pack (line_back to shop ∷ shop.lines) ≡ true → has_posted posted (entries_of pack shop.past) ≡ true
    → is_posted posted pack (line_back to shop ∷ shop.lines) ≡ true
back_known to shop kept there pack posted known had = subst (IsAmong posted) (sym (history_more pack (line_back to shop) shop.lines known)) (by (same to pack) refl)
  where
    by : (is_new : Bool) → same to pack ≡ is_new → is_posted posted pack shop.lines ≡ true
    by true e = known_is shop kept to pack posted there e had
    by false e = other_known shop kept pack posted (same to pack) e known had

kept_back : (reached : Reached) (to : List ℕ) (shop : Shop) → Kept shop → is_known to shop.lines ≡ true → Kept (put_back reached to shop)
kept_back NoLine to shop kept there = kept
kept_back OnlyLine to shop kept there = record {
  known = back_known to shop kept there;
  here = λ posted had. back_known to shop kept there shop.pack posted (before_known (line_back to shop) shop.lines) had;
  among = λ pack posted had. among_more posted (line_back to shop) shop.lines (kept.among pack posted had);
  once = kept.once;
}
kept_back Renamed to shop kept there = record {
  known = back_known to shop kept there;
  here = λ posted had. back_known to shop kept there to posted (after_known (line_back to shop) shop.lines) had;
  among = λ pack posted had. among_more posted (line_back to shop) shop.lines (kept.among pack posted had);
  once = kept.once;
}

-- ---- a pack that something else changes
changed : (pack now : List ℕ) (lines : List Line) (posted : Posted) → is_known pack lines ≡ false → is_posted posted now lines ≡ true → is_posted posted pack lines ≡ true
changed pack now lines posted unknown is = subst (IsAmong posted) (sym (history_changed pack lines unknown)) (among_all posted now lines is)

kept_changed : (pack : List ℕ) (shop : Shop) → Kept shop → is_known pack shop.lines ≡ false → Kept (happens (Changes pack) shop)
kept_changed pack shop kept unknown = record {
  known = λ other posted known had. by other posted known (same pack other) refl had;
  here = λ posted had. changed pack shop.pack shop.lines posted unknown (kept.here posted (chosen_entries posted (same pack pack) (entries_here shop) (entries_of pack shop.past) (same_text pack) had));
  among = λ other posted had. either_had posted (same pack other) (entries_here shop) (entries_of other shop.past) shop.lines (kept.among shop.pack posted) (kept.among other posted) had;
  once = λ other. once_entries (same pack other) (entries_here shop) (entries_of other shop.past) (kept.once shop.pack) (kept.once other);
}
  where
    by : (other : List ℕ) (posted : Posted) → is_known other shop.lines ≡ true → (is_new : Bool) → same pack other ≡ is_new → has_posted posted (cond is_new (entries_here shop) (entries_of other shop.past)) ≡ true → is_posted posted other shop.lines ≡ true
    by other posted known true e had = absurd (true≢false (sym known ∙ subst (λ p. is_known p shop.lines ≡ false) (same_is pack other e) unknown))
    by other posted known false e had = kept.known other posted known had

-- ---- a copy that is put in its place
copied : (pack : List ℕ) (shop : Shop) → Kept shop → (posted : Posted) → has_posted posted (entries_of pack shop.past) ≡ true → is_posted posted pack shop.lines ≡ true
copied pack shop kept posted had = by (is_known pack shop.lines) refl
  where
    by : (known : Bool) → is_known pack shop.lines ≡ known → is_posted posted pack shop.lines ≡ true
    by true e = kept.known pack posted e had
    by false e = subst (IsAmong posted) (sym (history_changed pack shop.lines e)) (kept.among pack posted had)

-- ---- all events
kept_event : (event : Event) (shop : Shop) → Kept shop → IsMeant event shop → Kept (happens event shop)
kept_event (Starts day) shop kept meant = kept_attempt day.again day shop refl kept meant
kept_event (Restores pack reached) shop kept meant = kept_back reached pack shop kept meant
kept_event (Copies pack) shop kept meant = record {
  known = kept.known;
  here = λ posted had. copied pack shop kept posted had;
  among = kept.among;
  once = kept.once;
}
kept_event (Changes pack) shop kept meant = kept_changed pack shop kept meant.0

kept_all : (events : List Event) (shop : Shop) → Kept shop → AreMeant events shop → Kept (all_happen events shop)
kept_all [] shop kept meant = kept
kept_all (event ∷ later) shop kept meant = kept_all later (happens event shop) (kept_event event shop kept meant.0) meant.1

nothing_had : (shop : Shop) → shop.past ≡ [] → (pack : List ℕ) (posted : Posted) → has_posted posted (entries_of pack shop.past) ≡ true → false ≡ true
nothing_had shop none pack posted had = subst (λ past. has_posted posted (entries_of pack past) ≡ true) none had

kept_first : (shop : Shop) → shop.past ≡ [] → Kept shop
kept_first shop none = record {
  known = λ pack posted known had. isnt_true (nothing_had shop none pack posted had);
  here = λ posted had. isnt_true (nothing_had shop none shop.pack posted had);
  among = λ pack posted had. isnt_true (nothing_had shop none pack posted had);
  once = λ pack. subst (λ past. is_once (entries_of pack past) ≡ true) (sym none) refl;
}

pub posts_once : PostsOnce
posts_once events shop none meant pack = let kept = kept_all events shop (kept_first shop none) meant in kept.once pack

-- ---- a start after a kill
current : (same_is_counted : Bool) (line : Line) (older : Option Line) → is_some older ≡ false → start_at Current (is_some (cond same_is_counted (Some line) older)) ≡ cond same_is_counted IsPosted Do
current true line older none = refl
current false line older none = rw none refl

only_line : (day : Attempt) (shop : Shop) (other : Standing) (is_new is_own : Bool) → is_own ≡ true → is_posted day.posted shop.pack shop.lines ≡ false → start_at (cond is_new Current (cond is_own NotPosted other)) (is_some (find (λ l. same_posted l.posted day.posted) (cond is_new (line_for day shop ∷ history shop.pack shop.lines) (history shop.pack shop.lines)))) ≡ cond (is_new && counts day.posted) IsPosted Do
only_line day shop other true is_own own fresh = rw (same_self day.posted) (current (counts day.posted) (line_for day shop) _ fresh)
only_line day shop other false true own fresh = rw fresh refl
only_line day shop other false false own fresh = grind arith

-- what a later start of the same command does, after what this one left
abbrev IsSeen : Attempt → Shop → Type 0
IsSeen day left_shop = start_of day.posted left_shop.pack left_shop.lines ≡ cond (has_line day.reached && (same day.after left_shop.pack && counts day.posted)) IsPosted Do

-- .. over the lines that made its pack
abbrev IsSeenBy : Attempt → (pack : List ℕ) → (lines made_by : List Line) → (has : Bool) → Type 0
IsSeenBy day pack lines made_by has = start_at (standing_of pack lines) (is_some (find (λ l. same_posted l.posted day.posted) made_by)) ≡ cond (has && (same day.after pack && counts day.posted)) IsPosted Do

seen_only : (day : Attempt) (shop : Shop) → start_of day.posted shop.pack shop.lines ≡ Do → IsSeenBy day shop.pack (line_for day shop ∷ shop.lines) (history shop.pack (line_for day shop ∷ shop.lines)) true
seen_only day shop e =
    subst (λ lines. IsSeenBy day shop.pack (line_for day shop ∷ shop.lines) lines true) (sym (history_more shop.pack (line_for day shop) shop.lines (before_known (line_for day shop) shop.lines)))
    (only_line day shop _ (same day.after shop.pack) (same shop.pack shop.pack) (same_text shop.pack) (fresh_of day shop e))

seen_renamed : (day : Attempt) (shop : Shop) → start_of day.posted shop.pack shop.lines ≡ Do → IsSeenBy day day.after (line_for day shop ∷ shop.lines) (history day.after (line_for day shop ∷ shop.lines)) true
seen_renamed day shop e =
    subst (λ lines. IsSeenBy day day.after (line_for day shop ∷ shop.lines) lines true) (sym (history_more day.after (line_for day shop) shop.lines (after_known (line_for day shop) shop.lines)))
    (rw (same_text day.after) (rw (same_self day.posted) (current (counts day.posted) (line_for day shop) _ (fresh_of day shop e))))

seen : (reached : Reached) (day : Attempt) (shop : Shop) → start_of day.posted shop.pack shop.lines ≡ Do → start_of day.posted (left reached day shop).pack (left reached day shop).lines ≡ cond (has_line reached && (same day.after (left reached day shop).pack && counts day.posted)) IsPosted Do
seen NoLine day shop e = e
seen OnlyLine day shop e = seen_only day shop e
seen Renamed day shop e = seen_renamed day shop e

either_seen : (again : Bool) (day : Attempt) (one other : Shop) → IsSeen day one → IsSeen day other → IsSeen day (cond again one other)
either_seen true day one other a b = a
either_seen false day one other a b = b

pub crashes_are_seen : CrashesAreSeen
crashes_are_seen day shop e =
    let is_seen = seen day.reached day shop e in
    either_seen day.again day (left day.reached day shop) (started (start_of day.posted shop.pack shop.lines) day shop) is_seen (subst (λ start. IsSeen day (started start day shop)) (sym e) is_seen)
