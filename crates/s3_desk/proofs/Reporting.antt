-- Reports that are written while a day goes on have come as far as the day's own lines.
use Rattle.std.proofs.Common.{◌≡◌, ◌⊎◌, ℕ, Bool, true, List, [], ◌∷◌, ◌++◌, append_assoc, Option, None, Result, Ok, Err, IfOk, refl, sym, ap, ◌∙◌, subst}
use Rattle.s3_cards.specs.Printed.{Printed}
use Rattle.s3_cards.specs.declared.levels.LevelId.{LevelId}
use Rattle.s3_cards.specs.declared.levels.LevelId.TheVariants.{One, Two}
use Rattle.s3_slots.specs.Header.{mounted}
use Rattle.s3_slots.specs.declared.header.Header.{Header}
use Rattle.s3_solo.specs.Inner.Lines.{drained_lines}
use Rattle.s3_solo.specs.Solo.{closed, solo}
use Rattle.s3_solo.specs.World.{World}
use Rattle.s3_bureau.specs.declared.entry.Entry.{Entry}
use Rattle.s3_bureau.specs.declared.outcome.RunLines.{RunLines}
use Rattle.s3_bureau.specs.declared.run_fault.RunFault.{RunFault}
use Rattle.s3_bureau.specs.Entries.{own}
use Rattle.s3_bureau.specs.Texts.{halt_text_of}
use Rattle.s3_desk.specs.declared.day.Day.{Day}
use Rattle.s3_desk.specs.declared.ends.Bounds.{Bounds}
use Rattle.s3_desk.specs.Inner.Days.{HasPrinted, IsAnswered, starts_in}
use Rattle.s3_desk.specs.Inner.Desk.{AreMet, HasReached, IsPastReply}
use Rattle.s3_desk.specs.Inner.Events.{Asked, Event, Followed, Shown}
use Rattle.s3_desk.specs.Inner.Moments.{Drained, EachFits, FollowedInTime, InTime, Met, MetInTime, Moment, Turned, events_in, performed_in, world_after}
use Rattle.s3_reports.specs.Inner.Reports.{IsOneWritten, IsTwoWritten}
use Rattle.s3_desk.specs.Inner.Printing.{Goes, IsWhole, MeetsPrinting, Prints, Sheet}
use Rattle.s3_desk.proofs.Growing.{drained_first, over_prints_none, over_shows_none}
use Rattle.s3_desk.proofs.Moments.{after_more}

goes_then : (old middle new : Sheet) (one two : List Printed) (halts : List ℕ) → Goes old middle one two halts → Goes middle new one two halts → Goes old new one two halts
goes_then old middle new one two halts first second before so_far = second before (first before so_far)

goes_same : (old new : Sheet) (one two : List Printed) (halts : List ℕ) → new ≡ old → Goes old new one two halts
goes_same old new one two halts same = subst (λ (sheet : Sheet). Goes old sheet one two halts) (sym same) (λ before so_far. so_far)

-- what the reports make of lines that they are given, they make of an event
pub printed_on : (is_read is_one_over both : Bool) (level : LevelId) (one two : List Printed) (entries : List Entry) (old new : Sheet) → (both ≡ true → (is_one_over ≡ true) × (is_read ≡ true))
    → (is_one_over ≡ true → is_read ≡ true → both ≡ true)
    → ((later_one later_two : List Printed) (halts : List ℕ) → (both ≡ true → (later_one ≡ []) × (halts ≡ [])) → Goes old new (one ++ later_one) (two ++ later_two) halts)
    → IsOneWritten new.place one → (both ≡ true → (two ≡ []) ⊎ IsTwoWritten new.place two) → Prints is_read (Followed level one two is_one_over entries) old new
printed_on is_read is_one_over both level one two entries old new passes whole goes level_one level_two = record {
  goes = λ later_one later_two halts over. goes later_one later_two halts (λ is. over (passes is).0 (passes is).1);
  level_one = level_one;
  level_two = λ is_over was_read. level_two (whole is_over was_read);
}

module _ {P : Type 0} (sheet : P → Sheet) (is_read : P → Bool) (Base : P → Event → P → Type 0) (starts : LevelId → World) (IsPast IsCut : LevelId → List Entry → Type 0) (one two : List Printed) (halts : List ℕ) where
  -- what comes after a place of a day, in a level's world
  rest_of : (before more : List Moment) (level : LevelId) → (later : List Printed) × (drained_lines (closed (world_after starts (before ++ more) level)).lines ≡ drained_lines (world_after starts before level).lines ++ later)
  rest_of before more level =
      let w : World = world_after starts before level in
      let rest = drained_first w (own level (performed_in more)) in
      (rest.0, ap (λ (v : World). drained_lines (closed v).lines) (after_more starts before more level) ∙ rest.1)

  followed : (read : Bool) (before more : List Moment) (one_now two_now : List Printed) (is_one_over : Bool) (entries : List Entry) (level : LevelId) (old new : Sheet) → IsWhole starts (before ++ more) read one two halts
      → FollowedInTime starts before one_now two_now is_one_over entries → Prints read (Followed level one_now two_now is_one_over entries) old new → Goes old new one two halts
  followed read before more one_now two_now is_one_over entries level old new whole fits prints =
      let w : World = world_after starts before One in
      let one_rest = rest_of before more One in
      let two_rest = rest_of before more Two in
      let one_is : one_now ++ one_rest.0 ≡ one = ap (λ (l : List Printed). l ++ one_rest.0) fits.one_printed ∙ (sym one_rest.1 ∙ sym whole.one) in
      let two_is : two_now ++ two_rest.0 ≡ two = ap (λ (l : List Printed). l ++ two_rest.0) fits.two_printed ∙ (sym two_rest.1 ∙ sym whole.two) in
      subst (λ (l : List Printed). Goes old new l two halts) one_is
      (subst (λ (l : List Printed). Goes old new (one_now ++ one_rest.0) l halts) two_is
      (prints.goes one_rest.0 two_rest.0 halts (λ is_over was_read. (
        over_prints_none w (fits.one_over is_over) (own One (performed_in more)) one_rest.0
            (ap (λ (v : World). drained_lines (closed v).lines) (sym (after_more starts before more One)) ∙ one_rest.1),
        whole.halts was_read (ap (λ (v : World). (closed v).halts) (after_more starts before more One) ∙ over_shows_none w (fits.one_over is_over) (own One (performed_in more))),
      ))))

  met_goes : (read : Bool) (before more : List Moment) (event : Event) (old new : Sheet) → IsWhole starts (before ++ more) read one two halts → MetInTime starts IsPast IsCut before event → Prints read event old new → Goes old new one two halts
  met_goes read before more (Followed level one_now two_now is_one_over entries) old new whole fits prints = followed read before more one_now two_now is_one_over entries level old new whole fits prints
  met_goes read before more (Shown level halt) old new whole fits prints = goes_same old new one two halts prints
  met_goes read before more (Asked level halt reply) old new whole fits prints = goes_same old new one two halts prints

  pub day_goes : (read : Bool) (before day : List Moment) (from to : P) → is_read from ≡ read → IsWhole starts (before ++ day) read one two halts → AreMet (λ old event new. MeetsPrinting (Base old event new) (is_read old) (is_read new) event (sheet old) (sheet new)) from (events_in day) to → EachFits (InTime starts IsPast IsCut) before day
      → Goes (sheet from) (sheet to) one two halts
  day_goes read before [] from to reads whole met fits = goes_same (sheet from) (sheet to) one two halts (ap sheet met)
  day_goes read before (Turned level ∷ day) from to reads whole met fits =
      day_goes read (before ++ Turned level ∷ []) day from to reads (subst (λ (d : List Moment). IsWhole starts d read one two halts) (sym (append_assoc before (Turned level ∷ []) day)) whole) met fits.1
  day_goes read before (Drained level ∷ day) from to reads whole met fits =
      day_goes read (before ++ Drained level ∷ []) day from to reads (subst (λ (d : List Moment). IsWhole starts d read one two halts) (sym (append_assoc before (Drained level ∷ []) day)) whole) met fits.1
  day_goes read before (Met event ∷ day) from to reads whole met fits =
      let half : P = met.0 in
      goes_then (sheet from) (sheet half) (sheet to) one two halts
      (met_goes read before (Met event ∷ day) event (sheet from) (sheet half) whole fits.0 (subst (λ (b : Bool). Prints b event (sheet from) (sheet half)) reads met.1.0.1.1))
      (day_goes read (before ++ Met event ∷ []) day half to (met.1.0.1.0 ∙ reads) (subst (λ (d : List Moment). IsWhole starts d read one two halts) (sym (append_assoc before (Met event ∷ []) day)) whole) met.1.1 fits.1)

-- ---- a whole day
entries_whole : (starts : LevelId → World) (refusal : Option (ℕ × ℕ)) (day : List Moment) (entries : List Entry) (is_read : Bool) (run : RunLines) → entries ≡ performed_in day → (is_read ≡ true → refusal ≡ None)
    → HasPrinted starts refusal entries run → IsWhole starts day is_read run.one.lines.items run.two.lines.items run.one.halts.items
entries_whole starts refusal day entries is_read run whole read printed = record {
  one = printed.one ∙ ap (λ (es : List Entry). drained_lines (closed (solo (starts One) (own One es))).lines) whole;
  two = printed.two ∙ ap (λ (es : List Entry). drained_lines (closed (solo (starts Two) (own Two es))).lines) whole;
  halts = λ was_read none. printed.halts
      ∙ (ap (λ (es : List Entry). halt_text_of refusal (closed (solo (starts One) (own One es))).halts) whole
      ∙ (ap (halt_text_of refusal) none ∙ ap (λ (r : Option (ℕ × ℕ)). halt_text_of r []) (read was_read)));
}

pub day_written : {P : Type 0} (from to : P) (sheet : P → Sheet) (is_read : P → Bool) (Base : P → Event → P → Type 0) (contents cards1 cards2 : List (List ℕ)) (refusal : Option (ℕ × ℕ)) (bounds : Bounds) (entries : List Entry) (result : Result Day RunFault)
    → IfOk result (λ day. (header : Header) → mounted contents ≡ Ok header → HasPrinted (starts_in header contents cards1 cards2) refusal entries day.run)
    → IfOk result (λ day. (header : Header) → mounted contents ≡ Ok header
    → IsAnswered (λ old event new. MeetsPrinting (Base old event new) (is_read old) (is_read new) event (sheet old) (sheet new)) (starts_in header contents cards1 cards2) bounds entries day.ends from to)
    → IfOk result (λ day. (header : Header) → mounted contents ≡ Ok header → (is_read from ≡ true → refusal ≡ None) → Goes (sheet from) (sheet to) day.run.one.lines.items day.run.two.lines.items day.run.one.halts.items)
day_written from to sheet is_read Base contents cards1 cards2 refusal bounds entries (Ok day) printed answered = λ header mount read.
    let starts : LevelId → World = starts_in header contents cards1 cards2 in
    let moments = answered header mount in
    day_goes sheet is_read Base starts (λ level es. IsPastReply level [] es) (λ level es. HasReached level [] es bounds) day.run.one.lines.items day.run.two.lines.items day.run.one.halts.items (is_read from) [] moments.day from to refl
    (entries_whole starts refusal moments.day entries (is_read from) day.run moments.whole read (printed header mount)) moments.met moments.fits
day_written from to sheet is_read Base contents cards1 cards2 refusal bounds entries (Err fault) printed answered = tt
