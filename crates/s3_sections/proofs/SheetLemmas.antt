-- The calculations of a valid program: facts about each line at its place, and about the lines after a place.
use Rattle.std.proofs.Common.{◌≡◌, ℕ, ◌+◌, ◌<◌, ◌≤◌, List, [], ◌∷◌, Bool, true, false, not, ◌&&◌, ◌||◌, refl, sym, ◌∙◌, ap, subst, arith, zero, suc, inl, inr, take, drop}
use Rattle.std.specs.Prelude.{Option, Some, None, map, slice_get, unwrap_or, is_some, nat_le}
use Rattle.std.specs.List.{list_any}
use Rattle.std.proofs.lemmas.Bool.{and_parts, cases_Bool, true≢false}
use Rattle.std.proofs.lemmas.Bool.Decides.{nat_tests}
use Rattle.s3_lines.specs.declared.sheet.Operation.{Operation}
use Rattle.s3_lines.specs.declared.sheet.Operation.TheVariants as op
use Rattle.s3_lines.specs.declared.sheet.CalculationTime.{CalculationTime}
use Rattle.s3_lines.specs.declared.sheet.CalculationTime.TheVariants.{Detail, Total, Subroutine, And, Or}
use Rattle.s3_lines.specs.declared.sheet.CalculationLine.{CalculationLine}
use Rattle.s3_program.specs.declared.program.Program.{Program}
use Rattle.s3_program.specs.declared.program.Reference.{Reference}
use Rattle.s3_program.specs.declared.program.Meaning.{Meaning}
use Rattle.s3_program.specs.declared.call.Call.{Call}
use Rattle.s3_program.specs.declared.standing.CalculationStanding.{CalculationStanding}
use Rattle.s3_program.specs.Standings.{goes_on, is_subroutine_time, time_on, part_on, begins_subroutine, ends_subroutine, subroutine_behind, group_behind, first_calculation, behind_calculation}
use Rattle.s3_program.specs.Places.{Verb, is_cut_by, is_begin, is_finish, is_closed_by, is_late, is_astray, ends_group, is_unknown, calculation_misplaced}
use Rattle.s3_program.specs.Operands.{calculation_unfit}
use Rattle.s3_program.specs.Redefined.{calculation_redefined}
use Rattle.s3_program.specs.Jumps.{calculation_strays}
use Rattle.s3_program.specs.Inner.Conditions.{is_clear, calculations_clear}
use Rattle.s3_program.specs.Conditions.{verb_of, calculation_holds}
use Rattle.s3_operations.specs.Inner.Fits.{meant_line}
use Rattle.s3_sections.specs.Inner.Sections.{standing_behind}

-- ---- conditions
pub or_parts : (a b : Bool) → (a || b) ≡ false → (a ≡ false) × (b ≡ false)
or_parts true b h = absurd (true≢false h)
or_parts false b h = (refl, h)

pub opposite : (b : Bool) → not b ≡ false → b ≡ true
opposite true h = refl
opposite false h = sym h

pub some_same : {X : Type 0} (x y : X) → Some x ≡ Some y → x ≡ y
some_same x y h = ap (λ o. unwrap_or o x) h

none_some : {X : Type 0} (x : X) → None ≡ Some x → ⊥
none_some x h = true≢false (sym (ap (λ o. is_some o) h))

holds_none : (a b : Bool) → not (a || b) ≡ true → (a ≡ false) × (not b ≡ true)
holds_none true b h = absurd (true≢false (sym h))
holds_none false b h = (refl, h)

-- ---- facts about a line with meanings
pub record ClearAt (forbidden : Call → Bool) (at : CalculationStanding) (later : List Verb) (line : CalculationLine Meaning) : Type 0 where
  pub unredefined : calculation_redefined at line ≡ false
  pub fit : calculation_unfit (is_cut_by later) line ≡ false
  pub placed : calculation_misplaced at later line ≡ false
  pub unstrayed : calculation_strays forbidden at line ≡ false

clear : (forbidden : Call → Bool) (at : CalculationStanding) (later : List Verb) (line : CalculationLine Meaning) → is_clear (calculation_holds forbidden at later line) ≡ true → ClearAt forbidden at later line
clear forbidden at later line h =
    let holds : ℕ → Bool = calculation_holds forbidden at later line in
    let five = holds_none (holds 5) (list_any holds (6 ∷ 7 ∷ 8 ∷ 9 ∷ 10 ∷ 11 ∷ 12 ∷ [])) h in
    let six = holds_none (holds 6) (list_any holds (7 ∷ 8 ∷ 9 ∷ 10 ∷ 11 ∷ 12 ∷ [])) five.1 in
    let seven = holds_none (holds 7) (list_any holds (8 ∷ 9 ∷ 10 ∷ 11 ∷ 12 ∷ [])) six.1 in
    let eight = holds_none (holds 8) (list_any holds (9 ∷ 10 ∷ 11 ∷ 12 ∷ [])) seven.1 in
    let nine = holds_none (holds 9) (list_any holds (10 ∷ 11 ∷ 12 ∷ [])) eight.1 in
    let ten = holds_none (holds 10) (list_any holds (11 ∷ 12 ∷ [])) nine.1 in
    record { unredefined = six.0; fit = eight.0; placed = nine.0; unstrayed = ten.0 }

-- ---- requirements of a line's place, whatever the line names
abbrev pub own_time : {N : Type 0} → CalculationStanding → CalculationLine N → CalculationTime
own_time at line = time_on at.group line.time

pub record Sits {N : Type 0} (at : CalculationStanding) (line : CalculationLine N) (later : List Verb) : Type 0 where
  pub timely : is_late at.part line.time ≡ false
  pub grouped : goes_on (own_time at line) ≡ false
  pub held : (ends_group later line.operation && is_astray at later (own_time at line) line.operation) ≡ false

unknown_unfit : (cut : Bool) (line : CalculationLine Meaning) → calculation_unfit cut line ≡ false → is_unknown line.operation ≡ false
unknown_unfit cut line fit = step line.operation fit
  where
    step : (o : Option Operation) → calculation_unfit cut (record line { operation = o }) ≡ false → is_unknown o ≡ false
    step None fit = refl
    step (Some op.Unknown) fit = absurd (true≢false fit)
    step (Some operation) fit = refl

sits : (forbidden : Call → Bool) (at : CalculationStanding) (later : List Verb) (line : CalculationLine Meaning) → ClearAt forbidden at later line → Sits at line later
sits forbidden at later line c =
    let known : is_unknown line.operation ≡ false = unknown_unfit (is_cut_by later) line c.fit in
    let placed = rw known at c.placed in
    let five = or_parts _ _ placed in
    let four = or_parts _ _ five.0 in
    let three = or_parts _ _ four.0 in
    let two = or_parts _ _ three.0 in
    record { timely = two.0; grouped = two.1; held = four.1 }

-- ---- all lines
unfoldable pub AllSit : {N : Type 0} → CalculationStanding → List (CalculationLine N) → Type 0
AllSit at [] = Unit {0}
AllSit at (line ∷ lines) = Sits at line (map verb_of lines) × AllSit (behind_calculation at line) lines

meant_verbs : (p : Program) (lines : List (CalculationLine Reference)) → map verb_of (map (meant_line p) lines) ≡ map verb_of lines
meant_verbs p [] = refl
meant_verbs p (line ∷ lines) = ap (λ (verbs : List Verb). verb_of line ∷ verbs) (meant_verbs p lines)

pub all_sit : (p : Program) (forbidden : Call → Bool) (at : CalculationStanding) (lines : List (CalculationLine Reference)) → calculations_clear forbidden at (map (meant_line p) lines) ≡ true
    → AllSit at lines
unfolding AllSit
all_sit p forbidden at [] all = tt
all_sit p forbidden at (line ∷ lines) all =
    let parts = and_parts _ _ all in
    let s : Sits at (meant_line p line) (map verb_of (map (meant_line p) lines)) = sits forbidden at _ (meant_line p line) (clear forbidden at _ (meant_line p line) parts.0) in
    let t : Sits at (meant_line p line) (map verb_of lines) = subst (λ (verbs : List Verb). Sits at (meant_line p line) verbs) (meant_verbs p lines) s in
    (record { timely = t.timely; grouped = t.grouped; held = t.held }, all_sit p forbidden (behind_calculation at line) lines parts.1)

pub clear_at : (p : Program) (forbidden : Call → Bool) (at : CalculationStanding) (lines : List (CalculationLine Reference)) (k : ℕ) (line : CalculationLine Reference)
    → calculations_clear forbidden at (map (meant_line p) lines) ≡ true → slice_get lines k ≡ Some line
    → (later : List Verb) × ClearAt forbidden (standing_behind at (take k lines)) later (meant_line p line)
unfolding standing_behind
clear_at p forbidden at [] k line all there = absurd (none_some line there)
clear_at p forbidden at (l ∷ ls) zero line all there = (
  map verb_of (map (meant_line p) ls),
  subst (λ (x : CalculationLine Reference). ClearAt forbidden at (map verb_of (map (meant_line p) ls)) (meant_line p x)) (some_same l line there)
      (clear forbidden at _ (meant_line p l) (and_parts _ _ all).0),
)
clear_at p forbidden at (l ∷ ls) (suc k) line all there = clear_at p forbidden (behind_calculation at l) ls k line (and_parts _ _ all).1 there

-- a line after one without an operation continues it
uncut : (cut bare : Bool) → (cut || bare) ≡ false → cut ≡ false
uncut true bare h = h
uncut false bare h = refl

going : (time : CalculationTime) → not (goes_on time) ≡ false → goes_on time ≡ true
going time h = opposite (goes_on time) h

uncut_line : (cut : Bool) (line : CalculationLine Meaning) → is_some line.operation ≡ false → calculation_unfit cut line ≡ false → cut ≡ false
uncut_line cut line none fit = step line.operation none fit
  where
    step : (o : Option Operation) → is_some o ≡ false → calculation_unfit cut (record line { operation = o }) ≡ false → cut ≡ false
    step None none fit = uncut cut _ fit
    step (Some operation) none fit = absurd (true≢false none)

pub fits_behind : (p : Program) (forbidden : Call → Bool) (at : CalculationStanding) (lines : List (CalculationLine Reference)) (k : ℕ) (line next : CalculationLine Reference)
    → calculations_clear forbidden at (map (meant_line p) lines) ≡ true → slice_get lines k ≡ Some line → is_some line.operation ≡ false → slice_get lines (suc k) ≡ Some next → goes_on next.time ≡ true
fits_behind p forbidden at [] k line next all there none behind = absurd (none_some line there)
fits_behind p forbidden at (l ∷ []) zero line next all there none behind = absurd (none_some next behind)
fits_behind p forbidden at (l ∷ m ∷ ms) zero line next all there none behind =
    let later : List Verb = map verb_of (map (meant_line p) (m ∷ ms)) in
    let parts : (is_clear (calculation_holds forbidden at later (meant_line p l)) ≡ true) × (calculations_clear forbidden (behind_calculation at (meant_line p l)) (map (meant_line p) (m ∷ ms)) ≡ true) =
    and_parts (is_clear (calculation_holds forbidden at later (meant_line p l))) (calculations_clear forbidden (behind_calculation at (meant_line p l)) (map (meant_line p) (m ∷ ms))) all in
    let c : ClearAt forbidden at later (meant_line p l) = clear forbidden at later (meant_line p l) parts.0 in
    let bare : is_some l.operation ≡ false = ap (λ (x : CalculationLine Reference). is_some x.operation) (some_same l line there) ∙ none in
    ap (λ (x : CalculationLine Reference). goes_on x.time) (sym (some_same m next behind)) ∙ going m.time (uncut_line (is_cut_by (map verb_of (map (meant_line p) (m ∷ ms)))) (meant_line p l) bare c.fit)
fits_behind p forbidden at (l ∷ ls) (suc k) line next all there none behind = fits_behind p forbidden (behind_calculation at l) ls k line next (and_parts _ _ all).1 there none behind

pub sits_drop : {N : Type 0} (at : CalculationStanding) (lines : List (CalculationLine N)) (k : ℕ) → AllSit at lines → AllSit (standing_behind at (take k lines)) (drop k lines)
unfolding AllSit standing_behind
sits_drop at lines zero all = all
sits_drop at [] (suc k) all = tt
sits_drop at (line ∷ lines) (suc k) all = sits_drop (behind_calculation at line) lines k all.1

pub sits_at : {N : Type 0} (at : CalculationStanding) (lines : List (CalculationLine N)) (k : ℕ) (line : CalculationLine N) → AllSit at lines → slice_get lines k ≡ Some line
    → (later : List Verb) × Sits (standing_behind at (take k lines)) line later
unfolding AllSit standing_behind
sits_at at [] k line all there = absurd (none_some line there)
sits_at {N} at (l ∷ ls) zero line all there = (map verb_of ls, subst (λ (x : CalculationLine N). Sits at x (map verb_of ls)) (some_same l line there) all.0)
sits_at at (l ∷ ls) (suc k) line all there = sits_at (behind_calculation at l) ls k line all.1 there

-- the place after one more line
pub standing_more : {N : Type 0} (at : CalculationStanding) (lines : List (CalculationLine N)) (k : ℕ) (line : CalculationLine N) → slice_get lines k ≡ Some line
    → standing_behind at (take (suc k) lines) ≡ behind_calculation (standing_behind at (take k lines)) line
unfolding standing_behind
standing_more at [] k line there = absurd (none_some line there)
standing_more {N} at (l ∷ ls) zero line there = ap (λ (x : CalculationLine N). behind_calculation at x) (some_same l line there)
standing_more at (l ∷ ls) (suc k) line there = standing_more (behind_calculation at l) ls k line there

pub standing_further : {N : Type 0} (at : CalculationStanding) (lines : List (CalculationLine N)) (k n : ℕ)
    → standing_behind (standing_behind at (take k lines)) (take n (drop k lines)) ≡ standing_behind at (take (k + n) lines)
unfolding standing_behind
standing_further at lines zero n = let e : 0 + n ≡ n = omega arith in ap (λ m. standing_behind at (take m lines)) (sym e)
standing_further {N} at [] (suc k) zero = let e : suc k + 0 ≡ suc k = omega arith in ap (λ m. standing_behind {N = N} at (take m [])) (sym e)
standing_further {N} at [] (suc k) (suc n) = let e : suc k + suc n ≡ suc (suc (k + n)) = omega arith in ap (λ m. standing_behind {N = N} at (take m [])) (sym e)
standing_further at (line ∷ lines) (suc k) n =
    let e : suc k + n ≡ suc (k + n) = omega arith in
    standing_further (behind_calculation at line) lines k n ∙ ap (λ m. standing_behind at (take m (line ∷ lines))) (sym e)

-- ---- invariant of a place
unfoldable pub rank : CalculationTime → ℕ
rank Detail = 0
rank (Total level) = 1
rank Subroutine = 2
rank And = 0
rank Or = 0

-- The part is the group's part. A subroutine can be open only in the last part, and its next BEGSR or ENDSR is an ENDSR.
pub record Keeps {N : Type 0} (at : CalculationStanding) (lines : List (CalculationLine N)) : Type 0 where
  pub small : at.part ≤ 2
  pub ranked : (time : CalculationTime) → at.group ≡ Some time → rank time ≡ at.part
  pub late : (begsr : ℕ) → at.subroutine ≡ Some begsr → 2 ≤ at.part
  pub earlier : (begsr : ℕ) → at.subroutine ≡ Some begsr → begsr < at.place
  pub closing : (begsr : ℕ) → at.subroutine ≡ Some begsr → is_closed_by at.group (map verb_of lines) ≡ true

-- the level entry of a line belongs to the part that the line reaches
pub own_rank : (part : ℕ) (group : Option CalculationTime) (time : CalculationTime) → part ≤ 2 → ((t : CalculationTime) → group ≡ Some t → rank t ≡ part) → is_late part time ≡ false
    → goes_on (time_on group time) ≡ false → rank (time_on group time) ≡ part_on part time
unfolding rank
own_rank part group Detail small ranked timely grouped = grind (arith, nat_tests, timely)
own_rank part group (Total level) small ranked timely grouped = elim (cases_Bool (nat_le 1 part)) [
  | inl one ↦ rw one (grind (arith, nat_tests, timely, one))
  | inr none ↦ rw none refl
]
own_rank part group Subroutine small ranked timely grouped = refl
own_rank part None And small ranked timely grouped = absurd (true≢false grouped)
own_rank part (Some t) And small ranked timely grouped = ranked t refl
own_rank part None Or small ranked timely grouped = absurd (true≢false grouped)
own_rank part (Some t) Or small ranked timely grouped = ranked t refl

pub part_grows : (part : ℕ) (time : CalculationTime) → part ≤ 2 → (part ≤ part_on part time) × (part_on part time ≤ 2)
part_grows part Detail small = (omega arith, small)
part_grows part (Total level) small = elim (cases_Bool (nat_le 1 part)) [
  | inl one ↦ rw one (omega arith, small)
  | inr none ↦ rw none (grind (arith, nat_tests, none), omega arith)
]
part_grows part Subroutine small = (small, omega arith)
part_grows part And small = (omega arith, small)
part_grows part Or small = (omega arith, small)

group_is : (own time : CalculationTime) (o : Option Operation) → group_behind own o ≡ Some time → own ≡ time
group_is own time None h = some_same own time h
group_is own time (Some operation) h = absurd (none_some time h)

begin_is : (o : Option Operation) → begins_subroutine o ≡ true → o ≡ Some op.BeginSubroutine
begin_is (Some op.BeginSubroutine) h = refl
begin_is None h = absurd (true≢false (sym h))
begin_is (Some o) h = absurd (true≢false (sym h))

-- a line other than BEGSR and ENDSR keeps the current subroutine
behind_is : (place : ℕ) (before : Option ℕ) (time : CalculationTime) (o : Option Operation) (at : CalculationStanding) → at.place ≡ place → at.subroutine ≡ before
    → is_begin time o ≡ false → is_finish time o ≡ false → subroutine_behind at time o ≡ before
behind_is place before Detail o at p s b f = s
behind_is place before (Total level) o at p s b f = s
behind_is place before And o at p s b f = s
behind_is place before Or o at p s b f = s
behind_is place before Subroutine o at p s b f = rw f (rw b s)

late_behind : (at : CalculationStanding) (time own : CalculationTime) (o : Option Operation) (begsr : ℕ) → rank own ≡ part_on at.part time → at.part ≤ part_on at.part time
    → ((b : ℕ) → at.subroutine ≡ Some b → 2 ≤ at.part) → subroutine_behind at own o ≡ Some begsr → 2 ≤ part_on at.part time
unfolding rank
late_behind at time Detail o begsr is grows late h = let l = late begsr h in omega (arith, l, grows)
late_behind at time (Total level) o begsr is grows late h = let l = late begsr h in omega (arith, l, grows)
late_behind at time And o begsr is grows late h = let l = late begsr h in omega (arith, l, grows)
late_behind at time Or o begsr is grows late h = let l = late begsr h in omega (arith, l, grows)
late_behind at time Subroutine o begsr is grows late h = omega (arith, is)

earlier_behind : (at : CalculationStanding) (own : CalculationTime) (o : Option Operation) (begsr : ℕ) → ((b : ℕ) → at.subroutine ≡ Some b → b < at.place) → subroutine_behind at own o ≡ Some begsr
    → begsr < at.place + 1
earlier_behind at Detail o begsr earlier h = let l = earlier begsr h in omega (arith, l)
earlier_behind at (Total level) o begsr earlier h = let l = earlier begsr h in omega (arith, l)
earlier_behind at And o begsr earlier h = let l = earlier begsr h in omega (arith, l)
earlier_behind at Or o begsr earlier h = let l = earlier begsr h in omega (arith, l)
earlier_behind at Subroutine o begsr earlier h = elim (cases_Bool (ends_subroutine o)) [
  | inl ends ↦ absurd (none_some begsr (rw ends at h))
  | inr on ↦ elim (cases_Bool (begins_subroutine o)) [
    | inl begins ↦ let e : at.place ≡ begsr = some_same at.place begsr (rw begins at (rw on at h)) in omega (arith, e)
    | inr inside ↦ let l = earlier begsr (rw inside at (rw on at h)) in omega (arith, l)
  ]
]

both_are : (a b : Bool) → (a && b) ≡ true → (a ≡ true) × (b ≡ true)
both_are true b h = (refl, h)
both_are false b h = absurd (true≢false (sym h))

finish_none : (at : CalculationStanding) (own : CalculationTime) (o : Option Operation) (begsr : ℕ) → is_finish own o ≡ true → subroutine_behind at own o ≡ Some begsr → ⊥
finish_none at Subroutine o begsr f h = none_some begsr (rw f at h)
finish_none at Detail o begsr f h = true≢false (sym f)
finish_none at (Total level) o begsr f h = true≢false (sym f)
finish_none at And o begsr f h = true≢false (sym f)
finish_none at Or o begsr f h = true≢false (sym f)

-- a BEGSR in place has an ENDSR
begun_closed : (at : CalculationStanding) (later : List Verb) (own : CalculationTime) (o : Option Operation) → is_begin own o ≡ true → (ends_group later o && is_astray at later own o) ≡ false
    → is_closed_by (group_behind own o) later ≡ true
begun_closed at later own o begins held = step o (begin_is o (both_are _ _ begins).1) (both_are _ _ begins).0 held
  where
    step : (o : Option Operation) → o ≡ Some op.BeginSubroutine → is_subroutine_time own ≡ true → (ends_group later o && is_astray at later own o) ≡ false → is_closed_by (group_behind own o) later ≡ true
    step o is timed held =
        let h : not (is_subroutine_time own && is_closed_by None later) ≡ false = ap (λ o. ends_group later o && is_astray at later own o) (sym is) ∙ held in
        ap (λ o. is_closed_by (group_behind own o) later) is ∙ (both_are (is_subroutine_time own) (is_closed_by None later) (opposite (is_subroutine_time own && is_closed_by None later) h)).1

closing_behind : {N : Type 0} (at : CalculationStanding) (line : CalculationLine N) (later : List Verb) (begsr : ℕ) → Sits at line later
    → ((b : ℕ) → at.subroutine ≡ Some b → is_closed_by at.group (verb_of line ∷ later) ≡ true)
    → subroutine_behind at (own_time at line) line.operation ≡ Some begsr → is_closed_by (group_behind (own_time at line) line.operation) later ≡ true
closing_behind at line later begsr s closing h = elim (cases_Bool (is_begin (own_time at line) line.operation)) [
  | inl begins ↦ begun_closed at later (own_time at line) line.operation begins s.held
  | inr on ↦ elim (cases_Bool (is_finish (own_time at line) line.operation)) [
    | inl finishes ↦ absurd (finish_none at (own_time at line) line.operation begsr finishes h)
    | inr inside ↦
        let before : at.subroutine ≡ Some begsr = sym (behind_is at.place at.subroutine (own_time at line) line.operation at refl refl on inside) ∙ h in
        rw inside at (rw on at (closing begsr before))
  ]
]

pub keeps_behind : {N : Type 0} (at : CalculationStanding) (line : CalculationLine N) (lines : List (CalculationLine N)) → Sits at line (map verb_of lines) → Keeps at (line ∷ lines)
    → Keeps (behind_calculation at line) lines
keeps_behind at line lines s k =
    let grows = part_grows at.part line.time k.small in
    let ranks = own_rank at.part at.group line.time k.small k.ranked s.timely s.grouped in
    record {
      small = grows.1;
      ranked = λ time h. ap rank (sym (group_is (own_time at line) time line.operation h)) ∙ ranks;
      late = λ begsr h. late_behind at line.time (own_time at line) line.operation begsr ranks grows.0 k.late h;
      earlier = λ begsr h. earlier_behind at (own_time at line) line.operation begsr k.earlier h;
      closing = λ begsr h. closing_behind at line (map verb_of lines) begsr s k.closing h;
    }

pub keeps_drop : {N : Type 0} (at : CalculationStanding) (lines : List (CalculationLine N)) (k : ℕ) → AllSit at lines → Keeps at lines → Keeps (standing_behind at (take k lines)) (drop k lines)
unfolding AllSit standing_behind
keeps_drop at lines zero all keeps = keeps
keeps_drop at [] (suc k) all keeps = keeps
keeps_drop at (line ∷ lines) (suc k) all keeps = keeps_drop (behind_calculation at line) lines k all.1 (keeps_behind at line lines all.0 keeps)

pub keeps_first : {N : Type 0} (lines : List (CalculationLine N)) → Keeps first_calculation lines
keeps_first lines = record {
  small = omega arith;
  ranked = λ time h. absurd (none_some time h);
  late = λ begsr h. absurd (none_some begsr h);
  earlier = λ begsr h. absurd (none_some begsr h);
  closing = λ begsr h. absurd (none_some begsr h);
}
