-- Subroutine calls: each EXSR is a call, none is forbidden, so a course has capacity for one more.
use Rattle.std.proofs.Common.{◌≡◌, ℕ, ◌+◌, ◌-◌, ◌<◌, ◌==◌, List, [], ◌∷◌, ◌++◌, Bool, true, false, ◌&&◌, ◌||◌, refl, sym, ◌∙◌, ap, subst, arith, zero, suc, inl, inr, take, length, get_or}
use Rattle.std.specs.Prelude.{Option, Some, None, map, slice_get, is_some, nat_eq, nat_lt, if◌then◌else◌}
use Rattle.std.specs.List.{list_any}
use Rattle.std.specs.Option.{option_eq}
use Rattle.std.proofs.lemmas.Bool.{and_parts, cases_Bool, true≢false}
use Rattle.std.proofs.lemmas.Bool.Decides.{nat_tests}
use Rattle.std.proofs.lemmas.Option.{slice_get-get_or}
use Rattle.s3_lines.specs.declared.sheet.Operation.{Operation}
use Rattle.s3_lines.specs.declared.sheet.Operation.TheVariants as op
use Rattle.s3_lines.specs.declared.sheet.CalculationLine.{CalculationLine}
use Rattle.s3_meaning.specs.Runs.{Rest, Anew}
use Rattle.s3_meaning.specs.Calculations.{Calculation}
use Rattle.s3_meaning.specs.Calculating.{calculated}
use Rattle.s3_program.specs.declared.program.Program.{Program}
use Rattle.s3_program.specs.declared.program.Reference.{Reference}
use Rattle.s3_program.specs.declared.program.Meaning.{Meaning}
use Rattle.s3_program.specs.declared.standing.CalculationStanding.{CalculationStanding}
use Rattle.s3_program.specs.declared.call.Call.{Call}
use Rattle.s3_program.specs.Standings.{begins_subroutine, ends_subroutine, first_calculation, behind_calculation}
use Rattle.s3_program.specs.Jumps.{called, callee_of, caller_of, subroutine_of, with_call, calls_from, is_place, is_in_circle, has_circle, ends_chain, same_call, is_forbidden, calls_badly, calculation_strays}
use Rattle.s3_program.specs.Inner.Conditions.{calculations_clear}
use Rattle.s3_program.specs.Conditions.{forbidden_among}
use Rattle.s3_program.specs.Inner.Stands.{source_named}
use Rattle.s3_program.proofs.CallLemmas.{room_left}
use Rattle.s3_operations.specs.Inner.Fits.{meant_line, meant_factor}
use Rattle.s3_sections.specs.declared.spot.Section.TheVariants as section
use Rattle.s3_sections.specs.declared.spot.Spot.{Spot}
use Rattle.s3_sections.specs.Inner.Sections.{rest_of, standing_behind, number_of}
use Rattle.s3_sections.specs.Inner.Spots.{IsSpot, IsLineAt, IsOfSection, subroutine_in}
use Rattle.s3_sections.specs.Inner.Courses.{rest_at, goes_through, ReturnsTo, AreCalls}
use Rattle.s3_sections.proofs.SheetLemmas.{some_same, clear_at}
use Rattle.s3_sections.proofs.CutLemmas.{none_some}
use Rattle.s3_sections.proofs.SpotLemmas.{sheet_clear}
use Rattle.s3_sections.proofs.JumpLemmas.{behind_line}
use Rattle.s3_sections.proofs.LabelLemmas.{SubroutineNamed, subroutine_meant}

-- ---- lists
any_at : {X : Type 0} (test : X → Bool) (xs : List X) (n : ℕ) (x : X) → slice_get xs n ≡ Some x → test x ≡ true → list_any test xs ≡ true
any_at test [] n x there passes = absurd (none_some x there)
any_at test (y ∷ ys) zero x there passes = rw (ap test (some_same y x there) ∙ passes) refl
any_at test (y ∷ ys) (suc n) x there passes = step (test y) (any_at test ys n x there passes)
  where
    step : (b : Bool) → list_any test ys ≡ true → (b || list_any test ys) ≡ true
    step true later = refl
    step false later = later

some_at : {X : Type 0} (test : X → Bool) (xs : List X) → list_any test xs ≡ true → (n : ℕ) × (x : X) × (slice_get xs n ≡ Some x) × (test x ≡ true)
some_at test [] any = absurd (true≢false (sym any))
some_at test (y ∷ ys) any = elim (cases_Bool (test y)) [
  | inl here ↦ (0, y, refl, here)
  | inr not_here ↦ let later = some_at test ys (rw not_here at any) in (suc later.0, later.1, later.2, later.3)
]

-- ---- calls of lines
call_at : (p : Program) (at : CalculationStanding) (lines : List (CalculationLine Reference)) (k : ℕ) (line : CalculationLine Reference) (callee : ℕ) → slice_get lines k ≡ Some line
    → callee_of (meant_line p line) ≡ Some callee
    → (n : ℕ) × (slice_get (calls_from at (map (meant_line p) lines)) n ≡ Some (record { caller = caller_of (standing_behind at (take k lines)) (meant_line p line); callee = callee }))
unfolding standing_behind
call_at p at [] k line callee there calls = absurd (none_some line there)
call_at p at (l ∷ ls) zero line callee there calls =
    let e : l ≡ line = some_same l line there in (
      0,
      ap (λ (o : Option ℕ). slice_get (with_call (caller_of at (meant_line p l)) o (calls_from (behind_calculation at (meant_line p l)) (map (meant_line p) ls))) 0)
          (ap (λ (x : CalculationLine Reference). callee_of (meant_line p x)) e ∙ calls)
          ∙ ap (λ (x : CalculationLine Reference). Some (record { caller = caller_of at (meant_line p x); callee = callee })) e,
    )
call_at p at (l ∷ ls) (suc k) line callee there calls =
    let later = call_at p (behind_calculation at l) ls k line callee there calls in step (callee_of (meant_line p l)) later.0 later.1
  where
    step : (o : Option ℕ) (n : ℕ)
        → slice_get (calls_from (behind_calculation at l) (map (meant_line p) ls)) n
        ≡ Some (record { caller = caller_of (standing_behind (behind_calculation at l) (take k ls)) (meant_line p line); callee = callee })
        → (n : ℕ)
        × (slice_get (with_call (caller_of at (meant_line p l)) o (calls_from (behind_calculation at (meant_line p l)) (map (meant_line p) ls))) n
        ≡ Some (record { caller = caller_of (standing_behind (behind_calculation at l) (take k ls)) (meant_line p line); callee = callee }))
    step None n h = (n, h)
    step (Some other) n h = (suc n, h)

-- ---- none is forbidden
unforbidden_line : (forbidden : Call → Bool) (at : CalculationStanding) (line : CalculationLine Meaning) (callee : ℕ) → callee_of line ≡ Some callee → calculation_strays forbidden at line ≡ false
    → forbidden (record { caller = caller_of at line; callee = callee }) ≡ false
unforbidden_line forbidden at line callee calls strays = step line.operation calls strays
  where
    step : (o : Option Operation) → callee_of (record line { operation = o }) ≡ Some callee → calculation_strays forbidden at (record line { operation = o }) ≡ false
        → forbidden (record { caller = caller_of at (record line { operation = o }); callee = callee }) ≡ false
    step (Some op.ExecuteSubroutine) calls strays = ap (calls_badly forbidden (caller_of at (record line { operation = Some op.ExecuteSubroutine }))) (sym calls) ∙ strays
    step None calls strays = absurd (none_some callee calls)
    step (Some o) calls strays = absurd (none_some callee calls)

all_unforbidden : (p : Program) (forbidden : Call → Bool) (at : CalculationStanding) (lines : List (CalculationLine Reference)) (n : ℕ) (call : Call) → calculations_clear forbidden at (map (meant_line p) lines) ≡ true
    → slice_get (calls_from at (map (meant_line p) lines)) n ≡ Some call → forbidden call ≡ false
unfolding standing_behind
all_unforbidden p forbidden at [] n call all there = absurd (none_some call there)
all_unforbidden p forbidden at (l ∷ ls) n call all there =
    let c = clear_at p forbidden at (l ∷ ls) 0 l all refl in
    step (callee_of (meant_line p l)) refl n there c.1.unstrayed (λ m h. all_unforbidden p forbidden (behind_calculation at l) ls m call (and_parts _ _ all).1 h)
  where
    step : (o : Option ℕ) → callee_of (meant_line p l) ≡ o → (n : ℕ) → slice_get (with_call (caller_of at (meant_line p l)) o (calls_from (behind_calculation at (meant_line p l)) (map (meant_line p) ls))) n ≡ Some call
        → calculation_strays forbidden at (meant_line p l) ≡ false → ((m : ℕ) → slice_get (calls_from (behind_calculation at l) (map (meant_line p) ls)) m ≡ Some call → forbidden call ≡ false) → forbidden call ≡ false
    step None e n there strays later = later n there
    step (Some callee) e zero there strays later = ap forbidden (sym (some_same _ call there)) ∙ unforbidden_line forbidden at (meant_line p l) callee e strays
    step (Some callee) e (suc n) there strays later = later n there

-- all calls of a program
abbrev pub calls_of : Program → List Call
calls_of p = calls_from first_calculation (map (meant_line p) p.calculations.items)

reflexive_call : (call : Call) → same_call call call ≡ true
reflexive_call call = step call.caller
  where
    same : (n : ℕ) → (n == n) ≡ true
    same n = grind (arith, nat_tests)

    step : (o : Option ℕ) → (option_eq nat_eq o o && call.callee == call.callee) ≡ true
    step None = same call.callee
    step (Some n) = rw (same n, same call.callee) refl

unforbidden : (p : Program) (n : ℕ) (call : Call) → slice_get (calls_of p) n ≡ Some call → is_forbidden (calls_of p) call ≡ false
unfolding forbidden_among
unforbidden p n call there = all_unforbidden p (forbidden_among (map (meant_line p) p.calculations.items)) first_calculation p.calculations.items n call (sheet_clear p) there

among : (p : Program) (n : ℕ) (call : Call) → slice_get (calls_of p) n ≡ Some call → (if has_circle (calls_of p) then is_in_circle (calls_of p) call else ends_chain (calls_of p) 8 call.caller) ≡ false
among p n call there = step (list_any (same_call call) (calls_of p)) _ (any_at (same_call call) (calls_of p) n call there (reflexive_call call)) (unforbidden p n call there)
  where
    step : (a b : Bool) → a ≡ true → (a && b) ≡ false → b ≡ false
    step true b is h = h
    step false b is h = absurd (true≢false (sym is))

no_circle : (p : Program) → has_circle (calls_of p) ≡ false
no_circle p = elim (cases_Bool (has_circle (calls_of p))) [
  | inl circle ↦
      let c = some_at (is_in_circle (calls_of p)) (calls_of p) circle in
      absurd (true≢false (sym c.3 ∙ (ap (λ b. if b then is_in_circle (calls_of p) c.1 else ends_chain (calls_of p) 8 c.1.caller) (sym circle) ∙ among p c.0 c.1 c.2)))
  | inr without ↦ without
]

last_but_eight : (p : Program) (n : ℕ) (call : Call) → slice_get (calls_of p) n ≡ Some call → ends_chain (calls_of p) 8 call.caller ≡ false
last_but_eight p n call there = ap (λ b. if b then is_in_circle (calls_of p) call else ends_chain (calls_of p) 8 call.caller) (sym (no_circle p)) ∙ among p n call there

-- ---- the call of an EXSR
exsr_call : (p : Program) (spot : Spot) (place : ℕ) (line : CalculationLine Reference) (callee : ℕ) → IsLineAt p place line op.ExecuteSubroutine → IsOfSection p spot place line
    → called (meant_factor p line.factor2) ≡ Some callee → (n : ℕ) × (slice_get (calls_of p) n ≡ Some (record { caller = subroutine_in spot; callee = callee }))
exsr_call p spot place line callee at inside calls =
    let c = call_at p first_calculation p.calculations.items place line callee at.there (ap (λ o. callee_of (record (meant_line p line) { operation = o })) at.bears ∙ calls) in
    (c.0, c.1 ∙ ap (λ n. Some (record { caller = subroutine_of n; callee = callee })) inside)

one_more : (p : Program) (m n callee : ℕ) (caller : Option ℕ) → slice_get (calls_of p) n ≡ Some (record { caller = caller; callee = callee }) → ends_chain (calls_of p) m caller ≡ true
    → ends_chain (calls_of p) (suc m) (Some callee) ≡ true
one_more p m n callee caller there chain =
    any_at (λ call. is_place (Some callee) call.callee && ends_chain (calls_of p) m call.caller) (calls_of p) n (record { caller = caller; callee = callee }) there (rw (same callee, chain) refl)
  where
    same : (n : ℕ) → (n == n) ≡ true
    same n = grind (arith, nat_tests)

chain_of : (p : Program) (m : ℕ) (subroutine : Option ℕ) (spots : List Spot) (here : Spot) → AreCalls p subroutine spots here → ends_chain (calls_of p) m subroutine ≡ true
    → ends_chain (calls_of p) (m + length spots) (subroutine_in here) ≡ true
chain_of p m subroutine [] here calls chain =
    let e : m + 0 ≡ m = omega arith in ap (λ n. ends_chain (calls_of p) n (subroutine_in here)) e ∙ (ap (ends_chain (calls_of p) m) calls ∙ chain)
chain_of p m subroutine (spot ∷ spots) here calls chain =
    let r : ReturnsTo p subroutine spot = calls.0 in
    let c = exsr_call p spot r.place r.line r.callee r.calls r.section r.callee_is in
    let longer : ends_chain (calls_of p) (suc m) (Some r.callee) ≡ true = one_more p m c.0 r.callee (subroutine_in spot) c.1 (ap (ends_chain (calls_of p) m) r.inside ∙ chain) in
    let e : m + suc (length spots) ≡ suc m + length spots = omega arith in
    ap (λ n. ends_chain (calls_of p) n (subroutine_in here)) e ∙ chain_of p (suc m) (Some r.callee) spots here calls.1 longer

-- a course has capacity for a call at an EXSR
pub room_at : (p : Program) (spots : List Spot) (here : Spot) (place : ℕ) (line : CalculationLine Reference) (callee : ℕ) → AreCalls p None spots here → IsLineAt p place line op.ExecuteSubroutine
    → IsOfSection p here place line → called (meant_factor p line.factor2) ≡ Some callee → length spots < 8
room_at p spots here place line callee calls at inside callee_is =
    let c = exsr_call p here place line callee at inside callee_is in
    let chain : ends_chain (calls_of p) (length spots) (subroutine_in here) ≡ true =
    (let e : length spots ≡ 0 + length spots = omega arith in ap (λ n. ends_chain (calls_of p) n (subroutine_in here)) e ∙ chain_of p 0 None spots here calls refl) in
    room_left (calls_of p) (length spots) (subroutine_in here) (last_but_eight p c.0 (record { caller = subroutine_in here; callee = callee }) c.1) chain

-- ---- steps of the course
pub calls_more : (p : Program) (subroutine : Option ℕ) (spots : List Spot) (here behind new : Spot) → AreCalls p subroutine spots here → (r : ReturnsTo p (subroutine_in here) behind)
    → subroutine_in new ≡ Some r.callee → AreCalls p subroutine (spots ++ behind ∷ []) new
calls_more p subroutine [] here behind new calls r is = (
  record {
    is = r.is;
    inside = r.inside ∙ calls;
    place = r.place;
    line = r.line;
    calls = r.calls;
    section = r.section;
    behind = r.behind;
    callee = r.callee;
    callee_is = r.callee_is;
  },
  is,
)
calls_more p subroutine (spot ∷ spots) here behind new calls r is = (calls.0, calls_more p (Some calls.0.callee) spots here behind new calls.1 r is)

pub calls_less : (p : Program) (subroutine : Option ℕ) (spots : List Spot) (last here : Spot) → AreCalls p subroutine (spots ++ last ∷ []) here → IsSpot p last × AreCalls p subroutine spots last
calls_less p subroutine [] last here calls = (calls.0.is, calls.0.inside)
calls_less p subroutine (spot ∷ spots) last here calls = let later = calls_less p (Some calls.0.callee) spots last here calls.1 in (later.0, (calls.0, later.1))

pub goes_further : (p : Program) (anew : Anew) (go : Rest) (spots : List Spot) (last : Spot) → goes_through p anew go (spots ++ last ∷ []) ≡ rest_at p anew (goes_through p anew go spots) last
goes_further p anew go [] last = refl
goes_further p anew go (spot ∷ spots) last = goes_further p anew (rest_at p anew go spot) spots last

-- a section at its end continues with `go`
pub at_end : (p : Program) (anew : Anew) (go : Rest) (spot : Spot) → rest_of p spot.section spot.place ≡ [] → rest_at p anew go spot ≡ go
unfolding calculated
at_end p anew go spot none = ap (calculated (source_named p) anew (rest_of p spot.section spot.begin) go None) none

pub left_last : (p : Program) (old : List Spot) (here : Spot) → (0 < length old → ⊥) → rest_of p here.section here.place ≡ [] → (anew : Anew) (go : Rest) → goes_through p anew go (old ++ here ∷ []) ≡ go
left_last p [] here empty none anew go = at_end p anew go here none
left_last p (spot ∷ spots) here empty none anew go = absurd (empty (omega arith))

-- a nonempty list has a last element
pub none_last : (spots : List Spot) → None ≡ slice_get spots (length spots - 1) → 0 < length spots → ⊥
none_last [] none some = absurd (omega (arith, some))
none_last (spot ∷ spots) none some =
    let all : List Spot = spot ∷ spots in
    none_some (get_or all (length all - 1) spot) (none ∙ slice_get-get_or all (length all - 1) spot (omega arith))

-- ---- an EXSR
pub exsr_callee : (p : Program) (line : CalculationLine Reference) (t : SubroutineNamed p line.factor2) → called (meant_factor p line.factor2) ≡ Some t.entry.1.place
exsr_callee p line t = ap called (subroutine_meant p line.factor2 t)

behind_exsr : (p : Program) (spot : Spot) (place : ℕ) (line : CalculationLine Reference) → IsSpot p spot → IsLineAt p place line op.ExecuteSubroutine → IsOfSection p spot place line → IsSpot p (record spot { place = suc place })
behind_exsr p spot place line is at inside =
    record { first = is.first; here = behind_line p spot place line is at.there (ap (λ o. is_some o) at.bears) (ap begins_subroutine at.bears) (ap ends_subroutine at.bears) inside }

pub called_spot : (spot : Spot) (place : ℕ) → spot.section ≡ section.Subroutine → spot.begin ≡ suc place → subroutine_in spot ≡ Some place
called_spot spot place is begin =
    ap (λ s. subroutine_of (number_of s spot.begin)) is ∙ (ap (λ n. subroutine_of (n + 2)) begin ∙ step)
  where
    step : subroutine_of (suc place + 2) ≡ Some place
    step =
        let above : nat_lt (suc place + 2) 3 ≡ false = grind (arith, nat_tests) in
        let e : suc place + 2 - 3 ≡ place = omega arith in
        ap (λ b. if b then None else Some (suc place + 2 - 3)) above ∙ ap (λ n. Some n) e

pub entered_calls : (p : Program) (returns new_returns : List Spot) (here new : Spot) (place : ℕ) (line : CalculationLine Reference) → IsSpot p here → AreCalls p None returns here
    → IsLineAt p place line op.ExecuteSubroutine → IsOfSection p here place line → new_returns ≡ returns ++ (record here { place = suc place }) ∷ [] → (t : SubroutineNamed p line.factor2)
    → called (meant_factor p line.factor2) ≡ subroutine_in new → AreCalls p None new_returns new
entered_calls p returns new_returns here new place line is calls at inside items t callee =
    subst (λ (spots : List Spot). AreCalls p None spots new) (sym items)
    (calls_more p None returns here (record here { place = suc place }) new calls
    (record {
      is = behind_exsr p here place line is at inside;
      inside = refl;
      place = place;
      line = line;
      calls = at;
      section = inside;
      behind = refl;
      callee = t.entry.1.place;
      callee_is = exsr_callee p line t;
    })
    (sym callee ∙ exsr_callee p line t))

pub entered_rest : (p : Program) (new_returns returns : List Spot) (new : Spot) (lines : List Calculation) → new_returns ≡ returns → new.section ≡ section.Subroutine → new.place ≡ new.begin
    → lines ≡ rest_of p section.Subroutine new.begin → (anew : Anew) (go : Rest)
    → goes_through p anew go (new_returns ++ new ∷ []) ≡ calculated (source_named p) anew lines (goes_through p anew go returns) None lines
entered_rest p new_returns returns new lines items sec all whole anew go =
    goes_further p anew go new_returns new
    ∙ (λ i. calculated (source_named p) anew (one i) (goes_through p anew go (items i)) None (two i))
  where
    one : rest_of p new.section new.begin ≡ lines
    one = ap (λ s. rest_of p s new.begin) sec ∙ sym whole

    two : rest_of p new.section new.place ≡ lines
    two = ap (rest_of p new.section) all ∙ one

-- ---- another place of the section
pub calls_moved : (p : Program) (subroutine : Option ℕ) (spots : List Spot) (here new : Spot) → AreCalls p subroutine spots here → subroutine_in new ≡ subroutine_in here → AreCalls p subroutine spots new
calls_moved p subroutine [] here new calls same = same ∙ calls
calls_moved p subroutine (spot ∷ spots) here new calls same = (calls.0, calls_moved p (Some calls.0.callee) spots here new calls.1 same)

pub none_left : (spots : List Spot) → (0 < length spots → ⊥) → spots ≡ []
none_left [] none = refl
none_left (spot ∷ spots) none = absurd (none (omega arith))
