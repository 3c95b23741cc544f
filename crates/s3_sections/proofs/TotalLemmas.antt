-- No total line comes before the first of them, and no detail line after it.
use Rattle.std.proofs.Common.{◌≡◌, ℕ, ◌+◌, ◌<◌, ◌≤◌, List, [], ◌∷◌, true, false, refl, sym, ◌∙◌, ap, subst, arith, zero, suc, inl, inr, take, drop}
use Rattle.std.specs.Prelude.{Option, Some, None, filter, slice_get, is_some, nat_lt, if◌then◌else◌}
use Rattle.std.proofs.lemmas.Bool.{cases_Bool, true≢false}
use Rattle.std.proofs.lemmas.Bool.Decides.{nat_tests}
use Rattle.s3_lines.specs.declared.sheet.Operation.{Operation}
use Rattle.s3_lines.specs.declared.indicator.Condition.{Condition}
use Rattle.s3_lines.specs.declared.sheet.CalculationTime.{CalculationTime}
use Rattle.s3_lines.specs.declared.sheet.CalculationTime.TheVariants.{Detail, Total, Subroutine, And, Or}
use Rattle.s3_lines.specs.declared.sheet.CalculationLine.{CalculationLine}
use Rattle.s3_meaning.specs.Names.{entries}
use Rattle.s3_meaning.specs.Calculations.{Calculation, group_time, group_conditions, is_detail, is_total}
use Rattle.s3_meaning.specs.Source.{total_calculations}
use Rattle.s3_program.specs.declared.program.Program.{Program}
use Rattle.s3_program.specs.declared.program.Reference.{Reference}
use Rattle.s3_program.specs.declared.standing.CalculationStanding.{CalculationStanding}
use Rattle.s3_program.specs.declared.starts.Sections.{Sections}
use Rattle.s3_program.specs.Standings.{goes_on, time_on, part_on, first_calculation, behind_calculation}
use Rattle.s3_program.specs.Inner.Starts.{first_from, begins_totals}
use Rattle.s3_program.specs.Inner.Valid.{named}
use Rattle.s3_program.specs.Inner.Stands.{source_named}
use Rattle.s3_operations.specs.Inner.Fits.{named_line}
use Rattle.s3_sections.specs.declared.spot.Section.TheVariants as section
use Rattle.s3_sections.specs.Inner.Sections.{rest_of, standing_behind, standing_at, is_total_time}
use Rattle.s3_sections.specs.Inner.Spots.{IsIn, IsSpot}
use Rattle.s3_sections.proofs.SheetLemmas.{AllSit, Keeps, own_time, some_same, rank, own_rank, keeps_behind}
use Rattle.s3_sections.proofs.CutLemmas.{named_calculations, none_some, agrees_on}
use Rattle.s3_sections.proofs.SpotLemmas.{is_total_so, ordered, no_detail, sheet_sits, sheet_keeps, get_drop}

-- the number of lines before the first total or SR line
early : List (CalculationLine Reference) → ℕ
early [] = 0
early (line ∷ lines) = if begins_totals line.time then 0 else suc (early lines)

first_early : (k : ℕ) (lines : List (CalculationLine Reference)) → first_from (λ (line : CalculationLine Reference). begins_totals line.time) k lines ≡ k + early lines
unfolding first_from early
first_early k [] = omega arith
first_early k (line ∷ lines) = elim (cases_Bool (begins_totals line.time)) [
  | inl late ↦ rw late (omega arith)
  | inr on ↦ rw on (first_early (k + 1) lines ∙ omega arith)
]

early_line : (lines : List (CalculationLine Reference)) (line : CalculationLine Reference) → slice_get lines (early lines) ≡ Some line → begins_totals line.time ≡ true
unfolding early
early_line [] line there = absurd (none_some line there)
early_line (l ∷ ls) line there = elim (cases_Bool (begins_totals l.time)) [
  | inl late ↦ ap (λ (x : CalculationLine Reference). begins_totals x.time) (sym (some_same l line (rw late at there))) ∙ late
  | inr on ↦ early_line ls line (rw on at there)
]

-- ---- no total line before
abbrev body : Program → CalculationLine Reference → List (CalculationLine Reference) → CalculationTime → List (List Condition) → List Calculation
body p line lines own conditions =
    if is_some line.operation
    then record { time = own; groups = conditions; line = named_line p line } ∷ named_calculations p own (if is_some line.operation then [] else conditions) lines
    else named_calculations p own (if is_some line.operation then [] else conditions) lines

alone_time : (time next : CalculationTime) → begins_totals next ≡ true → group_time time next ≡ next
alone_time time Detail h = refl
alone_time time (Total level) h = refl
alone_time time Subroutine h = refl
alone_time time And h = absurd (true≢false (sym h))
alone_time time Or h = absurd (true≢false (sym h))

alone_group : (groups : List (List Condition)) (next : CalculationTime) (conditions : List Condition) → begins_totals next ≡ true → group_conditions groups next conditions ≡ conditions ∷ []
alone_group [] Detail conditions h = refl
alone_group [] (Total level) conditions h = refl
alone_group [] Subroutine conditions h = refl
alone_group [] And conditions h = absurd (true≢false (sym h))
alone_group [] Or conditions h = absurd (true≢false (sym h))
alone_group (g ∷ gs) Detail conditions h = refl
alone_group (g ∷ gs) (Total level) conditions h = refl
alone_group (g ∷ gs) Subroutine conditions h = refl
alone_group (g ∷ gs) And conditions h = absurd (true≢false (sym h))
alone_group (g ∷ gs) Or conditions h = absurd (true≢false (sym h))

early_time : (time next : CalculationTime) → begins_totals time ≡ false → begins_totals next ≡ false → begins_totals (group_time time next) ≡ false
early_time time Detail h n = refl
early_time time (Total level) h n = n
early_time time Subroutine h n = n
early_time time And h n = h
early_time time Or h n = h

not_total : (c : Calculation) → begins_totals c.time ≡ false → is_total c ≡ false
not_total c h = is_total_so c ∙ step c.time h
  where
    step : (time : CalculationTime) → begins_totals time ≡ false → is_total_time time ≡ false
    step Detail h = refl
    step (Total level) h = h
    step Subroutine h = refl
    step And h = refl
    step Or h = refl

skipped : (p : Program) (time : CalculationTime) (groups : List (List Condition)) (lines : List (CalculationLine Reference)) → begins_totals time ≡ false
    → filter is_total (named_calculations p time groups lines) ≡ filter is_total (named_calculations p Detail [] (drop (early lines) lines))
unfolding early
skipped p time groups [] h = refl
skipped p time groups (l ∷ ls) h = elim (cases_Bool (begins_totals l.time)) [
  | inl late ↦
      let one : body p l ls (group_time time l.time) (group_conditions groups l.time (entries l.conditions)) ≡ body p l ls l.time (entries l.conditions ∷ []) =
      λ i. body p l ls (alone_time time l.time late i) (alone_group groups l.time (entries l.conditions) late i) in
      let two : body p l ls (group_time Detail l.time) (group_conditions [] l.time (entries l.conditions)) ≡ body p l ls l.time (entries l.conditions ∷ []) =
      λ i. body p l ls (alone_time Detail l.time late i) (alone_group [] l.time (entries l.conditions) late i) in
      let place : (if begins_totals l.time then 0 else suc (early ls)) ≡ 0 = ap (λ b. if b then 0 else suc (early ls)) late in
      ap (filter is_total) (one ∙ sym two) ∙ ap (λ n. filter is_total (named_calculations p Detail [] (drop n (l ∷ ls)))) (sym place)
  | inr on ↦
      let own : begins_totals (group_time time l.time) ≡ false = early_time time l.time h on in
      let place : (if begins_totals l.time then 0 else suc (early ls)) ≡ suc (early ls) = ap (λ b. if b then 0 else suc (early ls)) on in
      elim (cases_Bool (is_some l.operation)) [
        | inl operates ↦
            rw place
            (rw operates
            (rw (not_total (record { time = group_time time l.time; groups = group_conditions groups l.time (entries l.conditions); line = named_line p l }) own) (skipped p (group_time time l.time) [] ls own)))
        | inr unfinished ↦ rw place (rw unfinished (skipped p (group_time time l.time) (group_conditions groups l.time (entries l.conditions)) ls own))
      ]
]

-- ---- no detail line after
late_rank : (time : CalculationTime) → begins_totals time ≡ true → 1 ≤ rank time
unfolding rank
late_rank Detail h = absurd (true≢false (sym h))
late_rank (Total level) h = omega arith
late_rank Subroutine h = omega arith
late_rank And h = absurd (true≢false (sym h))
late_rank Or h = absurd (true≢false (sym h))

late_apart : (time : CalculationTime) → begins_totals time ≡ true → goes_on time ≡ false
late_apart Detail h = refl
late_apart (Total level) h = refl
late_apart Subroutine h = refl
late_apart And h = absurd (true≢false (sym h))
late_apart Or h = absurd (true≢false (sym h))

own_late : (at : CalculationStanding) (line : CalculationLine Reference) → begins_totals line.time ≡ true → own_time at line ≡ line.time
own_late at line h = step line.time h
  where
    step : (time : CalculationTime) → begins_totals time ≡ true → own_time at (record line { time = time }) ≡ time
    step Detail h = refl
    step (Total level) h = refl
    step Subroutine h = refl
    step And h = absurd (true≢false (sym h))
    step Or h = absurd (true≢false (sym h))

late_only : (p : Program) (at : CalculationStanding) (lines : List (CalculationLine Reference)) → AllSit at lines → Keeps at lines
    → ((line : CalculationLine Reference) → slice_get lines 0 ≡ Some line → begins_totals line.time ≡ true) → filter is_detail (named_calculations p Detail [] lines) ≡ []
unfolding AllSit
late_only p at [] all keeps begins = refl
late_only p at (l ∷ ls) all keeps begins =
    let late : begins_totals l.time ≡ true = begins l refl in
    let own : group_time Detail l.time ≡ own_time at l = alone_time Detail l.time late ∙ sym (own_late at l late) in
    let ranks = own_rank at.part at.group l.time keeps.small keeps.ranked all.0.timely all.0.grouped in
    let here : 1 ≤ rank (group_time Detail l.time) = rw (alone_time Detail l.time late) (late_rank l.time late) in
    let reached : 1 ≤ part_on at.part l.time = rw (sym ranks) (rw (sym own) here) in
    let agrees' = agrees_on at l Detail own in
    let keeps' : Keeps (behind_calculation at l) ls = keeps_behind at l ls all.0 keeps in
    elim (cases_Bool (is_some l.operation)) [
      | inl operates ↦
          rw operates
          (rw (no_detail (record { time = group_time Detail l.time; groups = group_conditions [] l.time (entries l.conditions); line = named_line p l }) here)
          (ordered p (behind_calculation at l) (group_time Detail l.time) [] ls 1 is_detail all.1 keeps' agrees' reached no_detail))
      | inr unfinished ↦
          rw unfinished (ordered p (behind_calculation at l) (group_time Detail l.time) (group_conditions [] l.time (entries l.conditions)) ls 1 is_detail all.1 keeps' agrees' reached no_detail)
    ]

-- ---- of a program
totals_are : (p : Program) → p.starts.sections.totals ≡ early p.calculations.items
totals_are p = ap (λ (s : Sections). s.totals) p.starting.sections ∙ first_early 0 p.calculations.items ∙ omega arith

totals_in : (p : Program) (place : ℕ) → place ≡ p.starts.sections.totals → IsIn p section.Total place place
totals_in p place at = record {
  apart = λ line there. late_apart line.time (begins line there);
  continues = (
    at,
    late_only p (standing_at p place) (drop place p.calculations.items) (sheet_sits p place) (sheet_keeps p place)
        (λ line there.
        let e : place + 0 ≡ place = omega arith in
        begins line (ap (slice_get p.calculations.items) (sym e) ∙ (sym (get_drop p.calculations.items place 0) ∙ there))),
  );
}
  where
    begins : (line : CalculationLine Reference) → slice_get p.calculations.items place ≡ Some line → begins_totals line.time ≡ true
    begins line there = early_line p.calculations.items line (ap (slice_get p.calculations.items) (sym (totals_are p) ∙ sym at) ∙ there)

pub totals_spot : (p : Program) → IsSpot p (record { section = section.Total; begin = p.starts.sections.totals; place = p.starts.sections.totals })
totals_spot p = let i = totals_in p p.starts.sections.totals refl in record { first = i; here = i }

pub totals_whole : (p : Program) → total_calculations (source_named p) ≡ rest_of p section.Total p.starts.sections.totals
unfolding named
totals_whole p = skipped p Detail [] p.calculations.items refl ∙ ap (λ n. rest_of p section.Total n) (sym (totals_are p))

no_less : (n : ℕ) → n < 0 → ⊥
no_less n h = omega (arith, h)

less : (m n : ℕ) → suc m < suc n → m < n
less m n h = omega (arith, h)

ap_less : {m n : ℕ} (k : ℕ) → m ≡ n → k < m → k < n
ap_less k e h = subst (λ n. k < n) e h

own_early : (group : Option CalculationTime) (time : CalculationTime) → ((t : CalculationTime) → group ≡ Some t → begins_totals t ≡ false) → begins_totals time ≡ false → begins_totals (time_on group time) ≡ false
own_early group Detail early_group h = refl
own_early group (Total level) early_group h = h
own_early group Subroutine early_group h = h
own_early None And early_group h = refl
own_early (Some t) And early_group h = early_group t refl
own_early None Or early_group h = refl
own_early (Some t) Or early_group h = early_group t refl

group_early : (at : CalculationStanding) (line : CalculationLine Reference) (time : CalculationTime) → ((t : CalculationTime) → at.group ≡ Some t → begins_totals t ≡ false) → begins_totals line.time ≡ false
    → (behind_calculation at line).group ≡ Some time → begins_totals time ≡ false
group_early at line time group h g = step line.operation g
  where
    step : (o : Option Operation) → (behind_calculation at (record line { operation = o })).group ≡ Some time → begins_totals time ≡ false
    step None g = ap begins_totals (sym (some_same (own_time at line) time g)) ∙ own_early at.group line.time group h
    step (Some operation) g = absurd (none_some time g)

total_late : (time : CalculationTime) → is_total_time time ≡ true → begins_totals time ≡ true
total_late (Total level) h = refl
total_late Detail h = absurd (true≢false (sym h))
total_late Subroutine h = absurd (true≢false (sym h))
total_late And h = absurd (true≢false (sym h))
total_late Or h = absurd (true≢false (sym h))

-- before the first total or SR line no group has such a level entry
before_totals : (at : CalculationStanding) (lines : List (CalculationLine Reference)) (n : ℕ) (line : CalculationLine Reference) → n < early lines → slice_get lines n ≡ Some line
    → ((time : CalculationTime) → at.group ≡ Some time → begins_totals time ≡ false)
    → begins_totals (own_time (standing_behind at (take n lines)) line) ≡ false
unfolding early standing_behind
before_totals at [] n line below there group = absurd (none_some line there)
before_totals at (l ∷ ls) zero line below there group =
    let same : l ≡ line = some_same l line there in
    elim (cases_Bool (begins_totals l.time)) [
      | inl late ↦ absurd (no_less 0 (rw late at below))
      | inr on ↦ own_early at.group line.time group (ap (λ (x : CalculationLine Reference). begins_totals x.time) (sym same) ∙ on)
    ]
before_totals at (l ∷ ls) (suc n) line below there group =
    elim (cases_Bool (begins_totals l.time)) [
      | inl late ↦ absurd (no_less (suc n) (rw late at below))
      | inr on ↦ before_totals (behind_calculation at l) ls n line (less n (early ls) (rw on at below)) there (λ time h. group_early at l time group on h)
    ]

pub behind_totals : (p : Program) (k : ℕ) (line : CalculationLine Reference) → slice_get p.calculations.items k ≡ Some line → is_total_time (own_time (standing_at p k) line) ≡ true
    → p.starts.sections.totals ≤ k
behind_totals p k line there total =
    elim (cases_Bool (nat_lt k p.starts.sections.totals)) [
      | inl below ↦
          let b : k < p.starts.sections.totals = grind (arith, nat_tests, below) in
          absurd (true≢false (sym (total_late (own_time (standing_at p k) line) total)
          ∙ before_totals first_calculation p.calculations.items k line (ap_less k (totals_are p) b) there (λ time h. absurd (none_some time h))))
      | inr past ↦ grind (arith, nat_tests, past)
    ]
