-- A GOTO to a tag of its section, and an EXSR.
use Rattle.std.proofs.Common.{◌≡◌, ℕ, ◌+◌, ◌-◌, ◌<◌, ◌≤◌, List, [], ◌∷◌, ◌++◌, Bool, true, false, ◌&&◌, ◌||◌, refl, sym, ◌∙◌, ap, subst, arith, zero, suc, inl, inr, take, drop, length}
use Rattle.std.specs.Prelude.{Option, Some, None, map, filter, slice_get, is_some, option_map, if◌then◌else◌}
use Rattle.std.specs.List.{list_any}
use Rattle.std.proofs.lemmas.Bool.{cases_Bool, true≢false}
use Rattle.std.proofs.lemmas.List.Elements.{filter-append}
use Rattle.std.proofs.lemmas.Option.{slice_get-map, slice_get_within}
use Rattle.s3_cards.specs.declared.name.Name.{Name}
use Rattle.s3_lines.specs.declared.sheet.Factor.{Factor}
use Rattle.s3_program.specs.declared.program.Defined.{Defined}
use Rattle.s3_program.specs.declared.program.TagPlace.{TagPlace}
use Rattle.s3_program.specs.declared.program.SubroutinePlace.{SubroutinePlace}
use Rattle.s3_program.specs.Places.{Verb, ends_group, is_astray}
use Rattle.s3_program.specs.Inner.Valid.{entry_of, named}
use Rattle.s3_program.specs.Inner.Stands.{source_named}
use Rattle.s3_lines.specs.declared.sheet.Operation.{Operation}
use Rattle.s3_lines.specs.declared.sheet.Operation.TheVariants as op
use Rattle.s3_lines.specs.declared.sheet.CalculationTime.{CalculationTime}
use Rattle.s3_lines.specs.declared.sheet.CalculationTime.TheVariants.{Detail, Total, Subroutine, And, Or}
use Rattle.s3_lines.specs.declared.sheet.CalculationLine.{CalculationLine}
use Rattle.s3_meaning.specs.Runs.{Rest, Anew}
use Rattle.s3_meaning.specs.Source.{Source, until_end, body, body_in}
use Rattle.s3_meaning.specs.Calculations.{Calculation, name_in, is_detail, is_total, is_tag, begins, ends}
use Rattle.s3_meaning.specs.Calculating.{calculated, has_tag, after_tag}
use Rattle.s3_program.specs.declared.program.Program.{Program}
use Rattle.s3_program.specs.declared.program.Reference.{Reference}
use Rattle.s3_program.specs.declared.standing.CalculationStanding.{CalculationStanding}
use Rattle.s3_program.specs.Standings.{goes_on, section_on, subroutine_section, own_subroutine, subroutine_behind, begins_subroutine, ends_subroutine, first_calculation, behind_calculation}
use Rattle.s3_program.specs.Conditions.{verb_of}
use Rattle.s3_operations.specs.Inner.Fits.{named_line, named_factor}
use Rattle.s3_sections.specs.declared.spot.Section.{Section}
use Rattle.s3_sections.specs.declared.spot.Section.TheVariants as section
use Rattle.s3_sections.specs.declared.spot.Spot.{Spot}
use Rattle.s3_sections.specs.Inner.Jumps.{named_in, tag_place, subroutine_place, GoesBelow, GoesAbove}
use Rattle.s3_sections.specs.Inner.Sections.{lines_from, rest_of, standing_behind, standing_at, is_detail_time, is_total_time, number_at, number_of}
use Rattle.s3_sections.specs.Inner.Spots.{IsOpen, Continues, IsIn, IsSpot, IsLineAt, IsOfSection}
use Rattle.s3_sections.proofs.SheetLemmas.{or_parts, standing_further, standing_more, AllSit, Keeps, own_time, some_same, sits_at, keeps_behind}
use Rattle.s3_sections.proofs.CutLemmas.{none_some, none_of}
use Rattle.s3_sections.proofs.TotalLemmas.{behind_totals}
use Rattle.s3_sections.proofs.LabelLemmas.{place_at, TagNamed, TagAt, tag_at, tag_name, SubroutineNamed, subroutine_at, subroutine_name}
use Rattle.s3_sections.proofs.NameLemmas.{is_tag_card, other_tag, this_tag, stays_inside, begins_card, other_subroutine, this_subroutine}
use Rattle.s3_sections.proofs.SpotLemmas.{CutAt, cut_to, Inside, inside, is_detail_so, is_total_so, ends_so, not_both, sheet, sheet_keeps, sheet_sits, InsideLine, inside_line, get_drop, begins_next, begins_first}

-- ---- calculations split at a tag
pub passed : (source : Source) (anew : Anew) (whole : List Calculation) (go : Rest) (tag : Name) (before : List Calculation) (c : Calculation) (behind : List Calculation) → list_any (is_tag tag) before ≡ false
    → is_tag tag c ≡ true → calculated source anew whole go (Some tag) (before ++ c ∷ behind) ≡ calculated source anew whole go None behind
unfolding calculated
passed source anew whole go tag [] c behind none is =
    λ i e. (ap (λ (b : Bool). (if b then calculated source anew whole go None behind else calculated source anew whole go (Some tag) behind) e) is) i
passed source anew whole go tag (d ∷ ds) c behind none is =
    let parts = or_parts (is_tag tag d) (list_any (is_tag tag) ds) none in
    let one : calculated source anew whole go (Some tag) ((d ∷ ds) ++ c ∷ behind) ≡ calculated source anew whole go (Some tag) (ds ++ c ∷ behind) =
    λ i e. (ap (λ (b : Bool). (if b then calculated source anew whole go None (ds ++ c ∷ behind) else calculated source anew whole go (Some tag) (ds ++ c ∷ behind)) e) parts.0) i in
    one ∙ passed source anew whole go tag ds c behind parts.1 is

pub tag_there : (tag : Name) (before : List Calculation) (c : Calculation) (behind : List Calculation) → is_tag tag c ≡ true → has_tag tag (before ++ c ∷ behind) ≡ true
tag_there tag [] c behind is = rw is refl
tag_there tag (d ∷ ds) c behind is = rw (tag_there tag ds c behind is) (always (is_tag tag d))
  where
    always : (b : Bool) → (b || true) ≡ true
    always true = refl
    always false = refl

pub behind_tag : (tag : Name) (before : List Calculation) (c : Calculation) (behind : List Calculation) → list_any (is_tag tag) before ≡ false → is_tag tag c ≡ true → after_tag tag (before ++ c ∷ behind) ≡ behind
behind_tag tag [] c behind none is = rw is refl
behind_tag tag (d ∷ ds) c behind none is = let parts = or_parts (is_tag tag d) (list_any (is_tag tag) ds) none in rw parts.0 (behind_tag tag ds c behind parts.1 is)

pub body_behind : (name : Name) (before : List Calculation) (c : Calculation) (behind : List Calculation) → list_any (begins name) before ≡ false → begins name c ≡ true
    → body_in name (before ++ c ∷ behind) ≡ until_end behind
body_behind name [] c behind none is = rw is refl
body_behind name (d ∷ ds) c behind none is = let parts = or_parts (begins name d) (list_any (begins name) ds) none in rw parts.0 (body_behind name ds c behind parts.1 is)

none_filtered : (test keep : Calculation → Bool) (cs : List Calculation) → list_any test cs ≡ false → list_any test (filter keep cs) ≡ false
none_filtered test keep [] none = refl
none_filtered test keep (c ∷ cs) none =
    let parts = or_parts (test c) (list_any test cs) none in
    elim (cases_Bool (keep c)) [
      | inl kept ↦ rw kept (rw parts.0 (none_filtered test keep cs parts.1))
      | inr dropped ↦ rw dropped (none_filtered test keep cs parts.1)
    ]

none_ended : (test : Calculation → Bool) (cs : List Calculation) → list_any test cs ≡ false → list_any test (until_end cs) ≡ false
none_ended test [] none = refl
none_ended test (c ∷ cs) none =
    let parts = or_parts (test c) (list_any test cs) none in
    elim (cases_Bool (ends c)) [
      | inl last ↦ rw last refl
      | inr on ↦ rw on (rw parts.0 (none_ended test cs parts.1))
    ]

until_later : (before : List Calculation) (c : Calculation) (behind : List Calculation) → list_any ends before ≡ false → ends c ≡ false → until_end (before ++ c ∷ behind) ≡ before ++ c ∷ until_end behind
until_later [] c behind none on = rw on refl
until_later (d ∷ ds) c behind none on = let parts = or_parts (ends d) (list_any ends ds) none in rw parts.0 (ap (λ (cs : List Calculation). d ∷ cs) (until_later ds c behind parts.1 on))

nothing_behind : (xs ys : List Calculation) → xs ++ ys ≡ [] → ys ≡ []
nothing_behind [] ys h = h
nothing_behind (x ∷ xs) ys h = absurd (none_some x (sym (ap (λ (cs : List Calculation). slice_get cs 0) h)))

-- ---- a section split at one of its lines
pub record Split (p : Program) (sec : Section) (begin k t : ℕ) (line : CalculationLine Reference) : Type 0 where
  pub before : List Calculation
  pub calculation : Calculation
  pub is : calculation.line ≡ named_line p line
  pub joins : rest_of p sec k ≡ before ++ calculation ∷ rest_of p sec (suc t)
  pub none : (test : CalculationLine Name → Bool)
      → ((j : ℕ) (other : CalculationLine Reference) → k ≤ j → j < t → slice_get p.calculations.items j ≡ Some other → is_some other.operation ≡ true → test (named_line p other) ≡ false)
      → list_any (λ (c : Calculation). test c.line) before ≡ false
  pub behind : Continues p sec begin (suc t)

numbered_detail : (at : CalculationStanding) (time : CalculationTime) (o : Option Operation) → goes_on time ≡ false → section_on at time o ≡ 0 → is_detail_time time ≡ true
numbered_detail at Detail o grouped h = refl
numbered_detail at (Total level) o grouped h = absurd (omega (arith, h))
numbered_detail at Subroutine o grouped h = absurd (no_subroutine (own_subroutine at.place at.subroutine o) h)
  where
    no_subroutine : (b : Option ℕ) → subroutine_section b ≡ 0 → ⊥
    no_subroutine None h = omega (arith, h)
    no_subroutine (Some b) h = omega (arith, h)
numbered_detail at And o grouped h = absurd (true≢false grouped)
numbered_detail at Or o grouped h = absurd (true≢false grouped)

numbered_total : (at : CalculationStanding) (time : CalculationTime) (o : Option Operation) → goes_on time ≡ false → section_on at time o ≡ 1 → is_total_time time ≡ true
numbered_total at (Total level) o grouped h = refl
numbered_total at Detail o grouped h = absurd (omega (arith, h))
numbered_total at Subroutine o grouped h = absurd (no_subroutine (own_subroutine at.place at.subroutine o) h)
  where
    no_subroutine : (b : Option ℕ) → subroutine_section b ≡ 1 → ⊥
    no_subroutine None h = omega (arith, h)
    no_subroutine (Some b) h = omega (arith, h)
numbered_total at And o grouped h = absurd (true≢false grouped)
numbered_total at Or o grouped h = absurd (true≢false grouped)

numbered_open : (at : CalculationStanding) (time : CalculationTime) (o : Option Operation) (begsr : ℕ) → goes_on time ≡ false → begins_subroutine o ≡ false → section_on at time o ≡ begsr + 3
    → at.subroutine ≡ Some begsr
numbered_open at Subroutine o begsr grouped on h = step at.subroutine (ap (λ b. subroutine_section (if b then Some at.place else at.subroutine)) (sym on) ∙ h)
  where
    step : (b : Option ℕ) → subroutine_section b ≡ begsr + 3 → b ≡ Some begsr
    step None h = absurd (omega (arith, h))
    step (Some b) h = let e : b ≡ begsr = omega (arith, h) in ap (λ n. Some n) e
numbered_open at Detail o begsr grouped on h = absurd (omega (arith, h))
numbered_open at (Total level) o begsr grouped on h = absurd (omega (arith, h))
numbered_open at And o begsr grouped on h = absurd (true≢false grouped)
numbered_open at Or o begsr grouped on h = absurd (true≢false grouped)

-- ---- no ENDSR lies between two places of an open subroutine
never_opens : (at : CalculationStanding) (own : CalculationTime) (o : Option Operation) (begsr : ℕ) → (at.subroutine ≡ Some begsr → ⊥) → begsr < at.place → subroutine_behind at own o ≡ Some begsr → ⊥
never_opens at Detail o begsr closed below h = closed h
never_opens at (Total level) o begsr closed below h = closed h
never_opens at And o begsr closed below h = closed h
never_opens at Or o begsr closed below h = closed h
never_opens at Subroutine o begsr closed below h = elim (cases_Bool (ends_subroutine o)) [
  | inl last ↦ none_some begsr (rw last at h)
  | inr on ↦ elim (cases_Bool (begins_subroutine o)) [
    | inl first ↦ let e : at.place ≡ begsr = some_same at.place begsr (rw first at (rw on at h)) in absurd (omega (arith, e, below))
    | inr inner ↦ closed (rw inner at (rw on at h))
  ]
]

stays_closed : (at : CalculationStanding) (lines : List (CalculationLine Reference)) (n begsr : ℕ) → (at.subroutine ≡ Some begsr → ⊥) → begsr < at.place → (standing_behind at (take n lines)).subroutine ≡ Some begsr → ⊥
unfolding standing_behind
stays_closed at lines zero begsr closed below h = closed h
stays_closed at [] (suc n) begsr closed below h = closed h
stays_closed at (l ∷ ls) (suc n) begsr closed below h =
    stays_closed (behind_calculation at l) ls n begsr (λ o. never_opens at (own_time at l) l.operation begsr closed below o) (omega (arith, below)) h

unended : (at : CalculationStanding) (lines : List (CalculationLine Reference)) (n begsr : ℕ) → AllSit at lines → Keeps at lines → at.subroutine ≡ Some begsr
    → (standing_behind at (take n lines)).subroutine ≡ Some begsr → (j : ℕ) (other : CalculationLine Reference) → j < n → slice_get lines j ≡ Some other → ends_subroutine other.operation ≡ false
unfolding AllSit standing_behind
unended at [] n begsr all keeps opened still j other below there = absurd (none_some other there)
unended at (l ∷ ls) zero begsr all keeps opened still j other below there = absurd (omega (arith, below))
unended at (l ∷ ls) (suc n) begsr all keeps opened still j other below there =
    let i : InsideLine at l begsr = inside_line at l ls (map verb_of ls) begsr all.0 keeps opened in
    let here : ends_subroutine l.operation ≡ false = elim (cases_Bool (ends_subroutine l.operation)) [
      | inl last ↦
          absurd (stays_closed (behind_calculation at l) ls n begsr (λ o. none_some begsr (sym (i.over last) ∙ o)) (let e = keeps.earlier begsr opened in omega (arith, e)) still)
      | inr on ↦ on
    ] in
    step j below there here (unended (behind_calculation at l) ls n begsr all.1 (keeps_behind at l ls all.0 keeps) (i.behind here) still)
  where
    step : (j : ℕ) → j < suc n → slice_get (l ∷ ls) j ≡ Some other → ends_subroutine l.operation ≡ false
        → ((j : ℕ) (other : CalculationLine Reference) → j < n → slice_get ls j ≡ Some other → ends_subroutine other.operation ≡ false) → ends_subroutine other.operation ≡ false
    step zero below there here later = ap (λ (x : CalculationLine Reference). ends_subroutine x.operation) (sym (some_same l other there)) ∙ here
    step (suc j) below there here later = later j other (omega (arith, below)) there

open_between : (p : Program) (k t begsr : ℕ) → k ≤ t → (standing_at p k).subroutine ≡ Some begsr → (standing_at p t).subroutine ≡ Some begsr
    → (j : ℕ) (other : CalculationLine Reference) → k ≤ j → j < t → slice_get p.calculations.items j ≡ Some other → ends_subroutine other.operation ≡ false
open_between p k t begsr from opened still j other first below there =
    let items = p.calculations.items in
    let e : k + (t - k) ≡ t = omega (arith, from) in
    let e' : k + (j - k) ≡ j = omega (arith, first) in
    unended (standing_at p k) (drop k items) (t - k) begsr (sheet_sits p k) (sheet_keeps p k) opened
    (ap (λ (s : CalculationStanding). s.subroutine) (standing_further first_calculation items k (t - k) ∙ ap (λ m. standing_at p m) e) ∙ still)
    (j - k) other (omega (arith, first, below)) (get_drop items k (j - k) ∙ (ap (slice_get items) e' ∙ there))

-- ---- the split
any_same : {X : Type 0} (one two : X → Bool) → ((x : X) → one x ≡ two x) → (xs : List X) → list_any one xs ≡ list_any two xs
any_same one two same [] = refl
any_same one two same (x ∷ xs) = λ i. same x i || any_same one two same xs i

pub split : (p : Program) (sec : Section) (begin k t : ℕ) (line : CalculationLine Reference) → IsIn p sec begin k → k ≤ t → slice_get p.calculations.items t ≡ Some line → is_some line.operation ≡ true
    → begins_subroutine line.operation ≡ false → ends_subroutine line.operation ≡ false → number_at p t line ≡ number_of sec begin → Split p sec begin k t line
split p section.Detail begin k t line is from there whole unbegun unended numbered =
    let c : CutAt p k t line = cut_to p k t line from is.apart there whole in
    let s = sits_at first_calculation p.calculations.items t line (sheet p) there in
    let timed : is_detail c.calculation ≡ true = is_detail_so c.calculation ∙ (ap is_detail_time c.time ∙ numbered_detail (standing_at p t) (own_time (standing_at p t) line) line.operation s.1.grouped numbered) in
    record {
      before = filter is_detail c.before;
      calculation = c.calculation;
      is = c.is;
      joins = ap (filter is_detail) c.joins ∙ (filter-append is_detail c.before (c.calculation ∷ lines_from p (suc t)) ∙ rw timed refl);
      none = λ test others. none_filtered (λ d. test d.line) is_detail c.before (c.none test others);
      behind = is.continues;
    }
split p section.Total begin k t line is from there whole unbegun unended numbered =
    let c : CutAt p k t line = cut_to p k t line from is.apart there whole in
    let s = sits_at first_calculation p.calculations.items t line (sheet p) there in
    let total : is_total_time c.calculation.time ≡ true = ap is_total_time c.time ∙ numbered_total (standing_at p t) (own_time (standing_at p t) line) line.operation s.1.grouped numbered in
    let timed : is_total c.calculation ≡ true = is_total_so c.calculation ∙ total in
    let other : is_detail c.calculation ≡ false = is_detail_so c.calculation ∙ not_both c.calculation.time total in
    let rest : filter is_detail c.before ++ filter is_detail (c.calculation ∷ lines_from p (suc t)) ≡ [] =
    sym (filter-append is_detail c.before (c.calculation ∷ lines_from p (suc t))) ∙ (ap (filter is_detail) (sym c.joins) ∙ is.continues.1) in
    let rest' : filter is_detail (c.calculation ∷ lines_from p (suc t)) ≡ [] = nothing_behind (filter is_detail c.before) _ rest in
    record {
      before = filter is_total c.before;
      calculation = c.calculation;
      is = c.is;
      joins = ap (filter is_total) c.joins ∙ (filter-append is_total c.before (c.calculation ∷ lines_from p (suc t)) ∙ rw timed refl);
      none = λ test others. none_filtered (λ d. test d.line) is_total c.before (c.none test others);
      behind = (is.continues.0, rw other at rest');
    }
split p section.Subroutine begin k t line is from there whole unbegun ended numbered =
    let c : CutAt p k t line = cut_to p k t line from is.apart there whole in
    let s = sits_at first_calculation p.calculations.items t line (sheet p) there in
    let o : IsOpen p begin k = is.continues in
    let e : number_at p t line ≡ o.begsr + 3 = (let b = o.behind in numbered ∙ omega (arith, b)) in
    let still : (standing_at p t).subroutine ≡ Some o.begsr = numbered_open (standing_at p t) (own_time (standing_at p t) line) line.operation o.begsr s.1.grouped unbegun e in
    let i : Inside p t o.begsr line = inside p t o.begsr line there still in
    let none_ends : list_any ends c.before ≡ false =
    any_same ends (λ (d : Calculation). ends_subroutine d.line.operation) ends_so c.before
    ∙ c.none (λ card. ends_subroutine card.operation) (λ j other first below at whole'. open_between p k t o.begsr from o.still still j other first below at) in
    let on : ends c.calculation ≡ false = ends_so c.calculation ∙ (ap (λ (l : CalculationLine Name). ends_subroutine l.operation) c.is ∙ ended) in
    record {
      before = c.before;
      calculation = c.calculation;
      is = c.is;
      joins = ap until_end c.joins ∙ until_later c.before c.calculation (lines_from p (suc t)) none_ends on;
      none = c.none;
      behind = record { begsr = o.begsr; behind = o.behind; still = i.behind ended };
    }

-- ---- GOTO
-- a line of a section comes at or after the section's beginning
begins_above : (p : Program) (sec : Section) (begin k : ℕ) (line : CalculationLine Reference) → Continues p sec begin begin → slice_get p.calculations.items k ≡ Some line
    → begins_subroutine line.operation ≡ false → number_at p k line ≡ number_of sec begin → begin ≤ k
begins_above p section.Detail begin k line is there unbegun numbered = omega (arith, is)
begins_above p section.Total begin k line is there unbegun numbered =
    let s = sits_at first_calculation p.calculations.items k line (sheet p) there in
    let late = behind_totals p k line there (numbered_total (standing_at p k) (own_time (standing_at p k) line) line.operation s.1.grouped numbered) in
    let e = is.0 in
    omega (arith, e, late)
begins_above p section.Subroutine begin k line is there unbegun numbered =
    let s = sits_at first_calculation p.calculations.items k line (sheet p) there in
    let e : number_at p k line ≡ is.begsr + 3 = (let b = is.behind in numbered ∙ omega (arith, b)) in
    let still : (standing_at p k).subroutine ≡ Some is.begsr = numbered_open (standing_at p k) (own_time (standing_at p k) line) line.operation is.begsr s.1.grouped unbegun e in
    let earlier = (sheet_keeps p k).earlier is.begsr still in
    let place = place_at first_calculation p.calculations.items k line there in
    let b = is.behind in
    omega (arith, b, earlier, place)

card_tag : (name : Name) (c : Calculation) → is_tag name c ≡ is_tag_card name c.line
card_tag name c = refl

-- a section continues after each of its lines that isn't BEGSR or ENDSR
pub behind_line : (p : Program) (spot : Spot) (place : ℕ) (line : CalculationLine Reference) → IsSpot p spot → slice_get p.calculations.items place ≡ Some line → is_some line.operation ≡ true
    → begins_subroutine line.operation ≡ false → ends_subroutine line.operation ≡ false → IsOfSection p spot place line → IsIn p spot.section spot.begin (suc place)
behind_line p spot place line is there whole unbegun unended inside =
    let above = begins_above p spot.section spot.begin place line is.first.continues there unbegun inside in
    record { apart = begins_next p place line there whole; continues = (split p spot.section spot.begin spot.begin place line is.first above there whole unbegun unended inside).behind }

behind_goto : (p : Program) (spot : Spot) (place : ℕ) (line : CalculationLine Reference) → IsSpot p spot → IsLineAt p place line op.GoTo → IsOfSection p spot place line → IsIn p spot.section spot.begin (suc place)
behind_goto p spot place line is at inside = behind_line p spot place line is at.there (ap (λ o. is_some o) at.bears) (ap begins_subroutine at.bears) (ap ends_subroutine at.bears) inside

-- the split at the tag of a GOTO
pub record TagSplit (p : Program) (sec : Section) (begin k t : ℕ) (name : Name) : Type 0 where
  pub before : List Calculation
  pub calculation : Calculation
  pub joins : rest_of p sec k ≡ before ++ calculation ∷ rest_of p sec (suc t)
  pub none : list_any (is_tag name) before ≡ false
  pub is : is_tag name calculation ≡ true
  pub behind : IsIn p sec begin (suc t)

tag_split : (p : Program) (spot : Spot) (place k : ℕ) (line : CalculationLine Reference) → IsLineAt p place line op.GoTo → IsOfSection p spot place line → (t : TagNamed p line.factor2)
    → IsIn p spot.section spot.begin k → k ≤ t.entry.1.place → TagSplit p spot.section spot.begin k t.entry.1.place t.entry.0
tag_split p spot place k line at inside t is from =
    let tag : TagAt p t.entry.1 = tag_at p t.slot t.entry t.there in
    let whole : is_some tag.line.operation ≡ true = ap (λ o. is_some o) tag.is.bears in
    let numbered : number_at p t.entry.1.place tag.line ≡ number_of spot.section spot.begin = sym tag.section ∙ (stays_inside p place line at t ∙ inside) in
    let s : Split p spot.section spot.begin k t.entry.1.place tag.line =
    split p spot.section spot.begin k t.entry.1.place tag.line is from tag.is.there whole (ap begins_subroutine tag.is.bears) (ap ends_subroutine tag.is.bears) numbered in
    record {
      before = s.before;
      calculation = s.calculation;
      joins = s.joins;
      none = any_same (is_tag t.entry.0) (λ (c : Calculation). is_tag_card t.entry.0 c.line) (card_tag t.entry.0) s.before
          ∙ s.none (is_tag_card t.entry.0) (λ j other first below there whole'. other_tag p t.slot t.entry t.there j other there (λ e. absurd (omega (arith, e, below))));
      is = card_tag t.entry.0 s.calculation ∙ (ap (is_tag_card t.entry.0) s.is ∙ this_tag p t.slot t.entry t.there tag.line tag.is);
      behind = record { apart = begins_next p t.entry.1.place tag.line tag.is.there whole; continues = s.behind };
    }

-- the spot at a place of the same section
abbrev pub target : Spot → ℕ → Spot
target spot place = record { section = spot.section; begin = spot.begin; place = place }

pub goes_below : (p : Program) (spot : Spot) (place : ℕ) (line : CalculationLine Reference) → IsSpot p spot → IsLineAt p place line op.GoTo → IsOfSection p spot place line → (t : TagNamed p line.factor2)
    → place < t.entry.1.place → GoesBelow p spot place (name_in (named_line p line).factor2) (target spot (suc t.entry.1.place))
goes_below p spot place line is at inside t below =
    let s : TagSplit p spot.section spot.begin (suc place) t.entry.1.place t.entry.0 = tag_split p spot place (suc place) line at inside t (behind_goto p spot place line is at inside) (omega (arith, below)) in
    subst (λ name. GoesBelow p spot place name (target spot (suc t.entry.1.place))) (sym (tag_name p line.factor2 t))
    (record {
      same = refl;
      is = record { first = is.first; here = s.behind };
      below = omega (arith, below);
      has = ap (has_tag t.entry.0) s.joins ∙ tag_there t.entry.0 s.before s.calculation (rest_of p spot.section (suc t.entry.1.place)) s.is;
      over = λ source anew whole go.
          ap (calculated source anew whole go (Some t.entry.0)) s.joins ∙ passed source anew whole go t.entry.0 s.before s.calculation (rest_of p spot.section (suc t.entry.1.place)) s.none s.is;
    })

none_left : (p : Program) (sec : Section) (place : ℕ) (test : Calculation → Bool) → list_any test (lines_from p place) ≡ false → list_any test (rest_of p sec place) ≡ false
none_left p section.Detail place test none = none_filtered test is_detail (lines_from p place) none
none_left p section.Total place test none = none_filtered test is_total (lines_from p place) none
none_left p section.Subroutine place test none = none_ended test (lines_from p place) none

pub goes_above : (p : Program) (spot : Spot) (place : ℕ) (line : CalculationLine Reference) → IsSpot p spot → IsLineAt p place line op.GoTo → IsOfSection p spot place line → (t : TagNamed p line.factor2)
    → t.entry.1.place ≤ place → GoesAbove p spot place (name_in (named_line p line).factor2) (target spot (suc t.entry.1.place))
goes_above p spot place line is at inside t above =
    let tag : TagAt p t.entry.1 = tag_at p t.slot t.entry t.there in
    let numbered : number_at p t.entry.1.place tag.line ≡ number_of spot.section spot.begin = sym tag.section ∙ (stays_inside p place line at t ∙ inside) in
    let from : spot.begin ≤ t.entry.1.place = begins_above p spot.section spot.begin t.entry.1.place tag.line is.first.continues tag.is.there (ap begins_subroutine tag.is.bears) numbered in
    let s : TagSplit p spot.section spot.begin spot.begin t.entry.1.place t.entry.0 = tag_split p spot place spot.begin line at inside t is.first from in
    let none : list_any (is_tag t.entry.0) (lines_from p (suc place)) ≡ false =
    any_same (is_tag t.entry.0) (λ (c : Calculation). is_tag_card t.entry.0 c.line) (card_tag t.entry.0) (lines_from p (suc place))
    ∙ none_of p Detail [] (drop (suc place) p.calculations.items) (is_tag_card t.entry.0)
    (λ j other there whole. other_tag p t.slot t.entry t.there (suc place + j) other (sym (get_drop p.calculations.items (suc place) j) ∙ there) (λ e. absurd (omega (arith, e, above)))) in
    subst (λ name. GoesAbove p spot place name (target spot (suc t.entry.1.place))) (sym (tag_name p line.factor2 t))
    (record {
      same = refl;
      is = record { first = is.first; here = s.behind };
      has = none_left p spot.section (suc place) (is_tag t.entry.0) none;
      behind = ap (after_tag t.entry.0) s.joins ∙ behind_tag t.entry.0 s.before s.calculation (rest_of p spot.section (suc t.entry.1.place)) s.none s.is;
    })

-- ---- the places in the tables
same_place : {X : Type 0} (place : X → ℕ) (o : Option (Defined X)) (entry : Name × X) → option_map entry_of o ≡ Some entry → option_map (λ (d : Defined X). place d.meaning) o ≡ Some (place entry.1)
same_place place None entry h = absurd (none_some entry h)
same_place {X} place (Some d) entry h = ap (λ (e : Name × X). Some (place e.1)) (some_same (entry_of d) entry h)

pub tag_known : (p : Program) (factor : Option (Factor Reference)) (t : TagNamed p factor) → tag_place p (named_in factor) ≡ Some t.entry.1.place
tag_known p factor t =
    ap (λ f. tag_place p (named_in f)) t.is
    ∙ same_place (λ (tag : TagPlace). tag.place) (slice_get p.tags.items t.slot) t.entry (sym (slice_get-map entry_of p.tags.items t.slot) ∙ t.there)

pub subroutine_known : (p : Program) (factor : Option (Factor Reference)) (t : SubroutineNamed p factor) → subroutine_place p (named_in factor) ≡ Some t.entry.1.place
subroutine_known p factor t =
    ap (λ f. subroutine_place p (named_in f)) t.is
    ∙ same_place (λ (subroutine : SubroutinePlace). subroutine.place) (slice_get p.subroutines.items t.slot) t.entry (sym (slice_get-map entry_of p.subroutines.items t.slot) ∙ t.there)

pub tag_within : (p : Program) (factor : Option (Factor Reference)) (t : TagNamed p factor) → t.entry.1.place < length p.calculations.items
tag_within p factor t = let tag : TagAt p t.entry.1 = tag_at p t.slot t.entry t.there in slice_get_within p.calculations.items t.entry.1.place tag.line tag.is.there

pub subroutine_within : (p : Program) (factor : Option (Factor Reference)) (t : SubroutineNamed p factor) → t.entry.1.place < length p.calculations.items
subroutine_within p factor t = let begsr = subroutine_at p t.slot t.entry t.there in slice_get_within p.calculations.items t.entry.1.place begsr.0 begsr.1.there

-- ---- EXSR
-- a BEGSR opens its subroutine
opens : (p : Program) (place : ℕ) (line : CalculationLine Reference) → IsLineAt p place line op.BeginSubroutine → (standing_at p (suc place)).subroutine ≡ Some place
opens p place line at =
    let s = sits_at first_calculation p.calculations.items place line (sheet p) at.there in
    let standing = standing_at p place in
    let timed : own_time standing line ≡ Subroutine =
    begun standing s.0 (own_time standing line) (ap (λ o. ends_group s.0 o && is_astray standing s.0 (own_time standing line) o) (sym at.bears) ∙ s.1.held) in
    ap (λ (x : CalculationStanding). x.subroutine) (standing_more first_calculation p.calculations.items place line at.there)
    ∙ (ap (λ o. subroutine_behind standing (own_time standing line) o) at.bears
    ∙ (ap (λ time. subroutine_behind standing time (Some op.BeginSubroutine)) timed ∙ ap (λ n. Some n) (place_at first_calculation p.calculations.items place line at.there ∙ omega arith)))
  where
    begun : (standing : CalculationStanding) (later : List Verb) (time : CalculationTime) → (ends_group later (Some op.BeginSubroutine) && is_astray standing later time (Some op.BeginSubroutine)) ≡ false → time ≡ Subroutine
    begun standing later Subroutine h = refl
    begun standing later Detail h = absurd (true≢false h)
    begun standing later (Total level) h = absurd (true≢false h)
    begun standing later And h = absurd (true≢false h)
    begun standing later Or h = absurd (true≢false h)

pub subroutine_spot : (p : Program) (factor : Option (Factor Reference)) (t : SubroutineNamed p factor)
    → IsSpot p (record { section = section.Subroutine; begin = suc t.entry.1.place; place = suc t.entry.1.place })
subroutine_spot p factor t =
    let begsr = subroutine_at p t.slot t.entry t.there in
    let is : IsIn p section.Subroutine (suc t.entry.1.place) (suc t.entry.1.place) =
    record {
      apart = begins_next p t.entry.1.place begsr.0 begsr.1.there (ap (λ o. is_some o) begsr.1.bears);
      continues = record { begsr = t.entry.1.place; behind = refl; still = opens p t.entry.1.place begsr.0 begsr.1 };
    } in
    record { first = is; here = is }

card_begins : (name : Name) (c : Calculation) → begins name c ≡ begins_card name c.line
card_begins name c = refl

pub subroutine_whole : (p : Program) (factor : Option (Factor Reference)) (t : SubroutineNamed p factor) → body (source_named p) (name_in (named_factor p factor)) ≡ rest_of p section.Subroutine (suc t.entry.1.place)
unfolding named
subroutine_whole p factor t =
    let begsr = subroutine_at p t.slot t.entry t.there in
    let whole : is_some begsr.0.operation ≡ true = ap (λ o. is_some o) begsr.1.bears in
    let c : CutAt p 0 t.entry.1.place begsr.0 = cut_to p 0 t.entry.1.place begsr.0 (omega arith) (begins_first p) begsr.1.there whole in
    let none : list_any (begins t.entry.0) c.before ≡ false =
    any_same (begins t.entry.0) (λ (d : Calculation). begins_card t.entry.0 d.line) (card_begins t.entry.0) c.before
    ∙ c.none (begins_card t.entry.0) (λ j other first below there whole'. other_subroutine p t.slot t.entry t.there j other there (λ e. absurd (omega (arith, e, below)))) in
    let is : begins t.entry.0 c.calculation ≡ true = card_begins t.entry.0 c.calculation ∙ (ap (begins_card t.entry.0) c.is ∙ this_subroutine p t.slot t.entry t.there begsr.0 begsr.1) in
    ap (λ name. body_in name (lines_from p 0)) (subroutine_name p factor t)
    ∙ (ap (body_in t.entry.0) c.joins ∙ body_behind t.entry.0 c.before c.calculation (lines_from p (suc t.entry.1.place)) none is)
