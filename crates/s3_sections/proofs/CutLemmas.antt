-- The calculations of a valid program, split at a line with an operation.
use Rattle.std.proofs.Common.{◌≡◌, ℕ, ◌<◌, List, [], ◌∷◌, ◌++◌, Bool, true, false, refl, sym, ◌∙◌, ap, subst, arith, zero, suc, inl, inr, take, drop}
use Rattle.std.specs.Prelude.{Option, Some, None, map, slice_get, is_some}
use Rattle.std.specs.List.{list_any}
use Rattle.std.proofs.lemmas.Bool.{cases_Bool, true≢false}
use Rattle.s3_cards.specs.declared.name.Name.{Name}
use Rattle.s3_lines.specs.declared.indicator.Condition.{Condition}
use Rattle.s3_lines.specs.declared.sheet.Operation.{Operation}
use Rattle.s3_lines.specs.declared.sheet.CalculationTime.{CalculationTime}
use Rattle.s3_lines.specs.declared.sheet.CalculationTime.TheVariants.{Detail, Total, Subroutine, And, Or}
use Rattle.s3_lines.specs.declared.sheet.CalculationLine.{CalculationLine}
use Rattle.s3_meaning.specs.Names.{entries}
use Rattle.s3_meaning.specs.Calculations.{Calculation, calculations_from, group_time, group_conditions}
use Rattle.s3_program.specs.declared.program.Program.{Program}
use Rattle.s3_program.specs.declared.program.Reference.{Reference}
use Rattle.s3_program.specs.declared.standing.CalculationStanding.{CalculationStanding}
use Rattle.s3_program.specs.Standings.{goes_on, time_on, behind_calculation}
use Rattle.s3_program.specs.Conditions.{verb_of}
use Rattle.s3_operations.specs.Inner.Fits.{named_line}
use Rattle.s3_sections.specs.Inner.Sections.{standing_behind}
use Rattle.s3_sections.proofs.SheetLemmas.{Sits, AllSit, own_time, some_same}

-- the calculations of lines with slots
abbrev pub named_calculations : Program → CalculationTime → List (List Condition) → List (CalculationLine Reference) → List Calculation
named_calculations p time groups lines = calculations_from time groups (map (named_line p) lines)

abbrev conditions_on : List (List Condition) → CalculationLine Reference → List (List Condition)
conditions_on groups line = group_conditions groups line.time (entries line.conditions)

pub none_some : {X : Type 0} (x : X) → None ≡ Some x → ⊥
none_some x h = true≢false (sym (ap (λ o. is_some o) h))

-- ---- level entries
-- the level entry carried to a line is its group's, if a group has begun
abbrev pub Agrees : CalculationStanding → CalculationTime → Type 0
Agrees at time = (group : CalculationTime) → at.group ≡ Some group → time ≡ group

pub owns : (group : Option CalculationTime) (time next : CalculationTime) → ((t : CalculationTime) → group ≡ Some t → time ≡ t) → goes_on (time_on group next) ≡ false → group_time time next ≡ time_on group next
owns group time Detail agrees grouped = refl
owns group time (Total level) agrees grouped = refl
owns group time Subroutine agrees grouped = refl
owns None time And agrees grouped = absurd (true≢false grouped)
owns (Some t) time And agrees grouped = agrees t refl
owns None time Or agrees grouped = absurd (true≢false grouped)
owns (Some t) time Or agrees grouped = agrees t refl

-- the level entry carried to the next line is its group's too
pub agrees_on : {N : Type 0} (at : CalculationStanding) (line : CalculationLine N) (time : CalculationTime) → group_time time line.time ≡ own_time at line → Agrees (behind_calculation at line) (group_time time line.time)
agrees_on {N} at line time own group h = own ∙ step line.operation h
  where
    step : (o : Option Operation) → (behind_calculation at (record line { operation = o })).group ≡ Some group → own_time at line ≡ group
    step None h = some_same (own_time at line) group h
    step (Some operation) h = absurd (none_some group h)

-- if no group is open, the next line begins one
apart : (time : CalculationTime) → goes_on (time_on None time) ≡ false → goes_on time ≡ false
apart Detail h = refl
apart (Total level) h = refl
apart Subroutine h = refl
apart And h = h
apart Or h = h

closed_group : (at : CalculationStanding) (line : CalculationLine Reference) → is_some line.operation ≡ true → (behind_calculation at line).group ≡ None
closed_group at line whole = step line.operation whole
  where
    step : (o : Option Operation) → is_some o ≡ true → (behind_calculation at (record line { operation = o })).group ≡ None
    step None whole = absurd (true≢false (sym whole))
    step (Some operation) whole = refl

-- the first line, if there is one, isn't AN or OR
abbrev pub BeginsWith : List (CalculationLine Reference) → Type 0
BeginsWith lines = (line : CalculationLine Reference) → slice_get lines 0 ≡ Some line → goes_on line.time ≡ false

pub begins_behind : (at : CalculationStanding) (lines : List (CalculationLine Reference)) → AllSit at lines → at.group ≡ None → BeginsWith lines
unfolding AllSit
begins_behind at [] all closed line there = absurd (none_some line there)
begins_behind at (l ∷ ls) all closed line there =
    apart line.time (ap (λ group. goes_on (time_on group line.time)) (sym closed) ∙ (ap (λ (x : CalculationLine Reference). goes_on (time_on at.group x.time)) (sym (some_same l line there)) ∙ all.0.grouped))

-- earlier groups don't matter to lines that begin a group
pub fresh : (p : Program) (one two : CalculationTime) (lines : List (CalculationLine Reference)) → BeginsWith lines → named_calculations p one [] lines ≡ named_calculations p two [] lines
fresh p one two [] begins = refl
fresh p one two (line ∷ lines) begins =
    step line.time (begins line refl)
  where
    step : (time : CalculationTime) → goes_on time ≡ false → named_calculations p one [] (record line { time = time } ∷ lines) ≡ named_calculations p two [] (record line { time = time } ∷ lines)
    step Detail h = refl
    step (Total level) h = refl
    step Subroutine h = refl
    step And h = absurd (true≢false h)
    step Or h = absurd (true≢false h)

-- ---- the cut
pub record Cut (p : Program) (at : CalculationStanding) (lines : List (CalculationLine Reference)) (n : ℕ) (line : CalculationLine Reference) (all : List Calculation) : Type 0 where
  pub before : List Calculation
  pub calculation : Calculation
  pub joins : all ≡ before ++ calculation ∷ named_calculations p Detail [] (drop (suc n) lines)
  pub is : calculation.line ≡ named_line p line
  pub time : calculation.time ≡ own_time (standing_behind at (take n lines)) line
  pub none : (test : CalculationLine Name → Bool)
      → ((j : ℕ) (other : CalculationLine Reference) → j < n → slice_get lines j ≡ Some other → is_some other.operation ≡ true → test (named_line p other) ≡ false)
      → list_any (λ (c : Calculation). test c.line) before ≡ false
  pub alone : ((j : ℕ) (other : CalculationLine Reference) → j < n → slice_get lines j ≡ Some other → is_some other.operation ≡ false) → before ≡ []

cut_here : (p : Program) (at : CalculationStanding) (time : CalculationTime) (groups : List (List Condition)) (line : CalculationLine Reference) (lines : List (CalculationLine Reference))
    → Sits at line (map verb_of lines) → AllSit (behind_calculation at line) lines → Agrees at time → is_some line.operation ≡ true → Cut p at (line ∷ lines) zero line (named_calculations p time groups (line ∷ lines))
unfolding standing_behind
cut_here p at time groups line lines s all agrees whole =
    let own : group_time time line.time ≡ own_time at line = owns at.group time line.time agrees s.grouped in
    record {
      before = [];
      calculation = record { time = group_time time line.time; groups = conditions_on groups line; line = named_line p line };
      joins = rw whole
          (ap (λ (cs : List Calculation). record { time = group_time time line.time; groups = conditions_on groups line; line = named_line p line } ∷ cs)
          (fresh p (group_time time line.time) Detail lines (begins_behind (behind_calculation at line) lines all (closed_group at line whole))));
      is = refl;
      time = own;
      none = λ test others. refl;
      alone = λ others. refl;
    }

pub cut : (p : Program) (at : CalculationStanding) (time : CalculationTime) (groups : List (List Condition)) (lines : List (CalculationLine Reference)) (n : ℕ) (line : CalculationLine Reference)
    → AllSit at lines → Agrees at time → slice_get lines n ≡ Some line → is_some line.operation ≡ true → Cut p at lines n line (named_calculations p time groups lines)
unfolding AllSit standing_behind
cut p at time groups [] n line all agrees there whole = absurd (none_some line there)
cut p at time groups (l ∷ ls) zero line all agrees there whole =
    let e : l ≡ line = some_same l line there in
    subst (λ (x : CalculationLine Reference). Cut p at (l ∷ ls) zero x (named_calculations p time groups (l ∷ ls))) e
    (cut_here p at time groups l ls all.0 all.1 agrees (ap (λ (x : CalculationLine Reference). is_some x.operation) e ∙ whole))
cut p at time groups (l ∷ ls) (suc n) line all agrees there whole =
    let own : group_time time l.time ≡ own_time at l = owns at.group time l.time agrees all.0.grouped in
    let later : Agrees (behind_calculation at l) (group_time time l.time) = agrees_on at l time own in
    elim (cases_Bool (is_some l.operation)) [
      | inl operates ↦
          let c : Cut p (behind_calculation at l) ls n line (named_calculations p (group_time time l.time) [] ls) = cut p (behind_calculation at l) (group_time time l.time) [] ls n line all.1 later there whole in
          record {
            before = record { time = group_time time l.time; groups = conditions_on groups l; line = named_line p l } ∷ c.before;
            calculation = c.calculation;
            joins = rw operates (ap (λ (cs : List Calculation). record { time = group_time time l.time; groups = conditions_on groups l; line = named_line p l } ∷ cs) c.joins);
            is = c.is;
            time = c.time;
            none = λ test others.
                let here : test (named_line p l) ≡ false = others zero l (omega arith) refl operates in
                rw here (c.none test (λ j other below at' whole'. others (suc j) other (omega (arith, below)) at' whole'));
            alone = λ others. absurd (true≢false (sym operates ∙ others zero l (omega arith) refl));
          }
      | inr unfinished ↦
          let c : Cut p (behind_calculation at l) ls n line (named_calculations p (group_time time l.time) (conditions_on groups l) ls) =
          cut p (behind_calculation at l) (group_time time l.time) (conditions_on groups l) ls n line all.1 later there whole in
          record {
            before = c.before;
            calculation = c.calculation;
            joins = rw unfinished c.joins;
            is = c.is;
            time = c.time;
            none = λ test others. c.none test (λ j other below at' whole'. others (suc j) other (omega (arith, below)) at' whole');
            alone = λ others. c.alone (λ j other below at'. others (suc j) other (omega (arith, below)) at');
          }
    ]

-- without a line of a name there is no calculation of that name
pub none_of : (p : Program) (time : CalculationTime) (groups : List (List Condition)) (lines : List (CalculationLine Reference)) (test : CalculationLine Name → Bool)
    → ((j : ℕ) (other : CalculationLine Reference) → slice_get lines j ≡ Some other → is_some other.operation ≡ true → test (named_line p other) ≡ false)
    → list_any (λ (c : Calculation). test c.line) (named_calculations p time groups lines) ≡ false
none_of p time groups [] test others = refl
none_of p time groups (l ∷ ls) test others =
    let later = λ (j : ℕ) (other : CalculationLine Reference) (at : slice_get ls j ≡ Some other) (whole : is_some other.operation ≡ true). others (suc j) other at whole in
    elim (cases_Bool (is_some l.operation)) [
      | inl operates ↦ rw operates (rw (others zero l refl operates) (none_of p (group_time time l.time) [] ls test later))
      | inr unfinished ↦ rw unfinished (none_of p (group_time time l.time) (conditions_on groups l) ls test later)
    ]
