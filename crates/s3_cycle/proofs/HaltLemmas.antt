-- Step 1 after its lines: each of H1 to H9 that is on halts the job.
use Rattle.std.proofs.Common.{◌≡◌, ℕ, zero, suc, ◌+◌, ◌-◌, ◌<◌, ◌≤◌, nat_le, Bool, true, false, if◌then◌else◌, List, [], ◌∷◌, drop, refl, sym, ◌∙◌, ap, arith}
use Rattle.std.proofs.lemmas.Bool.{and_parts, leb-true}
use Rattle.s3_lines.specs.Ranges.{is_between}
use Rattle.s3_lines.specs.declared.indicator.Indicator.TheVariants.{Halt}
use Rattle.s3_operator.specs.declared.halt_code.HaltCode.TheVariants.{HaltIndicator}
use Rattle.s3_meaning.specs.Environment.{Environment, turn}
use Rattle.s3_meaning.specs.Runs.{halted}
use Rattle.s3_meaning.specs.Source.{Source}
use Rattle.s3_meaning.specs.Cycle.{halts_shown, again}
use Rattle.s3_program.specs.declared.program.Program.{Program}
use Rattle.s3_cycle.specs.declared.progress.Progress.{Progress}
use Rattle.s3_cycle.specs.declared.stepper.Stepper.{Stepper}
use Rattle.s3_cycle.specs.Inner.Rest.{cycle_from, halts_from}
use Rattle.s3_cycle.specs.Inner.Going.{own, held_by, here, GoesOn}
use Rattle.s3_cycle.specs.Inner.Halting.{IsFirstHalt, AreOff}
use Rattle.s3_cycle.proofs.GoingLemmas.{goes_as}

-- ---- the remaining numbers
abbrev numbers : List ℕ
numbers = 1 ∷ 2 ∷ 3 ∷ 4 ∷ 5 ∷ 6 ∷ 7 ∷ 8 ∷ 9 ∷ []

numbers_left : (k : ℕ) → k < 9 → drop k numbers ≡ (k + 1) ∷ drop (k + 1) numbers
numbers_left zero few = refl
numbers_left (suc zero) few = refl
numbers_left (suc (suc zero)) few = refl
numbers_left (suc (suc (suc zero))) few = refl
numbers_left (suc (suc (suc (suc zero)))) few = refl
numbers_left (suc (suc (suc (suc (suc zero))))) few = refl
numbers_left (suc (suc (suc (suc (suc (suc zero)))))) few = refl
numbers_left (suc (suc (suc (suc (suc (suc (suc zero))))))) few = refl
numbers_left (suc (suc (suc (suc (suc (suc (suc (suc zero)))))))) few = refl
numbers_left (suc (suc (suc (suc (suc (suc (suc (suc (suc k))))))))) few = absurd (omega arith)

numbers_from : (n : ℕ) → 1 ≤ n → n ≤ 9 → drop (n - 1) numbers ≡ n ∷ drop (n + 1 - 1) numbers
numbers_from n some few =
    let one : n - 1 + 1 ≡ n = omega arith in
    let same : n + 1 - 1 ≡ n = omega arith in
    numbers_left (n - 1) (omega arith) ∙ (ap (λ m. m ∷ drop (n - 1 + 1) numbers) one ∙ ap (λ m. n ∷ drop m numbers) (one ∙ sym same))

-- the next indicator halts the job if it is on
halts_next : (source : Source) (p : Program) (progress : Progress) (n : ℕ) (e : Environment) → 1 ≤ n → n ≤ 9
    → halts_from source p progress n e
    ≡ (if e.on (Halt n) then halted (again source) (HaltIndicator n) (λ e'. halts_from source p progress (n + 1) (turn (Halt n) false e')) else halts_from source p progress (n + 1)) e
unfolding halts_shown
halts_next source p progress n e some few = ap (λ ns. halts_shown (again source) ns (cycle_from source p progress) e) (numbers_from n some few)

halts_on : (source : Source) (p : Program) (progress : Progress) (n : ℕ) (e : Environment) → 1 ≤ n → n ≤ 9 → e.on (Halt n) ≡ true
    → halts_from source p progress n e ≡ halted (again source) (HaltIndicator n) (λ e'. halts_from source p progress (n + 1) (turn (Halt n) false e')) e
halts_on source p progress n e some few on =
    halts_next source p progress n e some few
    ∙ ap (λ (b : Bool). (if b then halted (again source) (HaltIndicator n) (λ e'. halts_from source p progress (n + 1) (turn (Halt n) false e')) else halts_from source p progress (n + 1)) e) on

halts_off : (source : Source) (p : Program) (progress : Progress) (n : ℕ) (e : Environment) → 1 ≤ n → n ≤ 9 → e.on (Halt n) ≡ false
    → halts_from source p progress n e ≡ halts_from source p progress (n + 1) e
halts_off source p progress n e some few off =
    halts_next source p progress n e some few
    ∙ ap (λ (b : Bool). (if b then halted (again source) (HaltIndicator n) (λ e'. halts_from source p progress (n + 1) (turn (Halt n) false e')) else halts_from source p progress (n + 1)) e) off

-- indicators that are off are skipped
halts_passed : (source : Source) (p : Program) (progress : Progress) (gap from : ℕ) (e : Environment) → 1 ≤ from → from + gap ≤ 10 → ((n : ℕ) → from ≤ n → n < from + gap → e.on (Halt n) ≡ false)
    → halts_from source p progress from e ≡ halts_from source p progress (from + gap) e
halts_passed source p progress zero from e some few off =
    let same : from ≡ from + zero = omega arith in
    ap (λ n. halts_from source p progress n e) same
halts_passed source p progress (suc gap) from e some few off =
    let next : from + 1 + gap ≡ from + suc gap = omega arith in
    halts_off source p progress from e some (omega arith) (off from (omega arith) (omega arith))
    ∙ (halts_passed source p progress gap (from + 1) e (omega arith) (omega arith) (λ n behind before. off n (omega arith) (omega arith))
    ∙ ap (λ n. halts_from source p progress n e) next)

passed_to : (source : Source) (p : Program) (progress : Progress) (from to : ℕ) (e : Environment) → 1 ≤ from → from ≤ to → to ≤ 10 → ((n : ℕ) → from ≤ n → n < to → e.on (Halt n) ≡ false)
    → halts_from source p progress from e ≡ halts_from source p progress to e
passed_to source p progress from to e some behind few off =
    let sum : from + (to - from) ≡ to = omega arith in
    halts_passed source p progress (to - from) from e some (omega (arith, few, behind)) (λ n after before. off n after (omega (arith, before, behind)))
    ∙ ap (λ n. halts_from source p progress n e) sum

-- no halt is left after H9
halts_over : (source : Source) (p : Program) (progress : Progress) (e : Environment) → halts_from source p progress 10 e ≡ cycle_from source p progress e
unfolding halts_shown
halts_over source p progress e = refl

-- ---- the halts of a run
within : (n : ℕ) → is_between 1 10 n ≡ true → (1 ≤ n) × (n ≤ 10)
within n is = let parts = and_parts (nat_le 1 n) (nat_le n 10) is in (leb-true 1 n parts.0, leb-true n 10 parts.1)

pub first_halts : (old new : Stepper) (from number : ℕ) → is_between 1 10 from ≡ true → IsFirstHalt old from number
    → GoesOn old new (here old (λ source program progress. halted (again source) (HaltIndicator number) (λ e. halts_from source program progress (number + 1) (turn (Halt number) false e))))
    → GoesOn old new (here old (λ source program progress. halts_from source program progress from))
first_halts old new from number is first goes =
    let some : 1 ≤ from = (within from is).0 in
    let after : 1 ≤ number = omega (arith, some, first.behind) in
    let before : number ≤ 10 = omega (arith, first.few) in
    goes_as old new _ _
    (passed_to (own old) old.program old.progress from number (held_by old) some first.behind before first.before
    ∙ halts_on (own old) old.program old.progress number (held_by old) after first.few first.on)
    goes

pub none_halts : (old new : Stepper) (from : ℕ) → is_between 1 10 from ≡ true → AreOff old from 10 → GoesOn old new (here old cycle_from) → GoesOn old new (here old (λ source program progress. halts_from source program progress from))
none_halts old new from is off goes =
    let all : 10 ≤ 10 = omega arith in
    goes_as old new _ _ (passed_to (own old) old.program old.progress from 10 (held_by old) (within from is).0 (within from is).1 all off ∙ halts_over (own old) old.program old.progress (held_by old)) goes
