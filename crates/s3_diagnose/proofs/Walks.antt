-- Walks over lines: facts about the line at a place, and about the place after it.
use Rattle.std.proofs.Common.{suc, zero, ◌≡◌, ℕ, ◌+◌, ◌-◌, take, length-drop, ◌<◌, ◌≤◌, List, [], ◌∷◌, ◌++◌, Bool, true, false, cond, refl, sym, ◌∙◌, ap, arith, subst, length, drop, get_or, append_assoc}
use Rattle.std.specs.Prelude.{IsTrue, ◌&&◌, Option, Some, None}
use Rattle.std.proofs.lemmas.List.{take_all}
use Rattle.std.proofs.Math.Seq.{drop-cons}
use Rattle.s3_lines.specs.declared.diagnostic.Diagnostic.{Diagnostic}
use Rattle.s3_lines.specs.declared.sheet.InputLine.TheVariants.{Record, And as AndCodes, Or as OrCodes, Field as FieldOfRecord}
use Rattle.s3_lines.specs.declared.sheet.CalculationTime.{CalculationTime}
use Rattle.s3_lines.specs.declared.sheet.CalculationTime.TheVariants.{Detail, Total, Subroutine, And, Or}
use Rattle.s3_lines.specs.declared.sheet.Operation.{Operation}
use Rattle.s3_lines.specs.declared.sheet.SheetLine.{SheetLine}
use Rattle.s3_lines.specs.declared.sheet.SheetLine.TheVariants as sheet
use Rattle.s3_lines.specs.declared.sheet.Line.{Line}
use Rattle.s3_program.specs.declared.standing.CalculationStanding.{CalculationStanding}
use Rattle.s3_program.specs.Conditions.{numbers}
use Rattle.s3_program.specs.Standings.{behind_calculation, time_on, begins_subroutine, ends_subroutine, own_subroutine, subroutine_behind}
use Rattle.s3_lines.specs.declared.sheet.CalculationLine.{CalculationLine}
use Rattle.s3_diagnose.specs.declared.standing.MeantLine.{MeantLine}
use Rattle.s3_diagnose.specs.declared.standing.MeantLine.TheVariants as meant
use Rattle.s3_diagnose.specs.declared.standing.Standing.{Standing}
use Rattle.s3_diagnose.specs.Diagnostics.{found_on, diagnostics_from}
use Rattle.s3_diagnose.specs.Inner.Early.{IsWithin, IsLineWithin, IsPlacedWithin}
use Rattle.s3_diagnose.specs.Known.{Meanings, meant_line, behind}
use Rattle.s3_diagnose.specs.Lookups.{Known}
use Rattle.s3_diagnose.specs.Inner.Ranged.{is_ranged, is_ranged_meant, are_ranged}

pub split_at : (lines : List Line) (i : ℕ) (d : Line) → i < length lines → drop i lines ≡ get_or lines i d ∷ drop (i + 1) lines
split_at lines i d in' = let next : suc i ≡ i + 1 = omega arith in drop-cons lines i d in' ∙ ap (λ n. get_or lines i d ∷ drop n lines) next

-- ---- ranges
pub both_first : (a b : Bool) → IsTrue (a && b) → IsTrue a
both_first true b h = refl
both_first false b h = h

pub both_second : (a b : Bool) → IsTrue (a && b) → IsTrue b
both_second true b h = h
both_second false true h = refl
both_second false false h = h

pub ranged_at : (lines : List Line) (i : ℕ) (d : Line) → i < length lines → IsTrue (are_ranged lines) → IsTrue (is_ranged (get_or lines i d).sheet)
ranged_at [] i d in' all = absurd (omega arith)
ranged_at (line ∷ lines) zero d in' all = both_first (is_ranged line.sheet) (are_ranged lines) all
ranged_at (line ∷ lines) (suc i) d in' all = ranged_at lines i d (omega arith) (both_second (is_ranged line.sheet) (are_ranged lines) all)

pub ranged_meant : (meanings : Meanings) (line : SheetLine) → IsTrue (is_ranged line) → IsTrue (is_ranged_meant (meant_line meanings line))
ranged_meant meanings (sheet.Header name) h = refl
ranged_meant meanings (sheet.File file) h = refl
ranged_meant meanings (sheet.Input (Record file indicator codes)) h = refl
ranged_meant meanings (sheet.Input (AndCodes codes)) h = refl
ranged_meant meanings (sheet.Input (OrCodes indicator codes)) h = refl
ranged_meant meanings (sheet.Input (FieldOfRecord field)) h = h
ranged_meant meanings (sheet.Calculation line) h = refl
ranged_meant meanings (sheet.Output line) h = refl

pub ranged_here : (meanings : Meanings) (lines : List Line) (i : ℕ) (d : Line) (line : MeantLine) → i < length lines → IsTrue (are_ranged lines)
    → line ≡ meant_line meanings (get_or lines i d).sheet → IsTrue (is_ranged_meant line)
ranged_here meanings lines i d line in' all is =
    subst (λ l. IsTrue (is_ranged_meant l)) (sym is) (ranged_meant meanings (get_or lines i d).sheet (ranged_at lines i d in' all))

-- ---- places
placed_more : (n : ℕ) (place : Option ℕ) → IsPlacedWithin n place → IsPlacedWithin (n + 1) place
placed_more n None h = tt
placed_more n (Some place) h = omega arith

own_placed : (n place : ℕ) (b : Bool) (subroutine : Option ℕ) → place ≤ n → IsPlacedWithin n subroutine → IsPlacedWithin (n + 1) (cond b (Some place) subroutine)
own_placed n place true subroutine h g = omega arith
own_placed n place false subroutine h g = placed_more n subroutine g

ended_placed : (n : ℕ) (b : Bool) (subroutine : Option ℕ) → IsPlacedWithin n subroutine → IsPlacedWithin n (cond b None subroutine)
ended_placed n true subroutine h = tt
ended_placed n false subroutine h = h

behind_placed : (n : ℕ) (at : CalculationStanding) (time : CalculationTime) (operation : Option Operation) → IsWithin n at
    → IsPlacedWithin (n + 1) (subroutine_behind at time operation)
behind_placed n at Detail operation h = placed_more n at.subroutine h.subroutine
behind_placed n at (Total indicator) operation h = placed_more n at.subroutine h.subroutine
behind_placed n at Subroutine operation h =
    ended_placed (n + 1) (ends_subroutine operation) (own_subroutine at.place at.subroutine operation) (own_placed n at.place (begins_subroutine operation) at.subroutine h.place h.subroutine)
behind_placed n at And operation h = placed_more n at.subroutine h.subroutine
behind_placed n at Or operation h = placed_more n at.subroutine h.subroutine

pub calculations_more : (n : ℕ) (at : CalculationStanding) → IsWithin n at → IsWithin (n + 1) at
calculations_more n at h = record { place = (let p = h.place in omega arith); subroutine = placed_more n at.subroutine h.subroutine }

one_more : (n m : ℕ) → m ≤ n → m + 1 ≤ n + 1
one_more n m h = omega arith

more : (n m : ℕ) → m ≤ n → m ≤ n + 1
more n m h = omega arith

pub calculation_within : {N : Type 0} (n : ℕ) (at : CalculationStanding) (line : CalculationLine N) → IsWithin n at → IsWithin (n + 1) (behind_calculation at line)
calculation_within n at line h = record {
  place = one_more n at.place h.place;
  subroutine = behind_placed n at (time_on at.group line.time) line.operation h;
}

behind_within : (n : ℕ) (at : Standing) (line : MeantLine) → IsLineWithin n at → IsLineWithin (n + 1) (behind at line)
behind_within n at meant.Header h =
    record { files = more n at.files.place h.files; inputs = more n at.inputs.place h.inputs; calculations = calculations_more n at.calculations h.calculations }
behind_within n at (meant.File file) h =
    record { files = one_more n at.files.place h.files; inputs = more n at.inputs.place h.inputs; calculations = calculations_more n at.calculations h.calculations }
behind_within n at (meant.Input (Record file indicator codes)) h =
    record { files = more n at.files.place h.files; inputs = one_more n at.inputs.place h.inputs; calculations = calculations_more n at.calculations h.calculations }
behind_within n at (meant.Input (AndCodes codes)) h =
    record { files = more n at.files.place h.files; inputs = one_more n at.inputs.place h.inputs; calculations = calculations_more n at.calculations h.calculations }
behind_within n at (meant.Input (OrCodes indicator codes)) h =
    record { files = more n at.files.place h.files; inputs = one_more n at.inputs.place h.inputs; calculations = calculations_more n at.calculations h.calculations }
behind_within n at (meant.Input (FieldOfRecord field)) h =
    record { files = more n at.files.place h.files; inputs = one_more n at.inputs.place h.inputs; calculations = calculations_more n at.calculations h.calculations }
behind_within n at (meant.Calculation line) h =
    record {
      files = more n at.files.place h.files;
      inputs = more n at.inputs.place h.inputs;
      calculations = record {
        place = one_more n at.calculations.place h.calculations.place;
        subroutine = behind_placed n at.calculations (time_on at.calculations.group line.time) line.operation h.calculations;
      };
    }
behind_within n at (meant.Output line) h =
    record { files = more n at.files.place h.files; inputs = more n at.inputs.place h.inputs; calculations = calculations_more n at.calculations h.calculations }

pub within_next : (n : ℕ) (at next : Standing) (line : MeantLine) → next ≡ behind at line → IsLineWithin n at → IsLineWithin (n + 1) next
within_next n at next line is h = subst (λ s. IsLineWithin (n + 1) s) (sym is) (behind_within n at line h)

-- ---- one line more
later_all : (lines : List Line) (i : ℕ) → take (length lines - (i + 1)) (drop (i + 1) lines) ≡ drop (i + 1) lines
later_all lines i = take_all (length lines - (i + 1)) (drop (i + 1) lines) (let e = length-drop (i + 1) lines in omega arith)

pub found_next : (known : Known) (lines : List Line) (i : ℕ) (d : Line) (at next : Standing) (line : MeantLine) (found new total : List Diagnostic)
    → i < length lines → line ≡ meant_line known.meanings (get_or lines i d).sheet
    → new ≡ found ++ found_on known at (take (length lines - (i + 1)) (drop (i + 1) lines)) (get_or lines i d).card line numbers
    → next ≡ behind at line → found ++ diagnostics_from known at (drop i lines) ≡ total
    → new ++ diagnostics_from known next (drop (i + 1) lines) ≡ total
found_next known lines i d at next line found new total in' is is_new is_next so_far =
    let later : List Line = drop (i + 1) lines in
    let here : Line = get_or lines i d in
    let meant : MeantLine = meant_line known.meanings here.sheet in
    let one : new ≡ found ++ found_on known at later here.card meant numbers =
    is_new ∙ (ap (λ xs. found ++ found_on known at xs here.card line numbers) (later_all lines i) ∙ ap (λ l. found ++ found_on known at later here.card l numbers) is) in
    let two : next ≡ behind at meant = is_next ∙ ap (behind at) is in
    ap (λ n. new ++ diagnostics_from known n later) two
    ∙ (ap (λ xs. xs ++ diagnostics_from known (behind at meant) later) one
    ∙ (append_assoc found (found_on known at later here.card meant numbers) (diagnostics_from known (behind at meant) later)
    ∙ (ap (λ xs. found ++ diagnostics_from known at xs) (sym (split_at lines i d in')) ∙ so_far)))
