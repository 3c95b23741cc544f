-- Step 10: MR is set, and the selected record becomes the current record of its file.
use Rattle.std.proofs.Common.{◌≡◌, List, Some, refl, ap, subst, ◌∙◌}
use Rattle.s3_cards.specs.declared.name.Name.{Name}
use Rattle.s3_lines.specs.declared.indicator.Indicator.TheVariants.{Matching}
use Rattle.s3_lines.specs.declared.sheet.FieldLine.{FieldLine}
use Rattle.s3_meaning.specs.Environment.{Environment, put_current, turn}
use Rattle.s3_meaning.specs.declared.current.Current.TheVariants.{NthRead}
use Rattle.s3_meaning.specs.Cycle.{again, detail_time}
use Rattle.s3_meaning.specs.Moving.{fields_moved}
use Rattle.s3_meaning.specs.Source.{Source}
use Rattle.s3_cycle.specs.declared.progress.Selection.{Selection}
use Rattle.s3_cycle.specs.declared.stepper.Stepper.{Stepper}
use Rattle.s3_cycle.specs.declared.progress.Moves.TheVariants as moves
use Rattle.s3_cycle.specs.declared.progress.Time.TheVariants as time
use Rattle.s3_cycle.specs.Inner.Rest.{details_done, fields_from, first_details, record_moved, selected_bytes, selected_of}
use Rattle.s3_cycle.specs.Inner.Fields.{selected_from}
use Rattle.s3_cycle.specs.Inner.Going.{own, held_by, here, CanMove, Changes, GoesOn, IsRunning, IsTaken}
use Rattle.s3_cycle.proofs.FieldLemmas.{at_details, details_move, details_running, selected_begun}
use Rattle.s3_match.proofs.FieldLemmas.{kind_fields}
use Rattle.s3_cycle.proofs.GoingLemmas.{changed_running, changed_stays, changes_both, goes_as, goes_changed, goes_then}

abbrev with_record : Stepper → Selection → Environment → Environment
with_record c selection = put_current (selected_of c.program c.progress selection).file.name (Some (NthRead selection.number))

record_is_moved : (old mid two new : Stepper) (selection : Selection) → IsTaken old.program old.progress selection
    → Changes old mid (λ source. turn Matching selection.is_matched)
    → Changes mid two (λ source. put_current (selected_of mid.program mid.progress selection).file.name (Some (NthRead selection.number)))
    → GoesOn two new (here two (selected_from selection selection.start.fields))
    → GoesOn old new (here old (λ source program progress. record_moved source program progress selection))
unfolding record_moved detail_time details_done
record_is_moved old mid two new selection taken first second goes =
    let P : Stepper → Type 0 = λ k. Changes mid two (λ source. with_record k selection) in
    let both : Changes old two (λ source e. with_record old selection (turn Matching selection.is_matched e)) =
    changes_both old mid two (λ source. turn Matching selection.is_matched) (λ source. with_record old selection) first (subst P first.stays second) in
    goes_as old new _ _
    (ap (λ (fields : List (FieldLine Name)). fields_moved (again (own old)) fields (selected_bytes old.progress selection) (first_details (own old) old.program old.progress selection)
    (with_record old selection (turn Matching selection.is_matched (held_by old)))) (kind_fields old.program selection.start taken.record_there.starts))
    (goes_changed old two new (λ source e. with_record old selection (turn Matching selection.is_matched e)) (selected_from selection selection.start.fields) both goes)

-- ---- the start of detail time
at_details_is : (c : Stepper) (selection : Selection) → c.progress.time ≡ time.Details selection → c ≡ at_details c selection
at_details_is c selection is = λ i. record c { progress = record c.progress { time = is i } }

selected_moves : (c new : Stepper) (selection : Selection) → c.progress.time ≡ time.Details selection
    → GoesOn c new (here c (λ source program progress. fields_from source program progress moves.Selected selection.start.fields)) → GoesOn c new (here c (selected_from selection selection.start.fields))
selected_moves c new selection is goes =
    let P : Stepper → Type 0 = λ k. GoesOn k new (here k (λ source program progress. fields_from source program progress moves.Selected selection.start.fields)) in
    selected_begun c new selection (subst P (at_details_is c selection is) goes)

moved_at_time : (old new : Stepper) (selection : Selection) → GoesOn (at_details old selection) new (here (at_details old selection) (λ source program progress. record_moved source program progress selection))
    → GoesOn old new (here old (λ source program progress. record_moved source program progress selection))
unfolding record_moved
moved_at_time old new selection goes = goes_then old (at_details old selection) new _ _ refl refl goes

pub taken_at_time : (c : Stepper) (selection : Selection) → IsTaken c.program c.progress selection → IsTaken c.program (at_details c selection).progress selection
taken_at_time c selection taken = (details_move c selection taken).moves

-- the invariant is kept when the record becomes the current one
pub still_running : (old mid two : Stepper) (selection : Selection) (first second : Source → Environment → Environment) → IsRunning old → Changes (at_details old selection) mid first → Changes mid two second → IsRunning two
still_running old mid two selection first second running before behind =
    changed_running mid two second behind (changed_running (at_details old selection) mid first before (details_running old selection running))

pub still_moves : (old mid two : Stepper) (selection : Selection) (first second : Source → Environment → Environment) → IsTaken old.program old.progress selection → Changes (at_details old selection) mid first
    → Changes mid two second → CanMove two.program two.progress moves.Selected selection.start.fields
still_moves old mid two selection first second taken before behind =
    changed_stays (λ program progress. CanMove program progress moves.Selected selection.start.fields) mid two second behind
    (changed_stays (λ program progress. CanMove program progress moves.Selected selection.start.fields) (at_details old selection) mid first before (details_move old selection taken))

pub record_is_processed : (old mid two new : Stepper) (selection : Selection) → IsTaken old.program old.progress selection
    → Changes (at_details old selection) mid (λ source. turn Matching selection.is_matched)
    → Changes mid two (λ source. put_current (selected_of mid.program mid.progress selection).file.name (Some (NthRead selection.number)))
    → GoesOn two new (here two (λ source program progress. fields_from source program progress moves.Selected selection.start.fields))
    → GoesOn old new (here old (λ source program progress. record_moved source program progress selection))
record_is_processed old mid two new selection taken first second goes =
    moved_at_time old new selection
    (record_is_moved (at_details old selection) mid two new selection (taken_at_time old selection taken) first second
    (selected_moves two new selection (ap (λ (k : Stepper). k.progress.time) second.stays ∙ ap (λ (k : Stepper). k.progress.time) first.stays) goes))
