-- A record is selected and taken, and its indicators go on.
use Rattle.std.proofs.Common.{◌≡◌, ◌+◌, ◌<◌, ℕ, List, [], ◌∷◌, length, Bool, true, false, refl, sym, ◌∙◌, ap, subst, zero, suc, arith}
use Rattle.std.specs.Prelude.{Option, Some, None, is_some, unwrap_or, if◌then◌else◌}
use Rattle.std.proofs.lemmas.Bool.{true≢false}
use Rattle.s3_lines.specs.declared.indicator.Indicator.TheVariants.{LastRecord}
use Rattle.s3_meaning.specs.Source.{Source}
use Rattle.s3_meaning.specs.Environment.{turn, with_last_record}
use Rattle.s3_meaning.specs.Runs.{Run, Rest, ended}
use Rattle.s3_meaning.specs.Selection as meaning
use Rattle.s3_meaning.specs.Selection.{Selected, broken, is_matched, select, taken}
use Rattle.s3_meaning.specs.Cycle.{again, detail_time, last_time, matched, overflow_lines, record_time, selected_or_last, total_time, totals}
use Rattle.s3_program.specs.declared.program.Program.{Program}
use Rattle.s3_operations.specs.Inner.Held.{held}
use Rattle.s3_match.specs.declared.heads.InputFile.{InputFile}
use Rattle.s3_match.specs.declared.heads.Standing.{Standing}
use Rattle.s3_match.specs.declared.heads.Standing.TheVariants as at
use Rattle.s3_match.specs.Inner.Choice.{IsHeadAt, has_head_at, is_keyless_alone}
use Rattle.s3_match.specs.Inner.Heads.{input_of, is_head_standing, standing_as}
use Rattle.s3_match.specs.Inner.Reading.{AreRead, reading_in, read_from}
use Rattle.s3_match.specs.Inner.Selecting.{selected_at}
use Rattle.s3_match.proofs.ChoiceLemmas.{alone_stands, selects_alone}
use Rattle.s3_match.proofs.UnreadLemmas.{none_between}
use Rattle.s3_cycle.specs.declared.progress.Progress.{Progress}
use Rattle.s3_cycle.specs.declared.progress.Selection.{Selection}
use Rattle.s3_cycle.specs.declared.stepper.Stepper.{Stepper}
use Rattle.s3_cycle.specs.Inner.Rest.{heads_read, inputs_in, record_moved, selected_of, totals_done}
use Rattle.s3_cycle.specs.Inner.Environment.{environment}
use Rattle.s3_cycle.specs.Inner.Going.{own, held_by, here, Changes, GoesOn, IsRunning}
use Rattle.s3_cycle.specs.Inner.Selecting.{Takes, identified}
use Rattle.s3_cycle.proofs.GoingLemmas.{goes_then, goes_as, goes_changed}
use Rattle.s3_cycle.proofs.TurnLemmas.{reads_none, with_reading}

-- ---- a head can be selected
head_there : (program : Program) (files : List InputFile) (place : ℕ) → has_head_at files place ≡ true → is_some (selected_at program files place) ≡ true
head_there program [] place h = absurd (true≢false (sym h))
head_there program (x ∷ xs) zero h = by x.standing h
  where
    by : (standing : Standing) → is_head_standing standing ≡ true → is_some (meaning.selectable (record (input_of program x) { standing = standing_as program x.reads x.bytes standing })) ≡ true
    by at.Unread h = absurd (true≢false (sym h))
    by (at.Stands start) h = refl
    by at.Ended h = absurd (true≢false (sym h))
head_there program (x ∷ xs) (suc place) h = head_there program xs place h

pub selects : (c new : Stepper) (place : ℕ) → IsHeadAt c.progress.reading.files.items place → selected_at c.program c.progress.reading.files.items place ≡ select (reading_in c.program c.progress.reading)
    → ((selected : Selected) → selected_at c.program c.progress.reading.files.items place ≡ Some selected
    → GoesOn c new (here c (λ source program progress. record_time source (again source) (is_matched (reading_in program progress.reading) selected) selected ((again source).cycle (taken (reading_in program progress.reading) selected)))))
    → GoesOn c new (here c (λ source program progress. heads_read source program progress (inputs_in program progress)))
unfolding heads_read selected_or_last
selects c new place head same goes = by (selected_at c.program c.progress.reading.files.items place) refl
  where
    by : (o : Option Selected) → selected_at c.program c.progress.reading.files.items place ≡ o → GoesOn c new (here c (λ source program progress. heads_read source program progress (inputs_in program progress)))
    by None is = absurd (true≢false (sym (head_there c.program c.progress.reading.files.items place head.head) ∙ ap (λ (o : Option Selected). is_some o) is))
    by (Some selected) is =
        goes_as c new _ _ (ap (λ (o : Option Selected). selected_or_last (own c) (again (own c)) (reading_in c.program c.progress.reading) o (held_by c)) (sym same ∙ is)) (goes selected is)

pub selects_none : (c new : Stepper) → None ≡ select (reading_in c.program c.progress.reading) → GoesOn c new (here c (λ source program progress e. last_time source (again source) (with_last_record e)))
    → GoesOn c new (here c (λ source program progress. heads_read source program progress (inputs_in program progress)))
unfolding heads_read selected_or_last
selects_none c new none goes =
    goes_as c new _ _ (ap (λ (o : Option Selected). selected_or_last (own c) (again (own c)) (reading_in c.program c.progress.reading) o (held_by c)) (sym none)) goes

-- only one file, whose head has no match fields
one_alone : (files : List InputFile) → is_keyless_alone files ≡ true → length files ≡ 1
one_alone [] alone = absurd (true≢false (sym alone))
one_alone (input ∷ []) alone = refl
one_alone (input ∷ other ∷ files) alone = absurd (true≢false (sym alone))

pub reads_alone : (c new : Stepper) (place : ℕ) → IsRunning c → place < length c.progress.reading.files.items → is_keyless_alone c.progress.reading.files.items ≡ true
    → ((selected : Selected) → selected_at c.program c.progress.reading.files.items 0 ≡ Some selected
    → GoesOn c new (here c (λ source program progress. record_time source (again source) (is_matched (reading_in program progress.reading) selected) selected ((again source).cycle (taken (reading_in program progress.reading) selected)))))
    → GoesOn c new (here c (λ source program progress. read_from source (again source) (inputs_in program progress) (place + 1) (heads_read source program progress)))
reads_alone c new place running within alone goes =
    let files = c.progress.reading.files.items in
    let one = one_alone files alone in
    reads_none c new (place + 1) (omega (arith, within))
    (subst (λ (n : ℕ). AreRead (inputs_in c.program c.progress) (place + 1) n) (omega (arith, within, one)) (none_between (inputs_in c.program c.progress) (place + 1)))
    (selects c new 0 (alone_stands files alone) (selects_alone c.program files c.progress.reading.primary_key running.reading.inputs alone) goes)

-- ---- steps 6 to 8, or none of them
abbrev pub behind_breaks : Selection → Source → Program → Progress → Rest
behind_breaks selection source program progress = total_time source (again source) (overflow_lines source (again source) (record_moved source program progress selection))

pub with_totals : (c new : Stepper) (selection : Selection) → c.state.is_totals_due ≡ true → GoesOn c new (here c (λ source program progress. totals source (again source) (totals_done source program progress selection)))
    → GoesOn c new (here c (behind_breaks selection))
unfolding total_time totals_done environment held
with_totals c new selection due goes =
    goes_as c new _ _ (ap (λ (b : Bool). (if b
    then totals (own c) (again (own c)) (λ e'. (if e'.on LastRecord then ended false else overflow_lines (own c) (again (own c)) (record_moved (own c) c.program c.progress selection)) e')
    else overflow_lines (own c) (again (own c)) (record_moved (own c) c.program c.progress selection)) (held_by c)) due) goes

pub without_totals : (c new : Stepper) (selection : Selection) → c.state.is_totals_due ≡ false → GoesOn c new (here c (λ source program progress. overflow_lines source (again source) (record_moved source program progress selection)))
    → GoesOn c new (here c (behind_breaks selection))
unfolding total_time environment held
without_totals c new selection due goes =
    goes_as c new _ _ (ap (λ (b : Bool). (if b
    then totals (own c) (again (own c)) (λ e'. (if e'.on LastRecord then ended false else overflow_lines (own c) (again (own c)) (record_moved (own c) c.program c.progress selection)) e')
    else overflow_lines (own c) (again (own c)) (record_moved (own c) c.program c.progress selection)) (held_by c)) due) goes

-- ---- the head is taken
pub takes_running : (old new : Stepper) (place : ℕ) (selection : Selection) → Takes old new place selection → IsRunning old → IsRunning new
takes_running old new place selection takes running =
    subst IsRunning (sym takes.same) (record { overflow = running.overflow; state = running.state; reading = takes.reading; heads = takes.heads; calculations = running.calculations; totals_guard = running.totals_guard; inputs = running.inputs; outputs = running.outputs })

pub goes_taken : (old mid last new : Stepper) (place : ℕ) (selection : Selection) → Takes old mid place selection → Changes mid last (λ source. identified (selected_of mid.program mid.progress selection)) → GoesOn last new (here last (behind_breaks selection))
    → (selected : Selected) → selected_at old.program old.progress.reading.files.items place ≡ Some selected
    → GoesOn old new (here old (λ source program progress. record_time source (again source) (is_matched (reading_in program progress.reading) selected) selected ((again source).cycle (taken (reading_in program progress.reading) selected))))
unfolding record_time record_moved
goes_taken old mid last new place selection takes changes goes selected own_head =
    goes_then old (with_reading old mid.progress.reading) new _ _ refl
    (ap (λ (s : Selected). meant (is_matched (reading_in old.program old.progress.reading) s) s (taken (reading_in old.program old.progress.reading) s)) is
    ∙ (λ i. meant (sym takes.matched i) (selected_of old.program mid.progress selection) (sym takes.rest i)))
    (subst (λ (k : Stepper). GoesOn k new (here k (λ source program progress e. behind_breaks selection source program progress (identified (selected_of k.program k.progress selection) e)))) takes.same
    (goes_changed mid last new (λ source. identified (selected_of mid.program mid.progress selection)) (behind_breaks selection) changes goes))
  where
    meant : Bool → Selected → meaning.Reading → Run
    meant m s r =
        total_time (own old) (again (own old))
        (overflow_lines (own old) (again (own old)) (λ e'. detail_time (own old) (again (own old)) s ((again (own old)).cycle r) (matched m s e')))
        (broken s.head (turn s.head.kind.indicator true (held_by old)))

    is : selected ≡ selected_of old.program mid.progress selection
    is = ap (λ (o : Option Selected). unwrap_or o (selected_of old.program mid.progress selection)) (sym own_head ∙ takes.selected)
