-- Steps of a suspended run, in sequence.
use Rattle.std.proofs.Common.{◌≡◌, refl, sym, ap, ◌∙◌, subst}
use Rattle.s3_meaning.specs.Source.{Source}
use Rattle.s3_meaning.specs.Environment.{Environment}
use Rattle.s3_meaning.specs.Cycle.{again}
use Rattle.s3_meaning.specs.Runs.{Run, Rest, ask, halted}
use Rattle.s3_operator.specs.declared.halt_code.HaltCode.{HaltCode}
use Rattle.s3_program.specs.declared.program.Program.{Program}
use Rattle.s3_operations.specs.declared.values.Values.{Values}
use Rattle.s3_operations.specs.Inner.Held.{Changes as ChangesValues}
use Rattle.s3_cycle.specs.declared.progress.Progress.{Progress}
use Rattle.s3_cycle.specs.declared.progress.Continuation.{Continuation}
use Rattle.s3_cycle.specs.declared.progress.Point.{Point}
use Rattle.s3_cycle.specs.declared.progress.Point.TheVariants as at
use Rattle.s3_cycle.specs.declared.request.Request.{Request}
use Rattle.s3_cycle.specs.declared.request.Request.TheVariants as asks
use Rattle.s3_cycle.specs.declared.stepper.Stepper.{Stepper}
use Rattle.s3_cycle.specs.Inner.Requests.{IsLine, FitsFile, request_of}
use Rattle.s3_cycle.specs.Inner.Rest.{rest, answered, continued}
use Rattle.s3_cycle.specs.Inner.Environment.{environment, others}
use Rattle.s3_cycle.specs.Inner.Going.{own, held_by, here, AreSound, IsRunning, Continues, Waits, GoesOn, Changes}

-- ---- requests
-- the invariant doesn't depend on the pending request
pub waiting_running : (c : Stepper) (request : Request) (point : Point) → IsRunning c → IsRunning (record c { request = request; point = point })
waiting_running c request point running = record { overflow = running.overflow; state = running.state; reading = running.reading; heads = running.heads; calculations = running.calculations; totals_guard = running.totals_guard; inputs = running.inputs; outputs = running.outputs }

-- a run waits for its request
pub goes_wait : (old new : Stepper) (request : Request) (point : Point) (run : Run) → new ≡ record old { request = request; point = point } → IsRunning old → Waits old.program old.progress request point → IsLine request old.composition → FitsFile old.program.files.items request old.composition
    → run ≡ ask (request_of old.program old.composition request) (λ answer. answered (own old) old.program old.progress point answer (held_by old)) → GoesOn old new run
unfolding rest
goes_wait old new request point run same running waits line fits asks =
    let P : Stepper → Type 0 = λ k. GoesOn old k run in
    subst P (sym same) (record { program = refl; sound = record { running = waiting_running old request point running; waits = waits; line = line; fits = fits }; runs = sym asks })

-- a halt, with what follows reply 0
pub halts : (old new : Stepper) (code : HaltCode) (then : Continuation) → new ≡ record old { request = asks.Ask code; point = at.Reply then } → IsRunning old → Continues old.program old.progress then
    → GoesOn old new (here old (λ source program progress. halted (again source) code (continued source program progress then)))
unfolding halted request_of
halts old new code then same running can = goes_wait old new (asks.Ask code) (at.Reply then) _ same running (refl, can) tt tt refl

-- ---- one step, then another
-- a step, followed by another
pub goes_then : (old mid new : Stepper) (run run' : Run) → mid.program ≡ old.program → run' ≡ run → GoesOn mid new run → GoesOn old new run'
goes_then old mid new run run' program same goes = record { program = goes.program ∙ program; sound = goes.sound; runs = goes.runs ∙ sym same }

-- an equal run
pub goes_as : (old new : Stepper) (run run' : Run) → run' ≡ run → GoesOn old new run → GoesOn old new run'
goes_as old new run run' same goes = goes_then old old new run run' refl same goes

-- ---- updates of the environment only
-- an update keeps the invariant
pub changed_running : (old new : Stepper) (change : Source → Environment → Environment) → Changes old new change → IsRunning old → IsRunning new
changed_running old new change changes running =
    let P : Stepper → Type 0 = λ k. IsRunning k in
    subst P (sym changes.stays) (record { overflow = running.overflow; state = changes.sound; reading = running.reading; heads = running.heads; calculations = running.calculations; totals_guard = running.totals_guard; inputs = running.inputs; outputs = running.outputs })

-- an update keeps the program
pub changed_program : (old new : Stepper) (change : Source → Environment → Environment) → Changes old new change → new.program ≡ old.program
changed_program old new change changes = ap (λ (k : Stepper). k.program) changes.stays

pub changed_progress : (old new : Stepper) (change : Source → Environment → Environment) → Changes old new change → new.progress ≡ old.progress
changed_progress old new change changes = ap (λ (k : Stepper). k.progress) changes.stays

-- a fact about program and progress is kept
pub changed_stays : (fact : Program → Progress → Type 0) (old new : Stepper) (change : Source → Environment → Environment) → Changes old new change → fact old.program old.progress → fact new.program new.progress
changed_stays fact old new change changes holds =
    let P : Stepper → Type 0 = λ k. fact k.program k.progress in subst P (sym changes.stays) holds

-- the run after an update is the run that updates the environment first
pub here_changed : (old new : Stepper) (change : Source → Environment → Environment) (meant : Source → Program → Progress → Rest) → Changes old new change
    → here new meant ≡ here old (λ source program progress e. meant source program progress (change source e))
here_changed old new change meant changes =
    ap (λ (k : Stepper). here k meant) changes.stays ∙ ap (meant (own old) old.program old.progress) changes.held

-- an update, then a step
pub goes_changed : (old mid new : Stepper) (change : Source → Environment → Environment) (meant : Source → Program → Progress → Rest) → Changes old mid change → GoesOn mid new (here mid meant)
    → GoesOn old new (here old (λ source program progress e. meant source program progress (change source e)))
goes_changed old mid new change meant changes goes =
    goes_then old mid new _ _ (changed_program old mid change changes) (sym (here_changed old mid change meant changes)) goes

-- two updates, one after the other
pub changes_both : (old mid new : Stepper) (first second : Source → Environment → Environment) → Changes old mid first → Changes mid new second → Changes old new (λ source e. second source (first source e))
changes_both old mid new first second before behind =
    let P : Stepper → Type 0 = λ k. Changes k new second → Changes old new (λ source e. second source (first source e)) in
    subst P (sym before.stays) (λ further. record {
      stays = further.stays;
      sound = further.sound;
      held = further.held ∙ ap (second (own old)) before.held;
    }) behind

-- an update of values
pub values_changed : (old new : Stepper) (values : Values) (change : Source → Environment → Environment) → new ≡ record old { state = record old.state { values = values } } → AreSound old.program old.state
    → ChangesValues old.program old.state.values values change → Changes old new change
unfolding environment
values_changed old new values change same sound changes =
    let P : Stepper → Type 0 = λ k. Changes old k change in
    subst P (sym same) (record {
      stays = refl;
      sound = record { values = changes.sound; current = sound.current };
      held = changes.held (others old.program old.state);
    })
