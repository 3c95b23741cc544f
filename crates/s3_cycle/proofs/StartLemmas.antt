-- The first request of a job.
use Rattle.std.proofs.Common.{◌≡◌, ℕ, List, sym, ◌∙◌, ap, subst}
use Rattle.std.proofs.Math.Path.{fun_ext}
use Rattle.s3_meaning.specs.Environment.{at_first}
use Rattle.s3_meaning.specs.Runs.{Rest}
use Rattle.s3_meaning.specs.Cycle.{Req, again, first_reading, headings, one_cycle}
use Rattle.s3_meaning.proofs.Equations.{again-cycle}
use Rattle.s3_program.specs.declared.program.Program.{Program}
use Rattle.s3_program.specs.declared.starts.Walk.TheVariants as walk
use Rattle.s3_program.specs.Inner.Stands.{source_named}
use Rattle.s3_cycle.specs.declared.progress.Progress.{Progress}
use Rattle.s3_cycle.specs.declared.state.State.{State}
use Rattle.s3_cycle.specs.declared.stepper.Stepper.{Stepper}
use Rattle.s3_cycle.specs.declared.starting.Beginning.{Beginning}
use Rattle.s3_meaning.specs.Source.{overflow_of}
use Rattle.s3_cycle.specs.Inner.Rest.{after_lines, cycle_from, lines_from, rest}
use Rattle.s3_cycle.specs.Inner.Environment.{environment}
use Rattle.s3_cycle.specs.Inner.Going.{CanBegin, GoesOn, IsRunning, here}
use Rattle.s3_cycle.specs.Inner.Starting.{BeginsState, BeginsProgress, BeginsRun, IsBegun, Starts}
use Rattle.s3_cycle.proofs.WalkLemmas.{all_lines}

begins_run : (program : Program) (switches : ℕ) (date : List ℕ) (state : State) (progress : Progress) → BeginsState program switches date state → BeginsProgress program switches progress
    → lines_from (source_named program) program progress walk.Beginning 0 (environment program state) ≡ Req (source_named program) switches date
unfolding one_cycle headings cycle_from
begins_run program switches date state progress begins begins' =
    ap (λ (r : Rest). r (environment program state)) (all_lines program walk.Beginning (after_lines (source_named program) program progress walk.Beginning))
    ∙ (λ i. one_cycle (source_named program) (again (source_named program)) (begins'.first date i) (begins.held i))
    ∙ sym (fun_ext (λ answers. again-cycle (source_named program) (first_reading (source_named program) (at_first (source_named program) switches date)) (at_first (source_named program) switches date) answers))

pub starts : (old new : Stepper) (switches : ℕ) (date : List ℕ) → BeginsState old.program switches date old.state → BeginsProgress old.program switches old.progress
    → GoesOn old new (here old (λ source program progress. lines_from source program progress walk.Beginning 0)) → Starts old.program switches date new
starts old new switches date begins begins' goes = record {
  same = goes.program;
  sound = goes.sound;
  runs = ap (λ (p : Program). rest (source_named p) new) (sym goes.program) ∙ goes.runs ∙ begins_run old.program switches date old.state old.progress begins begins';
}

-- ---- a run at its start
pub begun_runs : (program : Program) (switches : ℕ) (date : List ℕ) (beginning : Beginning) (c : Stepper) → IsBegun program beginning c → BeginsRun program switches date beginning → IsRunning c
begun_runs program switches date beginning c begun begins = record {
  overflow = begun.overflow ∙ ap (λ (p : Program). overflow_of p.files.items) (sym begun.program);
  state = rw (begun.program, begun.state) begins.state.sound;
  reading = rw (begun.program, begun.progress) begins.progress.reading;
  heads = rw (begun.program, begun.progress) begins.progress.heads;
  calculations = rw (begun.program, begun.calculations) begins.instructions.calculations;
  totals_guard = rw (begun.program, begun.totals_guard) begins.instructions.totals_guard;
  inputs = rw (begun.program, begun.inputs) begins.instructions.inputs;
  outputs = rw (begun.program, begun.outputs) begins.instructions.outputs;
}

pub begun_begins : (program : Program) (switches : ℕ) (date : List ℕ) (beginning : Beginning) (c : Stepper) → IsBegun program beginning c → BeginsRun program switches date beginning → CanBegin c.program c.progress
begun_begins program switches date beginning c begun begins = rw (begun.program, begun.progress) begins.progress.begins

pub starts_begun : (program : Program) (switches : ℕ) (date : List ℕ) (beginning : Beginning) (old new : Stepper) → IsBegun program beginning old → BeginsRun program switches date beginning
    → GoesOn old new (here old (λ source program progress. lines_from source program progress walk.Beginning 0)) → Starts program switches date new
starts_begun program switches date beginning old new begun begins goes =
    subst (λ (p : Program). Starts p switches date new) begun.program (starts old new switches date state progress goes)
  where
    state : BeginsState old.program switches date old.state
    state = rw (begun.program, begun.state) begins.state

    progress : BeginsProgress old.program switches old.progress
    progress = rw (begun.program, begun.progress) begins.progress

-- a run of the same program that restarts
pub restarts_running : (old : Stepper) (state : State) (progress : Progress) (switches : ℕ) (date : List ℕ) → IsRunning old → BeginsState old.program switches date state → BeginsProgress old.program switches progress
    → IsRunning (record old { state = state; progress = progress })
restarts_running old state progress switches date running begins begins' = record {
  overflow = running.overflow;
  state = begins.sound;
  reading = begins'.reading;
  heads = begins'.heads;
  calculations = running.calculations;
  totals_guard = running.totals_guard;
  inputs = running.inputs;
  outputs = running.outputs;
}
