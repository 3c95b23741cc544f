use Rattle.std.proofs.Common.{◌≡◌, ℕ, List, Result, Ok, Err, sym, subst, rules}
use Rattle.s3_bureau.specs.declared.outcome.Outcome.{Outcome}
use Rattle.s3_bureau.specs.declared.run_fault.RunFault.{RunFault}
use Rattle.s3_bureau.specs.Runs.{Runs}
use Rattle.s3_bureau.proofs.Running.{runs_refused, runs_written}
use Rattle.s3_bureau.proofs.runs.run.Goals as goal

pub returns : goal.returns
returns c =
    subst (λ (pack : List ℕ). Runs pack c.args.deck1.now c.args.deck2.now c.args.script.now (Ok c.in_ok-outcome.outcome)) c.in_ok-bytes.ensures.items
    (runs_written c.in_ok-bytes.bytes.items c.args.deck1.now c.args.deck2.now c.args.script.now c.in_ok-unwritten.unwritten c.in_ok-outcome.outcome c.in_ok-outcome.ensures.texts c.in_ok-outcome.ensures.pack c.in_ok-unwritten.ensures)

pub returns-in_err-unwritten : goal.returns-in_err-unwritten
returns-in_err-unwritten c =
    let is : c.from_residual-in_err-unwritten.result ≡ Err c.in_err-unwritten.field-0.0 = search rules in
    subst (λ (result : Result Outcome RunFault). Runs c.args.pack.now c.args.deck1.now c.args.deck2.now c.args.script.now result) (sym is)
    (subst (λ (pack : List ℕ). Runs pack c.args.deck1.now c.args.deck2.now c.args.script.now (Err c.in_err-unwritten.field-0.0)) c.in_ok-bytes.ensures.items
    (runs_refused c.in_ok-bytes.bytes.items c.args.deck1.now c.args.deck2.now c.args.script.now c.in_err-unwritten.field-0.0 c.in_err-unwritten.ensures))
