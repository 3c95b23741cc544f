use Rattle.std.proofs.Common.{◌≡◌, ◌∙◌, ap, List, subst}
use Rattle.std.specs.Prelude.{IfOk}
use Rattle.indexmap.specs.IndexSet.{contains}
use Rattle.s3_program.specs.declared.call.Call.{Call}
use Rattle.s3_program.specs.Jumps.{calls_from, is_forbidden, same_call}
use Rattle.s3_program.specs.Standings.{first_calculation}
use Rattle.s3_compile.proofs.known.calls_forbidden.Goals as goal

pub returns : goal.returns
returns c =
    subst (λ (calls : List Call). IfOk c.forbidden_calls.result (λ set. (call : Call) → contains same_call set call ≡ is_forbidden calls call))
    (c.deref-2.ensures.value ∙ (c.in_ok-calls.ensures ∙ ap (calls_from first_calculation) (c.deref.ensures.value ∙ c.in_ok-calculations.ensures)))
    c.forbidden_calls.ensures
