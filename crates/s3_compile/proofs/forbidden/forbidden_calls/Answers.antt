use Rattle.std.proofs.Common.{◌∙◌}
use Rattle.std.proofs.lemmas.Result.{IfOk-weaker}
use Rattle.std.proofs.lemmas.Bool.{both_ways}
use Rattle.s3_compile.proofs.CircleLemmas.{no_circle, some_circle, ninth_forbidden, circling_forbidden}
use Rattle.s3_compile.proofs.forbidden.forbidden_calls.Goals as goal

pub returns-then-is_empty : goal.returns-then-is_empty
returns-then-is_empty c =
    let calls = c.args.calls.now in
    let none = no_circle calls c.in_ok-circling.circling c.in_ok-circling.ensures (c.is_empty.ensures.0 c.if-is_empty.true) in
    IfOk-weaker _ _ _ (λ distinct all. ninth_forbidden calls c.deref-then-is_empty.result.now distinct (c.deref-then-is_empty.ensures.value ∙ c.in_ok-ninth.ensures) all none) c.distinct.ensures

pub returns : goal.returns
returns c =
    let calls = c.args.calls.now in
    circling_forbidden calls c.in_ok-circling.circling c.in_ok-circling.ensures (some_circle calls c.in_ok-circling.circling c.in_ok-circling.ensures (λ empty. both_ways c.is_empty.result c.if-is_empty.false (c.is_empty.ensures.1 empty)))
