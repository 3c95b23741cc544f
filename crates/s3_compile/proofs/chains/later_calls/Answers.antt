use Rattle.std.proofs.Common.{◌≡◌, ◌∙◌, nat_eq, filter}
use Rattle.std.proofs.lemmas.Result.{IfOk-weaker}
use Rattle.indexmap.specs.IndexSet.{contains}
use Rattle.s3_compile.specs.Inner.Chains.{is_called, is_among}
use Rattle.s3_compile.proofs.ChainLemmas.{within_same}
use Rattle.s3_compile.proofs.chains.later_calls.Goals as goal

pub returns : goal.returns
returns c =
    let calls = c.args.calls.now in
    IfOk-weaker c.calls_within.result (λ within. within.items ≡ filter (λ call. is_among (contains nat_eq c.in_ok-callees.callees) call.caller) calls)
    (λ within. within.items ≡ filter (λ call. is_among (is_called calls) call.caller) calls)
    (λ within is. is ∙ within_same (contains nat_eq c.in_ok-callees.callees) (is_called calls) c.in_ok-callees.ensures calls) c.calls_within.ensures
