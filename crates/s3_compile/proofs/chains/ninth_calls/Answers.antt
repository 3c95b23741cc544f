use Rattle.std.proofs.Common.{◌≡◌, ◌∙◌, ap, arith, filter, List}
use Rattle.s3_program.specs.declared.call.Call.{Call}
use Rattle.s3_program.specs.Jumps.{ends_chain}
use Rattle.s3_compile.specs.Inner.Chains.{is_called, is_among}
use Rattle.s3_compile.proofs.ChainLemmas.{later_first, later_next}
use Rattle.s3_compile.proofs.chains.ninth_calls.Goals as goal

pub loop-before-init : goal.loop-before-init
loop-before-init c = later_first c.args.calls.now _ c.in_ok-later.ensures

pub loop-before-preserved : goal.loop-before-preserved
loop-before-preserved c =
    let calls = c.args.calls.now in
    later_next calls c.loop-before.later.items c.in_ok-later-2.later.items c.loop-before._before c.loop-before.invariant
    (c.in_ok-later-2.ensures ∙ ap (λ (left : List Call). filter (λ call. is_among (is_called left) call.caller) left) c.deref.ensures.value)

pub returns : goal.returns
returns c =
    let calls = c.args.calls.now in
    let all : c.loop-before._before ≡ 8 = omega arith in
    c.loop-before.invariant ∙ ap (λ n. filter (λ call. ends_chain calls n call.caller) calls) all
