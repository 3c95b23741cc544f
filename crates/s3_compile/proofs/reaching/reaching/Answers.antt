use Rattle.std.proofs.Common.{◌≡◌, List, [], vec_len, ℕ, ◌∙◌, arith, subst, sym}
use Rattle.std.specs.List.{flat_map}
use Rattle.std.proofs.lemmas.Bool.{eqb-true}
use Rattle.s3_compile.specs.Inner.Reaching.{callers_in, Adds}
use Rattle.s3_compile.proofs.ReachLemmas.{level_next, level_last}
use Rattle.s3_compile.proofs.reaching.reaching.Goals as goal

pub returns-then-is_empty : goal.returns-then-is_empty
returns-then-is_empty c =
    let level = c.loop-most.level in
    let none : vec_len level ≡ 0 = eqb-true (vec_len level) 0 (sym c.is_empty.ensures ∙ c.if-is_empty.true) in
    level_last c.args.calls.now c.args.callers.now c.loop-most._most _ c.args.to c.loop-most.reaching level.items c.requires c.loop-most.invariant
    (omega (arith, level.ok.0)) c.loop-most.auto._most-end

pub loop-most-preserved : goal.loop-most-preserved
loop-most-preserved c =
    let table = c.args.callers.now in
    let old = c.loop-most.reaching in
    let new = c.add_callers.new.reaching in
    let next = c.add_callers.new.next.items in
    let adds = subst (λ (none : List ℕ). Adds old new none next (flat_map (callers_in table) c.deref.result.now)) c.new-next.ensures.items c.in_ok-add_callers.ensures in
    level_next c.args.calls.now table c.loop-most._most c.args.to old new c.loop-most.level.items next c.requires c.loop-most.invariant
    (subst (λ (level : List ℕ). Adds old new [] next (flat_map (callers_in table) level)) c.deref.ensures.value adds)
