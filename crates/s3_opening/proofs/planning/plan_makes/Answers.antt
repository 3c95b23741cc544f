use Rattle.std.proofs.Common.{◌≡◌, ◌∙◌, [], refl, sym, arith}
use Rattle.std.specs.Prelude.{vec_len}
use Rattle.std.proofs.lemmas.Bool.{eqb-true}
use Rattle.s3_opening.proofs.Plans.{given_proper, none_left, plan_passes, plan_tells}
use Rattle.s3_opening.proofs.planning.plan_makes.Goals as goal

pub plan-requires-clause-proper : goal.plan-requires-clause-proper
plan-requires-clause-proper g c = given_proper c.args.level _ c.args.starts.now c.in_ok-news.news.items c.deref.result.now c.deref.ensures.value c.in_ok-news.ensures c.requires.right

pub returns-in-Ok : goal.returns-in-Ok
returns-in-Ok g c = plan_passes c.args.level c.args.pack.now.areas c.args.starts.now c.in_ok-news.news.items c.deref.result.now c.deref.ensures.value c.in_ok-news.ensures c.in-Ok.ensures.ok

pub returns : goal.returns
returns g c =
    plan_tells (Unit {0}) c.args.level c.args.pack.now.areas c.args.starts.now c.in_ok-news.news.items c.deref.result.now c.in-Err.fault c.refused_plan.result c.deref.ensures.value c.in_ok-news.ensures c.in-Err.ensures.err c.refused_plan.ensures

pub returns-then-is_empty : goal.returns-then-is_empty
returns-then-is_empty g c =
    let news = c.in_ok-news.news in
    let none : vec_len news ≡ 0 = eqb-true (vec_len news) 0 (sym c.is_empty.ensures ∙ c.if-is_empty.true) in
    plan_passes c.args.level c.args.pack.now.areas c.args.starts.now news.items [] (sym (none_left news.items (omega (arith, none, news.ok)))) c.in_ok-news.ensures refl
