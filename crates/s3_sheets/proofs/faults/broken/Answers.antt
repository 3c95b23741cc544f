use Rattle.std.proofs.Common.{arith}
use Rattle.s3_sheets.specs.Inner.Rules.{is_on_card}
use Rattle.s3_sheets.specs.Inner.RuleViews.{rule_view}
use Rattle.s3_sheets.proofs.RuleLemmas.{passes_at}
use Rattle.s3_sheets.proofs.FaultLemmas.{broken_next, broken_whole}
use Rattle.s3_sheets.proofs.faults.broken.Goals as goal

pub rule_faults-requires : goal.rule_faults-requires
rule_faults-requires c = passes_at is_on_card rule_view c.args.rules.now c.loop-rule.rule-index _ c.requires c.loop-rule-test.true

pub loop-rule-preserved : goal.loop-rule-preserved
loop-rule-preserved c =
    broken_next c.args.rules.now c.args.card.now c.loop-rule.rule-index _ _ _ _ c.loop-rule.invariant c.loop-rule-test.true c.rule_faults.ensures c.and-faults.ensures

pub returns : goal.returns
returns c = broken_whole c.args.rules.now c.args.card.now c.loop-rule.rule-index _ c.loop-rule.invariant (omega arith)
