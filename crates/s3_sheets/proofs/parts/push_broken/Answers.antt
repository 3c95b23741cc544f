use Rattle.std.proofs.Common.{arith}
use Rattle.s3_sheets.specs.Inner.Rules.{is_on_card}
use Rattle.s3_sheets.specs.Inner.RuleViews.{rule_view}
use Rattle.s3_sheets.proofs.RuleLemmas.{passes_at}
use Rattle.s3_sheets.proofs.PartLemmas.{one_more_rule, all_rules}
use Rattle.s3_sheets.proofs.parts.push_broken.Goals as goal

pub rule_part-requires : goal.rule_part-requires
rule_part-requires c = passes_at is_on_card rule_view c.args.rules.now c.loop-rule.rule-index _ c.requires c.loop-rule-test.true

pub loop-rule-preserved : goal.loop-rule-preserved
loop-rule-preserved c =
    one_more_rule c.args.number c.args.card.now c.args.rules.now c.loop-rule.rule-index _ _ _ _ _ c.loop-rule.invariant c.loop-rule-test.true
    c.rule_part.ensures c.in_ok-push_parts.ensures

pub returns : goal.returns
returns c = all_rules c.args.number c.args.card.now c.args.rules.now c.loop-rule.rule-index _ _ c.loop-rule.invariant (omega arith)
