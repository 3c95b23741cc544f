use Rattle.std.specs.Prelude.{◌≡◌, take, map}
use Rattle.s3_sheets.specs.Inner.RuleViews.{rule_view}
use Rattle.s3_sheets.specs.Rules.{broken_by}
use Rattle.s3_sheets.proofs.faults.broken.Given as goal

abbrev pub invariant-loop-rule : goal.invariant-loop-rule
invariant-loop-rule l = l.faults ≡ broken_by (map rule_view (take l.rule-index l.rules)) l.card
