use Rattle.std.proofs.Common.{◌≡◌, ◌++◌, take}
use Rattle.std.specs.Prelude.{map}
use Rattle.s3_sheets.specs.Inner.Parts.{entries_of, rule_part}
use Rattle.s3_sheets.specs.Inner.RuleViews.{rule_view}
use Rattle.s3_sheets.proofs.parts.push_broken.Given as goal

abbrev pub invariant-loop-rule : goal.invariant-loop-rule
invariant-loop-rule l = l.found.items ≡ l.fn.found.items ++ entries_of l.number (map (rule_part l.card) (map rule_view (take l.rule-index l.rules)))
